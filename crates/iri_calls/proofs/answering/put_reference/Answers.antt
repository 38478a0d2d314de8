use Rattle.iri_calls.proofs.Common.{Tests, bytes_fault, reference_fault, ErrorKind, canonical_in, base_text, answer_in, answer_by}
use Rattle.std.proofs.Common.{◌≡◌, ◌++◌, ◌∷◌, [], ℕ, List, None, Some, codes, ap, sym, subst, ◌∙◌}
use Rattle.iri_grammar.specs.ErrorTexts.{description}
use Rattle.iri_percent.specs.declared.canon_mode.CanonMode.{CanonMode}
use Rattle.iri_text.specs.Shown.{Shows}
use Rattle.iri_types.specs.SplitText.{split_text}
use Rattle.iri_calls.specs.declared.buffer.BufferSink.{BufferSink}
use Rattle.iri_calls.specs.inside.BufferText.{BufferHalts, BufferPuts}
use Rattle.iri_calls.proofs.answering.put_reference.Goals as goal

good : (s : Tests) (m : CanonMode) (b line t : List ℕ) → bytes_fault (reference_fault s) line ≡ None → t ≡ line
    → codes "ok " ++ (canonical_in s m b t ++ (10 ∷ [])) ≡ answer_in s m b line
unfolding answer_in
good s m b line t f e =
    ap (λ u. codes "ok " ++ (canonical_in s m b u ++ (10 ∷ []))) e ∙ sym (ap (λ o. answer_by o (canonical_in s m b line)) f)

bad : (s : Tests) (m : CanonMode) (b line : List ℕ) (kind : ErrorKind) (words : List ℕ) → bytes_fault (reference_fault s) line ≡ Some kind
    → words ≡ description kind → codes "bad " ++ (words ++ (10 ∷ [])) ≡ answer_in s m b line
unfolding answer_in
bad s m b line kind words f e =
    ap (λ u. codes "bad " ++ (u ++ (10 ∷ []))) e ∙ sym (ap (λ o. answer_by o (canonical_in s m b line)) f)

pub returns-in-Ok : goal.returns-in-Ok
returns-in-Ok g c =
    subst (λ t. Shows BufferPuts BufferHalts (λ (b : BufferSink). b.stops) c.args.sink.now t c.show_three.new.sink c.show_three.result)
    (good g.S.Spec.tests c.args.mode (base_text c.args.resolver.now) c.args.line.now (split_text c.in-Ok.reference) c.in-Ok.ensures.fault
    c.in-Ok.ensures.text) c.show_three.ensures

pub returns-in-Err : goal.returns-in-Err
returns-in-Err g c =
    subst (λ t. Shows BufferPuts BufferHalts (λ (b : BufferSink). b.stops) c.args.sink.now t c.show_three-in-Err.new.sink c.show_three-in-Err.result)
    (bad g.S.Spec.tests c.args.mode (base_text c.args.resolver.now) c.args.line.now c.in-Err.error.kind c.description.result.now
    c.in-Err.ensures.fault (c.description.ensures ∙ ap description c.kind.ensures)) c.show_three-in-Err.ensures

use Rattle.iri_calls.proofs.Common.{◌≡◌, ◌+◌, ◌-◌, ◌∙◌, ℕ, List, Option, Some, Tests, ap, arith, before, common_steps, drop, length, refl, subst, take}
use Rattle.iri_grammar.specs.Cut.{after}
use Rattle.iri_percent.specs.declared.canon_mode.CanonMode.{CanonMode}
use Rattle.iri_text.specs.Shown.{Shows}
use Rattle.iri_normal.specs.Pairs.{answer_on, pairs_answer, tab}
use Rattle.iri_calls.specs.declared.buffer.BufferSink.{BufferSink}
use Rattle.iri_calls.specs.inside.BufferText.{BufferHalts, BufferPuts}
use Rattle.iri_calls.proofs.answering.put_pair.Goals as goal

by_parts : (s : Tests) (m : CanonMode) (line page : List ℕ) (link : Option (List ℕ)) → page ≡ before tab line → link ≡ after tab line
    → answer_on s m page link ≡ pairs_answer s m line
unfolding pairs_answer
by_parts s m line page link p l = ap (λ (q : List ℕ). answer_on s m q link) p ∙ ap (answer_on s m (before tab line)) l

pub returns-in-Some : goal.returns-in-Some
returns-in-Some g c =
    let t = c.args.line.now in
    let i = c.in-Some.at in
    let whole : take (length t - (i + 1)) (drop (i + 1) t) ≡ drop (i + 1) t = grind (arith, common_steps) in
    subst (λ a. Shows BufferPuts BufferHalts (λ (b : BufferSink). b.stops) c.args.sink.now a c.put_on_page.new.sink c.put_on_page.result)
    (by_parts g.S.Spec.tests c.args.mode t _ _ c.in-Some.ensures.prefix (ap Some whole ∙ c.in-Some.ensures.tail)) c.put_on_page.ensures

pub returns-in-None : goal.returns-in-None
returns-in-None g c =
    subst (λ a. Shows BufferPuts BufferHalts (λ (b : BufferSink). b.stops) c.args.sink.now a c.put.new.self c.put.result)
    (by_parts g.S.Spec.tests c.args.mode c.args.line.now _ _ refl c.in-None.ensures.tail) c.put.ensures

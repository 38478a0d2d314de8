use Rattle.iri_template.proofs.Common.{◌≡◌, ℕ, List, length, false, true, [], ◌∷◌, ◌++◌, ◌∙◌, ap, arith, sym, refl, units, IsHeld, goes_on, lacks}
use Rattle.iri_template.proofs.Common.{ne_eqb, written_units}
use Rattle.iri_template.proofs.HeldUnits.{held_apart, joined_text}
use Rattle.iri_template.proofs.Reading.{reads_silently, reads_stopped, reads_after, reads_run}
use Rattle.iri_template.specs.declared.encoded_value.Reading.{Reading}
use Rattle.iri_template.proofs.encoded_value.put_char.Goals as goal

-- a character that doesn't go on with what is held back
apart : (a : Reading) (c : ℕ) → IsHeld a → goes_on a.held c ≡ false → (r : List ℕ)
    → units (a.held ++ (c ∷ r)) ≡ units a.held ++ units (c ∷ r)
apart a c h n r = held_apart (length a.held) a.held (c ∷ r) (omega arith) h.begun n

pub returns-in_err-put_held-clause-reads : goal.returns-in_err-put_held-clause-reads
returns-in_err-put_held-clause-reads g c =
    let a = c.args.state.now in
    reads_stopped g.S.Spec.tests g.met.W.TextSink.rules (c.args.c ∷ []) (units a.held) c.from_residual.ensures.0 c.in_err-put_held.ensures.shows
    (apart a c.args.c c.requires (sym c.goes_on.ensures ∙ c.if-goes_on.false))

pub returns-then-c-eq37-clause-reads : goal.returns-then-c-eq37-clause-reads
returns-then-c-eq37-clause-reads g c =
    let a = c.args.state.now in
    let m = c.put_held.new.state in
    let put = c.in_ok-put_held.ensures in
    reads_after g.S.Spec.tests g.met.W.TextSink.rules {m = m} (c.args.c ∷ []) (units a.held) put.shows
    (apart a c.args.c c.requires (sym c.goes_on.ensures ∙ c.if-goes_on.false)) put.none put.left
    (reads_silently g.met.W.TextSink.rules (λ r. ap (λ l. written_units g.S.Spec.tests m.left (units l))
    (joined_text m.held c.push.new.self c.args.c r (c.push.ensures ∙ ap (λ n. m.held ++ n ∷ []) (sym c.if-c-eq37.true)))))

pub returns-clause-reads : goal.returns-clause-reads
returns-clause-reads g c =
    let a = c.args.state.now in
    let m = c.put_held.new.state in
    let put = c.in_ok-put_held.ensures in
    let none : lacks 37 (c.args.c ∷ []) ≡ true = rw (ne_eqb c.args.c 37 c.if-c-eq37.false) refl in
    reads_after g.S.Spec.tests g.met.W.TextSink.rules {m = m} (c.args.c ∷ []) (units a.held) put.shows
    (apart a c.args.c c.requires (sym c.goes_on.ensures ∙ c.if-goes_on.false)) put.none put.left
    (reads_run g.S.Spec.tests g.met.W.TextSink.rules (c.args.c ∷ []) put.none none c.put_plain.ensures.shows put.none
    c.put_plain.ensures.left)

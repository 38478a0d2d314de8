use Rattle.iri_template.proofs.Common.{◌≡◌, ◌≤◌, ◌++◌, ◌∷◌, [], ◌∙◌, ap, sym, subst, refl, arith, append_assoc, append-nil, length, chars, Ok}
use Rattle.iri_template.proofs.Common.{Shows, fewer, units, written_units, written_chars, held_unit, shown_none, shown_more, shows_all, true}
use Rattle.iri_text.proofs.Compose.{shown_exit, shown_then}
use Rattle.std.proofs.lemmas.List.{take_all}
use Rattle.iri_template.proofs.HeldUnits.{nothing_left, unit_left, short_written}
use Rattle.iri_template.proofs.Reading.{on_ok}
use Rattle.iri_template.proofs.encoded_value.put_held.Goals as goal

pub units-init : goal.units-init
units-init g c = record {
  held = c.requires;
  far = record { text = []; shown = shown_none g.met.W.TextSink.rules c.args.sink.now; all = refl; left = refl };
}

pub units-preserved : goal.units-preserved
units-preserved g c =
    let i = c.units.invariant in
    let a = c.units.state in
    let b = c.put_unit.new.state in
    let put = c.in_ok-put_unit.ensures in
    let some : 3 ≤ length a.held = omega (arith, c.units-test.true, c.len.ensures.len) in
    let e = unit_left g.S.Spec.tests a.left b.left a.held b.held i.held.begun some put.left put.held in
    let u = written_units g.S.Spec.tests a.left (held_unit a.held ∷ []) in
    record {
      held = record { begun = put.begun; room = omega (arith, put.shorter, i.held.room) };
      far = record {
        text = i.far.text ++ u;
        shown = shown_more g.met.W.TextSink.rules i.far.shown put.shows;
        all = i.far.all ∙ ap (λ l. i.far.text ++ l) e.0 ∙ sym (append_assoc i.far.text u (written_units g.S.Spec.tests b.left (units b.held)));
        left = i.far.left ∙ e.1;
      };
    }

pub returns-in_err-put_unit-clause-shows : goal.returns-in_err-put_unit-clause-shows
returns-in_err-put_unit-clause-shows g c =
    let s = g.S.Spec.tests in
    let w = g.W.TextSink in
    let i = c.units.invariant in
    let a = c.units.state in
    let b = c.put_unit.new.state in
    let e = unit_left s a.left b.left a.held b.held i.held.begun (omega (arith, c.units-test.true, c.len.ensures.len)) c.put_unit.ensures.left
    c.put_unit.ensures.held in
    let rest = written_units s b.left (units b.held) in
    subst (λ l. Shows w.puts w.halts w.stops c.args.sink.now l c.put_unit.new.sink c.from_residual.result)
    (append_assoc i.far.text (written_units s a.left (held_unit a.held ∷ [])) rest ∙ ap (λ l. i.far.text ++ l) (sym e.0) ∙ sym i.far.all)
    (shown_exit g.met.W.TextSink.rules rest c.from_residual.ensures.0 i.far.shown c.in_err-put_unit.ensures.shows)

pub returns-then-is_plain-clause-shows : goal.returns-then-is_plain-clause-shows
returns-then-is_plain-clause-shows g c =
    let s = g.S.Spec.tests in
    let w = g.W.TextSink in
    let i = c.units.invariant.far in
    let a = c.units.state in
    subst (λ l. Shows w.puts w.halts w.stops c.args.sink.now l c.units.sink (Ok tt))
    (sym (i.all ∙ ap (λ l. i.text ++ written_units s a.left (units l)) c.if-is_plain.ensures ∙ ap (λ l. i.text ++ l) (nothing_left s a.left).0
    ∙ append-nil i.text)) (shows_all i.shown)

pub returns-then-is_plain-clause-left : goal.returns-then-is_plain-clause-left
returns-then-is_plain-clause-left g c =
    let a = c.units.state in
    sym (c.units.invariant.far.left ∙ ap (λ l. fewer a.left (length (units l))) c.if-is_plain.ensures ∙ (nothing_left g.S.Spec.tests a.left).1)

pub returns-clause-shows : goal.returns-clause-shows
returns-clause-shows g c =
    let s = g.S.Spec.tests in
    let w = g.W.TextSink in
    let i = c.units.invariant in
    let a = c.units.state in
    let is : chars c.start.result.now ≡ a.held =
    c.start.ensures.chars ∙ c.start.ensures.text ∙ take_all c.len-len.result a.held (omega (arith, c.len-len.ensures.len)) in
    let short = short_written s a.left a.held g.met.S.Spec.lawful i.held.begun (omega (arith, c.units-test.false, c.len.ensures.len)) in
    subst (λ l. Shows w.puts w.halts w.stops c.args.sink.now l c.put_chars-result.new.sink c.put_chars-result.result)
    (ap (λ cs. i.far.text ++ written_chars s true a.left cs) is ∙ ap (λ l. i.far.text ++ l) short.0 ∙ sym i.far.all)
    (shown_then g.met.W.TextSink.rules i.far.shown c.put_chars-result.ensures.shows)

pub returns-clause-left : goal.returns-clause-left
returns-clause-left g c =
    let i = c.units.invariant in
    let a = c.units.state in
    let is : chars c.start.result.now ≡ a.held =
    c.start.ensures.chars ∙ c.start.ensures.text ∙ take_all c.len-len.result a.held (omega (arith, c.len-len.ensures.len)) in
    let short = short_written g.S.Spec.tests a.left a.held g.met.S.Spec.lawful i.held.begun
    (omega (arith, c.units-test.false, c.len.ensures.len)) in
    on_ok c.put_chars-result.result (c.put_chars-result.ensures.left ∙ ap (λ cs. fewer a.left (length cs)) is ∙ ap (fewer a.left) short.1
    ∙ sym i.far.left)

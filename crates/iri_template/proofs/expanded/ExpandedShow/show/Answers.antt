use Rattle.iri_template.proofs.Common.{◌≡◌, None, Ok, Err, subst, portions, pieces_of, text, type_fault, EndsAs, by_purpose, untold}
use Rattle.std.proofs.Math.Logic.{∥∥₁_elim}
use Rattle.std.proofs.Props.{props}
use Rattle.iri_template.proofs.FixedLemmas.{untold_adds, shows_all, shows_stop}
use Rattle.iri_template.proofs.expanded.ExpandedShow.show.Goals as goal

pub returns-in-Ok : goal.returns-in-Ok
returns-in-Ok g c =
    let w = g.W.TextSink in
    let s = g.S.Spec.tests in
    let value = g.C.Context.value_of in
    let self = c.args.self.now in
    let none : type_fault (value self.context.now) (pieces_of (text self.template)) ≡ None =
    ∥∥₁_elim self.fine (hlevel props) (λ fine. fine) in
    let a = c.args.sink.now in
    let b = c.write_expansion.new.sink in
    shows_all s untold (value self.context.now) (untold_adds (value self.context.now)) {stops = w.stops} (pieces_of (text self.template)) a b none
    (subst (λ x. EndsAs w.puts w.halts (portions s (by_purpose untold (value x)) (pieces_of (text self.template))) a b (Ok tt)) c.new-values.ensures
    (subst (λ t. EndsAs w.puts w.halts (portions s (by_purpose untold (value c.new-values.result.context.now)) (pieces_of t)) a b (Ok tt))
    c.as_str-template.ensures.text c.in-Ok.ensures.written))
    c.in-Ok.ensures.later

pub returns-in-Err : goal.returns-in-Err
returns-in-Err g c =
    let w = g.W.TextSink in
    let s = g.S.Spec.tests in
    let value = g.C.Context.value_of in
    let self = c.args.self.now in
    let none : type_fault (value self.context.now) (pieces_of (text self.template)) ≡ None =
    ∥∥₁_elim self.fine (hlevel props) (λ fine. fine) in
    let a = c.args.sink.now in
    let b = c.write_expansion.new.sink in
    let e = c.in-Err.field-0 in
    shows_stop s untold (value self.context.now) (untold_adds (value self.context.now)) {stops = w.stops} g.met.W.TextSink.rules
    (pieces_of (text self.template)) a b e none
    (subst (λ x. EndsAs w.puts w.halts (portions s (by_purpose untold (value x)) (pieces_of (text self.template))) a b (Err e)) c.new-values.ensures
    (subst (λ t. EndsAs w.puts w.halts (portions s (by_purpose untold (value c.new-values.result.context.now)) (pieces_of t)) a b (Err e))
    c.as_str-template.ensures.text c.in-Err.ensures.written))
    c.in-Err.ensures.cause c.in-Err.ensures.later

use Rattle.iri_normal.proofs.Common.{◌∙◌, sym, ap, now_of}
use Rattle.iri_normal.proofs.segments.DotBytes.{no_dot_first}
use Rattle.iri_normal.proofs.segments.FirstDots.{before-one, before-two, none-second, none-end}
use Rattle.iri_normal.proofs.dots.dots_before.Goals as goal

pub returns-in_default : goal.returns-in_default
returns-in_default c = no_dot_first c.args.path.now (sym (ap now_of c.in_default.is) ∙ c.after_dot.ensures)

pub returns-in-Some-after_end : goal.returns-in-Some-after_end
returns-in-Some-after_end c =
    before-one c.args.path.now c.in-Some.after.now c.in-Some-after_end.rest.now (sym (ap now_of c.in-Some.is) ∙ c.after_dot.ensures)
    c.in-Some-after_end.ensures.0 c.in-Some-after_end.ensures.1

pub returns-in_default-after_dot : goal.returns-in_default-after_dot
returns-in_default-after_dot c =
    none-second c.args.path.now c.in-Some.after.now (sym (ap now_of c.in-Some.is) ∙ c.after_dot.ensures)
    c.in_default-after_end.ensures (sym (ap now_of c.in_default-after_dot.is) ∙ c.after_dot-2.ensures)

pub returns-in-Some-after_end-2 : goal.returns-in-Some-after_end-2
returns-in-Some-after_end-2 c =
    before-two c.args.path.now c.in-Some.after.now c.in-Some-after_dot.second.now c.in-Some-after_end-2.end.now
    (sym (ap now_of c.in-Some.is) ∙ c.after_dot.ensures) c.in_default-after_end.ensures
    (sym (ap now_of c.in-Some-after_dot.is) ∙ c.after_dot-2.ensures)
    c.in-Some-after_end-2.ensures.0 c.in-Some-after_end-2.ensures.1

pub returns-in-None : goal.returns-in-None
returns-in-None c =
    none-end c.args.path.now c.in-Some.after.now c.in-Some-after_dot.second.now
    (sym (ap now_of c.in-Some.is) ∙ c.after_dot.ensures) c.in_default-after_end.ensures
    (sym (ap now_of c.in-Some-after_dot.is) ∙ c.after_dot-2.ensures) c.in-None.ensures

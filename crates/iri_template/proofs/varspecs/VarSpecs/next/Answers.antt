use Rattle.iri_template.proofs.Common.{◌≤◌, ◌-◌, ◌∷◌, length, sym, ◌∙◌, ap, subst, arith, varspec_fault, varspec_of}
use Rattle.iri_template.specs.Left.{varspecs_of, left_len, left_fault, AreFine}
use Rattle.iri_template.specs.Places.{placed_varspecs}
use Rattle.iri_template.specs.VarSpecs.{placed_at}
use Rattle.iri_template.proofs.PlacedNames.{nothing_left}
use Rattle.iri_template.proofs.VarSpecWalk.{fine_first, fine_others, first_placed}
use Rattle.iri_template.proofs.varspecs.VarSpecs.next.Goals as goal

pub invariant_of-self : goal.invariant_of-self
invariant_of-self c =
    let self = c.args.self.now in
    record { fine = fine_others self.end c.in-Some.text c.cut.result.1 c.cut.ensures.after (subst (λ o. AreFine o self.end) c.in-Some.is self.fine) }

pub read_varspec-requires-clause-fine : goal.read_varspec-requires-clause-fine
read_varspec-requires-clause-fine c =
    ap varspec_fault c.cut.ensures.before ∙ fine_first c.in-Some.text.now (sym (ap left_fault c.in-Some.is) ∙ c.args.self.now.fine.fault)

pub returns-in-Some : goal.returns-in-Some
returns-in-Some c =
    let self = c.args.self.now in
    let t = c.in-Some.text.now in
    let fine = fine_first t (sym (ap left_fault c.in-Some.is) ∙ self.fine.fault) in
    let within : length t ≤ self.end = omega (arith, self.fine.within, ap left_len c.in-Some.is) in
    ap (λ o. placed_varspecs (self.end - left_len o) (varspecs_of o)) c.in-Some.is
    ∙ first_placed self.end t c.cut.result.1 c.cut.ensures.after fine within
    ∙ ap (λ p. p ∷ placed_varspecs (self.end - left_len c.cut.result.1) (varspecs_of c.cut.result.1))
    (sym (c.read_varspec.ensures ∙ ap (λ l. placed_at (self.end - length t) (varspec_of l)) c.cut.ensures.before))

pub returns-in-None : goal.returns-in-None
returns-in-None c = (nothing_left c.args.self.now c.in-None.is, nothing_left c.args.self.now c.in-None.is)

use Rattle.iri_template.proofs.Common.{◌-◌, ◌++◌, length, sym, ◌∙◌, ap, pieces_of}
use Rattle.iri_template.specs.Places.{placed_pieces}
use Rattle.iri_template.specs.Variables.{varspecs_left}
use Rattle.iri_template.proofs.PlacedNames.{placed_cut, none_placed}
use Rattle.iri_template.proofs.variables.UriTemplateVariables.next_varspec.Goals as goal

pub parts-preserved : goal.parts-preserved
parts-preserved c =
    let v = c.varspecs-self.result in
    let parts = c.parts.self.parts in
    let t = parts.rest.now in
    let r = c.next-in-parts.new.self.rest.now in
    record {
      left = ap (λ n. varspecs_left v ++ placed_pieces (n - length r) (pieces_of r)) c.in_ok-next.ensures.len
          ∙ sym (placed_cut c.in_ok-next.field-0 v parts.len t r c.in_ok-next.ensures.part c.varspecs-self.ensures parts.fine.within)
          ∙ sym (ap (λ l. l ++ placed_pieces (parts.len - length t) (pieces_of t)) c.in_default.ensures.0) ∙ c.parts.invariant.left;
    }

pub returns-in_err-next : goal.returns-in_err-next
returns-in_err-next c =
    let parts = c.parts.self.parts in
    let t = parts.rest.now in
    let new = c.next-in-parts.new.self in
    let k = c.in_err-next.ensures.part in
    rw c.from_residual.ensures (
      sym c.parts.invariant.left ∙ none_placed c.parts.self.varspecs (parts.len - length t) t c.in_default.ensures.0 k.0,
      none_placed c.next.new.self (new.len - length new.rest.now) new.rest.now c.in_default.ensures.1 (ap (λ p. length p.rest.now) k.1 ∙ k.0),
    )

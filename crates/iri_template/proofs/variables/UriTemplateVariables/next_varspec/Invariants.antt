use Rattle.iri_template.proofs.Common.{◌≡◌, length}
use Rattle.iri_template.specs.Variables.{placed_left}
use Rattle.iri_template.proofs.variables.UriTemplateVariables.next_varspec.Given as goal

-- all are left
abbrev pub invariant-parts : goal.invariant-parts
invariant-parts l = record {
  left : placed_left l.self ≡ placed_left l.fn.self;
}

abbrev pub decreases-parts : goal.decreases-parts
decreases-parts l = length l.self.parts.rest.now

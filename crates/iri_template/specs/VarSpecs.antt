-- How a varspec is held.
use Rattle.std.specs.Prelude.{ℕ, ◌+◌, ◌-◌, ◌*◌, List, [], ◌∷◌}
use Rattle.iri_template.specs.Template as template
use Rattle.iri_template.specs.declared.varspec.VarSpec.{VarSpec}
use Rattle.iri_template.specs.declared.varspec.Modifier.{Modifier}
use Rattle.iri_template.specs.declared.varspec.Modifier.TheVariants.{Whole, Explode, Prefix}

-- the number that digits spell, after those of n
abbrev pub number_from : ℕ → List ℕ → ℕ
number_from n [] = n
number_from n (d ∷ ds) = number_from (n * 10 + (d - 48)) ds

abbrev pub number_of : List ℕ → ℕ
number_of ds = number_from 0 ds

abbrev pub held : template.Modifier → Modifier
held template.whole = Whole
held template.explode = Explode
held (template.prefix ds) = Prefix (number_of ds)

-- with its place: how many bytes of the template stand before it
pub record Placed : Type 0 where
  pub location : ℕ
  pub name : List ℕ
  pub modifier : Modifier

abbrev pub placed_at : ℕ → template.VarSpec → Placed
placed_at at w = record { location = at; name = w.name; modifier = held w.modifier }

abbrev pub placed_of : VarSpec → Placed
placed_of v = record { location = v.location; name = v.name.text.now; modifier = v.modifier }

-- What stands at a place among link-values, counted from 0.
use Rattle.std.specs.Prelude.{ℕ, List, [], Option, slice_get}
use Rattle.std.specs.Option.{option_map, option_map_or, option_and_then}
use Rattle.iri_link.specs.Field.{LinkParam, LinkValue}

-- the target at i, where a link-value stands there
abbrev pub target_at : List LinkValue → ℕ → Option (List ℕ)
target_at ls i = option_map (λ l. l.target) (slice_get ls i)

-- the parameters at i; none where no link-value stands there
abbrev pub params_at : List LinkValue → ℕ → List LinkParam
params_at ls i = option_map_or (λ l. l.params) (slice_get ls i) []

-- the name of the parameter at j of the link-value at i, where both stand there
abbrev pub name_at : List LinkValue → ℕ → ℕ → Option (List ℕ)
name_at ls i j = option_map (λ p. p.name) (slice_get (params_at ls i) j)

-- its value, where both stand there and it has one
abbrev pub value_at : List LinkValue → ℕ → ℕ → Option (List ℕ)
value_at ls i j = option_and_then (λ p. p.value) (slice_get (params_at ls i) j)

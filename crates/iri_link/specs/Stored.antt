-- The stored link-values and parameters, as those of a field.
use Rattle.std.specs.Prelude.{ℕ, List, map, Option, Some, None, String, string_bytes}
use Rattle.iri_link.specs.Field.{LinkParam, LinkValue}
use Rattle.iri_link.specs.declared.link.Link.{Link}
use Rattle.iri_link.specs.declared.param.Param.{Param}

abbrev pub value_of : {Z : Type 0} → Option (String Z) → Option (List ℕ)
value_of None = None
value_of (Some v) = Some (string_bytes v)

abbrev pub param_of : Param → LinkParam
param_of p = record { name = string_bytes p.name; value = value_of p.value }

abbrev pub link_of : Link → LinkValue
link_of l = record { target = string_bytes l.target; params = map param_of l.params.items }

abbrev pub links_of : List Link → List LinkValue
links_of ls = map link_of ls

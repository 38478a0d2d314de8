-- Which parts a whole text of a kind may have (RFC 3986 sections 3, 4.1, 4.2 and 4.3): whether a scheme stands, whether a fragment stands.
use Rattle.std.specs.Prelude.{Bool, true, not, ◌&&◌}

-- `URI-reference`
abbrev pub allows_reference : Bool → Bool → Bool
allows_reference scheme fragment = true

-- `URI`
abbrev pub allows_iri : Bool → Bool → Bool
allows_iri scheme fragment = scheme

-- `absolute-URI`
abbrev pub allows_absolute : Bool → Bool → Bool
allows_absolute scheme fragment = scheme && not fragment

-- `relative-ref`
abbrev pub allows_relative : Bool → Bool → Bool
allows_relative scheme fragment = not scheme

-- What the components of an authority were read from.
use Rattle.std.specs.Prelude.{ℕ, List}
use Rattle.iri_types.specs.declared.authority.AuthorityComponents.{AuthorityComponents}

-- the bytes of the authority
abbrev pub authority : AuthorityComponents → List ℕ
authority a = a.text.now

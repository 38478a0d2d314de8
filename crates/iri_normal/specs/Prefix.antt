-- What stands before a path: the scheme with its colon, and `//` with the authority (RFC 3986 section 5.3).
use Rattle.std.specs.Prelude.{◌≡◌, ℕ, Bool, true, false, List, ◌++◌, Option, unwrap_or}
use Rattle.iri_grammar.specs.Classes.{Tests}
use Rattle.iri_grammar.specs.Parts.{Parts, scheme_text, authority_text}
use Rattle.iri_percent.specs.NormalHost.{normal_authority}
use Rattle.iri_normal.specs.NormalForm.{lowered, part_in}

-- the prefix of parts in normal form, or as it stands
abbrev pub prefix_in : Tests → Bool → Parts → List ℕ
prefix_in s normal t = scheme_text (part_in normal lowered t.scheme) ++ authority_text (part_in normal (normal_authority s) t.authority)

-- where the text stands, it is the prefix of the parts, and that is in normal form
abbrev pub IsPrefix : Tests → Parts → Option (List ℕ) → Type 0
IsPrefix s t text = (unwrap_or text (prefix_in s false t) ≡ prefix_in s false t) × (unwrap_or text (prefix_in s true t) ≡ prefix_in s true t)

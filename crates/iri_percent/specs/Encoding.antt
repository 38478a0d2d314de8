-- Percent-encoding of raw texts (RFC 3986 sections 2.1 and 2.4, RFC 3987 sections 2.2 and 3.1).
use Rattle.std.specs.Prelude.{ℕ, Bool, cond, not, ◌&&◌, ◌==◌, List}
use Rattle.std.specs.List.{flat_map}
use Rattle.std.specs.Char.{encode_utf8}
use Rattle.std.specs.Str.{chars}
use Rattle.iri_grammar.specs.Classes.{Tests, unreserved, reg_name_char, userinfo_char, pchar, path_char, query_char, fragment_char}
use Rattle.iri_grammar.specs.Classes.{any_char}
use Rattle.iri_percent.specs.Mapping.{triplets}
use Rattle.iri_percent.specs.declared.context.Context.{Context}
use Rattle.iri_percent.specs.declared.context.Context.TheVariants.{RegName, UserOrPassword, PathSegment, Path, Query, Fragment, Unreserved}
use Rattle.iri_percent.specs.declared.context.Context.TheVariants.{Any}
use Rattle.iri_grammar.specs.Characters.{colon}

-- the characters that stand as they are in each place of a reference. `%` never does
abbrev pub keeps : Tests → Context → ℕ → Bool
keeps s RegName c = reg_name_char s c
keeps s UserOrPassword c = userinfo_char s c && not (c == colon)
keeps s PathSegment c = pchar s c
keeps s Path c = path_char s c
keeps s Query c = query_char s c
keeps s Fragment c = fragment_char s c
keeps s Unreserved c = unreserved s c
keeps s Any c = any_char s c

-- a character that is kept stands as it is; every other one becomes the triplets of its UTF-8, with capital hex digits
abbrev pub encoded_char : (ℕ → Bool) → ℕ → List ℕ
encoded_char kept c = cond (kept c) (encode_utf8 c) (triplets (encode_utf8 c))

-- a text, character by character
unfoldable pub encoded : (ℕ → Bool) → List ℕ → List ℕ
encoded kept t = flat_map (encoded_char kept) (chars t)

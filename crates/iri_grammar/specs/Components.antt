-- The single components (RFC 3986 section 3, RFC 3987 section 2.2), as tests on bytes.
use Rattle.std.specs.Prelude.{ℕ, Bool, true, false, ◌&&◌, ◌||◌, List, [], ◌∷◌, Option, Some, None, codes}
use Rattle.std.specs.Char.{is_ascii_alphabetic, is_ascii_alphanumeric, is_ascii_digit, char_set_contains}
use Rattle.std.specs.List.{list_all}
use Rattle.iri_grammar.specs.Classes.{Tests, userinfo_char, pchar, path_char, query_char, fragment_char}
use Rattle.iri_grammar.specs.Over.{text_over}

unfoldable pub is_scheme_char : ℕ → Bool
is_scheme_char x = is_ascii_alphanumeric x || char_set_contains (codes "+-.") x

unfoldable pub is_letter : ℕ → Bool
is_letter x = is_ascii_alphabetic x

-- `scheme`: a letter, then letters, digits, `+`, `-`, `.`
abbrev pub is_scheme : List ℕ → Bool
is_scheme [] = false
is_scheme (x ∷ xs) = is_letter x && list_all is_scheme_char xs

-- `port`: digits, possibly none
abbrev pub is_port : List ℕ → Bool
is_port x = list_all is_ascii_digit x

abbrev pub is_userinfo : Tests → List ℕ → Bool
is_userinfo s x = text_over (userinfo_char s) x

-- any text over the characters of a path; which rules its place asks for stands with the whole texts
abbrev pub is_path : Tests → List ℕ → Bool
is_path s x = text_over (path_char s) x

abbrev pub is_path_segment : Tests → List ℕ → Bool
is_path_segment s x = text_over (pchar s) x

abbrev pub is_query : Tests → List ℕ → Bool
is_query s x = text_over (query_char s) x

abbrev pub is_fragment : Tests → List ℕ → Bool
is_fragment s x = text_over (fragment_char s) x

-- a component that stands passes the test
abbrev pub if_there : (List ℕ → Bool) → Option (List ℕ) → Bool
if_there p None = true
if_there p (Some x) = p x

-- Blanks, tokens and quoted strings (RFC 8288 section 3, RFC 9110 sections 5.6.2 to 5.6.4). A text is the list of its bytes.
use Rattle.std.specs.Prelude.{◌≡◌, ℕ, Bool, true, false, not, ◌&&◌, ◌||◌, ◌==◌, List, [], ◌∷◌, codes, nat_lt}
use Rattle.std.specs.Char.{is_ascii_alphanumeric, char_set_contains}
use Rattle.std.specs.Int.{is_in_range}
use Rattle.std.specs.List.{list_all}
use Rattle.iri_grammar.specs.Blanks.{is_blank, tab}
use Rattle.iri_link.specs.Characters.{quotation_mark, backslash}

-- `tchar`
abbrev pub is_token_char : ℕ → Bool
is_token_char c = is_ascii_alphanumeric c || char_set_contains (codes "!#$%&'*+-.^_`|~") c

-- what may stand after a `\` in a quoted string: a tab, a space, a printable ASCII character, or a byte of one past ASCII
abbrev pub is_pair_char : ℕ → Bool
is_pair_char c = c == tab || (is_in_range 32 126 c || nat_lt 127 c)

-- `qdtext`: the same but `"` and `\`
abbrev pub is_plain_char : ℕ → Bool
is_plain_char c = is_pair_char c && (not (c == quotation_mark) && not (c == backslash))

-- blanks, possibly none
abbrev pub is_blanks : List ℕ → Bool
is_blanks x = list_all is_blank x

-- `token`: at least one character
abbrev pub is_token : List ℕ → Bool
is_token [] = false
is_token (c ∷ cs) = list_all is_token_char (c ∷ cs)

-- what stands between the delimiters of a `quoted-string`, and its value: a `\` goes, and what stands after it stays
pub data IsQuoted : List ℕ → List ℕ → Type 0 where
  done : IsQuoted [] []
  plain : (c : ℕ) (t v : List ℕ) → is_plain_char c ≡ true → IsQuoted t v → IsQuoted (c ∷ t) (c ∷ v)
  pair : (c : ℕ) (t v : List ℕ) → is_pair_char c ≡ true → IsQuoted t v → IsQuoted (backslash ∷ c ∷ t) (c ∷ v)

-- What a line of a robots file says (RFC 9309 section 2.2). A text is the list of its bytes.
use Rattle.std.specs.Prelude.{ℕ, Bool, true, false, cond, not, ◌==◌, ◌&&◌, ◌||◌, List, [], ◌∷◌, Option, Some, None, codes, length, take}
use Rattle.std.specs.Prelude.{drop}
use Rattle.std.specs.List.{prefix_len}
use Rattle.std.specs.Char.{is_ascii_alphabetic}
use Rattle.std.specs.Str.{is_utf8, bytes_eq, str_eq_ignore_ascii_case}
use Rattle.iri_grammar.specs.Blanks.{is_blank}
use Rattle.iri_grammar.specs.Characters.{colon, number_sign, underscore}
use Rattle.iri_grammar.specs.Cut.{before, after}

-- a user-agent line, an allow or disallow line, or any other one
pub data FileLine : Type 0 where
  AgentLine : (agent : List ℕ) → FileLine
  RuleLine : (allows : Bool) (pattern : List ℕ) → FileLine
  OtherLine : FileLine

abbrev pub hyphen : ℕ
hyphen = 45

abbrev pub all_blank : List ℕ → Bool
all_blank [] = true
all_blank (x ∷ xs) = is_blank x && all_blank xs

-- without the blanks at the start, and at the end
abbrev pub without_start : List ℕ → List ℕ
without_start [] = []
without_start (x ∷ xs) = cond (is_blank x) (without_start xs) (x ∷ xs)

abbrev pub without_end : List ℕ → List ℕ
without_end [] = []
without_end (x ∷ xs) = cond (all_blank (x ∷ xs)) [] (x ∷ without_end xs)

abbrev pub trimmed : List ℕ → List ℕ
trimmed t = without_end (without_start t)

-- U+FEFF in UTF-8
abbrev pub byte_order_mark : List ℕ
byte_order_mark = 0xEF ∷ 0xBB ∷ 0xBF ∷ []

-- U+FEFF that begins a line goes
abbrev pub without_byte_order_mark : List ℕ → List ℕ
without_byte_order_mark t = cond (bytes_eq (take 3 t) byte_order_mark) (drop 3 t) t

-- the characters of a product token
abbrev pub is_token_char : ℕ → Bool
is_token_char c = is_ascii_alphabetic c || c == underscore || c == hyphen

-- `*`, or the longest prefix that has only characters of a product token
abbrev pub agent_of : List ℕ → List ℕ
agent_of value = cond (bytes_eq value (codes "*")) value (take (prefix_len is_token_char value) value)

-- keys are compared without case
abbrev pub keyed : List ℕ → List ℕ → FileLine
keyed key value =
    cond (str_eq_ignore_ascii_case key (codes "user-agent")) (AgentLine (agent_of value))
    (cond (str_eq_ignore_ascii_case key (codes "allow")) (RuleLine true value)
    (cond (str_eq_ignore_ascii_case key (codes "disallow")) (RuleLine false value) OtherLine))

-- the key before the first `:`, and its value after it
abbrev pub parted : List ℕ → Option (List ℕ) → FileLine
parted key None = OtherLine
parted key (Some value) = keyed (trimmed key) (trimmed value)

abbrev pub line_of_text : List ℕ → FileLine
line_of_text t = parted (before colon t) (after colon t)

-- what follows the first `#` goes, with the `#`; a line that isn't UTF-8 says nothing
abbrev pub line_of : List ℕ → FileLine
line_of line = cond (is_utf8 line) (line_of_text (before number_sign (without_byte_order_mark line))) OtherLine

-- a product token: one or more characters, each of a product token
abbrev pub is_token : List ℕ → Bool
is_token t = not (length t == 0) && (prefix_len is_token_char t == length t)

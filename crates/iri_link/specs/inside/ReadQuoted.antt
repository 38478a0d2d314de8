-- The end and the value of a quoted string.
use Rattle.std.specs.Prelude.{◌≡◌, ℕ, suc, Bool, true, false, cond, ◌==◌, List, [], ◌∷◌, ◌≤◌, length, take, drop}
use Rattle.iri_link.specs.Characters.{backslash, quotation_mark}
use Rattle.iri_link.specs.Fault.{closes_from}

-- how many bytes stand before the delimiter that ends it
unfoldable pub quoted_len : Bool → List ℕ → ℕ
quoted_len e [] = 0
quoted_len true (c ∷ cs) = suc (quoted_len false cs)
quoted_len false (c ∷ cs) = cond (c == quotation_mark) 0 (suc (quoted_len (c == backslash) cs))

-- the value, after a `\` or not
unfoldable pub unquoted_from : Bool → List ℕ → List ℕ
unquoted_from e [] = []
unquoted_from true (c ∷ cs) = c ∷ unquoted_from false cs
unquoted_from false (c ∷ cs) = cond (c == backslash) (unquoted_from true cs) (c ∷ unquoted_from false cs)

abbrev pub unquoted : List ℕ → List ℕ
unquoted t = unquoted_from false t

-- the value of a text, in which a `\` before a character goes or stays
abbrev pub said : Bool → List ℕ → List ℕ
said true t = unquoted t
said false t = t

-- t is what stands in a quoted string, and what follows its last delimiter, where it has one
pub record IsCutOpen (t raw rest : List ℕ) : Type 0 where
  pub prefix : raw ≡ take (quoted_len false t) t
  pub suffix : rest ≡ drop (suc (quoted_len false t)) t
  pub short : length rest ≤ length t

-- t begins with what stands in a quoted string that has an end, and a rest follows its last delimiter
pub record IsPastQuoted (t rest : List ℕ) : Type 0 where
  pub closes : closes_from false t ≡ true
  pub suffix : rest ≡ drop (suc (quoted_len false t)) t
  pub short : length rest ≤ length t

-- How link-values are written: in one form (RFC 8288 section 3).
use Rattle.std.specs.Prelude.{ℕ, cond, ◌||◌, ◌==◌, List, [], ◌∷◌, ◌++◌, Option, Some, None, codes}
use Rattle.std.specs.List.{flat_map}
use Rattle.iri_grammar.specs.Characters.{equals_sign}
use Rattle.iri_link.specs.Characters.{backslash, greater_than_sign, less_than_sign, quotation_mark}
use Rattle.iri_link.specs.Field.{LinkParam, LinkValue}

-- a `\` before each `"` and `\`
abbrev pub escaped : List ℕ → List ℕ
escaped [] = []
escaped (c ∷ cs) = cond (c == quotation_mark || c == backslash) (backslash ∷ c ∷ escaped cs) (c ∷ escaped cs)

abbrev pub written_value : Option (List ℕ) → List ℕ
written_value None = []
written_value (Some v) = equals_sign ∷ quotation_mark ∷ (escaped v ++ quotation_mark ∷ [])

-- `; `, the name, and the value as a quoted string, where there is one
abbrev pub written_param : LinkParam → List ℕ
written_param p = codes "; " ++ (p.name ++ written_value p.value)

-- the target in angle brackets, and the parameters
abbrev pub written_link : LinkValue → List ℕ
written_link l = less_than_sign ∷ (l.target ++ greater_than_sign ∷ flat_map written_param l.params)

-- link-values with `, ` between them
abbrev pub written : List LinkValue → List ℕ
written [] = []
written (l ∷ []) = written_link l
written (l ∷ m ∷ ls) = written_link l ++ (codes ", " ++ written (m ∷ ls))

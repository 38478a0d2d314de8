-- Where a map has a target's entry.
use Rattle.std.specs.Prelude.{◌≡◌, ℕ, zero, suc, Bool, true, false, List, [], ◌∷◌, string_bytes}
use Rattle.iri_register.specs.declared.key.Key.{Key}
use Rattle.iri_register.specs.declared.lines.Lines.{Lines}
use Rattle.std.specs.Str.{bytes_eq}

-- the key has this text
abbrev pub is_text : List ℕ → Key → Bool
is_text t k = bytes_eq t (string_bytes k.text)

-- the first key with this text stands at the index
abbrev pub IsAt : List ℕ → List (Key × Lines) → ℕ → Type 0
IsAt t [] i = ⊥
IsAt t (e ∷ es) zero = is_text t e.0 ≡ true
IsAt t (e ∷ es) (suc i) = (is_text t e.0 ≡ false) × IsAt t es i

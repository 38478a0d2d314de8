-- Triplet normal form, byte by byte. That it gives the same is a law.
use Rattle.std.specs.Prelude.{ℕ, cond, List, [], ◌∷◌, map}
use Rattle.std.specs.Char.{to_ascii_uppercase, encode_utf8}
use Rattle.iri_grammar.specs.Classes.{Tests, unreserved}
use Rattle.iri_percent.specs.Units.{TextUnit, Plain, Char, Lone, Stray, IllFormed}
use Rattle.iri_percent.specs.CharUnits.{plains}
use Rattle.iri_grammar.specs.Characters.{percent_sign}

-- a unit of bytes in normal form, where f is done to what stands outside triplets
abbrev pub written : Tests → (ℕ → ℕ) → TextUnit → List ℕ
written s f (Plain x) = f x ∷ []
written s f (Char c spelling) = cond (unreserved s c) (map f (encode_utf8 c)) (map to_ascii_uppercase spelling)
written s f (Lone a b) = percent_sign ∷ to_ascii_uppercase a ∷ to_ascii_uppercase b ∷ []
written s f Stray = percent_sign ∷ []
written s f (IllFormed b) = f b ∷ []

-- what a unit of bytes is in the normal form: a decoded character stands outside triplets
abbrev pub normal_unit : Tests → (ℕ → ℕ) → TextUnit → List TextUnit
normal_unit s f (Plain x) = Plain (f x) ∷ []
normal_unit s f (Char c spelling) = cond (unreserved s c) (plains (map f (encode_utf8 c))) (Char c (map to_ascii_uppercase spelling) ∷ [])
normal_unit s f (Lone a b) = Lone (to_ascii_uppercase a) (to_ascii_uppercase b) ∷ []
normal_unit s f Stray = Stray ∷ []
normal_unit s f (IllFormed b) = Plain (f b) ∷ []

-- What a scan of a text over a class takes at a time: a run of ASCII characters of the class, or one unit.
use Rattle.std.specs.Prelude.{◌≡◌, ◌<◌, ℕ, suc, Bool, cond, List, [], ◌∷◌}

-- how many at the start pass the test
abbrev pub run_of : (ℕ → Bool) → List ℕ → ℕ
run_of p [] = 0
run_of p (x ∷ xs) = cond (p x) (suc (run_of p xs)) 0

-- on bytes, each of these answers is that of the test
abbrev pub AreAnswers : (ℕ → Bool → Type 0) → (ℕ → Bool) → Type 0
AreAnswers answers p = (x : ℕ) (b : Bool) → x < 256 → answers x b → b ≡ p x

-- so many bytes at the start pass any test whose answers these are
abbrev pub IsRunBy : (ℕ → Bool → Type 0) → List ℕ → ℕ → Type 0
IsRunBy answers xs n = (p : ℕ → Bool) → AreAnswers answers p → n ≡ run_of p xs

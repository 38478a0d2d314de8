-- What a call does to a source.
use Rattle.std.specs.Prelude.{◌≡◌, ◌<◌, ◌≤◌, ℕ, List, [], take, length, ◌++◌, ⊤, Option, None, Some, Result, IfOk, OnErr}
use Rattle.iri_text.specs.Count.{Rose}
use Rattle.iri_text.specs.declared.Failed.{Failed}

-- These bytes come from the start of what is left, where that is told. A source tells it always or never.
abbrev pub Consumes : Option (List ℕ) → Option (List ℕ) → List ℕ → Type 0
Consumes None None bs = ⊤
Consumes None (Some ys) bs = ⊥
Consumes (Some xs) None bs = ⊥
Consumes (Some xs) (Some ys) bs = xs ≡ bs ++ ys

-- nothing is left, where that is told
abbrev pub IsAtEnd : Option (List ℕ) → Type 0
IsAtEnd None = ⊤
IsAtEnd (Some xs) = xs ≡ []

-- It put the first n bytes of what is left at the start of the buffer, where it answers n, and none only at the end or with no room.
-- It failed only where the count of faults rose, and then it took nothing.
pub record Takes (left_old left_new : Option (List ℕ)) (faults_old faults_new : ℕ) (result : Result ℕ Failed) (buf : List ℕ) : Type 0 where
  pub within : IfOk result (λ n. n ≤ length buf)
  pub bytes : IfOk result (λ n. Consumes left_old left_new (take n buf))
  pub ends : IfOk result (λ n. n ≡ 0 → 0 < length buf → IsAtEnd left_old)
  pub later : faults_old ≤ faults_new
  pub cause : OnErr result (Rose faults_old faults_new)
  pub nothing : OnErr result (Consumes left_old left_new [])

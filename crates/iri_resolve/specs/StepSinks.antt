-- What steps do to a sink of steps.
use Rattle.std.specs.Prelude.{◌≡◌, ◌<◌, ℕ, ◌^◌, ◌-◌, length, List, [], ◌∷◌, ◌++◌, Result, Ok, Err}
use Rattle.std.specs.List.{flat_map}
use Rattle.iri_text.specs.declared.shown.show.Stop.{Stop}
use Rattle.iri_resolve.specs.StepTexts.{step_text}
use Rattle.iri_resolve.specs.declared.step.Step.{Step}

-- the list with the steps at its end
abbrev pub ListPuts : List Step → List Step → List Step → Type 0
ListPuts old steps new = new ≡ old ++ steps

-- the list with the first ones of the steps at its end, but not with all of them: the one that was refused isn't kept
pub record ListHalts (old steps new : List Step) : Type 0 where
  pub prefix : List Step
  pub rest : List Step
  pub split : prefix ++ rest ≡ steps
  pub refused : 0 < length rest
  pub taken : new ≡ old ++ prefix

-- the count of stops of a sink that doesn't count them: it is where it stays
abbrev pub uncounted : ℕ
uncounted = 2 ^ 64 - 1

-- a result without its value
abbrev pub done : {A : Type 0} → Result A Stop → Result (Unit {0}) Stop
done (Ok x) = Ok tt
done (Err e) = Err e

-- a step in words and an LF, and steps, a line each
abbrev pub step_line : Step → List ℕ
step_line step = step_text step ++ 10 ∷ []

abbrev pub step_lines : List Step → List ℕ
step_lines steps = flat_map step_line steps

-- What a replay of steps answers.
use Rattle.std.specs.Prelude.{◌≡◌, ℕ, List, Some, None, take, slice_get}
use Rattle.iri_grammar.specs.Classes.{Tests}
use Rattle.iri_grammar.specs.Parts.{Parts}
use Rattle.iri_percent.specs.declared.canon_mode.CanonMode.{CanonMode}
use Rattle.iri_resolve.specs.Steps.{step_in, replayed_in}
use Rattle.iri_resolve.specs.declared.step.Step.{Step}
use Rattle.iri_resolve.specs.declared.replay.ReplayError.{ReplayError}
use Rattle.iri_resolve.specs.declared.replay.ReplayError.TheVariants.{Illegal, Memory}

-- the step of this number is the first that is no step from the parts reached
pub record IsIllegal (s : Tests) (mode : CanonMode) (t : Parts) (l : List Step) (k : ℕ) : Type 0 where
  pub reached : Parts
  pub x : Step
  pub before : replayed_in s mode t (take k l) ≡ Some reached
  pub at : slice_get l k ≡ Some x
  pub none : step_in s mode reached x ≡ None

-- why a replay gives no parts
abbrev pub EndsByIn : Tests → CanonMode → Parts → List Step → ReplayError → Type 0
EndsByIn s mode t l (Illegal k) = IsIllegal s mode t l k
EndsByIn s mode t l Memory = Unit {0}

-- why a step gives no parts
abbrev pub StopsAt : Tests → CanonMode → Parts → Step → ℕ → ReplayError → Type 0
StopsAt s mode t x k (Illegal j) = (j ≡ k) × (step_in s mode t x ≡ None)
StopsAt s mode t x k Memory = Unit {0}

-- Why a register refuses a reference.
use Rattle.std.specs.Prelude.{◌≡◌, ℕ, List, MatchResult, Option, Some, None, Result}
use Rattle.iri_grammar.specs.Classes.{Tests}
use Rattle.iri_grammar.specs.Fault.{bytes_fault}
use Rattle.iri_grammar.specs.WholeFault.{reference_fault}
use Rattle.iri_grammar.specs.declared.error.ErrorKind.{ErrorKind}
use Rattle.iri_register.specs.declared.error.RegisterError.{RegisterError}
use Rattle.iri_register.specs.declared.error.RegisterError.TheVariants.{Bad, Memory}

-- the cause of a refusal, by the reference's first fault: memory is taken only where there is none
abbrev pub CausedBy : RegisterError → Option ErrorKind → Type 0
CausedBy (Bad e) fault = fault ≡ Some e.kind
CausedBy Memory fault = fault ≡ None

-- a reference is refused exactly for its first fault, or for memory
abbrev pub RefusedFor : {A : Type 0} → Tests → List ℕ → Result A RegisterError → Type 0
RefusedFor s reference result =
    MatchResult result (λ _. bytes_fault (reference_fault s) reference ≡ None) (λ e. CausedBy e (bytes_fault (reference_fault s) reference))

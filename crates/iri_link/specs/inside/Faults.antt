-- How the first fault of a text goes on past a part of it.
use Rattle.std.specs.Prelude.{◌≡◌, ◌<◌, ◌≤◌, ℕ, Bool, true, false, List, Option, Some, length}
use denote.Bor.{Bor}
use Rattle.iri_grammar.specs.Classes.{Tests}
use Rattle.iri_link.specs.Fault.{Fault, fault_from}
use Rattle.iri_link.specs.Phases.{Phase, before_link, after_param}
use Rattle.iri_link.specs.declared.error.LinkKind.{LinkKind}

-- where a walk stands that is after a target or a parameter, or that isn't
abbrev pub phase_at : Bool → Phase
phase_at false = before_link
phase_at true = after_param

-- the first fault of t, read so, is that of the rest, read so
pub record GoesOn (s : Tests) (p : Phase) (t : List ℕ) (q : Phase) (rest : List ℕ) : Type 0 where
  pub same : fault_from s p t ≡ fault_from s q rest
  pub short : length rest ≤ length t

-- the same past at least a byte
pub record Passes (s : Tests) (p : Phase) (t : List ℕ) (inside : Bool) (rest : List ℕ) : Type 0 where
  pub same : fault_from s p t ≡ fault_from s (phase_at inside) rest
  pub shorter : length rest < length t

-- a kind, and what is left from the place on, are the fault
abbrev pub IsFault : LinkKind × Bor (List ℕ) → Option Fault → Type 0
IsFault e f = f ≡ Some (record { kind = e.0; rest = e.1.now })

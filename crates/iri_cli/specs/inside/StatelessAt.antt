-- Where a command stands that answers each line alone.
use Rattle.std.specs.Prelude.{◌≡◌, ℕ, Bool, List}
use Rattle.iri_grammar.specs.Classes.{Tests}
use Rattle.iri_percent.specs.declared.canon_mode.CanonMode.{CanonMode}
use Rattle.iri_cli.specs.inside.Answering.{Answering}
use Rattle.iri_cli.specs.canon.Rules.{stateless_rules}
use Rattle.iri_cli.specs.run.Prepared.{IsAlike}

-- Its base has the answers of the base line.
pub record IsStatelessAt (answer : Tests → CanonMode → List ℕ → List ℕ → List ℕ) (base_takes_memory : Bool) (takes_memory : Tests → List ℕ → Bool) (s : Tests) (mode : CanonMode) (base : List ℕ) (at : Answering) : Type 0 where
  pub rules : at.rules ≡ stateless_rules answer base_takes_memory takes_memory s mode
  pub alike : IsAlike (stateless_rules answer base_takes_memory takes_memory s mode) base at.base

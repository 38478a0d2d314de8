-- Where `register` stands after lines.
use Rattle.std.specs.Prelude.{◌≡◌, ℕ, List, length}
use Rattle.iri_grammar.specs.Classes.{Tests}
use Rattle.iri_register.specs.Kept.{Kept}
use Rattle.iri_cli.specs.inside.Answering.{Answering}
use Rattle.iri_cli.specs.register.Lines.{entries_after}
use Rattle.iri_cli.specs.register.Rules.{register_rules}
use Rattle.iri_cli.specs.run.Prepared.{IsAlike}

-- References are resolved against its base, which has the answers of the base line. It has the entries after the lines that were answered,
-- and their count.
pub record IsRegisterAt (s : Tests) (against : List ℕ) (kept : Kept) (answered : ℕ) (at : Answering) : Type 0 where
  pub rules : at.rules ≡ register_rules s kept.mode
  pub own : against ≡ kept.base
  pub alike : IsAlike (register_rules s kept.mode) kept.base at.base
  pub entries_are : kept.entries ≡ entries_after s kept.mode kept.base at.between
  pub counted : answered ≡ length at.between

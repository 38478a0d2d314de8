-- What a register is seen as.
use Rattle.std.specs.Prelude.{ℕ, List}
use Rattle.iri_percent.specs.declared.canon_mode.CanonMode.{CanonMode}
use Rattle.iri_register.specs.Entries.{Entry}

-- the text of the base, the mode of its targets, and the entries
pub record Kept : Type 0 where
  pub base : List ℕ
  pub mode : CanonMode
  pub entries : List Entry

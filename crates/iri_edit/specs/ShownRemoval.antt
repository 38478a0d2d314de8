-- A whole text that is shown without its password.
use Rattle.std.specs.Prelude.{ℕ, List, ◌++◌}
use Rattle.iri_edit.specs.declared.shown_removal.WithoutPassword.{WithoutPassword}

-- what is shown
abbrev pub shown : WithoutPassword → List ℕ
shown w = w.prefix.now ++ w.back.now

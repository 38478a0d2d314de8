-- Variables as they are read.
use Rattle.std.specs.Prelude.{ℕ, List, String, string_bytes}
use Rattle.std.specs.declared.alloc.Global.{Global}
use Rattle.iri_template.specs.HeldValues.{shown_value}
use Rattle.iri_template.specs.ShownValues.{ShownValue}
use Rattle.iri_template.specs.declared.value.Value.{Value}

-- a name and its value
abbrev pub entry_of : String Global × Value → List ℕ × ShownValue
entry_of e = (string_bytes e.0, shown_value e.1)

-- The normal forms of one text.
use Rattle.iri_normal.specs.declared.mode.Mode.{Mode}
use Rattle.iri_normal.specs.declared.mode.Mode.TheVariants as mode
use Rattle.iri_calls.specs.declared.normal.Form.{Form}
use Rattle.iri_calls.specs.declared.normal.Form.TheVariants.{Normal, ByScheme, Preserving}

abbrev pub form_mode : Form → Mode
form_mode Normal = mode.Normal
form_mode ByScheme = mode.ByScheme
form_mode Preserving = mode.Preserving

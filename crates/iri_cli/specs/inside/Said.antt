-- What the code reads of a line of `expand`, in the terms of the definitions.
use Rattle.std.specs.Prelude.{ℕ, List, Option, None, Some}
use denote.Ref.{Bor}
use Rattle.iri_template.specs.declared.var_name.VarName.{VarName}
use Rattle.iri_cli.specs.expand.Lines.{Change, sets, adds_item, adds_pair, unsets, ExpandLine, changes, expands, bad}
use Rattle.iri_cli.specs.declared.expand.line.Change as code
use Rattle.iri_cli.specs.declared.expand.line.Change.TheVariants.{Sets, AddsItem, AddsPair, Unsets}
use Rattle.iri_cli.specs.declared.expand.line.Said.{Said}
use Rattle.iri_cli.specs.declared.expand.line.Said.TheVariants.{Changes, Expands, Bad}

-- a variable's name and what is after it
abbrev pub named_now : Option (VarName × Bor (List ℕ)) → Option (List ℕ × List ℕ)
named_now None = None
named_now (Some p) = Some ((p.0).text.now, (p.1).now)

abbrev pub change_of : code.Change → Change
change_of (Sets name value) = sets name.text.now value.now
change_of (AddsItem name item) = adds_item name.text.now item.now
change_of (AddsPair name key value) = adds_pair name.text.now key.now value.now
change_of (Unsets name) = unsets name.text.now

abbrev pub said : Said → ExpandLine
said (Changes c) = changes (change_of c)
said (Expands template) = expands template.now
said Bad = bad

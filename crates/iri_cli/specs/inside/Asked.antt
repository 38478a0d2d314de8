-- What the code reads of a line of `register`, in the terms of the definitions.
use Rattle.iri_cli.specs.register.Lines.{RegisterLine, adds, removes, finds, bad}
use Rattle.iri_cli.specs.declared.register.line.Asked.{Asked}
use Rattle.iri_cli.specs.declared.register.line.Asked.TheVariants.{Adds, Removes, Finds, Bad}

abbrev pub asked : Asked → RegisterLine
asked (Adds reference) = adds reference.now
asked (Removes reference) = removes reference.now
asked (Finds reference) = finds reference.now
asked Bad = bad

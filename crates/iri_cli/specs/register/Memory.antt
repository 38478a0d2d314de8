-- The command `register`: which lines take memory.
use Rattle.std.specs.Prelude.{Bool, false, ◌&&◌, nat_lt, List, length}
use Rattle.std.specs.Option.{is_none}
use Rattle.iri_grammar.specs.Classes.{Tests}
use Rattle.iri_grammar.specs.Fault.{bytes_fault}
use Rattle.iri_grammar.specs.WholeFault.{reference_fault}
use Rattle.iri_register.specs.Entries.{Entry}
use Rattle.iri_cli.specs.register.Lines.{RegisterLine, adds, removes, finds, bad}

-- whether what a line asks of entries takes memory: a reference without a fault does where it is added, or where there are entries
abbrev pub takes_memory : Tests → List Entry → RegisterLine → Bool
takes_memory s es (adds r) = is_none (bytes_fault (reference_fault s) r)
takes_memory s es (removes r) = nat_lt 0 (length es) && is_none (bytes_fault (reference_fault s) r)
takes_memory s es (finds r) = nat_lt 0 (length es) && is_none (bytes_fault (reference_fault s) r)
takes_memory s es bad = false

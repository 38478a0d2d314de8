-- The command `robots`: which lines take memory.
use Rattle.std.specs.Prelude.{Bool, false, nat_lt, length}
use Rattle.std.specs.Option.{is_none}
use Rattle.iri_grammar.specs.Classes.{Tests}
use Rattle.iri_grammar.specs.Fault.{bytes_fault}
use Rattle.iri_grammar.specs.WholeFault.{reference_fault}
use Rattle.iri_cli.specs.robots.Lines.{RobotsLine, feeds, asks, bad, fed}

-- whether what a line says takes memory: one that feeds a record does, and one that asks of a reference without a fault
abbrev pub takes_memory : Tests → RobotsLine → Bool
takes_memory s (feeds line) = nat_lt 0 (length (fed (feeds line)))
takes_memory s (asks r) = is_none (bytes_fault (reference_fault s) r)
takes_memory s bad = false

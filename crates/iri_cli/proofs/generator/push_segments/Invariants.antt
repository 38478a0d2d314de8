use Rattle.iri_cli.proofs.Common.{◌≡◌, ◌-◌, ◌++◌, string_bytes, more_segments}
use Rattle.iri_cli.proofs.generator.push_segments.Given as goal

abbrev pub invariant-loop-i : goal.invariant-loop-i
invariant-loop-i l = string_bytes l.text ++ more_segments (l.count - l.i) l.rest ≡ string_bytes l.fn.text ++ more_segments l.count l.number

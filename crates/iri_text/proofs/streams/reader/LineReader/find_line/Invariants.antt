use Rattle.std.proofs.Common.{◌≡◌, false, ◌+◌, ◌-◌, ◌≤◌}
use Rattle.iri_text.specs.View.{line_state}
use Rattle.iri_text.specs.inside.Layout.{IsSound}
use Rattle.iri_text.specs.Takings.{TakesWhileNoLf}
use Rattle.iri_text.proofs.Moved.{Moved}
use Rattle.iri_text.proofs.streams.reader.LineReader.find_line.Given as goal

abbrev pub invariant-loop-i : goal.invariant-loop-i
invariant-loop-i g l = record {
  sound : IsSound l.self-inside;
  so_far : Moved l.fn.self (line_state l.self-inside) (g.I.Source.left l.fn.source) (g.I.Source.left l.source);
  fresh : (l.fn.self.ended ≡ false) × (l.self-inside.ended ≡ false);
  needed : TakesWhileNoLf g.I.Source.call g.I.Source.left l.fn.self.held l.fn.source (line_state l.self-inside).held l.source;
  faults : g.I.Source.faults l.fn.source ≤ g.I.Source.faults l.source;
}

abbrev pub decreases-loop-i : goal.decreases-loop-i
decreases-loop-i g l = l.self-inside.input_limit + 1 - l.self-inside.taken

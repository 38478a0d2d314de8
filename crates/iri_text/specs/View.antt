-- How the fields of a reader are seen.
use Rattle.std.specs.Prelude.{slice_range}
use Rattle.iri_text.specs.Line.{LineState}
use Rattle.iri_text.specs.declared.streams.reader.LineReader.TheInside.{Inside}

abbrev pub line_state : Inside → LineState
line_state a = record {
  held = slice_range a.buf.items a.start a.end;
  taken = a.taken;
  line = slice_range a.buf.items a.line_start a.line_end;
  ended = a.ended;
  done = a.done;
  line_limit = a.line_limit;
  input_limit = a.input_limit;
}

use Rattle.std.specs.Str.{IsUtf8, chars}
use Rattle.std.specs.Str.Iter.{chars_rest}
use Rattle.iri_template_rows.proofs.ThroughEach.{HasPutUpTo}
use Rattle.iri_template_rows.proofs.PlainChars.{no_step, plain_text}
use Rattle.iri_template_rows.proofs.template.chars.put_chars.Given as goal

-- the characters before those that are left were put
abbrev pub invariant-loop-c : goal.invariant-loop-c
invariant-loop-c g l = record {
  can : (goal.iterator-loop-c g).can_next l.c-iterator;
  ends : (goal.iterator-loop-c g).is_finite l.c-iterator;
  utf8 : IsUtf8 (chars_rest l.c-iterator);
  far : HasPutUpTo no_step plain_text g.W.TextSink.puts g.W.TextSink.stops tt (chars l.text) l.fn.sink tt
      (chars (chars_rest l.c-iterator)) l.sink;
}

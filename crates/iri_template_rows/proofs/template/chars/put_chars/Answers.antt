use Rattle.std.proofs.Common.{◌∙◌, sym, subst, ap, refl, Ok}
use Rattle.std.specs.Str.{IsUtf8, chars}
use Rattle.std.specs.Str.Iter.{chars_rest}
use Rattle.iri_text.proofs.CharSteps.{first_char}
use Rattle.std.proofs.StrCases.{chars_of_empty}
use Rattle.iri_template_rows.proofs.ThroughEach.{HasPutUpTo, up_to_none, up_to_more, up_to_exit, up_to_end}
use Rattle.iri_text.specs.Shown.{Shows}
use Rattle.iri_template_rows.proofs.PlainChars.{no_step, plain_text, plain_all}
use Rattle.iri_template_rows.proofs.template.chars.put_chars.Goals as goal

pub loop-c-init : goal.loop-c-init
loop-c-init g c =
    let e = ap chars_rest c.into_iter-c-iterator.ensures.into_iter_gives ∙ c.chars-c-items.ensures.rest in
    record {
      can = tt;
      ends = tt;
      utf8 = subst IsUtf8 (sym e) c.utf8.text;
      far = subst (λ l. HasPutUpTo no_step plain_text g.W.TextSink.puts g.W.TextSink.stops tt (chars c.args.text.now) c.args.sink.now tt
          (chars l) c.args.sink.now) (sym e) (up_to_none g.met.W.TextSink.rules c.args.sink.now);
    }

pub loop-c-preserved : goal.loop-c-preserved
loop-c-preserved g c =
    let i = c.loop-c.invariant in
    let f = first_char _ _ c.in-Some.c i.utf8 c.in-Some.ensures.steps.0 in
    record {
      can = tt;
      ends = tt;
      utf8 = f.utf8;
      far = up_to_more g.met.W.TextSink.rules c.in-Some.c f.first refl i.far c.in_ok-put_char.ensures;
    }

pub returns-in_err-put_char : goal.returns-in_err-put_char
returns-in_err-put_char g c =
    let w = g.W.TextSink in
    let i = c.loop-c.invariant in
    let f = first_char _ _ c.in-Some.c i.utf8 c.in-Some.ensures.steps.0 in
    subst (λ l. Shows w.puts w.halts w.stops c.args.sink.now l c.put_char.new.sink c.from_residual.result)
    (plain_all c.args.text.now c.utf8.text)
    (up_to_exit g.met.W.TextSink.rules c.in-Some.c f.first c.from_residual.ensures.0 i.far c.in_err-put_char.ensures)

pub returns : goal.returns
returns g c =
    let w = g.W.TextSink in
    subst (λ l. Shows w.puts w.halts w.stops c.args.sink.now l c.loop-c.sink (Ok tt)) (plain_all c.args.text.now c.utf8.text)
    (up_to_end g.met.W.TextSink.rules
    (chars_of_empty _ c.in-None.ensures.steps.0.0) c.loop-c.invariant.far)

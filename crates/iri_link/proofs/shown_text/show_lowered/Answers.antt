use Rattle.iri_link.proofs.Common.{◌++◌, sym, subst, rules, str_to_ascii_lowercase}
use Rattle.std.specs.Str.{IsAscii}
use Rattle.std.proofs.lemmas.Str.{IsAscii-take, IsAscii-drop}
use Rattle.iri_text.specs.Shown.{Shows}
use Rattle.iri_text.proofs.Compose.{shown_exit, shown_more}
use Rattle.iri_link.proofs.ShownLemmas.{lowered_on}
use Rattle.iri_link.proofs.shown_text.show_lowered.Goals as goal

pub show_few_lowered-requires-in-chunks-clause-ascii : goal.show_few_lowered-requires-in-chunks-clause-ascii
show_few_lowered-requires-in-chunks-clause-ascii g c =
    subst IsAscii (sym c.split_at.ensures.front) (IsAscii-take c.chunks.rest.now 64 c.chunks.invariant.ascii)

pub returns-in_err-show_few_lowered : goal.returns-in_err-show_few_lowered
returns-in_err-show_few_lowered g c =
    let i = c.chunks.invariant in
    subst (λ t. Shows g.W.TextSink.puts g.W.TextSink.halts g.W.TextSink.stops c.args.sink.now t c.show_few_lowered-in-chunks.new.sink c.from_residual.result)
    (sym (lowered_on c.chunks.rest.now c.split_at.result.0.now c.split_at.result.1.now i.done _ i.same c.split_at.ensures.front c.split_at.ensures.back))
    (shown_exit g.met.W.TextSink.rules (str_to_ascii_lowercase c.split_at.result.1.now) c.from_residual.ensures.0 i.shown c.in_err-show_few_lowered.ensures)

pub chunks-preserved : goal.chunks-preserved
chunks-preserved g c =
    let i = c.chunks.invariant in
    record {
      utf8 = search rules;
      ascii = subst IsAscii (sym c.split_at.ensures.back) (IsAscii-drop c.chunks.rest.now 64 i.ascii);
      done = i.done ++ str_to_ascii_lowercase c.split_at.result.0.now;
      shown = shown_more g.met.W.TextSink.rules i.shown c.in_ok-show_few_lowered.ensures;
      same = lowered_on c.chunks.rest.now c.split_at.result.0.now c.split_at.result.1.now i.done _ i.same c.split_at.ensures.front c.split_at.ensures.back;
    }

use Rattle.iri_percent.proofs.Common.{true, false, ◌++◌, Ok, length, drop, sym, ap, ◌∙◌, subst, append-nil, arith, eqb-true, IsAscii}
use Rattle.iri_percent.proofs.Common.{run_of, Shows, shown_more, shown_exit, shows_all, mapped, triplets, goes_on}
use Rattle.std.proofs.lemmas.Bool.{eqb-false}
use Rattle.iri_percent.proofs.mapping.Runs.{low-ascii, one_run, two_runs, shorter_by, mapped-none}
use Rattle.iri_percent.proofs.mapped.put_runs.Goals as goal

pub put_ascii-requires : goal.put_ascii-requires
put_ascii-requires g c = subst IsAscii (sym c.split_run.ensures.run) (low-ascii c.loop-rest.rest.now)

pub returns-in_err-put_ascii : goal.returns-in_err-put_ascii
returns-in_err-put_ascii g c =
    let i = c.loop-rest.invariant in
    let rest = c.loop-rest.rest.now in
    let same = one_run c.args.bytes.now i.done rest c.split_run.result.0.now i.same c.split_run.ensures.run in
    subst (λ l. Shows g.W.TextSink.puts g.W.TextSink.halts g.W.TextSink.stops c.args.sink.now l c.put_ascii.new.sink c.from_residual.result) (sym same)
    (shown_exit g.met.W.TextSink.rules (mapped (drop
    (run_of (goes_on false) rest) rest)) c.from_residual.ensures.0 i.shown c.in_err-put_ascii.ensures)

pub returns-in_err-put_triplets : goal.returns-in_err-put_triplets
returns-in_err-put_triplets g c =
    let i = c.loop-rest.invariant in
    let tail = c.split_run.result.1.now in
    let same = two_runs c.args.bytes.now i.done c.loop-rest.rest.now c.split_run.result.0.now tail c.split_run-in-loop-rest.result.0.now i.same c.split_run.ensures.run c.split_run.ensures.rest c.split_run-in-loop-rest.ensures.run in
    subst (λ l. Shows g.W.TextSink.puts g.W.TextSink.halts g.W.TextSink.stops c.args.sink.now l c.put_triplets.new.sink c.from_residual-in_err-put_triplets.result) (sym same)
    (shown_exit g.met.W.TextSink.rules (mapped (drop (run_of (goes_on true) tail) tail)) c.from_residual-in_err-put_triplets.ensures.0
    (shown_more g.met.W.TextSink.rules i.shown c.in_ok-put_ascii.ensures) c.in_err-put_triplets.ensures)

pub loop-rest-preserved : goal.loop-rest-preserved
loop-rest-preserved g c =
    let i = c.loop-rest.invariant in
    let tail = c.split_run.result.1.now in
    let octets = c.split_run-in-loop-rest.result.0.now in
    let done' = (i.done ++ c.split_run.result.0.now) ++ triplets octets in
    record {
      done = done';
      shown = shown_more g.met.W.TextSink.rules
          (shown_more g.met.W.TextSink.rules i.shown c.in_ok-put_ascii.ensures) c.in_ok-put_triplets.ensures;
      same =
          two_runs c.args.bytes.now i.done c.loop-rest.rest.now c.split_run.result.0.now tail octets i.same c.split_run.ensures.run c.split_run.ensures.rest c.split_run-in-loop-rest.ensures.run
          ∙ ap (λ z. done' ++ mapped z) (sym c.split_run-in-loop-rest.ensures.rest);
    }

pub loop-rest-smaller : goal.loop-rest-smaller
loop-rest-smaller g c =
    shorter_by c.loop-rest.rest.now c.split_run.result.1.now c.split_run-in-loop-rest.result.1.now
    (omega (arith, eqb-false (length c.loop-rest.rest.now) 0 (sym c.is_empty.ensures ∙ c.loop-rest-test.true)))
    c.split_run.ensures.rest c.split_run-in-loop-rest.ensures.rest

pub returns : goal.returns
returns g c =
    let i = c.loop-rest.invariant in
    let none = mapped-none c.loop-rest.rest.now (eqb-true (length c.loop-rest.rest.now) 0 (sym c.is_empty.ensures ∙ c.loop-rest-test.false)) in
    subst (λ l. Shows g.W.TextSink.puts g.W.TextSink.halts g.W.TextSink.stops c.args.sink.now l c.loop-rest.sink (Ok tt))
    (sym (i.same ∙ ap (λ l. i.done ++ l) none ∙ append-nil i.done))
    (shows_all i.shown)

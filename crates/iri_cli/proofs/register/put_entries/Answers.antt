use Rattle.iri_cli.proofs.Common.{◌+◌, arith, drop, puts-then, puts-exit, entry_lines}
use Rattle.iri_cli.proofs.PutLemmas.{puts_so}
use Rattle.iri_cli.proofs.RegisterLemmas.{entries_left, entry_next, entry_there}
use Rattle.iri_cli.proofs.register.put_entries.Goals as goal

pub put_entry-requires : goal.put_entry-requires
put_entry-requires g c =
    let e = entry_there c.args.register.now.entries c.loop-index.index
    (omega (arith, c.loop-index-test.true, c.len-index-end.ensures.len)) in
    (e.entry, e.at)

pub returns-in_err-put_entry : goal.returns-in_err-put_entry
returns-in_err-put_entry g c =
    let es = c.args.register.now.entries in
    let i = c.loop-index.index in
    let e = entry_there es i (omega (arith, c.loop-index-test.true, c.len-index-end.ensures.len)) in
    puts_so (entries_left es i e)
    (puts-then c.loop-index.invariant
    (puts-exit (entry_lines (1 + (i + 1)) (drop (i + 1) es)) c.from_residual.ensures.0 (c.in_err-put_entry.ensures e.entry e.at)))

pub loop-index-preserved : goal.loop-index-preserved
loop-index-preserved g c =
    let es = c.args.register.now.entries in
    let i = c.loop-index.index in
    let e = entry_there es i (omega (arith, c.loop-index-test.true, c.len-index-end.ensures.len)) in
    puts_so (entry_next es i e) (puts-then c.loop-index.invariant (c.in_ok-put_entry.ensures e.entry e.at))

use Rattle.std.proofs.Common.{◌≡◌, ◌≤◌, ◌*◌, ◌^◌, length, sum}
use Rattle.iri_cli.specs.generator.References.{gen_state, gen_total}
use Rattle.iri_cli.proofs.generator.totals_of.Given as goal

abbrev pub invariant-loop-i : goal.invariant-loop-i
invariant-loop-i g l = record {
  state : l.state ≡ gen_state l.i;
  bytes : l.bytes ≡ gen_total length g.S.Spec.tests l.i;
  sum : l.sum ≡ gen_total sum g.S.Spec.tests l.i;
  bytes_fit : l.bytes ≤ l.i * 2 ^ 64;
  sum_fits : l.sum ≤ l.i * (255 * 2 ^ 64);
}

use Rattle.iri_cli.proofs.Common.{◌≡◌, ◌+◌, ◌^◌, ◌∙◌, ap, arith, length, suc, sym, reference_fault, canonical, gen_base, gen_reference}
use Rattle.std.proofs.Common.{◌*◌, ◌%◌, add-one, sum}
use Rattle.iri_cli.specs.generator.References.{gen_state, gen_total}
use Rattle.iri_cli.proofs.GenReferences.{no_fault_of_made}
use Rattle.iri_cli.proofs.generator.totals_of.Goals as goal

pub write_text-requires : goal.write_text-requires
write_text-requires g c = ap (reference_fault g.S.Spec.tests) (c.deref.ensures ∙ c.in_ok-write_reference.ensures)
    ∙ no_fault_of_made g.S.Spec.tests g.met.S.Spec.lawful c.next_state-state.result

pub loop-i-preserved : goal.loop-i-preserved
loop-i-preserved g c =
    let s = g.S.Spec.tests in
    let i = c.loop-i.i in
    let before = c.loop-i.invariant in
    let state : c.next_state-state.result ≡ gen_state (suc i) =
    c.next_state-state.ensures ∙ ap (λ n. (n * 6364136223846793005 + 1442695040888963407) % 2 ^ 64) before.state in
    let reference = c.deref.ensures ∙ (c.in_ok-write_reference.ensures ∙ ap gen_reference state) in
    let text = c.in_ok-write_text.ensures ∙ (ap (λ b. canonical s b c.deref.result.now) c.requires.base ∙ ap (canonical s gen_base) reference) in
    record {
      state = rw add-one state;
      bytes = rw add-one (ap (λ n. n + c.len.result) before.bytes ∙ ap (λ n. gen_total length s i + n) (c.len.ensures ∙ (sym c.as_bytes.ensures.len ∙ ap length (c.as_bytes.ensures.value ∙ text))));
      sum = rw add-one
          (ap (λ n. n + c.sum_of-sum.result) before.sum
          ∙ ap (λ n. gen_total sum s i + n) (c.sum_of-sum.ensures.value ∙ (ap sum c.as_bytes.ensures.value ∙ ap sum text)));
      bytes_fit = omega (arith, before.bytes_fit, c.len.type_inv);
      sum_fits = omega (arith, before.sum_fits, c.sum_of-sum.ensures.bound, c.as_bytes.type_inv.0);
    }

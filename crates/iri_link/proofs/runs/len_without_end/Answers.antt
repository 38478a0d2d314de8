use Rattle.iri_link.proofs.Common.{◌∙◌, sym, arith}
use Rattle.iri_link.proofs.RunLemmas.{blank-low, end_blank, end_text}
use Rattle.iri_link.proofs.runs.len_without_end.Goals as goal

pub returns-then-not-has-clause-value : goal.returns-then-not-has-clause-value
returns-then-not-has-clause-value c =
    end_text c.args.bytes.now c.loop-len.len (omega (arith, c.loop-len-test.true)) c.loop-len.invariant.bound (sym c.has.ensures ∙ c.if-not-has.true) ∙ sym c.loop-len.invariant.same

pub loop-len-preserved : goal.loop-len-preserved
loop-len-preserved c =
    let blank = sym c.has.ensures ∙ c.if-not-has.false in
    record {
      bound = omega (arith, c.loop-len.invariant.bound);
      same = c.loop-len.invariant.same ∙ end_blank c.args.bytes.now c.loop-len.len (omega (arith, c.loop-len-test.true)) c.loop-len.invariant.bound blank;
      ascii = λ _. blank-low _ blank;
    }

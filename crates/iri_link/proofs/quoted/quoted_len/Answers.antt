use Rattle.iri_link.proofs.Common.{◌∙◌, sym, arith}
use Rattle.iri_link.proofs.QuotedLemmas.{len_found, len_on, len_end}
use Rattle.iri_link.proofs.quoted.quoted_len.Goals as goal

pub returns-then-stands_free : goal.returns-then-stands_free
returns-then-stands_free c =
    len_found c.args.bytes.now c.loop-i.i c.loop-i.escaped c.loop-i-test.true c.loop-i.invariant (sym c.stands_free.ensures ∙ c.if-stands_free.true)

pub loop-i-preserved : goal.loop-i-preserved
loop-i-preserved c =
    rw c.stands_free-escaped.ensures
    (len_on c.args.bytes.now c.loop-i.i c.loop-i.escaped c.loop-i-test.true c.loop-i.invariant (sym c.stands_free.ensures ∙ c.if-stands_free.false))

pub returns : goal.returns
returns c = len_end c.args.bytes.now c.loop-i.i c.loop-i.escaped c.loop-i-test.false (omega (arith, c.loop-i.auto.i-end)) c.loop-i.invariant

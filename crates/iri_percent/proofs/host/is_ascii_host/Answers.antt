use Rattle.iri_percent.proofs.Common.{◌&&◌, ◌-◌, length, take, drop, ap, sym, ◌∙◌, arith, is_ascii_host}
use Rattle.iri_percent.proofs.hosts.AsciiHosts.{step, ascii_nil}
use Rattle.iri_percent.proofs.host.is_ascii_host.Goals as goal

pub returns-then-not-is_ascii_prefix : goal.returns-then-not-is_ascii_prefix
returns-then-not-is_ascii_prefix c =
    ap (λ b. b && is_ascii_host (take (length c.loop-rest.rest.now - 1) (drop 1 c.loop-rest.rest.now))) c.if-not-is_ascii_prefix.ensures
    ∙ sym (step c.loop-rest.rest.now (omega arith) c.loop-rest.invariant.whole).same
    ∙ c.loop-rest.invariant.same

pub loop-rest-preserved : goal.loop-rest-preserved
loop-rest-preserved c = record {
  whole = (step c.loop-rest.rest.now (omega arith) c.loop-rest.invariant.whole).whole;
  same =
      ap (λ b. b && is_ascii_host (take (length c.loop-rest.rest.now - 1) (drop 1 c.loop-rest.rest.now))) c.if-not-is_ascii_prefix.ensures
      ∙ sym (step c.loop-rest.rest.now (omega arith) c.loop-rest.invariant.whole).same
      ∙ c.loop-rest.invariant.same;
}

pub returns : goal.returns
returns c = sym (ascii_nil c.loop-rest.rest.now (omega arith)) ∙ c.loop-rest.invariant.same

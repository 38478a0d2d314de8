use Rattle.iri_link.proofs.Common.{◌∙◌, ap, sym, now_of}
use Rattle.iri_link.proofs.ShownLemmas.{last_chunk, plain_chunk, slash_chunk}
use Rattle.iri_link.proofs.quoted.cut_chunk.Goals as goal

pub returns-in-Some-past : goal.returns-in-Some-past
returns-in-Some-past c =
    slash_chunk c.args.raw.now c.cut.result.0.now c.cut.ensures.before c.in-Some.after.now c.in-Some-past.next.now
    (sym (ap now_of c.in-Some.is) ∙ c.cut.ensures.after) c.in-Some-past.ensures

pub returns-in-None-past : goal.returns-in-None-past
returns-in-None-past c =
    plain_chunk c.args.raw.now c.cut.result.0.now c.cut.ensures.before c.in-Some.after.now
    (sym (ap now_of c.in-Some.is) ∙ c.cut.ensures.after) c.in-None-past.ensures

pub returns-in-None : goal.returns-in-None
returns-in-None c = last_chunk c.args.raw.now c.cut.result.0.now c.cut.ensures.before (sym (ap now_of c.in-None.is) ∙ c.cut.ensures.after)

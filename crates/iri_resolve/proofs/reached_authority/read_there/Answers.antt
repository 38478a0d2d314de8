use Rattle.iri_resolve.proofs.Common.{Some, sym, ◌∙◌, ap, recompose_authority, authority_recomposed, now_of}
use Rattle.iri_resolve.proofs.reached_authority.read_there.Goals as goal

pub returns-clause-text : goal.returns-clause-text
returns-clause-text g c = ap Some (ap recompose_authority c.in_ok-read.ensures.parts ∙ authority_recomposed c.in-Some.authority.now)
    ∙ sym (ap now_of c.in-Some.is)

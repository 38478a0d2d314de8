use Rattle.iri_normal.proofs.Common.{◌∙◌, sym, ap, now_of}
use Rattle.iri_normal.proofs.normal_forms.ShownParts.{slash-told}
use Rattle.iri_normal.proofs.form.becomes_slash.Goals as goal

pub returns : goal.returns
returns c = c.are_empty.ensures ∙ sym (slash-told (now_of c.args.dropped) (now_of c.args.target.now.authority)
    c.args.target.now.path.base.now c.args.target.now.path.reference.now _ _ (ap now_of c.in-Some.is) (ap now_of c.in-Some-authority.is))

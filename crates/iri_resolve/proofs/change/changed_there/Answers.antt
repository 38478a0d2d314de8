use Rattle.iri_resolve.proofs.Common.{Some, sym, subst, string_bytes, bytes_of, change_of, WentThere}
use Rattle.iri_resolve.proofs.ReachedLemmas.{part-went}
use Rattle.iri_resolve.proofs.change.changed_there.Goals as goal

pub returns : goal.returns
returns g c =
    let f = change_of g.S.Spec.tests c.args.change c.args.i in
    subst (λ o. WentThere f c.in_ok-went.went (bytes_of o) (Some (string_bytes c.changed.new.text))) (sym c.in-Some.is)
    (part-went f c.in_ok-went.went (string_bytes c.in-Some.text) (string_bytes c.changed.new.text) c.in_ok-went.ensures)

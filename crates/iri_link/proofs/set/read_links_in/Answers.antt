use Rattle.iri_link.proofs.Common.{subst, MatchResult, IsReadIn}
use Rattle.iri_link.specs.Refusals.{RefusedBy}
use Rattle.iri_link.proofs.set.read_links_in.Goals as goal

pub returns : goal.returns
returns g c =
    let s = g.S.Spec.tests in
    subst (λ b. MatchResult c.read_links_against_in.result (IsReadIn s c.args.mode b c.args.field.now) (RefusedBy s c.args.field.now)) c.new.ensures
    c.read_links_against_in.ensures

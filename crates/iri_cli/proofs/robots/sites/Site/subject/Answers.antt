use Rattle.iri_cli.proofs.Common.{◌≡◌, Some}
use Rattle.iri_cli.specs.inside.Sites.{site_prefix}
use Rattle.iri_cli.proofs.RobotsLemmas.{site_subject, stripped}
use Rattle.iri_cli.proofs.robots.sites.Site.subject.Goals as goal

pub returns : goal.returns
returns c =
    let site = c.args.self.now in
    let prefix = c.as_str.result.now in
    let path = c.in_ok-strip_prefix.field-0.now in
    let begins : Some prefix ≡ site_prefix site.scheme site.authority = cc site.begins in
    site_subject site.scheme site.authority prefix c.args.target.now path c.subject_in.result site.parts begins
    (stripped c.args.target.now prefix path c.in_ok-strip_prefix.ensures.cases) c.subject_in.ensures

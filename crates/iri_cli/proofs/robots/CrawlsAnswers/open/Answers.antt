use Rattle.iri_cli.proofs.Common.{◌∙◌, CanonMode, refl, ap, string_bytes, subst, sym, record_texts, robots_rules, begun, IsRobotsAt, base_text}
use Rattle.iri_robots.specs.declared.robots.Robots.{Robots}
use Rattle.iri_cli.proofs.AlikeLaws.{robots_alike}
use Rattle.iri_cli.proofs.RobotsLemmas.{records_none}
use Rattle.iri_cli.proofs.robots.CrawlsAnswers.open.Goals as goal

pub returns : goal.returns
returns g c = λ line p.
    let s = g.S.Spec.tests in
    let crawler = c.args.crawler in
    let mode = crawler.setup.mode in
    let token = string_bytes crawler.robots.token in
    let site = c.in_ok-new.field-0 in
    let base = base_text c.args.resolver.now in
    let records = λ (r : Robots). record_texts r.records.items in
    let rules = robots_rules s mode token in
    subst (λ (r : Robots). IsRobotsAt s site.mode (string_bytes r.token) base site.scheme site.authority (records r) (begun rules line))
    (sym c.in_ok-new.ensures.0)
    (subst (λ (m : CanonMode). IsRobotsAt s m token base site.scheme site.authority (records crawler.robots) (begun rules line)) (sym c.in_ok-new.ensures.1)
    (record {
      rules = refl;
      alike = robots_alike s line _ g.met.S.Spec.lawful p mode token;
      site_is = c.in_ok-new.ensures.2;
      records_are = ap record_texts crawler.unfed ∙ sym records_none;
    }))

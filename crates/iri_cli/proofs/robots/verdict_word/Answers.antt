use Rattle.iri_cli.proofs.Common.{◌≡◌, ◌∙◌, ap, true, false, refl, string_bytes, split_of, split_text, record_texts}
use Rattle.iri_robots.specs.Records.{rules_for}
use Rattle.iri_types.specs.Texts.{text}
use Rattle.iri_cli.specs.inside.Sites.{is_of_site}
use Rattle.iri_cli.proofs.RobotsLemmas.{word_is}
use Rattle.iri_cli.proofs.robots.verdict_word.Goals as goal

pub returns-in-Some : goal.returns-in-Some
returns-in-Some g c =
    let site = c.args.site.now in
    word_is (rules_for (string_bytes site.robots.token) (record_texts site.robots.records.items)) site.scheme site.authority (text c.args.target)
    c.as_str.result.now c.in-Some.subject.now c.word_for.result.now c.verdict.result c.as_str.ensures.text c.in-Some.ensures.0 c.in-Some.ensures.1
    c.verdict.ensures c.word_for.ensures

pub returns-then-not-has : goal.returns-then-not-has
returns-then-not-has g c =
    let site = c.args.site.now in
    let is = c.has.ensures ∙ ap (λ t. is_of_site site.scheme site.authority (split_of t)) c.of-target.ensures in
    let there : is_of_site site.scheme site.authority (split_of (text c.args.target)) ≡ false = cc (is, c.if-not-has.true) in
    rw there refl

pub returns-in-Ok : goal.returns-in-Ok
returns-in-Ok g c =
    let site = c.args.site.now in
    let here : is_of_site site.scheme site.authority (split_of (split_text c.of-target.result)) ≡ true = cc (c.has.ensures, c.if-not-has.false) in
    word_is (rules_for (string_bytes site.robots.token) (record_texts site.robots.records.items)) site.scheme site.authority (text c.args.target)
    (split_text c.of-target.result) c.as_str-in-Ok.result.now c.word_for-in-Ok.result.now c.verdict-in-Ok.result c.of-target.ensures here
    (c.as_str-in-Ok.ensures ∙ c.in-Ok.ensures) c.verdict-in-Ok.ensures c.word_for-in-Ok.ensures

use Rattle.iri_robots.proofs.Common.{sym, ◌∙◌, subst, to_ascii_uppercase, IsPrefix}
use Rattle.std.proofs.Common.{get_or}
use Rattle.iri_robots.specs.declared.compared.Written.TheVariants.{Triplet}
use Rattle.iri_robots.proofs.Forms.{prefix_decoded, prefix_kept}
use Rattle.iri_robots.proofs.compared.triplet_prefix.Goals as goal

pub returns-in-Some : goal.returns-in-Some
returns-in-Some c =
    let r = c.requires in
    prefix_decoded c.args.text.now c.in-Some.c r.0 r.1 r.2 r.3 (sym c.decoded_char.ensures ∙ c.in-Some.is)

pub returns-in-None : goal.returns-in-None
returns-in-None c =
    let r = c.requires in
    let f = prefix_kept c.args.text.now r.0 r.1 r.2 r.3 (sym c.decoded_char.ensures ∙ c.in-None.is) in
    subst (λ x. IsPrefix c.args.text.now (Triplet x c.to_ascii_uppercase-in-None.result) 3) (sym c.to_ascii_uppercase.ensures.value)
    (subst (λ x. IsPrefix c.args.text.now (Triplet (to_ascii_uppercase (get_or c.args.text.now 1 0)) x) 3) (sym
    c.to_ascii_uppercase-in-None.ensures.value) f)

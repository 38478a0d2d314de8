use Rattle.iri_normal.proofs.Common.{◌++◌, ◌∙◌, [], ap, sym, subst, cond, ∥∥₁_elim, props, IsPrefix, delimited, now_of, split_of, base_text}
use Rattle.iri_normal.proofs.targets.PlainReferences.{base-rest}
use Rattle.iri_normal.proofs.resolver.FixedBaseResolver.before_query.Goals as goal

pub returns-then-self : goal.returns-then-self
returns-then-self g c =
    let s = g.S.Spec.tests in
    let t = base_text c.args.self.now in
    let p = c.args.self.now.prepared in
    let rest = ∥∥₁_elim c.args.self.now.base.view.valid (hlevel props)
    (λ none. base-rest s t c.cut_prefix.result.0.now c.cut_prefix.result.1.now g.met.S.Spec.lawful none c.cut_prefix.ensures.whole
    c.cut_prefix.ensures.prefix) in
    record {
      prefix_stays = subst (λ o. IsPrefix s (split_of t) (now_of o)) c.in_ok-prefix.was p.1;
      path_stays = p.3 c.if-not-self.false;
      query_stays = λ _. p.4 c.if-self.true;
      text = rest ∙ ap (λ b. (split_of t).path ++ cond b [] (delimited 63 (split_of t).query)) (sym c.if-has_query.false);
    }

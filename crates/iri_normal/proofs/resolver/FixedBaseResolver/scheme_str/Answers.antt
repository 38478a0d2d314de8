use Rattle.iri_normal.proofs.Common.{refl, ℕ, List, Option, None, Some, ∥∥₁_elim, props, sym, subst, now_of, Bor, IsSome, Parts}
use Rattle.iri_types.specs.inside.KindLaws.{absolute-scheme}
use Rattle.iri_normal.proofs.resolver.FixedBaseResolver.scheme_str.Goals as goal

pub unwrap-requires : goal.unwrap-requires
unwrap-requires g c =
    let base = c.args.self.now.base in
    there c.scheme.result (subst IsSome (sym c.scheme.ensures)
    (subst (λ (p : Parts). IsSome p.scheme) (sym c.parts.ensures.split)
    (∥∥₁_elim base.view.valid (hlevel props) (λ none. absolute-scheme g.S.Spec.tests g.met.S.Spec.lawful base.view.text.now none))))
  where
    there : (o : Option (Bor (List ℕ))) → IsSome (now_of o) → IsSome o
    there None h = h
    there (Some x) h = refl

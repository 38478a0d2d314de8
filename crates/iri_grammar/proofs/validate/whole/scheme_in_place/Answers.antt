use Rattle.iri_grammar.proofs.Common.{IsSome, is_some, Answers, now_of, Parts, split_of, parts, reference_fault}
use Rattle.std.proofs.Common.{◌≡◌, IfOk, Option, Some, None, Bor, List, ℕ, true, refl, subst, sym, ◌∙◌}
use Rattle.iri_grammar.proofs.faults.FaultLaws.{no_missing_scheme, splits_where_no_fault}
use Rattle.iri_grammar.proofs.validate.whole.scheme_in_place.Goals as goal

stands : (o : Option (Bor (List ℕ))) → is_some o ≡ true → IsSome (now_of o)
stands None h = cc
stands (Some x) h = refl

pub returns-then-is_some : goal.returns-then-is_some
returns-then-is_some g c =
    let s = g.S.Spec.tests in
    let t = c.args.s.now in
    let none = subst (λ r. Answers r (reference_fault s t)) c.in-Ok.is c.requires.fault in
    let same = subst (λ r. IfOk r (λ q. parts q ≡ split_of t)) c.in-Ok.is c.requires.value in
    no_missing_scheme s t (split_of t) (splits_where_no_fault s t none)
    (subst (λ (p : Parts). IsSome p.scheme) same
    (subst IsSome c.scheme.ensures (stands c.scheme.result (sym c.is_some.ensures ∙ c.if-is_some.true))))

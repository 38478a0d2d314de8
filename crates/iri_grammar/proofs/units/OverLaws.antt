-- A text is over a class exactly where units of the class spell it.
use Rattle.iri_grammar.proofs.Common.{◌≡◌, ℕ, Bool, true, false, cond, ◌&&◌, List, [], ◌∷◌, refl, sym, ap, subst, ◌∙◌, is_ascii_hexdigit}
use Rattle.iri_grammar.proofs.Common.{both, over, over_from}
use Rattle.iri_grammar.proofs.splits.CutLaws.{by_test}
use Rattle.iri_grammar.specs.Over.{IsOver, done, plain, triplet}

pub over-from_units : (p : ℕ → Bool) (cs : List ℕ) → p 37 ≡ false → IsOver p cs → over p cs ≡ true
unfolding over_from
over-from_units p cs n done = refl
over-from_units p cs n (plain c ds h r) =
    by_test c 37 (λ b. cond b (over_from p 2 ds) (p c && over_from p 0 ds) ≡ true) (λ e. let no : p c ≡ false = ap p e ∙ n in cc)
    (λ _. rw h (over-from_units p ds n r))
over-from_units p cs n (triplet a b ds ha hb r) = rw (ha, hb) (over-from_units p ds n r)

pub units-from_over : (p : ℕ → Bool) (cs : List ℕ) → over p cs ≡ true → IsOver p cs
unfolding over_from
units-from_over p [] h = done
units-from_over p (c ∷ []) h = by_test c 37 (λ b. cond b false (p c && true) ≡ true → IsOver p (c ∷ [])) (λ _ k. cc)
    (λ _ k. plain c [] (both (p c) true k).0 done) h
units-from_over p (c ∷ a ∷ []) h =
    by_test c 37 (λ b. cond b (is_ascii_hexdigit a && false) (p c && over_from p 0 (a ∷ [])) ≡ true → IsOver p (c ∷ a ∷ []))
    (λ _ k. let no = (both (is_ascii_hexdigit a) false k).1 in cc)
    (λ _ k. let parts = both (p c) (over_from p 0 (a ∷ [])) k in plain c (a ∷ []) parts.0 (units-from_over p (a ∷ []) parts.1)) h
units-from_over p (c ∷ a ∷ b ∷ cs) h =
    by_test c 37 (λ v. cond v (is_ascii_hexdigit a && (is_ascii_hexdigit b && over_from p 0 cs)) (p c && over_from p 0 (a ∷ b ∷ cs)) ≡ true
    → IsOver p (c ∷ a ∷ b ∷ cs))
    (λ e k.
    let one = both (is_ascii_hexdigit a) (is_ascii_hexdigit b && over_from p 0 cs) k in
    let two = both (is_ascii_hexdigit b) (over_from p 0 cs) one.1 in
    subst (λ n. IsOver p (n ∷ a ∷ b ∷ cs)) (sym e) (triplet a b cs one.0 two.0 (units-from_over p cs two.1)))
    (λ _ k. let parts = both (p c) (over_from p 0 (a ∷ b ∷ cs)) k in
    plain c (a ∷ b ∷ cs) parts.0 (units-from_over p (a ∷ b ∷ cs) parts.1)) h

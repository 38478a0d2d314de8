-- How a reading of a field value goes over a target.
use Rattle.iri_link.proofs.Common.{◌≡◌, ℕ, length, ◌==◌, first_passes, is_blank, Option, true, false, cond, not, ◌&&◌, List, [], ◌∷◌, ◌++◌, Some, None, refl, sym, ap, ◌∙◌, Tests, before}
use Rattle.iri_link.proofs.Common.{after, lacks, reference_fault, fault_from, target_fault, earlier, before_link, in_target, after_param}
use Rattle.iri_grammar.specs.declared.error.ErrorKind.{ErrorKind}
use Rattle.iri_link.specs.Fault.{told_target}
use Rattle.iri_link.specs.declared.error.LinkKind.TheVariants.{NoTarget, OpenTarget}
use Rattle.iri_link.proofs.PhaseLemmas.{target-given}
use Rattle.iri_grammar.proofs.splits.CutLaws.{by_test, before-delimited, after-delimited}

pub some-lacks : (c : ℕ) (t b : List ℕ) → Some b ≡ after c t → lacks c t ≡ false
some-lacks c [] b h = cc
some-lacks c (x ∷ xs) b h = by_test x c (λ v. Some b ≡ cond v (Some xs) (after c xs) → (not v && lacks c xs) ≡ false) (λ _ _. refl) (λ _ k. some-lacks c xs b k) h

pub none-lacks : (c : ℕ) (t : List ℕ) → None ≡ after c t → lacks c t ≡ true
none-lacks c [] h = refl
none-lacks c (x ∷ xs) h = by_test x c (λ v. None ≡ cond v (Some xs) (after c xs) → (not v && lacks c xs) ≡ true) (λ _ k. cc) (λ _ k. none-lacks c xs k) h

pub open_goes : (s : Tests) (t : List ℕ) → fault_from s before_link (60 ∷ t) ≡ earlier (target_fault s t) (fault_from s in_target t)
unfolding fault_from
open_goes s t = refl

-- a target that is a reference has no fault
pub closed_goes : (s : Tests) (t rest : List ℕ) → lacks 62 t ≡ true → reference_fault s t ≡ None
    → fault_from s before_link (60 ∷ (t ++ 62 ∷ rest)) ≡ fault_from s after_param rest
closed_goes s t rest closed valid =
    let text = t ++ 62 ∷ rest in
    let h : Some rest ≡ after 62 text = sym (after-delimited 62 t (Some rest) closed) in
    let has = some-lacks 62 text rest h in
    let none : reference_fault s (before 62 text) ≡ None = ap (reference_fault s) (before-delimited 62 t (Some rest) closed) ∙ valid in
    let right : target_fault s text ≡ None = rw (has, none) refl in
    open_goes s text ∙ (ap (λ o. earlier o (fault_from s in_target text)) right ∙ ap (λ o. o.0) (target-given s t rest closed))

pub target_none : (r : List ℕ) (o : Option ErrorKind) → told_target o r ≡ None → o ≡ None
target_none r None h = refl
target_none r (Some k) h = cc

-- a target that doesn't end
pub target_open : (s : Tests) (w t : List ℕ) → w ≡ 60 ∷ t → None ≡ after 62 t → fault_from s before_link w ≡ Some (record { kind = OpenTarget; rest = w })
target_open s w t begun h =
    let no = none-lacks 62 t h in
    let wrong : target_fault s t ≡ Some (record { kind = OpenTarget; rest = 60 ∷ t }) = rw no refl in
    ap (fault_from s before_link) begun ∙ (open_goes s t ∙ (ap (λ o. earlier o (fault_from s in_target t)) wrong ∙ ap (λ r. Some (record { kind = OpenTarget; rest = r })) (sym begun)))

-- where neither a blank nor `<` nor `,` comes first
pub no_target : (s : Tests) (t : List ℕ) → first_passes is_blank t ≡ false → first_passes (λ c. c == 60) t ≡ false → first_passes (λ c. c == 44) t ≡ false → (length t == 0) ≡ false
    → fault_from s before_link t ≡ Some (record { kind = NoTarget; rest = t })
unfolding fault_from
no_target s [] a b d h = cc
no_target s (c ∷ cs) a b d h = rw (a, d, b) refl

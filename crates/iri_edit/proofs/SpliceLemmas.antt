-- Parts of a text replaced where they stand.
use Rattle.iri_edit.proofs.Common.{◌≡◌, ℕ, ◌+◌, List, [], ◌∷◌, ◌++◌, length, take, drop, refl, sym, ◌∙◌, ap, subst, arith, append_assoc}
use Rattle.iri_edit.proofs.Common.{length-append, slice_range, Tests, spliced, with_host, with_password, without_password, IsPasswordAt}
use Rattle.iri_edit.proofs.Common.{IsHostAt}
use Rattle.std.proofs.lemmas.Grind.{common_steps}
use Rattle.std.proofs.Math.Seq.{take-append_seam, drop-append_seam}

pub spliced-at : (prefix x back new t : List ℕ) (start end : ℕ) → prefix ++ (x ++ back) ≡ t → length prefix ≡ start → start + length x ≡ end
    → spliced t start end new ≡ prefix ++ (new ++ back)
spliced-at prefix x back new t start end text low high =
    let ahead : take start t ≡ prefix = ap (take start) (sym text)
    ∙ (ap (λ n. take n (prefix ++ (x ++ back))) (sym low) ∙ take-append_seam prefix (x ++ back)) in
    let n : end ≡ length (prefix ++ x) = omega (arith, length-append prefix x) in
    let rest : drop end t ≡ back = ap (drop end) (sym (append_assoc prefix x back ∙ text))
    ∙ (ap (λ n. drop n ((prefix ++ x) ++ back)) n ∙ drop-append_seam (prefix ++ x) back) in
    ap (λ z. z ++ (new ++ drop end t)) ahead ∙ ap (λ z. prefix ++ (new ++ z)) rest

pub password-spliced : (t : List ℕ) (colon end : ℕ) → IsPasswordAt t colon end → (w : List ℕ)
    → spliced t (colon + 1) end w ≡ with_password t w
password-spliced t colon end i w =
    let prefix = i.prefix ++ 58 ∷ [] in
    let text : prefix ++ (i.password ++ i.back) ≡ t = append_assoc i.prefix (58 ∷ []) (i.password ++ i.back) ∙ i.text in
    let low : length prefix ≡ colon + 1 = length-append i.prefix (58 ∷ []) ∙ ap (λ n. n + 1) i.at_colon in
    spliced-at prefix i.password i.back w t (colon + 1) end text low i.at_end
    ∙ (append_assoc i.prefix (58 ∷ []) (w ++ i.back) ∙ sym (i.edits w))

pub password-removed : (t : List ℕ) (colon end : ℕ) → IsPasswordAt t colon end → spliced t colon end [] ≡ without_password t
password-removed t colon end i =
    let high : colon + length (58 ∷ i.password) ≡ end = omega (arith, i.at_end) in
    spliced-at i.prefix (58 ∷ i.password) i.back [] t colon end i.text i.at_colon high ∙ sym i.removes

pub host-spliced : (s : Tests) (t h : List ℕ) (start : ℕ) (i : IsHostAt s t h start) (new : List ℕ)
    → spliced t start (start + length h) new ≡ with_host t new
host-spliced s t h start i new = spliced-at i.prefix h i.back new t start (start + length h) i.text i.at refl ∙ sym (i.edits new)

-- what was put in is what stands there
pub slice-there : (prefix new back : List ℕ) (start : ℕ) → length prefix ≡ start
    → slice_range (prefix ++ (new ++ back)) start (start + length new) ≡ new
slice-there prefix new back start e = subst (λ n. slice_range (prefix ++ (new ++ back)) n (n + length new) ≡ new) e at_start
  where
    at_start : slice_range (prefix ++ (new ++ back)) (length prefix) (length prefix + length new) ≡ new
    at_start = grind (arith, common_steps, drop-append_seam prefix (new ++ back), take-append_seam new back)

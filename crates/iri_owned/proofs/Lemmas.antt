-- A list with a part of it overwritten, and what came after it moved up.
use Rattle.std.proofs.Common.{◌≡◌, ℕ, ◌+◌, ◌-◌, ◌≤◌, List, ◌++◌, take, drop, length, sym, ◌∙◌, ap, subst, arith, append_assoc}
use Rattle.std.proofs.Math.Seq.{paste}
use Rattle.std.proofs.lemmas.List.{take_all, drop-drop, length-drop}
use Rattle.std.proofs.lemmas.List.Edits.{length-paste, drop-paste, take-paste}
use Rattle.std.specs.Str.{IsUtf8, IsCharBoundary}
use Rattle.std.proofs.lemmas.Str.{IsUtf8-append, IsUtf8-take, IsUtf8-drop}
use Rattle.iri_owned.specs.Spliced.{spliced}

module _ (old new : List ℕ) (start end : ℕ) (fits : start + length new ≤ end) (inside : end ≤ length old) where
  pub one : List ℕ
  one = paste old start new (length new)

  length-one : length one ≡ length old
  unfolding one
  length-one = length-paste old start new (length new) (omega arith) (omega arith)

  -- what stands before and in the part
  prefix : take (start + length new) one ≡ take start old ++ new
  unfolding one
  prefix = take-paste old start new (length new) (omega arith) (omega arith)
      ∙ ap (λ z. take start old ++ z) (take_all (length new) new (omega arith))

  -- what comes after the part
  rest : drop end one ≡ drop end old
  unfolding one
  rest =
      let at = start + length new in
      let e : at + (end - at) ≡ end = omega arith in
      subst (λ n. drop n one ≡ drop n old) e
      (sym (drop-drop (end - at) at one) ∙ (ap (drop (end - at)) (drop-paste old start new (length new) (omega arith) (omega arith))
      ∙ drop-drop (end - at) at old))

  pub overwritten : take (start + length new + (length old - end)) (paste one (start + length new) (drop end one) (length old - end))
      ≡ spliced old start end new
  overwritten =
      let n = length old - end in
      let tail : length (drop end one) ≡ n = length-drop end one ∙ ap (λ k. k - end) length-one in
      let inside_one : start + length new ≤ length one = rw length-one (omega arith) in
      take-paste one (start + length new) (drop end one) n inside_one (omega arith)
      ∙ (ap (λ z. take (start + length new) one ++ z) (take_all n (drop end one) (omega arith) ∙ rest)
      ∙ (ap (λ z. z ++ drop end old) prefix ∙ append_assoc (take start old) new (drop end old)))

pub spliced-utf8 : (old new : List ℕ) (start end : ℕ) → IsUtf8 old → IsUtf8 new → IsCharBoundary old start → IsCharBoundary old end
    → IsUtf8 (spliced old start end new)
spliced-utf8 old new start end u v low high = IsUtf8-append (take start old) _ (IsUtf8-take old start u low)
    (IsUtf8-append new (drop end old) v (IsUtf8-drop old end u high))

-- the same in steps: bytes written, the rest moved up, and the end cut off
pub overwritten-by : (old new w x y : List ℕ) (start end n m : ℕ) → start + length new ≤ end → end ≤ length old → n ≡ length old
    → m ≡ length old
    → w ≡ paste old start new (length new) → x ≡ paste w (start + length new) (drop end w) (n - end)
    → y ≡ take (start + length new + (m - end)) x
    → y ≡ spliced old start end new
unfolding one
overwritten-by old new w x y start end n m fits inside en em ew ex ey =
    let at = start + length new in
    let step : x ≡ paste (paste old start new (length new)) at (drop end (paste old start new (length new))) (length old - end) =
    ex ∙ (ap (λ k. paste w at (drop end w) (k - end)) en ∙ ap (λ z. paste z at (drop end z) (length old - end)) ew) in
    ey ∙ (ap (λ k. take (at + (k - end)) x) em ∙ (ap (take (at + (length old - end))) step ∙ overwritten old new start end fits inside))

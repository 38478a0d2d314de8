-- Where a fragment stands in a text.
use Rattle.iri_edit.proofs.Common.{◌≡◌, ℕ, ◌+◌, ◌-◌, ◌≤◌, true, List, [], ◌∷◌, ◌++◌, length, take, drop, Option, Some, None, refl, sym, ◌∙◌}
use Rattle.iri_edit.proofs.Common.{ap, subst, append_assoc, length-append, arith, IsCharBoundary, chars, is_utf8, append-nil, Tests, IsSpec}
use Rattle.iri_edit.proofs.Common.{is_fragment, before, after, delimited, joined, over_from, recompose, scheme_text, authority_text}
use Rattle.iri_edit.proofs.Common.{split_of, reference_fault, with_fragment, IsFragmentAt, spliced}
use Rattle.std.proofs.lemmas.List.{length-drop, length-take-le}
use Rattle.std.proofs.lemmas.Str.{IsCharBoundary-end}
use Rattle.iri_grammar.proofs.faults.FaultLaws.{splits_where_no_fault}
use Rattle.iri_grammar.proofs.faults.KindLaws.{splits_without_fragment}
use Rattle.iri_edit.proofs.PlaceLemmas.{ascii-boundary}
use Rattle.iri_edit.proofs.SpliceLemmas.{spliced-at}

module _ (s : Tests) (k : IsSpec s) (t : List ℕ) (h : reference_fault s t ≡ None) where
  pub fragment-removed : with_fragment t None ≡ before 35 t
  unfolding with_fragment
  fragment-removed = (splits_without_fragment s k t (split_of t) (splits_where_no_fault s t h)).text

  after-prefix : (f : List ℕ) → with_fragment t (Some f) ≡ with_fragment t None ++ 35 ∷ f
  unfolding with_fragment recompose
  after-prefix f = regroup (scheme_text (split_of t).scheme) (authority_text (split_of t).authority) (split_of t).path
      (delimited 63 (split_of t).query) (35 ∷ f)
    where
      regroup : (a b c d e : List ℕ) → a ++ (b ++ (c ++ (d ++ e))) ≡ (a ++ (b ++ (c ++ (d ++ [])))) ++ e
      regroup a b c d e = simp (append_assoc, append-nil)

  pub fragment-put : (f : List ℕ) → with_fragment t (Some f) ≡ before 35 t ++ 35 ∷ f
  fragment-put f = after-prefix f ∙ ap (λ z. z ++ 35 ∷ f) fragment-removed

pub fragment-boundary : (t : List ℕ) → IsCharBoundary t (length (before 35 t))
fragment-boundary t = at (after 35 t) (joined 35 t)
  where
    at : (o : Option (List ℕ)) → before 35 t ++ delimited 35 o ≡ t → IsCharBoundary t (length (before 35 t))
    at None e = subst (λ z. IsCharBoundary t (length z)) (sym (sym (append-nil (before 35 t)) ∙ e)) (IsCharBoundary-end t)
    at (Some x) e = ascii-boundary t (before 35 t) x 35 (omega arith) e

pub fragment-place : (t : List ℕ) → IsFragmentAt t (length (before 35 t)) (length t)
fragment-place t =
    let all : before 35 t ++ (delimited 35 (after 35 t) ++ []) ≡ t =
    ap (λ z. before 35 t ++ z) (append-nil (delimited 35 (after 35 t))) ∙ joined 35 t in
    let n : length (before 35 t) + length (delimited 35 (after 35 t)) ≡ length t =
    sym (length-append (before 35 t) (delimited 35 (after 35 t))) ∙ ap length (joined 35 t) in
    record {
      ordered = omega (arith, n);
      at_end = refl;
      low = fragment-boundary t;
      high = IsCharBoundary-end t;
      replaces = λ new. spliced-at (before 35 t) (delimited 35 (after 35 t)) [] new t (length (before 35 t)) (length t) all refl n
          ∙ ap (λ z. before 35 t ++ z) (append-nil new);
    }

-- a text put after another
pub spliced-end : (t new : List ℕ) (n : ℕ) → n ≡ length t → spliced t n n new ≡ t ++ new
spliced-end t new n e =
    let all : t ++ ([] ++ []) ≡ t = append-nil t in
    spliced-at t [] [] new t n n all (sym e) (omega arith) ∙ ap (λ z. t ++ z) (append-nil new)

-- a fragment put after a text that ends with a number sign
pub put-after : (s : Tests) → IsSpec s → (t : List ℕ) → reference_fault s t ≡ None → (signed f : List ℕ) (n : ℕ)
    → signed ≡ before 35 t ++ 35 ∷ [] → n ≡ length signed → spliced signed n n f ≡ with_fragment t (Some f)
put-after s k t h signed f n e l = spliced-end signed f n l
    ∙ (ap (λ z. z ++ f) e ∙ (append_assoc (before 35 t) (35 ∷ []) f ∙ sym (fragment-put s k t h f)))

-- how long a text is with a fragment
pub put-length : (s : Tests) → IsSpec s → (t : List ℕ) → reference_fault s t ≡ None → (start end : ℕ) → IsFragmentAt t start end
    → (f : List ℕ) → length (with_fragment t (Some f)) ≡ start + 1 + length f
put-length s k t h start end at f =
    let within : start ≤ length t = omega (arith, at.ordered, at.at_end) in
    let low : length (take start t) ≡ start = length-take-le start t within in
    let rest : length (drop end t) ≡ length t - end = length-drop end t in
    let all : length (with_fragment t (Some f)) ≡ length (spliced t start end (35 ∷ f)) =
    ap length (fragment-put s k t h f ∙ sym (at.replaces (35 ∷ f))) in
    let ahead = length-append (take start t) ((35 ∷ f) ++ drop end t) in
    let back = length-append (35 ∷ f) (drop end t) in
    omega (arith, low, rest, all, ahead, back, at.at_end)

pub empty_fragment : (s : Tests) → is_fragment s [] ≡ true
unfolding over_from chars is_utf8
empty_fragment s = refl

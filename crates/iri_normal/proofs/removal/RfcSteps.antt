-- The steps of dot removal have one result, which the function over segments gives.
use Rattle.iri_normal.proofs.Common.{◌≡◌, ℕ, zero, suc, ◌+◌, ◌≤◌, true, false, cond, List, [], ◌∷◌, ◌++◌, Option, Some, None, length, refl}
use Rattle.iri_normal.proofs.Common.{sym, ◌∙◌, ap, subst, append-nil, arith, length-append, ◌==◌, before, after, by_test, joined, pieces}
use Rattle.iri_normal.proofs.Common.{onto, more_pieces, pieces_cut, is_dot_segment, is_two_dots, without_last, dots}
use Rattle.iri_grammar.specs.Cut.{from}
use Rattle.iri_normal.proofs.removal.Output.{text_after, text_from, dots-text}
use Rattle.iri_normal.proofs.segments.DotKinds.{pieces-some, pieces-slash, pieces-whole, dot_segment-lacks, nothing-is_no_dot}
use Rattle.iri_normal.specs.DotRemoval.{first_segment, Step, LeadsTo, IsWithoutDots}
use Rattle.iri_normal.specs.DotRemoval.LeadsTo.{ended, onward}
use Rattle.iri_normal.specs.DotRemoval.Step.{remove_prefix, replace, replace_last, remove_all, move_segment}
use Rattle.std.proofs.Common.{◌↔◌}

-- what steps from an input and an output lead to
abbrev result_of : List ℕ → List ℕ → List ℕ
result_of input output = text_from output (pieces 47 input)

nothing_more : (output : List ℕ) → result_of [] output ≡ output
nothing_more output = rw nothing-is_no_dot (append-nil output)

-- after the first segment the input begins with a slash, or ends
at_slash : (output xs : List ℕ) → text_after output (more_pieces 47 (after 47 xs)) ≡ result_of (from 47 xs) output
at_slash output [] = sym (nothing_more output)
at_slash output (x ∷ xs) =
    elim (x == 47) as (λ b. (x == 47) ≡ b → text_after output (more_pieces 47 (cond b (Some xs) (after 47 xs)))
    ≡ text_from output (pieces 47 (cond b (x ∷ xs) (from 47 xs)))) [
      | true ↦ λ e. rw (e, nothing-is_no_dot) (ap (λ o. text_after o (pieces 47 xs)) (sym (append-nil output)))
      | false ↦ λ _. at_slash output xs
    ] refl

moved : (x : ℕ) (xs output : List ℕ) → is_dot_segment (first_segment x xs) ≡ false
    → result_of (x ∷ xs) output ≡ result_of (from 47 xs) (output ++ x ∷ before 47 xs)
moved x xs output h =
    by_test x 47 (λ b. is_dot_segment (cond b (before 47 xs) (x ∷ before 47 xs)) ≡ false
    → text_from output (cond b ([] ∷ pieces 47 xs) (onto x (pieces 47 xs))) ≡ result_of (from 47 xs) (output ++ x ∷ before 47 xs))
    (λ e k. rw (nothing-is_no_dot, pieces_cut 47 xs, k, append-nil output, e) (at_slash (output ++ 47 ∷ before 47 xs) xs))
    (λ _ k. rw (pieces_cut 47 xs, k) (at_slash (output ++ x ∷ before 47 xs) xs))
    h

-- no step changes what is led to
pub step-keeps : (i o j p : List ℕ) → Step i o j p → text_from o (pieces 47 i) ≡ text_from p (pieces 47 j)
step-keeps i o j p (remove_prefix d h e f) = rw (e, pieces-slash d j (dot_segment-lacks d h), h, f) refl
step-keeps i o j p (replace d rest h e f g) =
    let r = pieces-some rest in
    rw (
      e,
      f,
      g,
      pieces-slash d rest (dot_segment-lacks d h),
      nothing-is_no_dot,
      h,
      r.whole,
      append-nil o,
      append-nil (cond (is_two_dots d) (without_last o) o),
    ) refl
step-keeps i o j p (replace_last d h e f g) = rw (
  e,
  f,
  g,
  pieces-whole d (dot_segment-lacks d h),
  nothing-is_no_dot,
  h,
  append-nil o,
  append-nil (cond (is_two_dots d) (without_last o) o),
) refl
step-keeps i o j p (remove_all h f g) = rw (f, g, pieces-whole i (dot_segment-lacks i h), h) (sym (nothing_more o))
step-keeps i o j p (move_segment x xs h e f g) = rw (e, f, g) (moved x xs o h)

-- ---- there is a step from each input that isn't empty
record Progress (input output : List ℕ) : Type 0 where
  next_input : List ℕ
  next_output : List ℕ
  step : Step input output next_input next_output
  shorter : length next_input + 1 ≤ length input

from-length : (xs : List ℕ) → length (from 47 xs) ≤ length xs
from-length [] = omega arith
from-length (x ∷ xs) =
    elim (x == 47) as (λ b. length (cond b (x ∷ xs) (from 47 xs)) ≤ length (x ∷ xs)) [
      | true ↦ omega arith
      | false ↦ let r = from-length xs in omega arith
    ]

pub some_byte : (d : List ℕ) → is_dot_segment d ≡ true → 1 ≤ length d
some_byte [] h = let n : false ≡ true = rw nothing-is_no_dot at h in cc
some_byte (x ∷ xs) h = omega arith

-- a dot segment after a slash
progress_after : (xs output : List ℕ) (o : Option (List ℕ)) → after 47 xs ≡ o → is_dot_segment (before 47 xs) ≡ true
    → Progress (47 ∷ xs) output
progress_after xs output None e h =
    let whole : before 47 xs ≡ xs = sym (append-nil (before 47 xs)) ∙ (rw e at (joined 47 xs)) in
    let dot : is_dot_segment xs ≡ true = rw whole at h in
    let l = some_byte xs dot in
    record {
      next_input = 47 ∷ [];
      next_output = cond (is_two_dots xs) (without_last output) output;
      step = replace_last xs dot refl refl refl;
      shorter = omega arith;
    }
progress_after xs output (Some r) e h =
    let d = before 47 xs in
    let whole : 47 ∷ xs ≡ 47 ∷ (d ++ 47 ∷ r) = ap (λ ys. 47 ∷ ys) (sym (rw e at (joined 47 xs))) in
    record {
      next_input = 47 ∷ r;
      next_output = cond (is_two_dots d) (without_last output) output;
      step = replace d r h whole refl refl;
      shorter = omega (arith, ap length whole, length-append d (47 ∷ r));
    }

-- a dot segment at the start
progress_prefix : (x : ℕ) (xs output : List ℕ) (o : Option (List ℕ)) → after 47 xs ≡ o → is_dot_segment (x ∷ before 47 xs) ≡ true
    → Progress (x ∷ xs) output
progress_prefix x xs output None e h =
    let whole : before 47 xs ≡ xs = sym (append-nil (before 47 xs)) ∙ (rw e at (joined 47 xs)) in
    record { next_input = []; next_output = output; step = remove_all (rw whole at h) refl refl; shorter = omega arith }
progress_prefix x xs output (Some r) e h =
    let d = before 47 xs in
    let whole : x ∷ xs ≡ x ∷ (d ++ 47 ∷ r) = ap (λ ys. x ∷ ys) (sym (rw e at (joined 47 xs))) in
    record {
      next_input = r;
      next_output = output;
      step = remove_prefix (x ∷ d) h whole refl;
      shorter = omega (arith, ap length whole, length-append d (47 ∷ r));
    }

progress : (x : ℕ) (xs output : List ℕ) → Progress (x ∷ xs) output
progress x xs output =
    elim (is_dot_segment (first_segment x xs)) as (λ b. is_dot_segment (first_segment x xs) ≡ b → Progress (x ∷ xs) output) [
      | true ↦ λ h. by_test x 47 (λ b. is_dot_segment (cond b (before 47 xs) (x ∷ before 47 xs)) ≡ true → Progress (x ∷ xs) output)
          (λ e k. rw e (progress_after xs output (after 47 xs) refl k))
          (λ _ k. progress_prefix x xs output (after 47 xs) refl k)
          h
      | false ↦ λ h. let l = from-length xs in record {
        next_input = from 47 xs;
        next_output = output ++ x ∷ before 47 xs;
        step = move_segment x xs h refl refl refl;
        shorter = omega arith;
      }
    ] refl

-- ---- so steps lead to one result
leads : (n : ℕ) (input output : List ℕ) → length input ≤ n → LeadsTo (text_from output (pieces 47 input)) input output
leads n [] output h = ended [] output refl (sym (nothing_more output))
leads zero (x ∷ xs) output h = absurd (omega arith)
leads (suc n) (x ∷ xs) output h =
    let g = progress x xs output in
    onward (x ∷ xs) output g.next_input g.next_output g.step
    (subst (λ r. LeadsTo r g.next_input g.next_output) (sym (step-keeps (x ∷ xs) output g.next_input g.next_output g.step))
    (leads n g.next_input g.next_output (omega (arith, g.shorter))))

led : (result input output : List ℕ) → LeadsTo result input output → text_from output (pieces 47 input) ≡ result
led result input output (ended i o e f) = rw e (nothing_more o ∙ f)
led result input output (onward i o j p s t) = step-keeps i o j p s ∙ led result j p t

pub one_result : (path result : List ℕ) → IsWithoutDots path result ↔ (dots path ≡ result)
one_result path result = (
  λ t. sym (dots-text path) ∙ led result path [] t,
  λ e. subst (λ r. LeadsTo r path []) (dots-text path ∙ e) (leads (length path) path [] (omega arith)),
)

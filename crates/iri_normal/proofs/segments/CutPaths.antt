-- Paths cut where a segment ends.
use Rattle.iri_normal.proofs.Common.{◌≡◌, ℕ, true, false, ◌||◌, List, [], ◌∷◌, ◌++◌, refl, sym, ◌∙◌, ap, arith, append_assoc, append-nil}
use Rattle.iri_normal.proofs.Common.{or-false, is_empty, pieces, ends_at_slash, is_dot_segment, any_dot_segment, has_dot_segment}
use Rattle.iri_normal.proofs.segments.Slashes.{end_slash}
use Rattle.iri_normal.proofs.segments.DotKinds.{nothing-is_no_dot, pieces-append}
use Rattle.std.proofs.Math.Bool.{or_assoc}

-- the segments of a text that ends with a slash, or is empty: those of what follows come after them
pub record Ended (t : List ℕ) : Type 0 where
  pub segments : List (List ℕ)
  pub whole : (m : List ℕ) → pieces 47 (t ++ m) ≡ segments ++ pieces 47 m

pub ended : (t : List ℕ) → ends_at_slash t ≡ true → Ended t
ended [] h = record { segments = []; whole = λ m. refl }
ended (x ∷ xs) h =
    let e = end_slash (x ∷ xs) h (omega arith) in
    record {
      segments = pieces 47 e.prefix;
      whole = λ m. ap (λ l. pieces 47 (l ++ m)) e.whole ∙ (ap (pieces 47) (append_assoc e.prefix (47 ∷ []) m) ∙ pieces-append e.prefix m);
    }

pub alone : (t : List ℕ) (e : Ended t) → pieces 47 t ≡ e.segments ++ [] ∷ []
alone t e = ap (pieces 47) (sym (append-nil t)) ∙ e.whole []

-- ---- dot segments
any_append : (xs ys : List (List ℕ)) → any_dot_segment (xs ++ ys) ≡ (any_dot_segment xs || any_dot_segment ys)
any_append [] ys = refl
any_append (x ∷ xs) ys = ap (λ b. is_dot_segment x || b) (any_append xs ys)
    ∙ sym (or_assoc (is_dot_segment x) (any_dot_segment xs) (any_dot_segment ys))

pub nothing-plain : has_dot_segment [] ≡ false
nothing-plain = rw nothing-is_no_dot refl

pub dot_in_two : (f p : List ℕ) → ends_at_slash f ≡ true → has_dot_segment (f ++ p) ≡ (has_dot_segment f || has_dot_segment p)
dot_in_two f p h =
    let e = ended f h in
    let first : has_dot_segment f ≡ any_dot_segment e.segments =
    ap any_dot_segment (alone f e) ∙ (any_append e.segments ([] ∷ [])
    ∙ (ap (λ b. any_dot_segment e.segments || b) nothing-plain ∙ or-false (any_dot_segment e.segments))) in
    ap any_dot_segment (e.whole p) ∙ (any_append e.segments (pieces 47 p) ∙ ap (λ b. b || has_dot_segment p) (sym first))

pub dot_in_parts : (f p : List ℕ) → (is_empty p || ends_at_slash f) ≡ true
    → has_dot_segment (f ++ p) ≡ (has_dot_segment f || has_dot_segment p)
dot_in_parts f [] h = ap has_dot_segment (append-nil f)
    ∙ sym (ap (λ b. has_dot_segment f || b) nothing-plain ∙ or-false (has_dot_segment f))
dot_in_parts f (x ∷ xs) h = dot_in_two f (x ∷ xs) h

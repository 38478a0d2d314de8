-- An IPv6 text read from the left, part by part.
use Rattle.iri_grammar.proofs.Common.{◌≡◌, ◌≢◌, ℕ, ◌+◌, Bool, true, false, not, ◌&&◌, List, [], ◌∷◌, ◌++◌, Option, Some, None}
use Rattle.iri_grammar.proofs.Common.{refl, sym, subst, ◌∙◌, ap, arith, ◌==◌, nat_lt, before, after, lacks, begins, delimited}
use Rattle.iri_grammar.proofs.Common.{append-nil, eqb-true, false_from_ne_true, pieces, is_group, are_groups, are_groups_or_ipv4}
use Rattle.iri_grammar.proofs.Common.{length, group_count, before_double, after_double, group_texts, is_ipv6_around, is_ipv6, is_whole, is_whole_around}
use Rattle.iri_grammar.proofs.Common.{completes}
use Rattle.std.proofs.Common.{ap₂}
use Rattle.iri_grammar.proofs.faults.Scans.{before-lacks}
use Rattle.iri_grammar.proofs.hosts.PiecesLaws.{pieces_cut}
use Rattle.iri_grammar.proofs.hosts.Ipv6Laws.{group_is_no_ipv4, one_piece, pieces_before, double_before, none_before, none_alone}
use Rattle.iri_grammar.proofs.splits.CutLaws.{joined}
use Rattle.iri_grammar.specs.Ipv4.{is_hundreds}

-- ---- a group before other parts
first_group : (sh : Bool) (n : ℕ) (p q : List ℕ) (ps : List (List ℕ)) → is_group p ≡ true
    → is_whole sh n (p ∷ q ∷ ps) ≡ is_whole sh (n + 1) (q ∷ ps)
first_group sh n p q ps g =
    let e : n + (1 + group_count (q ∷ ps)) ≡ n + 1 + group_count (q ∷ ps) = omega arith in
    rw (g, group_is_no_ipv4 p g, e) refl

group_around : (n : ℕ) (p q : List ℕ) (ps : List (List ℕ)) (back : Option (List ℕ)) → is_group p ≡ true
    → is_whole_around n (p ∷ q ∷ ps) back ≡ is_whole_around (n + 1) (q ∷ ps) back
group_around n p q ps None g = first_group false n p q ps g
group_around n p q ps (Some b) g =
    let e : n + (1 + group_count (q ∷ ps)) ≡ n + 1 + group_count (q ∷ ps) = omega arith in
    rw (g, group_is_no_ipv4 p g, e) refl

other_around : (n : ℕ) (p q : List ℕ) (ps : List (List ℕ)) (back : Option (List ℕ)) → is_group p ≡ false
    → is_whole_around n (p ∷ q ∷ ps) back ≡ false
other_around n p q ps None g = rw g refl
other_around n p q ps (Some b) g = rw g refl

-- ---- the part at the start
no_colon : (t : List ℕ) → ((r : List ℕ) → t ≢ 58 ∷ r) → begins 58 t ≡ false
no_colon [] h = refl
no_colon (x ∷ xs) h = false_from_ne_true (x == 58) (λ e. h xs (ap (λ c. c ∷ xs) (eqb-true x 58 e)))

cut_text : (t r : List ℕ) → after 58 t ≡ Some r → t ≡ before 58 t ++ 58 ∷ r
cut_text t r e = sym (subst (λ o. before 58 t ++ delimited 58 o ≡ t) e (joined 58 t))

pub at_last : (sh : Bool) (n : ℕ) (t : List ℕ) → after 58 t ≡ None → completes sh n t ≡ is_whole sh n (before 58 t ∷ [])
at_last sh n t e =
    let same : before 58 t ≡ t = sym (append-nil (before 58 t)) ∙ subst (λ o. before 58 t ++ delimited 58 o ≡ t) e (joined 58 t) in
    let l : lacks 58 t ≡ true = subst (λ z. lacks 58 z ≡ true) same (before-lacks 58 t) in
    alone sh n t l ∙ ap (λ z. is_whole sh n (z ∷ [])) (sym same)
  where
    alone : (sh : Bool) (n : ℕ) (t : List ℕ) → lacks 58 t ≡ true → completes sh n t ≡ is_whole sh n (t ∷ [])
    alone true n t l = rw (one_piece 58 t l) refl
    alone false n t l = let d = none_alone t l in rw (d.1, d.0, one_piece 58 t l) refl

pub at_other : (sh : Bool) (n : ℕ) (t r : List ℕ) → after 58 t ≡ Some r → is_group (before 58 t) ≡ false → completes sh n t ≡ false
at_other sh n t r e g = ap (completes sh n) (cut_text t r e) ∙ other sh n (before 58 t) r (before-lacks 58 t) g
  where
    other : (sh : Bool) (n : ℕ) (p r : List ℕ) → lacks 58 p ≡ true → is_group p ≡ false → completes sh n (p ++ 58 ∷ r) ≡ false
    other true n p r l g = rw (pieces_before 58 p r l, pieces_cut 58 r, g) refl
    other false n p [] l g = let d = none_before p [] l refl in rw (d.1, d.0, pieces_before 58 p [] l) (other_around n p [] [] None g)
    other false n p (x ∷ xs) l g = elim (x == 58) as (λ b. (x == 58) ≡ b → completes false n (p ++ 58 ∷ x ∷ xs) ≡ false) [
      | true ↦ λ e. let d = double_before p xs l in rw (eqb-true x 58 e, d.1, d.0, one_piece 58 p l, g) refl
      | false ↦ λ e.
          let d = none_before p (x ∷ xs) l e in
          rw (d.1, d.0, pieces_before 58 p (before_double (x ∷ xs)) l, pieces_cut 58 (before_double (x ∷ xs))) (other_around n p _ _ _ g)
    ] refl

pub at_double : (sh : Bool) (n : ℕ) (t b : List ℕ) → after 58 t ≡ Some (58 ∷ b) → is_group (before 58 t) ≡ true
    → completes sh n t ≡ (not sh && is_whole true (n + 1) (group_texts b))
unfolding is_group
at_double sh n t b e g = ap (completes sh n) (cut_text t (58 ∷ b) e) ∙ two sh n (before 58 t) b (before-lacks 58 t) g
  where
    two : (sh : Bool) (n : ℕ) (p b : List ℕ) → lacks 58 p ≡ true → is_group p ≡ true
        → completes sh n (p ++ 58 ∷ 58 ∷ b) ≡ (not sh && is_whole true (n + 1) (group_texts b))
    two true n p b l g = rw (pieces_before 58 p (58 ∷ b) l, pieces_cut 58 b, g) refl
    two false n p b l g = let d = double_before p b l in rw (d.1, d.0, one_piece 58 p l, g, group_is_no_ipv4 p g) refl

pub at_end : (sh : Bool) (n : ℕ) (t b : List ℕ) → after 58 t ≡ Some (58 ∷ b) → is_group (before 58 t) ≡ true → sh ≡ false
    → (length b == 0) ≡ true → completes sh n t ≡ nat_lt (n + 1) 8
at_end sh n t [] e g s h = let z : n + 1 + 0 ≡ n + 1 = omega arith in at_double sh n t [] e g ∙ rw s (ap (λ m. nat_lt m 8) z)
at_end sh n t (x ∷ xs) e g s h = absurd (omega (arith, eqb-true (length (x ∷ xs)) 0 h))

pub at_back : (sh : Bool) (n : ℕ) (t b : List ℕ) → after 58 t ≡ Some (58 ∷ b) → is_group (before 58 t) ≡ true → sh ≡ false
    → (length b == 0) ≡ false → completes sh n t ≡ completes true (n + 1) b
at_back sh n t [] e g s h = cc
at_back sh n t (x ∷ xs) e g s h = at_double sh n t (x ∷ xs) e g ∙ rw s refl

pub at_group : (sh : Bool) (n : ℕ) (t r : List ℕ) → after 58 t ≡ Some r → is_group (before 58 t) ≡ true → ((b : List ℕ) → r ≢ 58 ∷ b)
    → completes sh n t ≡ completes sh (n + 1) r
at_group sh n t r e g b = ap (completes sh n) (cut_text t r e) ∙ one sh n (before 58 t) r (before-lacks 58 t) (no_colon r b) g
  where
    one : (sh : Bool) (n : ℕ) (p r : List ℕ) → lacks 58 p ≡ true → begins 58 r ≡ false → is_group p ≡ true
        → completes sh n (p ++ 58 ∷ r) ≡ completes sh (n + 1) r
    one true n p r l b g = rw (pieces_before 58 p r l, pieces_cut 58 r) (first_group true n p _ _ g)
    one false n p r l b g =
        let d = none_before p r l b in
        rw (d.1, d.0, pieces_before 58 p (before_double r) l, pieces_cut 58 (before_double r)) (group_around n p _ _ (after_double r) g)

-- ---- the whole text
start_around : (x : ℕ) (xs : List ℕ) (back : Option (List ℕ))
    → is_ipv6_around (x ∷ xs) back ≡ is_whole_around 0 (pieces 58 (x ∷ xs)) back
start_around x xs None = let e : group_count (pieces 58 (x ∷ xs)) ≡ 0 + group_count (pieces 58 (x ∷ xs)) = omega arith in
    ap (λ m. are_groups_or_ipv4 (pieces 58 (x ∷ xs)) && m == 8) e
start_around x xs (Some b) =
    let e : group_count (pieces 58 (x ∷ xs)) ≡ 0 + group_count (pieces 58 (x ∷ xs)) = omega arith in
    and_assoc (are_groups (pieces 58 (x ∷ xs))) (are_groups_or_ipv4 (group_texts b)) _
    ∙ ap (λ m. are_groups (pieces 58 (x ∷ xs)) && (are_groups_or_ipv4 (group_texts b) && nat_lt (m + group_count (group_texts b)) 8)) e
  where
    and_assoc : (x y z : Bool) → (x && y && z) ≡ (x && (y && z))
    and_assoc true y z = refl
    and_assoc false y z = refl

pub none_at_start : (t : List ℕ) → ((r : List ℕ) → t ≢ 58 ∷ 58 ∷ r) → completes false 0 t ≡ is_ipv6 t
unfolding is_group is_hundreds
none_at_start [] h = refl
none_at_start (x ∷ xs) h = rw (no_double x xs h) (sym (start_around x (before_double xs) (after_double xs)))
  where
    no_double : (x : ℕ) (xs : List ℕ) → ((r : List ℕ) → x ∷ xs ≢ 58 ∷ 58 ∷ r) → (x == 58 && begins 58 xs) ≡ false
    no_double x xs h = elim (x == 58) as (λ b. (x == 58) ≡ b → (b && begins 58 xs) ≡ false) [
      | true ↦ λ e. no_colon xs (λ r k. h r (ap₂ (λ c ys. c ∷ ys) (eqb-true x 58 e) k))
      | false ↦ λ _. refl
    ] refl

pub double_at_start : (b : List ℕ) → is_whole true 0 (group_texts b) ≡ is_ipv6 (58 ∷ 58 ∷ b)
double_at_start b = refl

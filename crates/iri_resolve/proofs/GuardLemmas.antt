-- A path in triplet normal form loses dot segments exactly where the path does.
use Rattle.iri_resolve.proofs.Common.{◌≡◌, ℕ, Bool, true, false, cond, not, ◌&&◌, ◌||◌, List, [], ◌∷◌, ◌++◌, Some, None, refl, sym, ◌∙◌, ap}
use Rattle.iri_resolve.proofs.Common.{subst, eqb-true, ◌==◌, bytes_eq, bytes_eq-Decides, not-true, Tests, IsSpec, by_test, both, is_empty}
use Rattle.iri_resolve.proofs.Common.{starts_with_slash, starts_with_slashes, normal_decoded, normal_nil, normal_plain, as_it_is, pct}
use Rattle.iri_resolve.proofs.Common.{Spells, none, more, whole_triplets, is_two_dots, dots, guard, loses_dots}
use Rattle.std.proofs.Common.{map}
use Rattle.std.proofs.lemmas.Bool.{false_from_ne_true}
use Rattle.std.proofs.Math.Bool.{not-not}
use Rattle.iri_grammar.specs.Cut.{before, after}
use Rattle.iri_grammar.specs.Pieces.{pieces, onto}
use Rattle.iri_grammar.specs.inside.PiecesLaws.{more_pieces}
use Rattle.iri_grammar.proofs.hosts.PiecesLaws.{pieces_cut}
use Rattle.iri_percent.proofs.units.AtDelimiters.{pct_delimiter, slash}
use Rattle.iri_normal.specs.Dots.{is_all, is_one_dot, any_dot_segment, has_dot_segment, is_dot_segment}
use Rattle.iri_resolve.specs.inside.GuardAlone.{is_after_slash, is_guard_alone}
use Rattle.iri_normal.proofs.segments.DotKinds.{pieces-some, pieces-slash, dot-is_one, dot_segment-lacks, nothing-is_no_dot}
use Rattle.iri_normal.proofs.removal.Stability.{dot_before, no_dots_left, no_dots_same, slashed, unsplit, unsplit-pieces}
use Rattle.iri_normal.proofs.triplets.DotTriplets.{dot_segment-pct, empty-pct, encode_point, point_scalar, point_unreserved, two_dots-pct}
use Rattle.iri_normal.proofs.triplets.PathTriplets.{pct-heads, all_whole, pieces-pct, whole-pieces}

-- ---- `.`, in any spelling, has one triplet normal form
spelled : (z : ℕ) → (z == 69 || z == 101) ≡ true → Spells (37 ∷ 50 ∷ z ∷ []) (46 ∷ [])
spelled z h =
    by_test z 69 (λ b. (b || z == 101) ≡ true → Spells (37 ∷ 50 ∷ z ∷ []) (46 ∷ []))
    (λ e _. subst (λ (n : ℕ). Spells (37 ∷ 50 ∷ n ∷ []) (46 ∷ [])) (sym e) (more 50 69 [] [] refl refl none))
    (λ _ k. subst (λ (n : ℕ). Spells (37 ∷ 50 ∷ n ∷ []) (46 ∷ [])) (sym (eqb-true z 101 k)) (more 50 101 [] [] refl refl none))
    h

decoded-point : (s : Tests) (z : ℕ) → (z == 69 || z == 101) ≡ true → pct s (37 ∷ 50 ∷ z ∷ []) ≡ 46 ∷ []
decoded-point s z h =
    normal_decoded s as_it_is 46 (37 ∷ 50 ∷ z ∷ []) [] point_scalar (point_unreserved s)
    (subst (λ os. Spells (37 ∷ 50 ∷ z ∷ []) os) (sym encode_point) (spelled z h))
    ∙ rw (encode_point, normal_nil s as_it_is) refl

plain-point : (s : Tests) → pct s (46 ∷ []) ≡ 46 ∷ []
plain-point s = normal_plain s as_it_is 46 [] refl ∙ ap (λ t. 46 ∷ t) (normal_nil s as_it_is)

all-after : (b : Bool) (xs : List ℕ) → is_all (cond b (Some xs) None) ≡ true → (b ≡ true) × (xs ≡ [])
all-after true [] h = (refl, refl)
all-after true (x ∷ xs) h = cc
all-after false xs h = cc

triplet-point : (s : Tests) (x y z : ℕ) (xs : List ℕ) → is_all (cond (x == 37 && (y == 50 && (z == 69 || z == 101))) (Some xs) None) ≡ true
    → pct s (x ∷ y ∷ z ∷ xs) ≡ 46 ∷ []
triplet-point s x y z xs h =
    let a = all-after (x == 37 && (y == 50 && (z == 69 || z == 101))) xs h in
    let b = both (x == 37) (y == 50 && (z == 69 || z == 101)) a.0 in
    let c = both (y == 50) (z == 69 || z == 101) b.1 in
    let text : x ∷ y ∷ z ∷ xs ≡ 37 ∷ 50 ∷ z ∷ [] =
    ap (λ n. n ∷ y ∷ z ∷ xs) (eqb-true x 37 b.0) ∙ (ap (λ n. 37 ∷ n ∷ z ∷ xs) (eqb-true y 50 c.0) ∙ ap (λ t. 37 ∷ 50 ∷ z ∷ t) a.1) in
    ap (pct s) text ∙ decoded-point s z c.1

one_dot-normal : (s : Tests) (d : List ℕ) → is_one_dot d ≡ true → pct s d ≡ 46 ∷ []
one_dot-normal s [] h = cc
one_dot-normal s (x ∷ []) h =
    by_test x 46 (λ b. is_all (cond b (Some []) None) ≡ true → pct s (x ∷ []) ≡ 46 ∷ [])
    (λ e _. ap (λ (n : ℕ). pct s (n ∷ [])) e ∙ plain-point s) (λ _ k. cc) h
one_dot-normal s (x ∷ y ∷ []) h =
    by_test x 46 (λ b. is_all (cond b (Some (y ∷ [])) None) ≡ true → pct s (x ∷ y ∷ []) ≡ 46 ∷ []) (λ _ k. cc) (λ _ k. cc) h
one_dot-normal s (x ∷ y ∷ z ∷ xs) h =
    by_test x 46 (λ b. is_all (cond b (Some (y ∷ z ∷ xs)) (cond (x == 37 && (y == 50 && (z == 69 || z == 101))) (Some xs) None)) ≡ true
    → pct s (x ∷ y ∷ z ∷ xs) ≡ 46 ∷ [])
    (λ _ k. cc)
    (λ _ k. triplet-point s x y z xs k)
    h

-- ---- triplet normal form keeps what segments are
any-pct : (s : Tests) (ss : List (List ℕ)) → IsSpec s → all_whole ss ≡ true → any_dot_segment (map (pct s) ss) ≡ any_dot_segment ss
any-pct s [] k w = refl
any-pct s (t ∷ ts) k w =
    let l = both (whole_triplets t) (all_whole ts) w in
    rw (dot_segment-pct s t k l.0, any-pct s ts k l.1) refl

empty-kind : (xs ys : List ℕ) (s : List ℕ) (ss : List (List ℕ)) (u : List ℕ) (us : List (List ℕ)) → is_empty xs ≡ is_empty ys
    → is_after_slash (xs ∷ s ∷ ss) ≡ is_after_slash (ys ∷ u ∷ us)
empty-kind [] [] s ss u us h = refl
empty-kind [] (y ∷ ys) s ss u us h = cc
empty-kind (x ∷ xs) [] s ss u us h = cc
empty-kind (x ∷ xs) (y ∷ ys) s ss u us h = refl

alone-segment : (xs : List ℕ) → is_after_slash (xs ∷ []) ≡ false
alone-segment [] = refl
alone-segment (x ∷ xs) = refl

after_slash-pct : (s : Tests) (ss : List (List ℕ)) → all_whole ss ≡ true → is_after_slash (map (pct s) ss) ≡ is_after_slash ss
after_slash-pct s [] w = refl
after_slash-pct s (t ∷ []) w = alone-segment (pct s t) ∙ sym (alone-segment t)
after_slash-pct s (t ∷ u ∷ us) w =
    let l = both (whole_triplets t) (all_whole (u ∷ us)) w in
    empty-kind (pct s t) t (pct s u) (map (pct s) us) u us (empty-pct s t l.0)

guard_alone-pct : (s : Tests) (ss : List (List ℕ)) → IsSpec s → all_whole ss ≡ true → is_guard_alone (map (pct s) ss) ≡ is_guard_alone ss
guard_alone-pct s [] k w = refl
guard_alone-pct s (t ∷ []) k w = refl
guard_alone-pct s (t ∷ u ∷ us) k w =
    let l = both (whole_triplets t) (all_whole (u ∷ us)) w in
    let m = both (whole_triplets u) (all_whole us) l.1 in
    rw (empty-pct s t l.0, dot_segment-pct s u k m.0, two_dots-pct s u k m.0, after_slash-pct s us m.1, any-pct s us k m.1) refl

-- ---- a guarded path without other dot segments
two-slashes : (d : List ℕ) → starts_with_slashes d ≡ true → has_dot_segment d ≡ false → is_guard_alone (pieces 47 (47 ∷ 46 ∷ d)) ≡ true
unfolding is_dot_segment
two-slashes [] h n = cc
two-slashes (x ∷ []) h n = let l = both (x == 47) false h in cc
two-slashes (x ∷ y ∷ r) h n =
    let l = both (x == 47) (y == 47) h in
    let p = pieces-some r in
    let text : x ∷ y ∷ r ≡ 47 ∷ 47 ∷ r = ap (λ (v : ℕ). v ∷ y ∷ r) (eqb-true x 47 l.0) ∙ ap (λ (v : ℕ). 47 ∷ v ∷ r) (eqb-true y 47 l.1) in
    let rest : any_dot_segment (pieces 47 r) ≡ false = ap has_dot_segment (sym text) ∙ n in
    ap (λ t. is_guard_alone (pieces 47 (47 ∷ 46 ∷ t))) text ∙ rw (p.whole) (ap (λ ps. not (any_dot_segment ps)) (sym p.whole) ∙ ap not rest)

-- a path that the guard gives again has no other dot segment
given-again : (q : List ℕ) → has_dot_segment q ≡ true → guard (dots q) false ≡ q → is_guard_alone (pieces 47 q) ≡ true
given-again q h e =
    elim (starts_with_slashes (dots q)) as (λ b. starts_with_slashes (dots q) ≡ b → cond (not b) (dots q) (47 ∷ 46 ∷ dots q) ≡ q
    → is_guard_alone (pieces 47 q) ≡ true) [
      | true ↦ λ k f. subst (λ t. is_guard_alone (pieces 47 t) ≡ true) f (two-slashes (dots q) k (no_dots_left q))
      | false ↦ λ _ f. let no : true ≡ false = sym h ∙ (ap has_dot_segment (sym f) ∙ no_dots_left q) in cc
    ] refl e

-- ---- and the guard gives such a path again
guard-again : (v : List ℕ) → has_dot_segment (47 ∷ 47 ∷ v) ≡ false → guard (dots (47 ∷ 46 ∷ 47 ∷ 47 ∷ v)) false ≡ 47 ∷ 46 ∷ 47 ∷ 47 ∷ v
guard-again v h = ap (λ t. guard t false) (dot_before (47 ∷ v) ∙ no_dots_same (47 ∷ 47 ∷ v) h)

module _ (s : Tests) (k : IsSpec s) (p : List ℕ) (w : whole_triplets p ≡ true) where
  normal-pieces : pieces 47 (pct s p) ≡ map (pct s) (pieces 47 p)
  normal-pieces = pieces-pct s p k w

  has-pct : has_dot_segment (pct s p) ≡ has_dot_segment p
  has-pct = ap any_dot_segment normal-pieces ∙ any-pct s (pieces 47 p) k (whole-pieces p w)

  alone-again : (ss : List (List ℕ)) → pieces 47 p ≡ ss → is_guard_alone ss ≡ true → guard (dots (pct s p)) false ≡ pct s p
  unfolding whole_triplets
  alone-again [] e h = cc
  alone-again (f ∷ []) e h = cc
  alone-again (f ∷ d ∷ []) e h = let a = both (is_empty f && (is_dot_segment d && not (is_two_dots d))) false h in cc
  alone-again (f ∷ d ∷ c ∷ []) e h =
      let a = both (is_empty f && (is_dot_segment d && not (is_two_dots d)))
      (is_after_slash (c ∷ []) && not (any_dot_segment (c ∷ []))) h in
      let b = both (is_after_slash (c ∷ [])) (not (any_dot_segment (c ∷ []))) a.1 in
      let no : true ≡ false = sym b.0 ∙ alone-segment c in
      cc
  alone-again ((x ∷ f) ∷ d ∷ c ∷ u ∷ us) e h = cc
  alone-again ([] ∷ d ∷ (x ∷ c) ∷ u ∷ us) e h = let a = both (is_dot_segment d && not (is_two_dots d)) false h in cc
  alone-again ([] ∷ d ∷ [] ∷ u ∷ us) e h =
      let a = both (is_dot_segment d && not (is_two_dots d)) (not (any_dot_segment ([] ∷ u ∷ us))) h in
      let b = both (is_dot_segment d) (not (is_two_dots d)) a.0 in
      let v = u ++ slashed us in
      let text : p ≡ 47 ∷ (d ++ 47 ∷ 47 ∷ v) = sym (unsplit-pieces p) ∙ ap unsplit e in
      let dot : pct s d ≡ 46 ∷ [] = one_dot-normal s d (dot-is_one d b.0 (not-true (is_two_dots d) b.1)) in
      let normal : pct s p ≡ 47 ∷ 46 ∷ 47 ∷ 47 ∷ pct s v =
      ap (pct s) text ∙ (normal_plain s as_it_is 47 (d ++ 47 ∷ 47 ∷ v) refl
      ∙ ap (λ t. 47 ∷ t) (pct_delimiter s 47 d (47 ∷ v) slash
      ∙ (ap (λ t. t ++ 47 ∷ pct s (47 ∷ v)) dot ∙ ap (λ t. 46 ∷ 47 ∷ t) (normal_plain s as_it_is 47 v refl)))) in
      let cut : pieces 47 p ≡ [] ∷ d ∷ [] ∷ pieces 47 v =
      ap (pieces 47) text ∙ ap (λ ps. [] ∷ ps) (pieces-slash d (47 ∷ v) (dot_segment-lacks d b.0)) in
      let same : [] ∷ d ∷ [] ∷ pieces 47 v ≡ [] ∷ d ∷ [] ∷ u ∷ us = sym cut ∙ e in
      let rest : pieces 47 v ≡ u ∷ us = cc in
      let parts : [] ∷ (46 ∷ []) ∷ [] ∷ pieces 47 (pct s v) ≡ pct s [] ∷ pct s d ∷ pct s [] ∷ map (pct s) (u ∷ us) =
      ap (pieces 47) (sym normal) ∙ (normal-pieces ∙ ap (map (pct s)) e) in
      let inner : pieces 47 (pct s v) ≡ map (pct s) (u ∷ us) = cc in
      let whole : all_whole ([] ∷ d ∷ [] ∷ u ∷ us) ≡ true = ap all_whole (sym e) ∙ whole-pieces p w in
      let last = both (whole_triplets d) (all_whole ([] ∷ u ∷ us)) whole in
      let none : any_dot_segment (u ∷ us) ≡ false = rw nothing-is_no_dot at (not-true (any_dot_segment ([] ∷ u ∷ us)) a.1) in
      let clear : any_dot_segment (pieces 47 (pct s v)) ≡ false = ap any_dot_segment inner ∙ (any-pct s (u ∷ us) k last.1 ∙ none) in
      subst (λ t. guard (dots t) false ≡ t) (sym normal) (guard-again (pct s v) (rw nothing-is_no_dot clear))

  without : has_dot_segment p ≡ false → (stands : Bool) → (stands || not (starts_with_slashes p)) ≡ true
      → guard (dots (pct s p)) stands ≡ pct s p
  without h stands g =
      ap (λ t. guard t stands) (no_dots_same (pct s p) (has-pct ∙ h))
      ∙ (ap (λ b. cond (stands || not b) (pct s p) (47 ∷ 46 ∷ pct s p)) (pct-heads s p k w)
      ∙ ap (λ b. cond b (pct s p) (47 ∷ 46 ∷ pct s p)) g)

  changed : has_dot_segment p ≡ true → dots (pct s p) ≡ pct s p → ⊥
  changed h e = let no : true ≡ false = sym (has-pct ∙ h) ∙ (ap has_dot_segment (sym e) ∙ no_dots_left (pct s p)) in cc

  -- whether a guarded path is given again
  guarded : has_dot_segment p ≡ true → (b : Bool) → is_guard_alone (pieces 47 p) ≡ b → bytes_eq (guard (dots (pct s p)) false) (pct s p) ≡ b
  guarded h true e = (bytes_eq-Decides (guard (dots (pct s p)) false) (pct s p)).1 (alone-again (pieces 47 p) refl e)
  guarded h false e =
      false_from_ne_true (bytes_eq (guard (dots (pct s p)) false) (pct s p))
      (λ same.
      let yes : is_guard_alone (pieces 47 p) ≡ true =
      sym (ap is_guard_alone normal-pieces ∙ guard_alone-pct s (pieces 47 p) k (whole-pieces p w))
      ∙ given-again (pct s p) (has-pct ∙ h) ((bytes_eq-Decides (guard (dots (pct s p)) false) (pct s p)).0 same) in
      let no : true ≡ false = sym yes ∙ e in
      cc)

  with-dots : has_dot_segment p ≡ true → (stands : Bool)
      → bytes_eq (guard (dots (pct s p)) stands) (pct s p) ≡ not (stands || not (is_guard_alone (pieces 47 p)))
  with-dots h true = false_from_ne_true (bytes_eq (dots (pct s p)) (pct s p))
      (λ same. changed h ((bytes_eq-Decides (dots (pct s p)) (pct s p)).0 same))
  with-dots h false = guarded h (is_guard_alone (pieces 47 p)) refl ∙ sym (not-not (is_guard_alone (pieces 47 p)))

  pub dots-lost : (stands : Bool) → (stands || not (starts_with_slashes p)) ≡ true
      → bytes_eq (guard (dots (pct s p)) stands) (pct s p) ≡ not (loses_dots p stands)
  dots-lost stands g =
      elim (has_dot_segment p) as (λ b. has_dot_segment p ≡ b
      → bytes_eq (guard (dots (pct s p)) stands) (pct s p) ≡ not (b && (stands || not (is_guard_alone (pieces 47 p))))) [
        | true ↦ λ h. with-dots h stands
        | false ↦ λ h. (bytes_eq-Decides (guard (dots (pct s p)) stands) (pct s p)).1 (without h stands g)
      ] refl

-- ---- the first two segments, cut off
pub one-segment : (t : List ℕ) → after 47 t ≡ None → is_guard_alone (pieces 47 t) ≡ false
one-segment t e = ap is_guard_alone (pieces_cut 47 t ∙ ap (λ o. before 47 t ∷ more_pieces 47 o) e)

cut-off : (t r : List ℕ) → after 47 t ≡ Some r → pieces 47 t ≡ before 47 t ∷ pieces 47 r
cut-off t r e = pieces_cut 47 t ∙ ap (λ o. before 47 t ∷ more_pieces 47 o) e

pub two-segments : (t r : List ℕ) → after 47 t ≡ Some r → after 47 r ≡ None → is_guard_alone (pieces 47 t) ≡ false
two-segments t r e f =
    ap is_guard_alone (cut-off t r e ∙ ap (λ ps. before 47 t ∷ ps) (pieces_cut 47 r ∙ ap (λ o. before 47 r ∷ more_pieces 47 o) f))
    ∙ never (is_empty (before 47 t)) (is_dot_segment (before 47 r) && not (is_two_dots (before 47 r)))
  where
    never : (a b : Bool) → (a && b && false) ≡ false
    never true true = refl
    never true false = refl
    never false b = refl

slash-first : (t : List ℕ) → is_after_slash (pieces 47 t) ≡ starts_with_slash t
slash-first [] = refl
slash-first (x ∷ xs) =
    let p = pieces-some xs in
    elim (x == 47) as (λ b. is_after_slash (cond b ([] ∷ pieces 47 xs) (onto x (pieces 47 xs)))
    ≡ b) [ true ↦ ap (λ ps. is_after_slash ([] ∷ ps)) p.whole | false ↦ ap (λ ps. is_after_slash (onto x ps)) p.whole ]

pub more-segments : (t r u : List ℕ) → after 47 t ≡ Some r → after 47 r ≡ Some u
    → is_guard_alone (pieces 47 t) ≡ (is_empty (before 47 t) && (is_dot_segment (before 47 r) && not (is_two_dots (before 47 r)))
    && (starts_with_slash u && not (has_dot_segment u)))
more-segments t r u e f =
    ap is_guard_alone (cut-off t r e ∙ ap (λ ps. before 47 t ∷ ps) (cut-off r u f))
    ∙ ap (λ b. is_empty (before 47 t) && (is_dot_segment (before 47 r) && not (is_two_dots (before 47 r)))
    && (b && not (has_dot_segment u))) (slash-first u)

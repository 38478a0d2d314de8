-- What rules say is decided by the function.
use Rattle.iri_robots.proofs.Common.{◌≡◌, ◌≢◌, ◌↔◌, ℕ, ◌≤◌, Bool, true, false, cond, ◌||◌, ◌&&◌, ◌⊎◌, List, [], ◌∷◌, length, Option, Some}
use Rattle.iri_robots.proofs.Common.{None, refl, sym, ◌∙◌, ap, subst, inl, inr, arith, ◌==◌, codes, bytes_eq, eqb_tells, FileRule}
use Rattle.iri_robots.proofs.Common.{is_anchored, without_anchor, IsFilledBy, Matches, IsAllowed, Fits}
use Rattle.std.proofs.lemmas.Bool.{eq-eqb, and_parts, or_cases, or_left, or_right}
use Rattle.std.specs.Prelude.{filter}
use Rattle.std.specs.List.{list_any}
use Rattle.std.proofs.Math.Nat.{le-max_left, le-max_right, max-le}
use Rattle.std.proofs.lemmas.Slice.Eq.{bytes_eq-Decides}
use Rattle.iri_robots.specs.Allowed.{IsAmong, first, later as among_later, IsLongest, robots_file, no_rule, by_rule}
use Rattle.iri_robots.specs.Decided.{Piece, AnyText, Escape, Character, special_of, piece_of, pieces, some_suffix, begins, fills, is_match}
use Rattle.iri_robots.specs.Decided.{matching, most_bytes, longest_allow, allow, is_allowed}
use Rattle.iri_robots.specs.inside.Fits.{IsEscape, star_escape, dollar_escape, ended, escaped, same, IsSuffix, whole, later, NoEscape}
use Rattle.iri_robots.proofs.Moves.{fits_end, fits_star, star_fits, FitsEscape, by_special, by_triplet, fits_escape, triplet_fits}
use Rattle.iri_robots.proofs.Moves.{same_prefix}
use Rattle.iri_robots.proofs.Anchors.{fits_filling, filling_fits, fits_prefix, prefix_fits}

-- ---- tests of a text

abbrev Found : (List ℕ → Bool) → List ℕ → Type 0
Found test s = (r : List ℕ) × IsSuffix r s × (test r ≡ true)

suffix_by : (test : List ℕ → Bool) (c : ℕ) (s : List ℕ) (b : Bool) → test (c ∷ s) ≡ b → (some_suffix test s ≡ true → Found test s)
    → elim b [ true ↦ true | false ↦ some_suffix test s ] ≡ true → Found test (c ∷ s)
suffix_by test c s true e k h = (c ∷ s, whole (c ∷ s), e)
suffix_by test c s false e k h = let f = k h in (f.0, later c f.0 s f.1, f.2)

suffix_passes : (test : List ℕ → Bool) (s : List ℕ) → some_suffix test s ≡ true → Found test s
unfolding some_suffix
suffix_passes test [] h = ([], whole [], h)
suffix_passes test (c ∷ s) h = suffix_by test c s (test (c ∷ s)) refl (suffix_passes test s) h

whole_suffix : (test : List ℕ → Bool) (s : List ℕ) → test s ≡ true → some_suffix test s ≡ true
unfolding some_suffix
whole_suffix test [] h = h
whole_suffix test (c ∷ s) h = ap (λ b. elim b [ true ↦ true | false ↦ some_suffix test s ]) h

either : (b t : Bool) → t ≡ true → elim b [ true ↦ true | false ↦ t ] ≡ true
either true t h = refl
either false t h = h

passes_at : (test : List ℕ → Bool) (r s : List ℕ) → IsSuffix r s → test r ≡ true → some_suffix test s ≡ true
unfolding some_suffix
passes_at test r s (whole s') h = whole_suffix test s' h
passes_at test r s (later x r' s' k) h = either (test (x ∷ s')) (some_suffix test s') (passes_at test r' s' k h)

abbrev Begins : ℕ → (List ℕ → Bool) → List ℕ → Type 0
Begins c test s = (t : List ℕ) × (s ≡ c ∷ t) × (test t ≡ true)

begins_by : (c d : ℕ) (test : List ℕ → Bool) (s : List ℕ) → (((c == d) ≡ true) × (c ≡ d)) ⊎ (((c == d) ≡ false) × (c ≢ d))
    → elim (c == d) [ true ↦ test s | false ↦ false ] ≡ true → Begins c test (d ∷ s)
begins_by c d test s (inl e) h =
    (s, ap (λ x. x ∷ s) (sym e.1), sym (ap (λ b. elim b [ true ↦ test s | false ↦ false ]) e.0) ∙ h)
begins_by c d test s (inr e) h =
    let k : false ≡ true = sym (ap (λ b. elim b [ true ↦ test s | false ↦ false ]) e.0) ∙ h in cc

begins_with : (c : ℕ) (test : List ℕ → Bool) (s : List ℕ) → begins c test s ≡ true → Begins c test s
unfolding begins
begins_with c test [] h = cc
begins_with c test (d ∷ s) h = begins_by c d test s (eqb_tells c d) h

begins_so : (c : ℕ) (test : List ℕ → Bool) (t : List ℕ) → test t ≡ true → begins c test (c ∷ t) ≡ true
unfolding begins
begins_so c test t h = ap (λ b. elim b [ true ↦ test t | false ↦ false ]) (eq-eqb c c refl) ∙ h

-- ---- pieces of a pattern

-- the pieces of a pattern tell how it fits a text
abbrev Tells : Bool → List Piece → List ℕ → Type 0
Tells a ps q = (s : List ℕ) → (fills a ps s ≡ true) ↔ Fits a q s

tells_end : (a : Bool) → Tells a [] []
unfolding fills
tells_end true [] = (λ h. ended [] (λ e. refl), λ f. refl)
tells_end true (c ∷ s) = (λ h. cc, λ f. let k = fits_end true (c ∷ s) f refl in cc)
tells_end false s = (λ h. ended s (λ e. cc), λ f. refl)

tells_any : (a : Bool) (ps : List Piece) (q : List ℕ) → Tells a ps q → Tells a (AnyText ∷ ps) (42 ∷ q)
unfolding fills
tells_any a ps q t s = (
  λ h. let k = suffix_passes (fills a ps) s h in star_fits a q k.0 s k.1 ((t k.0).0 k.2),
  λ f. let k = fits_star a q s f in passes_at (fills a ps) k.rest s k.is_suffix ((t k.rest).1 k.fits),
)

tells_same : (a : Bool) (c : ℕ) (ps : List Piece) (q : List ℕ) → c ≢ 42 → NoEscape (c ∷ q) → Tells a ps q
    → Tells a (Character c ∷ ps) (c ∷ q)
unfolding fills
tells_same a c ps q n e t s = (
  λ h. let k = begins_with c (fills a ps) s h in subst (λ x. Fits a (c ∷ q) x) (sym k.1) (same c q k.0 n ((t k.0).0 k.2)),
  λ f.
      let k = same_prefix a c q s n e f in
      subst (λ x. begins c (fills a ps) x ≡ true) (sym k.1) (begins_so c (fills a ps) k.0 ((t k.0).1 k.2)),
)

escape_cases : (a : Bool) (l m : ℕ) (ps : List Piece) (q s : List ℕ) → IsEscape l m → Tells a ps q
    → (begins m (fills a ps) s ≡ true) ⊎ (begins 37 (begins 50 (begins l (fills a ps))) s ≡ true) → Fits a (37 ∷ 50 ∷ l ∷ q) s
escape_cases a l m ps q s e t (inl h) =
    let k = begins_with m (fills a ps) s h in
    subst (λ x. Fits a (37 ∷ 50 ∷ l ∷ q) x) (sym k.1) (escaped l m q k.0 e ((t k.0).0 k.2))
escape_cases a l m ps q s e t (inr h) =
    let k = begins_with 37 (begins 50 (begins l (fills a ps))) s h in
    let i = begins_with 50 (begins l (fills a ps)) k.0 k.2 in
    let j = begins_with l (fills a ps) i.0 i.2 in
    subst (λ x. Fits a (37 ∷ 50 ∷ l ∷ q) x) (sym (k.1 ∙ ap (λ x. 37 ∷ x) (i.1 ∙ ap (λ x. 50 ∷ x) j.1)))
    (triplet_fits a l m q j.0 e ((t j.0).0 j.2))

escape_so : (a : Bool) (l m : ℕ) (ps : List Piece) (q s : List ℕ) → Tells a ps q → FitsEscape a l m q s
    → (begins m (fills a ps) s || begins 37 (begins 50 (begins l (fills a ps))) s) ≡ true
escape_so a l m ps q s t (by_special u e f) =
    or_left _ _ (subst (λ x. begins m (fills a ps) x ≡ true) (sym e) (begins_so m (fills a ps) u ((t u).1 f)))
escape_so a l m ps q s t (by_triplet u e f) =
    or_right _ _ (subst (λ x. begins 37 (begins 50 (begins l (fills a ps))) x ≡ true) (sym e)
    (begins_so 37 (begins 50 (begins l (fills a ps))) (50 ∷ l ∷ u)
    (begins_so 50 (begins l (fills a ps)) (l ∷ u) (begins_so l (fills a ps) u ((t u).1 f)))))

tells_escape : (a : Bool) (l m : ℕ) (ps : List Piece) (q : List ℕ) → IsEscape l m → Tells a ps q
    → Tells a (Escape l m ∷ ps) (37 ∷ 50 ∷ l ∷ q)
unfolding fills
tells_escape a l m ps q e t s = (
  λ h. escape_cases a l m ps q s e t (or_cases _ _ h),
  λ f. escape_so a l m ps q s t (fits_escape a l m q s e f),
)

piece_by : (a : Bool) (c : ℕ) (ps : List Piece) (q : List ℕ) → NoEscape (c ∷ q) → Tells a ps q
    → (((c == 42) ≡ true) × (c ≡ 42)) ⊎ (((c == 42) ≡ false) × (c ≢ 42)) → Tells a (cond (c == 42) AnyText (Character c) ∷ ps) (c ∷ q)
piece_by a c ps q n t (inl e) =
    let P : ℕ → Type 0 = λ x. Tells a (AnyText ∷ ps) (x ∷ q) in
    let Q : Bool → Type 0 = λ b. Tells a (cond b AnyText (Character c) ∷ ps) (c ∷ q) in
    subst Q (sym e.0) (subst P (sym e.1) (tells_any a ps q t))
piece_by a c ps q n t (inr e) =
    let Q : Bool → Type 0 = λ b. Tells a (cond b AnyText (Character c) ∷ ps) (c ∷ q) in
    subst Q (sym e.0) (tells_same a c ps q e.1 n t)

tells_piece : (a : Bool) (c : ℕ) (ps : List Piece) (q : List ℕ) → NoEscape (c ∷ q) → Tells a ps q → Tells a (piece_of c ∷ ps) (c ∷ q)
unfolding piece_of
tells_piece a c ps q n t = piece_by a c ps q n t (eqb_tells c 42)

-- ---- escapes

other_letter : (e l m : ℕ) → e ≢ 65 → e ≢ 52 → IsEscape l m → e ≡ l → ⊥
other_letter e l m n k star_escape p = n p
other_letter e l m n k dollar_escape p = k p

short_escape : (c : ℕ) → NoEscape (c ∷ [])
short_escape c = record { none = λ l m rest i p. cc }

shorter_escape : (c d : ℕ) → NoEscape (c ∷ d ∷ [])
shorter_escape c d = record { none = λ l m rest i p. cc }

pub data SpecialCase (c d e : ℕ) : Option ℕ → Type 0 where
  specials : (m : ℕ) → IsEscape e m → c ≡ 37 → d ≡ 50 → SpecialCase c d e (Some m)
  none_specials : ((q : List ℕ) → NoEscape (c ∷ d ∷ e ∷ q)) → SpecialCase c d e None

other_prefix : (c d e : ℕ) → (c ≢ 37) ⊎ (d ≢ 50) → (q : List ℕ) → NoEscape (c ∷ d ∷ e ∷ q)
other_prefix c d e (inl n) q = record { none = λ l m rest i p. n cc }
other_prefix c d e (inr n) q = record { none = λ l m rest i p. n cc }

letter_case : (c d e : ℕ) → c ≡ 37 → d ≡ 50 → SpecialCase c d e (cond (e == 65) (Some 42) (cond (e == 52) (Some 36) None))
letter_case c d e h k =
    let P : Bool → Type 0 = λ b. SpecialCase c d e (cond b (Some 42) (cond (e == 52) (Some 36) None)) in
    let Q : Bool → Type 0 = λ b. SpecialCase c d e (cond b (Some 36) None) in
    elim (eqb_tells e 65) [
      | inl x ↦ subst P (sym x.0) (specials 42 (subst (λ l. IsEscape l 42) (sym x.1) star_escape) h k)
      | inr x ↦ subst P (sym x.0) (elim (eqb_tells e 52) [
        | inl y ↦ subst Q (sym y.0) (specials 36 (subst (λ l. IsEscape l 36) (sym y.1) dollar_escape) h k)
        | inr y ↦ subst Q (sym y.0) (none_specials (λ q. record { none = λ l m rest i p. other_letter e l m x.1 y.1 i cc }))
      ])
    ]

special_case : (c d e : ℕ) → SpecialCase c d e (special_of c d e)
unfolding special_of
special_case c d e =
    let letter = cond (e == 65) (Some 42) (cond (e == 52) (Some 36) None) in
    let P : Bool → Type 0 = λ b. SpecialCase c d e (cond (b && d == 50) letter None) in
    let Q : Bool → Type 0 = λ b. SpecialCase c d e (cond b letter None) in
    elim (eqb_tells c 37) [
      | inl x ↦ subst P (sym x.0) (elim (eqb_tells d 50) [
        | inl y ↦ subst Q (sym y.0) (letter_case c d e x.1 y.1)
        | inr y ↦ subst Q (sym y.0) (none_specials (other_prefix c d e (inr y.1)))
      ])
      | inr x ↦ subst P (sym x.0) (none_specials (other_prefix c d e (inl x.1)))
    ]

three_by : (a : Bool) (c d e : ℕ) (q : List ℕ) (special : Option ℕ) → SpecialCase c d e special → Tells a (pieces q) q
    → Tells a (pieces (d ∷ e ∷ q)) (d ∷ e ∷ q)
    → Tells a (elim special [ Some m ↦ Escape e m ∷ pieces q | None ↦ piece_of c ∷ pieces (d ∷ e ∷ q) ]) (c ∷ d ∷ e ∷ q)
three_by a c d e q special (specials m i h k) t u =
    let P : ℕ → Type 0 = λ x. Tells a (Escape e m ∷ pieces q) (x ∷ d ∷ e ∷ q) in
    let Q : ℕ → Type 0 = λ x. Tells a (Escape e m ∷ pieces q) (37 ∷ x ∷ e ∷ q) in
    subst P (sym h) (subst Q (sym k) (tells_escape a e m (pieces q) q i t))
three_by a c d e q special (none_specials n) t u = tells_piece a c (pieces (d ∷ e ∷ q)) (d ∷ e ∷ q) (n q) u

tells_pieces : (a : Bool) (q : List ℕ) → Tells a (pieces q) q
unfolding pieces
tells_pieces a [] = tells_end a
tells_pieces a (c ∷ []) = tells_piece a c [] [] (short_escape c) (tells_end a)
tells_pieces a (c ∷ d ∷ []) =
    tells_piece a c (piece_of d ∷ []) (d ∷ []) (shorter_escape c d) (tells_piece a d [] [] (short_escape d) (tells_end a))
tells_pieces a (c ∷ d ∷ e ∷ q) =
    three_by a c d e q (special_of c d e) (special_case c d e) (tells_pieces a q) (tells_pieces a (d ∷ e ∷ q))

filled : (a : Bool) (q s : List ℕ) → Fits a q s ↔ IsFilledBy a q s
filled true q s = (fits_filling q s, filling_fits q s)
filled false q s = (fits_prefix q s, prefix_fits q s)

pub match_is : (p s : List ℕ) → (is_match p s ≡ true) ↔ Matches p s
unfolding is_match
match_is [] s = (λ h. cc, λ m. absurd (m.some refl))
match_is (c ∷ p) s =
    let k = tells_pieces (is_anchored (c ∷ p)) (without_anchor (c ∷ p)) s in
    let f = filled (is_anchored (c ∷ p)) (without_anchor (c ∷ p)) s in
    (λ h. record { some = λ e. cc; filled = f.0 (k.0 h) }, λ m. k.1 (f.1 m.filled))

-- ---- rules

among_more : (test : FileRule → Bool) (r x : FileRule) (rules : List FileRule) (b : Bool) → test x ≡ b
    → IsAmong r (cond b (x ∷ filter test rules) (filter test rules)) → (IsAmong r (filter test rules) → IsAmong r rules × (test r ≡ true))
    → IsAmong r (x ∷ rules) × (test r ≡ true)
among_more test r x rules true e k h = prefix (x ∷ filter test rules) refl k
  where
    prefix : (l : List FileRule) → l ≡ x ∷ filter test rules → IsAmong r l → IsAmong r (x ∷ rules) × (test r ≡ true)
    prefix l i (first rs) =
        let n : r ≡ x = cc in
        (subst (λ y. IsAmong r (y ∷ rules)) n (first rules), ap test n ∙ e)
    prefix l i (among_later o rs a) =
        let n : rs ≡ filter test rules = cc in
        let m = h (subst (λ y. IsAmong r y) n a) in
        (among_later x rules m.0, m.1)
among_more test r x rules false e k h = let m = h k in (among_later x rules m.0, m.1)

among_filtered : (test : FileRule → Bool) (r : FileRule) (rules : List FileRule) → IsAmong r (filter test rules)
    → IsAmong r rules × (test r ≡ true)
among_filtered test r [] k = none [] refl k
  where
    none : (l : List FileRule) → l ≡ [] → IsAmong r l → IsAmong r [] × (test r ≡ true)
    none l e (first rs) = cc
    none l e (among_later o rs a) = cc
among_filtered test r (x ∷ rules) k = among_more test r x rules (test x) refl k (among_filtered test r rules)

kept_first : (test : FileRule → Bool) (r : FileRule) (rules : List FileRule) → test r ≡ true → IsAmong r (filter test (r ∷ rules))
kept_first test r rules e =
    let P : Bool → Type 0 = λ b. IsAmong r (cond b (r ∷ filter test rules) (filter test rules)) in
    subst P (sym e) (first (filter test rules))

kept_later : (test : FileRule → Bool) (r o : FileRule) (rules : List FileRule) (b : Bool) → IsAmong r (filter test rules)
    → IsAmong r (cond b (o ∷ filter test rules) (filter test rules))
kept_later test r o rules true k = among_later o (filter test rules) k
kept_later test r o rules false k = k

filtered_among : (test : FileRule → Bool) (r : FileRule) (rules : List FileRule) → IsAmong r rules → test r ≡ true
    → IsAmong r (filter test rules)
filtered_among test r rules (first rs) e = kept_first test r rs e
filtered_among test r rules (among_later o rs k) e = kept_later test r o rs (test o) (filtered_among test r rs k e)

any_among : (test : FileRule → Bool) (rules : List FileRule) → list_any test rules ≡ true
    → (r : FileRule) × IsAmong r rules × (test r ≡ true)
any_among test [] h = cc
any_among test (x ∷ rules) h = elim (or_cases (test x) (list_any test rules) h) [
  | inl e ↦ (x, first rules, e)
  | inr e ↦ let k = any_among test rules e in (k.0, among_later x rules k.1, k.2)
]

among_any : (test : FileRule → Bool) (r : FileRule) (rules : List FileRule) → IsAmong r rules → test r ≡ true → list_any test rules ≡ true
among_any test r rules (first rs) e = or_left (test r) (list_any test rs) e
among_any test r rules (among_later o rs k) e = or_right (test o) (list_any test rs) (among_any test r rs k e)

at_most : (r : FileRule) (rules : List FileRule) → IsAmong r rules → length r.pattern ≤ most_bytes rules
unfolding most_bytes
at_most r rules (first rs) = le-max_left (length r.pattern) (most_bytes rs)
at_most r rules (among_later o rs k) =
    let h = at_most r rs k in
    let l = le-max_right (length o.pattern) (most_bytes rs) in
    omega (arith, h, l)

most_within : (rules : List FileRule) (n : ℕ) → ((o : FileRule) → IsAmong o rules → length o.pattern ≤ n) → most_bytes rules ≤ n
unfolding most_bytes
most_within [] n h = omega arith
most_within (r ∷ rules) n h = max-le (h r (first rules)) (most_within rules n (λ o k. h o (among_later r rules k)))

nothing_among : (rules : List FileRule) → ((o : FileRule) → IsAmong o rules → ⊥) → rules ≡ []
nothing_among [] h = refl
nothing_among (r ∷ rules) h = absurd (h r (first rules))

among_nothing : (r : FileRule) (rules : List FileRule) → rules ≡ [] → IsAmong r rules → ⊥
among_nothing r rules e (first rs) = cc
among_nothing r rules e (among_later o rs k) = cc

-- a rule among those that match
pub record IsMatching (rules : List FileRule) (s : List ℕ) (r : FileRule) : Type 0 where
  pub among : IsAmong r rules
  pub matching : Matches r.pattern s

is_matching : (rules : List FileRule) (s : List ℕ) (r : FileRule) → IsAmong r (matching rules s) → IsMatching rules s r
unfolding matching
is_matching rules s r k =
    let h = among_filtered (λ x. is_match x.pattern s) r rules k in
    record { among = h.0; matching = (match_is r.pattern s).0 h.1 }

matching_is : (rules : List FileRule) (s : List ℕ) (r : FileRule) → IsAmong r rules → Matches r.pattern s → IsAmong r (matching rules s)
unfolding matching
matching_is rules s r k m = filtered_among (λ x. is_match x.pattern s) r rules k ((match_is r.pattern s).1 m)

longest_is : (rules : List FileRule) (s : List ℕ) (r : FileRule) → IsAmong r (matching rules s)
    → length r.pattern ≡ most_bytes (matching rules s) → IsLongest rules s r
longest_is rules s r k e =
    let h = is_matching rules s r k in
    record {
      among = h.among;
      matching = h.matching;
      longest = λ o i m. let l = at_most o (matching rules s) (matching_is rules s o i m) in omega (arith, e, l);
    }

is_longest : (rules : List FileRule) (s : List ℕ) (r : FileRule) → IsLongest rules s r
    → length r.pattern ≡ most_bytes (matching rules s)
is_longest rules s r l =
    let h = at_most r (matching rules s) (matching_is rules s r l.among l.matching) in
    let k = most_within (matching rules s) (length r.pattern)
    (λ o i. let m = is_matching rules s o i in l.longest o m.among m.matching) in
    omega (arith, h, k)

allow_some : (r : FileRule) (rules : List FileRule) → IsAmong r rules → longest_allow rules ≡ true → allow rules ≡ true
allow_some r rules (first rs) h = h
allow_some r rules (among_later o rs k) h = h

abbrev allows_here : List FileRule → FileRule → Bool
allows_here rules r = r.allows && (length r.pattern == most_bytes rules)

here_so : (rules : List FileRule) (r : FileRule) → r.allows ≡ true → length r.pattern ≡ most_bytes rules → allows_here rules r ≡ true
here_so rules r e l = ap (λ b. b && (length r.pattern == most_bytes rules)) e ∙ eq-eqb _ _ l

same_length : (rules : List FileRule) (r : FileRule) → (length r.pattern == most_bytes rules) ≡ true → length r.pattern ≡ most_bytes rules
same_length rules r h = elim (eqb_tells (length r.pattern) (most_bytes rules)) [ inl e ↦ e.1 | inr e ↦ absurd (cc) ]

by_longest : (rules : List FileRule) (s : List ℕ) (found : List FileRule) → found ≡ matching rules s → allow found ≡ true
    → IsAllowed rules s
unfolding longest_allow
by_longest rules s [] e h =
    no_rule (record { none = λ r k m. among_nothing r (matching rules s) (sym e) (matching_is rules s r k m) })
by_longest rules s (x ∷ found) e h =
    let k = any_among (allows_here (x ∷ found)) (x ∷ found) h in
    let a = and_parts (k.0).allows (length (k.0).pattern == most_bytes (x ∷ found)) k.2 in
    let l = same_length (x ∷ found) k.0 a.1 in
    by_rule k.0 (longest_is rules s k.0 (subst (λ y. IsAmong k.0 y) e k.1) (l ∙ ap most_bytes e)) a.0

pub allowed_is : (rules : List FileRule) (s : List ℕ) → (is_allowed rules s ≡ true) ↔ IsAllowed rules s
unfolding is_allowed longest_allow
allowed_is rules s = (
  λ h. elim (or_cases (bytes_eq s (codes "/robots.txt")) (allow (matching rules s)) h) [
    | inl e ↦ robots_file ((bytes_eq-Decides s (codes "/robots.txt")).0 e)
    | inr e ↦ by_longest rules s (matching rules s) refl e
  ],
  allowed,
)
  where
    allowed : IsAllowed rules s → (bytes_eq s (codes "/robots.txt") || allow (matching rules s)) ≡ true
    allowed (robots_file e) = or_left _ _ ((bytes_eq-Decides s (codes "/robots.txt")).1 e)
    allowed (no_rule n) = or_right _ _ (ap allow (nothing_among (matching rules s)
        (λ o i. let m = is_matching rules s o i in n.none o m.among m.matching)))
    allowed (by_rule r l e) =
        let i = matching_is rules s r l.among l.matching in
        or_right _ _ (allow_some r (matching rules s) i (among_any (allows_here (matching rules s)) r (matching rules s) i
        (here_so (matching rules s) r e (is_longest rules s r l))))

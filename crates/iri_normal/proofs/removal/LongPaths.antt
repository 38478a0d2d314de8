-- A long path in parts.
use Rattle.iri_normal.proofs.Common.{unwrap_or, length-take-le, take-append-drop, count_by, ◌==◌, MatchOption, slice_index, IsUtf8, is_byte}
use Rattle.iri_normal.proofs.Common.{Tests, path_char, is_path, before, after, lacks, delimited, both, joined, eqb-true, or_parts, or-true}
use Rattle.iri_normal.proofs.Common.{is_empty, onto, pieces, more_pieces, pieces_cut, dots, is_two_dots}
use Rattle.iri_normal.proofs.Common.{is_dot_segment, any_dot_segment, has_dot_segment, kept, taken, in_form, ends_at_slash, popped}
use Rattle.iri_normal.proofs.Common.{popped_times, written, written_segments, nothing_over, ◌≡◌, ℕ, zero, suc, ◌+◌, ◌-◌, ◌<◌, ◌≤◌, Bool}
use Rattle.iri_normal.proofs.Common.{true, false, cond, not, ◌&&◌, ◌||◌, List, [], ◌∷◌, ◌++◌, Option, Some, None, refl, sym, ◌∙◌, ap, subst}
use Rattle.iri_normal.proofs.Common.{arith, append_assoc, length, take, drop, append-nil}
use Rattle.iri_grammar.proofs.authorities.AuthorityTexts.{text_over-utf8}
use Rattle.iri_grammar.proofs.splits.FirstBytes.{found}
use Rattle.iri_percent.proofs.forms.PlainTexts.{pct-same}
use Rattle.iri_normal.proofs.segments.Slashes.{EndSlash, end_slash, first_whole, rest-ends, slash-ends, take-ends}
use Rattle.iri_normal.proofs.removal.KeptSegments.{kept-ends, kept-two, stays-after, taken-two}
use Rattle.iri_normal.proofs.removal.WrittenPaths.{form-append, form-nil}
use Rattle.iri_normal.proofs.segments.DotKinds.{nothing-is_no_dot, pieces-some}
use Rattle.iri_normal.proofs.targets.Targets.{parts_over}
use Rattle.iri_normal.proofs.targets.CutTexts.{text_over-cut}
use Rattle.iri_normal.proofs.removal.Buffers.{left-nothing, popped-ends, popped-lacks, popped-path, written-dot, written-dots, written-nothing, written-parts}
use Rattle.iri_normal.proofs.removal.Buffers.{written-plain, written-two}
use Rattle.iri_normal.specs.inside.NextDots.{IsCut, IsNext}
use Rattle.memchr.specs.Find.{IsFirstByte}
use Rattle.std.proofs.Common.{ap₂}
use Rattle.std.proofs.lemmas.List.{get_or-take, length-drop, nil_from_length}
use Rattle.std.proofs.lemmas.List.Recursion.{is_count_by}

-- ---- parts of a path
pub first-path : (s : Tests) (t r : List ℕ) → after 47 t ≡ Some r → is_path s t ≡ true → (is_path s (before 47 t) ≡ true) × (is_path s r ≡ true)
first-path s t r e w =
    let sides = text_over-cut (path_char s) (before 47 t) r (subst (λ l. is_path s l ≡ true)
    (first_whole t r e ∙ append_assoc (before 47 t) (47 ∷ []) r) w) in
    (sides.left, sides.right)

pub path-parts : (s : Tests) (a b : List ℕ) → (is_empty b || ends_at_slash a) ≡ true → is_path s (a ++ b) ≡ true
    → (is_path s a ≡ true) × (is_path s b ≡ true)
path-parts s a [] c w = (ap (is_path s) (sym (append-nil a)) ∙ w, nothing_over (path_char s))
path-parts s a (x ∷ xs) c w = parts_over (path_char s) a (x ∷ xs) c w

pub path-utf8 : (s : Tests) (t : List ℕ) → is_path s t ≡ true → IsUtf8 t
path-utf8 s t w = text_over-utf8 (path_char s) t w

-- ---- how many segments are taken back
abbrev slashes : List ℕ → ℕ
slashes [] = 0
slashes (x ∷ xs) = cond (x == 47) (1 + slashes xs) (slashes xs)

pieces-count : (t : List ℕ) → length (pieces 47 t) ≡ 1 + slashes t
pieces-count [] = refl
pieces-count (x ∷ xs) =
    let r = pieces-count xs in
    let ps = pieces-some xs in
    elim (x == 47) as (λ b. length (cond b ([] ∷ pieces 47 xs) (onto x (pieces 47 xs))) ≡ 1 + cond b (1 + slashes xs) (slashes xs)) [
      | true ↦ omega (arith, r)
      | false ↦ subst (λ qs. length (onto x qs) ≡ length qs) (sym ps.whole) refl ∙ r
    ]

plain-taken : (s : List ℕ) (ss : List (List ℕ)) (n : ℕ) → any_dot_segment (s ∷ ss) ≡ false → taken (s ∷ ss) n ≡ n - length ss
plain-taken s [] n h = let k = or_parts (is_dot_segment s) false h in let e : n ≡ n - 0 = omega arith in rw k.0 e
plain-taken s (t ∷ ts) n h =
    let k = or_parts (is_dot_segment s) (any_dot_segment (t ∷ ts)) h in
    let r = plain-taken t ts n k.1 in
    rw k.0 (omega (arith, r))

pub all-taken : (t : List ℕ) (n : ℕ) → has_dot_segment t ≡ false → taken (pieces 47 t) n ≡ n - count_by (is_byte 47) t
all-taken t n h =
    let ps = pieces-some t in
    let r = plain-taken ps.first ps.rest n (ap any_dot_segment (sym ps.whole) ∙ h) in
    let size : length ps.rest ≡ slashes t = omega (arith, ap length ps.whole, pieces-count t) in
    ap (λ qs. taken qs n) ps.whole ∙ (r ∙ ap (λ k. n - k) (size ∙ is_count_by slashes (is_byte 47) refl (λ x xs. refl) t))

taken-dot : (m : List ℕ) (n : ℕ) (o : Option (List ℕ)) → after 47 m ≡ o → is_dot_segment (before 47 m) ≡ true
    → taken (pieces 47 m) n ≡ cond (is_two_dots (before 47 m)) (taken (pieces 47 (unwrap_or o [])) n + 1) (taken (pieces 47 (unwrap_or o [])) n)
taken-dot m n None e h =
    ap (λ ps. taken ps n) (pieces_cut 47 m ∙ ap (λ o. before 47 m ∷ more_pieces 47 o) e) ∙ rw (h, nothing-is_no_dot) refl
taken-dot m n (Some r) e h =
    let ps = pieces-some r in
    ap (λ qs. taken qs n) (pieces_cut 47 m ∙ ap (λ o. before 47 m ∷ more_pieces 47 o) e)
    ∙ subst (λ qs. taken (before 47 m ∷ qs) n ≡ cond (is_two_dots (before 47 m)) (taken qs n + 1) (taken qs n)) (sym ps.whole) (rw h refl)

pub taken-next : (t a : List ℕ) (two : Bool) (r : List ℕ) (n : ℕ) → IsNext t a two r
    → taken (pieces 47 t) n ≡ cond two (taken (pieces 47 r) n + 1) (taken (pieces 47 r) n) - count_by (is_byte 47) a
taken-next t a two r n h =
    let m = h.more in
    ap (λ l. taken (pieces 47 l) n) h.whole
    ∙ (taken-two a m n h.ends
    ∙ (all-taken a (taken (pieces 47 m) n) h.plain
    ∙ ap (λ k. k - count_by (is_byte 47) a) (taken-dot m n (after 47 m) refl h.prefix.dots
    ∙ (ap (λ v. cond v (taken (pieces 47 (unwrap_or (after 47 m) [])) n + 1) (taken (pieces 47 (unwrap_or (after 47 m) [])) n)) (sym h.prefix.kind)
    ∙ ap (λ l. cond two (taken (pieces 47 l) n + 1) (taken (pieces 47 l) n)) (sym h.prefix.rest_is)))))

-- ---- where a text is cut
pub slash-before-end : (t : List ℕ) (r : Option ℕ) → 1 ≤ length t → IsFirstByte (is_byte 47) (take (length t - 1) t) r
    → MatchOption r (lacks 47 (take (length t - 1) t) ≡ true) (λ i. (i + 1 < length t) × (slice_index t i ≡ 47))
slash-before-end t None l h = (found 47 (take (length t - 1) t) None h).has
slash-before-end t (Some i) l h =
    let u = take (length t - 1) t in
    let size : length u ≡ length t - 1 = length-take-le (length t - 1) t (omega arith) in
    let below : i < length t - 1 = omega (arith, h.0.high, size) in
    (omega (arith, below), sym (get_or-take (length t - 1) t i 0 below) ∙ eqb-true (slice_index u i) 47 h.1)

pub cut-there : (t : List ℕ) (i : ℕ) → i + 1 < length t → slice_index t i ≡ 47 → IsCut t (take (i + 1) t) (drop (i + 1) t)
cut-there t i l e = record {
  whole = sym (take-append-drop (i + 1) t);
  ends = take-ends t i (omega arith) e;
  first_some = omega (arith, length-take-le (i + 1) t (omega arith));
  rest_some = omega (arith, length-drop (i + 1) t);
}

-- ---- what is shown
gone-first : (t : List ℕ) (o : Option (List ℕ)) → after 47 t ≡ o → is_dot_segment (before 47 t) ≡ true → written [] t ≡ written [] (unwrap_or o [])
gone-first t o e h = written-dot [] t h
    ∙ (ap (λ l. written l (unwrap_or (after 47 t) [])) (left-nothing (is_two_dots (before 47 t))) ∙ ap (λ o. written [] (unwrap_or o [])) e)

pub gone-dots : (t r : List ℕ) → after 47 t ≡ Some r → is_dot_segment (before 47 t) ≡ true → written [] t ≡ written [] r
gone-dots t r e h = gone-first t (Some r) e h

pub gone-all : (t : List ℕ) → after 47 t ≡ None → is_dot_segment (before 47 t) ≡ true → written [] t ≡ written [] []
gone-all t e h = gone-first t None e h

-- after a first segment that isn't a dot segment
written-first : (t r : List ℕ) → after 47 t ≡ Some r → is_dot_segment (before 47 t) ≡ false → written [] t ≡ written (before 47 t ++ 47 ∷ []) r
written-first t r e h =
    let ps = pieces-some r in
    ap (written_segments []) (pieces_cut 47 t ∙ ap (λ o. before 47 t ∷ more_pieces 47 o) e)
    ∙ subst (λ qs. written_segments [] (before 47 t ∷ qs) ≡ written_segments (before 47 t ++ 47 ∷ []) qs) (sym ps.whole) (rw h refl)

pub from-first : (t r f : List ℕ) → after 47 t ≡ Some r → f ≡ before 47 t ++ 47 ∷ [] → is_dot_segment (before 47 t) ≡ false
    → written f r ≡ written [] t
from-first t r f e q h = ap (λ l. written l r) q ∙ sym (written-first t r e h)

pub no-slash : (t : List ℕ) → after 47 t ≡ None → (ends_at_slash t && not (is_empty t)) ≡ false
no-slash [] e = refl
no-slash (x ∷ []) e = elim (x == 47) as (λ b. cond b (Some []) (after 47 []) ≡ None → (b && true) ≡ false) [ true ↦ λ k. cc | false ↦ λ _. refl ] e
no-slash (x ∷ y ∷ ys) e =
    elim (x == 47) as (λ b. cond b (Some (y ∷ ys)) (after 47 (y ∷ ys)) ≡ None → (ends_at_slash (y ∷ ys) && true) ≡ false) [
      | true ↦ λ k. cc
      | false ↦ λ k. no-slash (y ∷ ys) k
    ] e

or_left : (a b : Bool) → b ≡ false → (a || b) ≡ true → a ≡ true
or_left true b e h = refl
or_left false b e h = sym e ∙ h

empty-is : (t : List ℕ) → is_empty t ≡ true → t ≡ []
empty-is [] h = refl
empty-is (x ∷ xs) h = cc

whole-before : (t : List ℕ) → after 47 t ≡ None → before 47 t ≡ t
whole-before t e = sym (ap (λ o. before 47 t ++ delimited 47 o) e ∙ append-nil (before 47 t)) ∙ joined 47 t

-- one segment, with nil_from_length after it
pub one-alone : (t m : List ℕ) → after 47 t ≡ None → is_dot_segment (before 47 t) ≡ false
    → (is_empty m || (ends_at_slash t && not (is_empty t))) ≡ true → t ≡ written (written [] t) m
one-alone t m e h c =
    let ps : pieces 47 t ≡ before 47 t ∷ [] = pieces_cut 47 t ∙ ap (λ o. before 47 t ∷ more_pieces 47 o) e in
    let plain : written [] t ≡ before 47 t = ap (written_segments []) ps ∙ rw h (append-nil (before 47 t)) in
    let none : m ≡ [] = empty-is m (or_left (is_empty m) (ends_at_slash t && not (is_empty t)) (no-slash t e) c) in
    sym (ap (written (written [] t)) none ∙ (written-nothing (written [] t) ∙ (plain ∙ whole-before t e)))

pub more-ends : (t m r : List ℕ) → after 47 t ≡ Some r → (is_empty m || (ends_at_slash t && not (is_empty t))) ≡ true
    → (is_empty m || ends_at_slash r) ≡ true
more-ends t [] r e c = refl
more-ends t (x ∷ xs) r e c =
    rest-ends (before 47 t ++ 47 ∷ []) r (ap ends_at_slash (sym (first_whole t r e)) ∙ (both (ends_at_slash t) (not (is_empty t)) c).0)

none-taken : taken (pieces 47 []) 0 ≡ 0
none-taken = rw nothing-is_no_dot refl

taken-more : (r m : List ℕ) → (is_empty m || ends_at_slash r) ≡ true → taken (pieces 47 (r ++ m)) 0 ≡ taken (pieces 47 r) (taken (pieces 47 m) 0)
taken-more r [] c = ap (λ l. taken (pieces 47 l) 0) (append-nil r) ∙ ap (taken (pieces 47 r)) (sym none-taken)
taken-more r (x ∷ xs) c = taken-two r (x ∷ xs) 0 c

kept-more : (r m : List ℕ) → (is_empty m || ends_at_slash r) ≡ true
    → kept (pieces 47 (r ++ m)) 0 ≡ kept (pieces 47 r) (taken (pieces 47 m) 0) ++ kept (pieces 47 m) 0
kept-more r [] c = ap (λ l. kept (pieces 47 l) 0) (append-nil r) ∙ rw nothing-is_no_dot (sym (append-nil (kept (pieces 47 r) 0)))
kept-more r (x ∷ xs) c = kept-two r (x ∷ xs) 0 c

written-more : (b r m : List ℕ) → (is_empty m || ends_at_slash r) ≡ true → written (written b r) m ≡ written b (r ++ m)
written-more b r [] c = written-nothing (written b r) ∙ ap (written b) (sym (append-nil r))
written-more b r (x ∷ xs) c = sym (written-two b r (x ∷ xs) c)

pub times-ends : (n : ℕ) (b : List ℕ) → ends_at_slash b ≡ true → ends_at_slash (popped_times n b) ≡ true
times-ends zero b h = h
times-ends (suc n) b h = times-ends n (popped b) (popped-ends b)

-- a directory isn't empty, and ends with a slash
directory-end : (d : List ℕ) → (ends_at_slash d && not (is_empty d)) ≡ true → EndSlash d
directory-end [] h = cc
directory-end (x ∷ xs) h = end_slash (x ∷ xs) (both (ends_at_slash (x ∷ xs)) true h).0 (omega arith)

pub directory-ends : (d : List ℕ) → (ends_at_slash d && not (is_empty d)) ≡ true → ends_at_slash d ≡ true
directory-ends d h = (both (ends_at_slash d) (not (is_empty d)) h).0

pub segment-directory : (s : List ℕ) → (ends_at_slash (s ++ 47 ∷ []) && not (is_empty (s ++ 47 ∷ []))) ≡ true
segment-directory [] = refl
segment-directory (x ∷ xs) = ap (λ b. b && true) (slash-ends (x ∷ xs))

pub times-path : (s : Tests) (n : ℕ) (d : List ℕ) → is_path s d ≡ true → ends_at_slash d ≡ true → is_path s (popped_times n d) ≡ true
times-path s zero d h e = h
times-path s (suc n) d h e = times-path s n (popped d) (popped-path s d h e) (popped-ends d)

times-lacks : (n : ℕ) (d : List ℕ) → lacks 37 d ≡ true → lacks 37 (popped_times n d) ≡ true
times-lacks zero d h = h
times-lacks (suc n) d h = times-lacks n (popped d) (popped-lacks d h)

pub lacks-take : (n : ℕ) (t : List ℕ) → lacks 37 t ≡ true → lacks 37 (take n t) ≡ true
lacks-take zero t h = refl
lacks-take (suc n) [] h = refl
lacks-take (suc n) (x ∷ xs) h = let k = both (not (x == 37)) (lacks 37 xs) h in rw k.0 (lacks-take n xs k.1)

pub form-bare : (s : Tests) (normal bare : Bool) (t : List ℕ) → (bare ≡ true → lacks 37 t ≡ true)
    → in_form s (normal && not bare) t ≡ in_form s normal t
form-bare s false bare t h = refl
form-bare s true false t h = refl
form-bare s true true t h = sym (pct-same s t (h refl))

-- what stays of a directory, which may be known to have no percent-encoded octet
pub form-parent : (s : Tests) (normal bare : Bool) (d p : List ℕ) (i : ℕ) → (bare ≡ true → lacks 37 d ≡ true) → p ≡ popped_times i d
    → in_form s (normal && not bare) p ≡ in_form s normal (popped_times i d)
form-parent s normal bare d p i h e =
    ap (in_form s (normal && not bare)) e ∙ form-bare s normal bare (popped_times i d) (λ b. times-lacks i d (h b))

-- what stays of a directory, of what follows it, and of what follows that
pub form-three : (s : Tests) (normal : Bool) (d t m : List ℕ) (i k : ℕ) → (ends_at_slash d && not (is_empty d)) ≡ true
    → (is_empty m || ends_at_slash t) ≡ true → k ≡ taken (pieces 47 m) 0 → i ≡ taken (pieces 47 t) k
    → in_form s normal (popped_times i d) ++ (in_form s normal (kept (pieces 47 t) k) ++ in_form s normal (kept (pieces 47 m) 0))
    ≡ in_form s normal (written (written d t) m)
form-three s normal d t m i k h c p q =
    let x = kept (pieces 47 t) k in
    let y = kept (pieces 47 m) 0 in
    let all : written (written d t) m ≡ popped_times (taken (pieces 47 (t ++ m)) 0) d ++ kept (pieces 47 (t ++ m)) 0 =
    written-more d t m c ∙ stays-after d (t ++ m) 0 (directory-end d h) (or-true (ends_at_slash (t ++ m))) in
    let parts : popped_times (taken (pieces 47 (t ++ m)) 0) d ++ kept (pieces 47 (t ++ m)) 0 ≡ popped_times i d ++ (x ++ y) =
    ap₂ (λ n l. popped_times n d ++ l) (taken-more t m c ∙ (ap (taken (pieces 47 t)) (sym p) ∙ sym q))
    (kept-more t m c ∙ ap (λ n. kept (pieces 47 t) n ++ y) (sym p)) in
    sym (ap (in_form s normal) (all ∙ parts)
    ∙ (form-append s normal (popped_times i d) (x ++ y) (times-ends i d (directory-ends d h))
    ∙ ap (λ l. in_form s normal (popped_times i d) ++ l) (form-kept s normal t m k p c)))
  where
    form-kept : (s : Tests) (normal : Bool) (r m : List ℕ) (k : ℕ) → k ≡ taken (pieces 47 m) 0 → (is_empty m || ends_at_slash r) ≡ true
        → in_form s normal (kept (pieces 47 r) k ++ kept (pieces 47 m) 0) ≡ in_form s normal (kept (pieces 47 r) k) ++ in_form s normal (kept (pieces 47 m) 0)
    form-kept s normal r [] k p c =
        let none : kept (pieces 47 []) 0 ≡ [] = rw nothing-is_no_dot refl in
        ap (λ l. in_form s normal (kept (pieces 47 r) k ++ l)) none ∙ (ap (in_form s normal) (append-nil (kept (pieces 47 r) k))
        ∙ (sym (append-nil (in_form s normal (kept (pieces 47 r) k)))
        ∙ ap (λ l. in_form s normal (kept (pieces 47 r) k) ++ l) (sym (form-nil s normal) ∙ ap (in_form s normal) (sym none))))
    form-kept s normal r (x ∷ xs) k p c = form-append s normal (kept (pieces 47 r) k) (kept (pieces 47 (x ∷ xs)) 0) (kept-ends r k c)

-- both parts of a part
pub form-two : (s : Tests) (normal : Bool) (t a b : List ℕ) (n k : ℕ) → IsCut t a b → k ≡ taken (pieces 47 b) n
    → in_form s normal (kept (pieces 47 a) k) ++ in_form s normal (kept (pieces 47 b) n) ≡ in_form s normal (kept (pieces 47 t) n)
form-two s normal t a b n k h r =
    sym (ap (λ l. in_form s normal (kept (pieces 47 l) n)) h.whole
    ∙ (ap (in_form s normal) (kept-two a b n h.ends ∙ ap (λ m. kept (pieces 47 a) m ++ kept (pieces 47 b) n) (sym r))
    ∙ form-append s normal (kept (pieces 47 a) k) (kept (pieces 47 b) n) (kept-ends a k h.ends)))

-- ---- the two pieces of a path
pub dots-base : (f p g : List ℕ) → (is_empty p || ends_at_slash f) ≡ true → written [] g ≡ written [] f → written (written [] g) p ≡ dots (f ++ p)
dots-base f p g c h = ap (λ w. written w p) h ∙ (written-more [] f p c ∙ written-dots (f ++ p))

pub dots-reference : (f p g q : List ℕ) → (is_empty p || ends_at_slash f) ≡ true → length g ≡ 0 → written [] g ≡ written [] f
    → written [] q ≡ written [] p → written (written [] q) [] ≡ dots (f ++ p)
dots-reference f p g q c z h k =
    written-nothing (written [] q) ∙ (k ∙ (ap (λ w. written w p) (sym (written-nothing []) ∙ (ap (written []) (sym (nil_from_length g z)) ∙ h))
    ∙ (written-more [] f p c ∙ written-dots (f ++ p))))

pub directory-of : (f p : List ℕ) → (is_empty p || ends_at_slash f) ≡ true → is_empty f ≡ false → is_empty p ≡ false
    → (ends_at_slash f && not (is_empty f)) ≡ true
directory-of [] p c e n = cc
directory-of (x ∷ xs) [] c e n = cc
directory-of (x ∷ xs) (y ∷ ys) c e n = ap (λ b. b && true) c

pub dots-directory : (f p : List ℕ) → (is_empty p || ends_at_slash f) ≡ true → has_dot_segment f ≡ false
    → written (written f p) [] ≡ dots (f ++ p)
dots-directory f p c d =
    written-nothing (written f p) ∙ (ap (λ b. written b p) (sym (written-plain [] f d)) ∙ written-parts f p c)

-- what follows the base's piece follows a segment of what is left of it
pub cut-after : (f p g : List ℕ) → (is_empty p || ends_at_slash f) ≡ true → (ends_at_slash f ≡ true → ends_at_slash g ≡ true) → 0 < length g
    → (is_empty p || (ends_at_slash g && not (is_empty g))) ≡ true
cut-after f [] g c h l = refl
cut-after f (x ∷ xs) [] c h l = absurd (omega arith)
cut-after f (x ∷ xs) (y ∷ ys) c h l = ap (λ b. b && true) (h c)

-- Dot removal and triplet normal form in either order, and how a path begins in it.
use Rattle.iri_normal.proofs.Common.{◌≡◌, ℕ, ◌<◌, Bool, true, false, cond, not, List, [], ◌∷◌, ◌++◌, map, refl, sym, ◌∙◌, ap, subst, arith}
use Rattle.iri_normal.proofs.Common.{append-nil, ◌==◌, is_ascii_hexdigit, to_ascii_uppercase, encode_utf8, list_all, Tests, IsSpec}
use Rattle.iri_normal.proofs.Common.{unreserved, is_ascii_unreserved, lacks, before, after, by_test, both, lacks-append, lacks-other}
use Rattle.iri_normal.proofs.Common.{test_apart, pieces, onto, more_pieces, pieces_cut, whole_triplets, two_digits, as_it_is, pct, Spells}
use Rattle.iri_normal.proofs.Common.{none, more, pct_delimiter, slash, normal_nil, normal_plain, normal_lone, normal_char, Reading, done}
use Rattle.iri_normal.proofs.Common.{plain, char, lone, read, upper_hex, dots, not-true, starts_with_slash, starts_with_slashes}
use Rattle.iri_normal.proofs.Common.{whole_plain, octet, ◌&&◌, length}
use Rattle.iri_grammar.proofs.units.LackedBytes.{lacks-encodes}
use Rattle.iri_normal.proofs.removal.Output.{KeepsSegments, dots-map}
use Rattle.iri_normal.proofs.segments.DotKinds.{all_lack, pieces-whole, pieces-slash, pieces-lack}
use Rattle.iri_normal.proofs.segments.Slashes.{no_slashes}
use Rattle.iri_normal.proofs.removal.Stability.{unsplit, unsplit-pieces}
use Rattle.iri_normal.proofs.triplets.DotTriplets.{map_same, two_dots-pct, dot_segment-pct}
use Rattle.iri_percent.specs.Units.{IsOutsideTriplets}
use Rattle.std.proofs.lemmas.Str.{len_utf8_bounds, length-encode}

-- ---- dot removal commutes with triplet normal form
-- ---- a delimiter stays away
-- an ASCII byte that is no part of a triplet and never decoded
pub record IsDelimiter (s : Tests) (m : ℕ) : Type 0 where
  pub delimiter : IsOutsideTriplets m
  pub ascii : m < 128
  pub reserved : unreserved s m ≡ false

hex-apart : (m a : ℕ) → IsOutsideTriplets m → is_ascii_hexdigit a ≡ true → (a == m) ≡ false
hex-apart m a k h = test_apart is_ascii_hexdigit m a k.digit h

percent-apart : (m : ℕ) → IsOutsideTriplets m → (37 == m) ≡ false
percent-apart m k = by_test 37 m (λ b. b ≡ false) (λ e. let no : (37 == 37) ≡ false = subst (λ y. (y == 37) ≡ false) (sym e) k.percent in
    cc) (λ _. refl)

triplet-lacks : (m a b : ℕ) (xs : List ℕ) → IsOutsideTriplets m → is_ascii_hexdigit a ≡ true → is_ascii_hexdigit b ≡ true → lacks m xs ≡ true
    → lacks m (37 ∷ a ∷ b ∷ xs) ≡ true
triplet-lacks m a b xs k p q h = lacks-other m 37 (a ∷ b ∷ xs) (percent-apart m k)
    (lacks-other m a (b ∷ xs) (hex-apart m a k p) (lacks-other m b xs (hex-apart m b k q) h))

upper-lacks : (m : ℕ) (sp os : List ℕ) → IsOutsideTriplets m → Spells sp os → lacks m (map to_ascii_uppercase sp) ≡ true
upper-lacks m sp os k none = refl
upper-lacks m sp os k (more a b sp' os' p q r) = triplet-lacks m (to_ascii_uppercase a) (to_ascii_uppercase b)
    (map to_ascii_uppercase sp') k (upper_hex a p) (upper_hex b q) (upper-lacks m sp' os' k r)

lacks-after : (m : ℕ) (xs ys : List ℕ) → lacks m (xs ++ ys) ≡ true → lacks m ys ≡ true
lacks-after m [] ys h = h
lacks-after m (x ∷ xs) ys h = lacks-after m xs ys (both (not (x == m)) (lacks m (xs ++ ys)) h).1

pub encoded-lacks : (s : Tests) (m c : ℕ) → IsDelimiter s m → unreserved s c ≡ true → lacks m (map as_it_is (encode_utf8 c)) ≡ true
encoded-lacks s m c k u =
    let apart : (c == m) ≡ false = test_apart (unreserved s) m c k.reserved u in
    rw (map_same (encode_utf8 c)) (ap (lacks m) (sym (append-nil (encode_utf8 c)))
    ∙ lacks-encodes m (c ∷ []) k.ascii (lacks-other m c [] apart refl))

lacks-read : (s : Tests) (m : ℕ) (t : List ℕ) → IsDelimiter s m → Reading t → lacks m t ≡ true → lacks m (pct s t) ≡ true
lacks-read s m t k done h = rw (normal_nil s as_it_is) refl
lacks-read s m t k (plain x xs n r) h =
    let l = both (not (x == m)) (lacks m xs) h in rw (normal_plain s as_it_is x xs n, l.0) (lacks-read s m xs k r l.1)
lacks-read s m t k (char c sp xs n sps r) h =
    let rest = lacks-read s m xs k r (lacks-after m sp xs h) in
    rw (normal_char s as_it_is c sp xs n sps) (lacks-append m
    (cond (unreserved s c) (map as_it_is (encode_utf8 c)) (map to_ascii_uppercase sp)) (pct s xs)
    (elim (unreserved s c) as (λ v. unreserved s c ≡ v
    → lacks m (cond v (map as_it_is (encode_utf8 c)) (map to_ascii_uppercase sp)) ≡ true) [
      | true ↦ λ u. encoded-lacks s m c k u
      | false ↦ λ _. upper-lacks m sp (encode_utf8 c) k.delimiter sps
    ] refl) rest)
lacks-read s m t k (lone a b xs p q n r) h =
    rw (normal_lone s as_it_is a b xs p q n) (triplet-lacks m (to_ascii_uppercase a) (to_ascii_uppercase b) (pct s xs) k.delimiter
    (upper_hex a p) (upper_hex b q) (lacks-read s m xs k r (lacks-after m (37 ∷ a ∷ b ∷ []) xs h)))

pub pct-lacks : (s : Tests) (m : ℕ) (t : List ℕ) → IsDelimiter s m → whole_triplets t ≡ true → lacks m t ≡ true → lacks m (pct s t) ≡ true
pct-lacks s m t k w h = lacks-read s m t k (read t w) h

pub slash-delimits : (s : Tests) → IsSpec s → IsDelimiter s 47
unfolding unreserved is_ascii_unreserved
slash-delimits s k = record { delimiter = slash; ascii = omega arith; reserved = rw (k.ucs_ascii 47 (omega arith)) refl }

-- ---- the segments
abbrev pub all_whole : List (List ℕ) → Bool
all_whole ss = list_all whole_triplets ss

digits-before : (xs : List ℕ) → two_digits xs ≡ true → two_digits (before 47 xs) ≡ true
digits-before [] h = cc
digits-before (a ∷ []) h = cc
digits-before (a ∷ b ∷ xs) h =
    let k = both (is_ascii_hexdigit a) (is_ascii_hexdigit b) h in rw (hex-apart 47 a slash k.0, hex-apart 47 b slash k.1) h

percent-before : (x : ℕ) (xs : List ℕ) → cond (x == 37) (two_digits xs) true ≡ true → cond (x == 37) (two_digits (before 47 xs)) true ≡ true
percent-before x xs h = elim (x == 37) as (λ b. cond b (two_digits xs) true ≡ true
    → cond b (two_digits (before 47 xs)) true ≡ true) [ true ↦ λ k. digits-before xs k | false ↦ λ _. refl ] h

pub whole-pieces : (t : List ℕ) → whole_triplets t ≡ true → all_whole (pieces 47 t) ≡ true
unfolding whole_triplets
whole-pieces [] w = refl
whole-pieces (x ∷ xs) w =
    let k = both (cond (x == 37) (two_digits xs) true) (whole_triplets xs) w in
    let r = whole-pieces xs k.1 in
    elim (x == 47) as (λ b. all_whole (cond b ([] ∷ pieces 47 xs) (onto x (pieces 47 xs))) ≡ true) [
      | true ↦ r
      | false ↦
          let l = both (whole_triplets (before 47 xs)) (all_whole (more_pieces 47 (after 47 xs)))
          (subst (λ ps. all_whole ps ≡ true) (pieces_cut 47 xs) r) in
          rw (pieces_cut 47 xs) (rw (percent-before x xs k.0, l.0) l.1)
    ]

pieces-unsplit : (s : Tests) (t : List ℕ) (ss : List (List ℕ)) → IsSpec s → all_lack (t ∷ ss) ≡ true → all_whole (t ∷ ss) ≡ true
    → pieces 47 (pct s (unsplit (t ∷ ss))) ≡ map (pct s) (t ∷ ss)
pieces-unsplit s t [] k l w =
    let lt = (both (lacks 47 t) true l).0 in
    let wt = (both (whole_triplets t) true w).0 in
    rw (append-nil t) (pieces-whole (pct s t) (pct-lacks s 47 t (slash-delimits s k) wt lt))
pieces-unsplit s t (u ∷ us) k l w =
    let lt = both (lacks 47 t) (all_lack (u ∷ us)) l in
    let wt = both (whole_triplets t) (all_whole (u ∷ us)) w in
    ap (pieces 47) (pct_delimiter s 47 t (unsplit (u ∷ us)) slash)
    ∙ (pieces-slash (pct s t) (pct s (unsplit (u ∷ us))) (pct-lacks s 47 t (slash-delimits s k) wt.0 lt.0)
    ∙ ap (λ ps. pct s t ∷ ps) (pieces-unsplit s u us k lt.1 wt.1))

pub pieces-pct : (s : Tests) (p : List ℕ) → IsSpec s → whole_triplets p ≡ true → pieces 47 (pct s p) ≡ map (pct s) (pieces 47 p)
pieces-pct s p k w =
    ap (λ t. pieces 47 (pct s t)) (sym (unsplit-pieces p))
    ∙ (rw (pieces_cut 47 p) (pieces-unsplit s (before 47 p) (more_pieces 47 (after 47 p)) k
    (subst (λ ps. all_lack ps ≡ true) (pieces_cut 47 p) (pieces-lack p))
    (subst (λ ps. all_whole ps ≡ true) (pieces_cut 47 p) (whole-pieces p w))))

-- ---- removal
pub dots-pct : (s : Tests) (p : List ℕ) → IsSpec s → whole_triplets p ≡ true → dots (pct s p) ≡ pct s (dots p)
dots-pct s p k w = dots-map whole_triplets (pct s) keeps p (pieces-pct s p k w) (whole-pieces p w)
  where
    keeps : KeepsSegments whole_triplets (pct s)
    keeps = record {
      nothing = normal_nil s as_it_is;
      slash = λ a t. pct_delimiter s 47 a t slash;
      dot = λ t h. dot_segment-pct s t k h;
      two = λ t h. two_dots-pct s t k h;
    }

-- ---- the triplet normal form of a path begins with as many slashes as the path
pub head-apart : (x : ℕ) (xs : List ℕ) → lacks 47 (x ∷ xs) ≡ true → (x == 47) ≡ false
head-apart x xs h = not-true (x == 47) (both (not (x == 47)) (lacks 47 xs) h).0

spelled-head : (sp os xs ys : List ℕ) → Spells sp os → 0 < length os → lacks 47 (map as_it_is os) ≡ true
    → starts_with_slash (map as_it_is os ++ ys) ≡ starts_with_slash (sp ++ xs)
spelled-head sp os xs ys none l h = absurd (omega arith)
spelled-head sp os xs ys (more x y sp' os' p q k) l h = head-apart (octet x y) (map as_it_is os') h

triplet-head : (sp os xs ys : List ℕ) → Spells sp os → 0 < length os
    → starts_with_slash (map to_ascii_uppercase sp ++ ys) ≡ starts_with_slash (sp ++ xs)
triplet-head sp os xs ys none l = absurd (omega arith)
triplet-head sp os xs ys (more x y sp' os' p q k) l = refl

encoded-some : (c : ℕ) → 0 < length (encode_utf8 c)
encoded-some c = let b = len_utf8_bounds c in omega (arith, length-encode c, b.0)

pub read-head : (s : Tests) (t : List ℕ) → IsSpec s → Reading t → starts_with_slash (pct s t) ≡ starts_with_slash t
read-head s t k done = ap starts_with_slash (normal_nil s as_it_is)
read-head s t k (plain x xs n r) = ap starts_with_slash (normal_plain s as_it_is x xs n)
read-head s t k (char c sp xs n sps r) =
    ap starts_with_slash (normal_char s as_it_is c sp xs n sps)
    ∙ by_form (unreserved s c) refl
  where
    by_form : (b : Bool) → unreserved s c ≡ b → starts_with_slash
        (cond (unreserved s c) (map as_it_is (encode_utf8 c)) (map to_ascii_uppercase sp) ++ pct s xs) ≡ starts_with_slash (sp ++ xs)
    by_form true e = ap (λ v. starts_with_slash (cond v (map as_it_is (encode_utf8 c)) (map to_ascii_uppercase sp) ++ pct s xs)) e
        ∙ spelled-head sp (encode_utf8 c) xs (pct s xs) sps (encoded-some c) (encoded-lacks s 47 c (slash-delimits s k) e)
    by_form false e = ap (λ v. starts_with_slash (cond v (map as_it_is (encode_utf8 c)) (map to_ascii_uppercase sp) ++ pct s xs)) e
        ∙ triplet-head sp (encode_utf8 c) xs (pct s xs) sps (encoded-some c)
read-head s t k (lone a b xs p q o r) = ap starts_with_slash (normal_lone s as_it_is a b xs p q o)

pub pct-head : (s : Tests) (t : List ℕ) → IsSpec s → whole_triplets t ≡ true → starts_with_slash (pct s t) ≡ starts_with_slash t
pct-head s t k w = read-head s t k (read t w)

pub pct-heads : (s : Tests) (t : List ℕ) → IsSpec s → whole_triplets t ≡ true → starts_with_slashes (pct s t) ≡ starts_with_slashes t
pct-heads s [] k w = ap starts_with_slashes (normal_nil s as_it_is)
pct-heads s (x ∷ xs) k w =
    by_test x 47 (λ b. (x == 47) ≡ b → starts_with_slashes (pct s (x ∷ xs)) ≡ (b && starts_with_slash xs))
    (λ e _.
    let n : (x == 37) ≡ false = ap (λ y. y == 37) e in
    let r : whole_triplets xs ≡ true = sym (whole_plain x xs n) ∙ w in
    ap starts_with_slashes (normal_plain s as_it_is x xs n) ∙ (ap (λ y. (y == 47) && starts_with_slash (pct s xs)) e ∙ pct-head s xs k r))
    (λ _ h. no_slashes (pct s (x ∷ xs)) (pct-head s (x ∷ xs) k w ∙ h))
    refl

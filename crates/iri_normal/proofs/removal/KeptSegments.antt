-- How segments act on those before them: what they take away, and what stays of them.
use Rattle.iri_normal.proofs.Common.{◌≡◌, ℕ, zero, suc, ◌+◌, ◌-◌, ◌<◌, ◌≤◌, Bool, true, false, cond, not, ◌&&◌, ◌||◌, List, [], ◌∷◌, ◌++◌}
use Rattle.iri_normal.proofs.Common.{refl, sym, ◌∙◌, ap, subst, arith, append_assoc, length, drop, take, eqb-true, not-true, nat_tests}
use Rattle.iri_normal.proofs.Common.{append-nil, length-take-le, list_all, ◌==◌, or-true, or-false, Tests, path_char, is_path, lacks, both}
use Rattle.iri_normal.proofs.Common.{text_over, is_empty, pieces, text_over-append, nothing_over, is_two_dots, without_last}
use Rattle.iri_normal.proofs.Common.{any_dot_segment, has_dot_segment, is_dot_segment, kept, taken, ends_at_slash, left, popped}
use Rattle.iri_normal.proofs.Common.{popped_times, written, written_segments}
use Rattle.iri_normal.proofs.segments.Slashes.{EndSlash, both-end, slash-ends, without_end}
use Rattle.iri_normal.proofs.removal.Output.{without_last-slash}
use Rattle.iri_normal.proofs.normal_forms.Paths.{pieces-over}
use Rattle.iri_normal.proofs.segments.DotKinds.{all_lack, nothing-is_no_dot, pieces-lack, pieces-slash, pieces-some, pieces-whole}
use Rattle.iri_normal.proofs.segments.CutPaths.{alone, ended}
use Rattle.iri_normal.proofs.targets.Targets.{slash_in_path}
use Rattle.iri_normal.proofs.targets.CutTexts.{slash_over}
use Rattle.iri_normal.proofs.removal.Buffers.{left-output, popped-output, two_ends, written-ends, written-plain}
use Rattle.iri_normal.specs.inside.Kept.{taken_by}
use Rattle.std.proofs.lemmas.Bool.{not-false}

-- ---- segments that are taken away
pub times-less : (n : ℕ) (b : List ℕ) → 0 < n → popped_times n b ≡ popped_times (n - 1) (popped b)
times-less zero b l = absurd (omega arith)
times-less (suc n) b l = let e : n ≡ suc n - 1 = omega arith in ap (λ k. popped_times k (popped b)) e

small-popped : (b : List ℕ) → ends_at_slash b ≡ true → length b ≤ 1 → popped b ≡ b
small-popped [] h l = refl
small-popped (x ∷ []) h l = let e = eqb-true x 47 h in ap (λ y. y ∷ []) (sym e)
small-popped (x ∷ y ∷ ys) h l = absurd (omega arith)

pub times-small : (n : ℕ) (b : List ℕ) → ends_at_slash b ≡ true → length b ≤ 1 → popped_times n b ≡ b
times-small zero b h l = refl
times-small (suc n) b h l = ap (popped_times n) (small-popped b h l) ∙ times-small n b h l

times-left : (two : Bool) (n : ℕ) (b : List ℕ) → popped_times n (left two b) ≡ popped_times (cond two (n + 1) n) b
times-left true n b = let e : suc n ≡ n + 1 = omega arith in ap (λ k. popped_times k b) e
times-left false n b = refl

some : (n : ℕ) → (suc n == 0) ≡ false
some n = grind (arith, nat_tests)

-- a segment that is put after others may be the first to be taken away
times-pushed : (n : ℕ) (o s : List ℕ) → lacks 47 s ≡ true
    → popped_times n ((o ++ 47 ∷ s) ++ 47 ∷ []) ≡ popped_times (n - 1) (o ++ 47 ∷ []) ++ cond (n == 0) (s ++ 47 ∷ []) []
times-pushed zero o s h = two_ends o s (47 ∷ [])
times-pushed (suc n) o s h =
    let e : n ≡ suc n - 1 = omega arith in
    ap (popped_times n) (popped-output (o ++ 47 ∷ s) ∙ ap (λ l. l ++ 47 ∷ []) (without_last-slash o s h))
    ∙ (ap (λ k. popped_times k (o ++ 47 ∷ [])) e
    ∙ (sym (append-nil (popped_times (suc n - 1) (o ++ 47 ∷ [])))
    ∙ ap (λ v. popped_times (suc n - 1) (o ++ 47 ∷ []) ++ cond v (s ++ 47 ∷ []) []) (sym (some n))))

-- nothing is taken away of a last segment without a slash
abbrev last_ok : List (List ℕ) → ℕ → Bool
last_ok [] n = true
last_ok (s ∷ []) n = is_empty s || n == 0
last_ok (s ∷ t ∷ ss) n = last_ok (t ∷ ss) n

plain-last : (b s : List ℕ) (n : ℕ) → (is_empty s || n == 0) ≡ true → popped_times n (b ++ (s ++ [])) ≡ popped_times n b ++ s
plain-last b [] n h = ap (popped_times n) (append-nil b) ∙ sym (append-nil (popped_times n b))
plain-last b (x ∷ xs) zero h = ap (λ l. b ++ l) (append-nil (x ∷ xs))
plain-last b (x ∷ xs) (suc n) h = let e : (suc n == 0) ≡ false = some n in cc

pieces-stay : (o s : List ℕ) (ss : List (List ℕ)) (n : ℕ) → all_lack (s ∷ ss) ≡ true → last_ok (s ∷ ss) n ≡ true
    → popped_times n (written_segments (o ++ 47 ∷ []) (s ∷ ss)) ≡ popped_times (taken (s ∷ ss) n) (o ++ 47 ∷ []) ++ kept (s ∷ ss) n
pieces-stay o s [] n h k =
    elim (is_dot_segment s) as (λ v. popped_times n (cond v (left (is_two_dots s) (o ++ 47 ∷ [])) ((o ++ 47 ∷ []) ++ (s ++ [])))
    ≡ popped_times (cond v (cond (is_two_dots s) (n + 1) n) n) (o ++ 47 ∷ []) ++ cond v [] s) [
      | true ↦ times-left (is_two_dots s) n (o ++ 47 ∷ [])
          ∙ sym (append-nil (popped_times (cond (is_two_dots s) (n + 1) n) (o ++ 47 ∷ [])))
      | false ↦ plain-last (o ++ 47 ∷ []) s n k
    ]
pieces-stay o s (t ∷ ts) n h k =
    let p = both (lacks 47 s) (all_lack (t ∷ ts)) h in
    let m = taken (t ∷ ts) n in
    let rest = t ∷ ts in
    elim (is_dot_segment s) as (λ v. popped_times n (cond v (written_segments (left (is_two_dots s) (o ++ 47 ∷ [])) rest)
    (written_segments ((o ++ 47 ∷ []) ++ (s ++ 47 ∷ [])) rest))
    ≡ popped_times (cond v (cond (is_two_dots s) (m + 1) m) (m - 1)) (o ++ 47 ∷ [])
    ++ (cond v [] (cond (m == 0) (s ++ 47 ∷ []) []) ++ kept rest n)) [
      | true ↦ ap (λ l. popped_times n (written_segments l rest)) (left-output (is_two_dots s) o)
          ∙ (pieces-stay (cond (is_two_dots s) (without_last o) o) t ts n p.1 k
          ∙ ap (λ l. l ++ kept rest n) (ap (popped_times m) (sym (left-output (is_two_dots s) o))
          ∙ times-left (is_two_dots s) m (o ++ 47 ∷ [])))
      | false ↦ ap (λ l. popped_times n (written_segments l rest)) (sym (two_ends o s (47 ∷ [])))
          ∙ (pieces-stay (o ++ 47 ∷ s) t ts n p.1 k
          ∙ (ap (λ l. l ++ kept rest n) (times-pushed m o s p.0)
          ∙ append_assoc (popped_times (m - 1) (o ++ 47 ∷ [])) (cond (m == 0) (s ++ 47 ∷ []) []) (kept rest n)))
    ]

last-slash : (ss : List (List ℕ)) (n : ℕ) → last_ok (ss ++ [] ∷ []) n ≡ true
last-slash [] n = refl
last-slash (s ∷ []) n = refl
last-slash (s ∷ t ∷ ss) n = last-slash (t ∷ ss) n

last-none : (ss : List (List ℕ)) → last_ok ss 0 ≡ true
last-none [] = refl
last-none (s ∷ []) = or-true (is_empty s)
last-none (s ∷ t ∷ ss) = last-none (t ∷ ss)

last-path : (t : List ℕ) (n : ℕ) → (ends_at_slash t || n == 0) ≡ true → last_ok (pieces 47 t) n ≡ true
last-path t n h =
    elim (ends_at_slash t) as (λ v. ends_at_slash t ≡ v → (v || n == 0) ≡ true → last_ok (pieces 47 t) n ≡ true) [
      | true ↦ λ e _. let r = ended t e in subst (λ ps. last_ok ps n ≡ true) (sym (alone t r)) (last-slash r.segments n)
      | false ↦ λ _ k. subst (λ m. last_ok (pieces 47 t) m ≡ true) (sym (eqb-true n 0 k)) (last-none (pieces 47 t))
    ] refl h

path-stays : (o t : List ℕ) (n : ℕ) → (ends_at_slash t || n == 0) ≡ true
    → popped_times n (written (o ++ 47 ∷ []) t) ≡ popped_times (taken (pieces 47 t) n) (o ++ 47 ∷ []) ++ kept (pieces 47 t) n
path-stays o t n h =
    let r = pieces-some t in
    subst (λ ps. popped_times n (written_segments (o ++ 47 ∷ []) ps) ≡ popped_times (taken ps n) (o ++ 47 ∷ []) ++ kept ps n) (sym r.whole)
    (pieces-stay o r.first r.rest n (subst (λ ps. all_lack ps ≡ true) r.whole (pieces-lack t))
    (subst (λ ps. last_ok ps n ≡ true) r.whole (last-path t n h)))

-- after a directory
pub stays-after : (d t : List ℕ) (n : ℕ) → EndSlash d → (ends_at_slash t || n == 0) ≡ true
    → popped_times n (written d t) ≡ popped_times (taken (pieces 47 t) n) d ++ kept (pieces 47 t) n
stays-after d t n e h =
    subst (λ (x : List ℕ). popped_times n (written x t) ≡ popped_times (taken (pieces 47 t) n) x ++ kept (pieces 47 t) n) (sym e.whole)
    (path-stays e.prefix t n h)

-- after a slash, which stays
pub after-slash : (t : List ℕ) (n : ℕ) → (ends_at_slash t || n == 0) ≡ true
    → popped_times n (written (47 ∷ []) t) ≡ 47 ∷ kept (pieces 47 t) n
after-slash t n h = path-stays [] t n h
    ∙ ap (λ l. l ++ kept (pieces 47 t) n) (times-small (taken (pieces 47 t) n) (47 ∷ []) refl (omega arith))

-- ---- a path in two parts
taken-append : (ss : List (List ℕ)) (p : List ℕ) (ps : List (List ℕ)) (n : ℕ)
    → taken (ss ++ p ∷ ps) n ≡ taken (ss ++ [] ∷ []) (taken (p ∷ ps) n)
taken-append [] p ps n = rw nothing-is_no_dot refl
taken-append (s ∷ []) p ps n = rw nothing-is_no_dot refl
taken-append (s ∷ t ∷ ss) p ps n = ap (taken_by s) (taken-append (t ∷ ss) p ps n)

pub taken-two : (a b : List ℕ) (n : ℕ) → ends_at_slash a ≡ true → taken (pieces 47 (a ++ b)) n ≡ taken (pieces 47 a) (taken (pieces 47 b) n)
taken-two a b n h =
    let e = ended a h in
    let ps = pieces-some b in
    ap (λ l. taken l n) (e.whole b)
    ∙ (subst (λ l. taken (e.segments ++ l) n ≡ taken (e.segments ++ [] ∷ []) (taken l n)) (sym ps.whole) (taken-append e.segments ps.first ps.rest n)
    ∙ ap (λ l. taken l (taken (pieces 47 b) n)) (sym (alone a e)))

kept-append : (ss : List (List ℕ)) (p : List ℕ) (ps : List (List ℕ)) (n : ℕ)
    → kept (ss ++ p ∷ ps) n ≡ kept (ss ++ [] ∷ []) (taken (p ∷ ps) n) ++ kept (p ∷ ps) n
kept-append [] p ps n = rw nothing-is_no_dot refl
kept-append (s ∷ []) p ps n =
    let m = taken (p ∷ ps) n in
    let x = cond (is_dot_segment s) [] (cond (m == 0) (s ++ 47 ∷ []) []) in
    rw nothing-is_no_dot (ap (λ l. l ++ kept (p ∷ ps) n) (sym (append-nil x)))
kept-append (s ∷ t ∷ ss) p ps n =
    let m = taken (p ∷ ps) n in
    let x = cond (is_dot_segment s) [] (cond (taken ((t ∷ ss) ++ [] ∷ []) m == 0) (s ++ 47 ∷ []) []) in
    ap (λ k. cond (is_dot_segment s) [] (cond (k == 0) (s ++ 47 ∷ []) []) ++ kept ((t ∷ ss) ++ p ∷ ps) n) (taken-append (t ∷ ss) p ps n)
    ∙ (ap (λ l. x ++ l) (kept-append (t ∷ ss) p ps n) ∙ sym (append_assoc x (kept ((t ∷ ss) ++ [] ∷ []) m) (kept (p ∷ ps) n)))

pub kept-two : (a b : List ℕ) (n : ℕ) → ends_at_slash a ≡ true
    → kept (pieces 47 (a ++ b)) n ≡ kept (pieces 47 a) (taken (pieces 47 b) n) ++ kept (pieces 47 b) n
kept-two a b n h =
    let e = ended a h in
    let ps = pieces-some b in
    ap (λ l. kept l n) (e.whole b)
    ∙ (subst (λ l. kept (e.segments ++ l) n ≡ kept (e.segments ++ [] ∷ []) (taken l n) ++ kept l n) (sym ps.whole)
    (kept-append e.segments ps.first ps.rest n)
    ∙ ap (λ l. kept l (taken (pieces 47 b) n) ++ kept (pieces 47 b) n) (sym (alone a e)))

-- what stays ends where the path does
ended-kept : (s : List ℕ) (b c : Bool) → ends_at_slash (cond b [] (cond c (s ++ 47 ∷ []) [])) ≡ true
ended-kept s true c = refl
ended-kept s false true = slash-ends s
ended-kept s false false = refl

segments-kept : (ss : List (List ℕ)) (n : ℕ) → ends_at_slash (kept (ss ++ [] ∷ []) n) ≡ true
segments-kept [] n = rw nothing-is_no_dot refl
segments-kept (s ∷ []) n =
    both-end (cond (is_dot_segment s) [] (cond (taken ([] ∷ []) n == 0) (s ++ 47 ∷ []) [])) (kept ([] ∷ []) n)
    (ended-kept s (is_dot_segment s) (taken ([] ∷ []) n == 0)) (segments-kept [] n)
segments-kept (s ∷ t ∷ ss) n =
    both-end (cond (is_dot_segment s) [] (cond (taken ((t ∷ ss) ++ [] ∷ []) n == 0) (s ++ 47 ∷ []) [])) (kept ((t ∷ ss) ++ [] ∷ []) n)
    (ended-kept s (is_dot_segment s) (taken ((t ∷ ss) ++ [] ∷ []) n == 0)) (segments-kept (t ∷ ss) n)

pub kept-ends : (t : List ℕ) (n : ℕ) → ends_at_slash t ≡ true → ends_at_slash (kept (pieces 47 t) n) ≡ true
kept-ends t n h = let e = ended t h in ap (λ l. ends_at_slash (kept l n)) (alone t e) ∙ segments-kept e.segments n

-- and is a path
over-kept : (p : ℕ → Bool) (s : List ℕ) (b c : Bool) → p 47 ≡ true → text_over p s ≡ true
    → text_over p (cond b [] (cond c (s ++ 47 ∷ []) [])) ≡ true
over-kept p s true c k h = nothing_over p
over-kept p s false true k h = text_over-append p s (47 ∷ []) h (slash_over p k)
over-kept p s false false k h = nothing_over p

over-last : (p : ℕ → Bool) (s : List ℕ) (b : Bool) → text_over p s ≡ true → text_over p (cond b [] s) ≡ true
over-last p s true h = nothing_over p
over-last p s false h = h

segments-over : (p : ℕ → Bool) (ss : List (List ℕ)) (n : ℕ) → p 47 ≡ true → list_all (text_over p) ss ≡ true → text_over p (kept ss n) ≡ true
segments-over p [] n k h = nothing_over p
segments-over p (s ∷ []) n k h = over-last p s (is_dot_segment s) (both (text_over p s) true h).0
segments-over p (s ∷ t ∷ ss) n k h =
    let l = both (text_over p s) (list_all (text_over p) (t ∷ ss)) h in
    text_over-append p (cond (is_dot_segment s) [] (cond (taken (t ∷ ss) n == 0) (s ++ 47 ∷ []) [])) (kept (t ∷ ss) n)
    (over-kept p s (is_dot_segment s) (taken (t ∷ ss) n == 0) k l.0) (segments-over p (t ∷ ss) n k l.1)

pub kept-path : (s : Tests) (t : List ℕ) (n : ℕ) → is_path s t ≡ true → is_path s (kept (pieces 47 t) n) ≡ true
kept-path s t n h = segments-over (path_char s) (pieces 47 t) n (slash_in_path s) (pieces-over (path_char s) t h)

-- ---- a part that stays, or of which nothing does
pub kept-plain : (t : List ℕ) (n : ℕ) → (n == 0 && not (has_dot_segment t)) ≡ true → t ≡ kept (pieces 47 t) n
kept-plain t n h =
    let p = both (n == 0) (not (has_dot_segment t)) h in
    let z : n ≡ 0 = eqb-true n 0 p.0 in
    let whole : 47 ∷ t ≡ 47 ∷ kept (pieces 47 t) 0 =
    sym (written-plain (47 ∷ []) t (not-true (has_dot_segment t) p.1)) ∙ after-slash t 0 (or-true (ends_at_slash t)) in
    ap (drop 1) whole ∙ ap (kept (pieces 47 t)) (sym z)

-- one segment, which doesn't stay: a dot segment, or one that is taken away
gone-slash : (s : List ℕ) (n : ℕ) (b : Bool) → is_dot_segment s ≡ b → (n == 0 && not (b || false)) ≡ false
    → cond b [] (cond (taken ([] ∷ []) n == 0) (s ++ 47 ∷ []) []) ++ kept ([] ∷ []) n ≡ []
gone-slash s n true e h = rw nothing-is_no_dot refl
gone-slash s n false e h = rw nothing-is_no_dot (elim (n == 0) as (λ v. (v && true) ≡ false → cond v (s ++ 47 ∷ []) [] ++ [] ≡ []) [
  | true ↦ λ r. cc
  | false ↦ λ _. refl
] h)

one-slash : (s : List ℕ) (n : ℕ) → lacks 47 s ≡ true → (n == 0 && not (has_dot_segment (s ++ 47 ∷ []))) ≡ false
    → [] ≡ kept (pieces 47 (s ++ 47 ∷ [])) n
one-slash s n l h =
    let ps : pieces 47 (s ++ 47 ∷ []) ≡ s ∷ [] ∷ [] = pieces-slash s [] l in
    let d : has_dot_segment (s ++ 47 ∷ []) ≡ (is_dot_segment s || false) = rw (ps, nothing-is_no_dot) refl in
    sym (ap (λ l. kept l n) ps ∙ gone-slash s n (is_dot_segment s) refl (ap (λ b. n == 0 && not b) (sym d) ∙ h))

lacks-last : (t : List ℕ) → 0 < length t → lacks 47 (take (length t - 1) t) ≡ true → ends_at_slash t ≡ false → lacks 47 t ≡ true
lacks-last [] l h e = absurd (omega arith)
lacks-last (x ∷ []) l h e = rw e refl
lacks-last (x ∷ y ∷ ys) l h e =
    let size : length (x ∷ y ∷ ys) - 1 ≡ suc (length (y ∷ ys) - 1) = omega arith in
    let k = both (not (x == 47)) (lacks 47 (take (length (y ∷ ys) - 1) (y ∷ ys))) (ap (λ n. lacks 47 (take n (x ∷ y ∷ ys))) (sym size) ∙ h) in
    rw k.0 (lacks-last (y ∷ ys) (omega arith) k.1 e)

pub one-segment : (t : List ℕ) (n : ℕ) → 0 < length t → lacks 47 (take (length t - 1) t) ≡ true → (ends_at_slash t || n == 0) ≡ true
    → (n == 0 && not (has_dot_segment t)) ≡ false → [] ≡ kept (pieces 47 t) n
one-segment t n some l o g =
    elim (ends_at_slash t) as (λ v. ends_at_slash t ≡ v → (v || n == 0) ≡ true → [] ≡ kept (pieces 47 t) n) [
      | true ↦ λ e _. let w = without_end t e some in
          subst (λ q. [] ≡ kept (pieces 47 q) n) (sym w)
          (one-slash (take (length t - 1) t) n l (ap (λ q. n == 0 && not (has_dot_segment q)) (sym w) ∙ g))
      | false ↦ λ e z. let ps = pieces-whole t (lacks-last t some l e) in
          let dots : has_dot_segment t ≡ is_dot_segment t = ap any_dot_segment ps ∙ or-false (is_dot_segment t) in
          let dot = sym dots ∙ not-false (has_dot_segment t) (ap (λ v. v && not (has_dot_segment t)) (sym z) ∙ g) in
          sym (ap (λ q. kept q n) ps ∙ ap (λ v. cond v [] t) dot)
    ] refl o

-- ---- in the buffer
pub ends-more : (b : List ℕ) (n : ℕ) → 0 < n → (ends_at_slash b || n == 0) ≡ true → ends_at_slash b ≡ true
ends-more b zero l h = absurd (omega arith)
ends-more b (suc n) l h = sym (or-false (ends_at_slash b)) ∙ (ap (λ v. ends_at_slash b || v) (sym (some n)) ∙ h)

pub put-ends : (b t : List ℕ) (n : ℕ) → ends_at_slash b ≡ true → (ends_at_slash t || n == 0) ≡ true
    → (ends_at_slash (written b t) || n == 0) ≡ true
put-ends b t zero e h = or-true (ends_at_slash (written b t))
put-ends b t (suc n) e h = ap (λ v. v || suc n == 0) (written-ends b t e (ends-more t (suc n) (omega arith) h))

pub buffer-some : (k : ℕ) (t b : List ℕ) → k ≤ length b → take k b ≡ 47 ∷ t → 1 ≤ k
buffer-some k t b l e = omega (arith, length-take-le k b l, ap length e)

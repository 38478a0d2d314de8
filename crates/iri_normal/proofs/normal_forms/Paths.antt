-- The normal form of a path: it stays a path, keeps its rules, and is stable.
use Rattle.iri_normal.proofs.Common.{option_map, ◌≡◌, ℕ, Bool, true, false, cond, not, ◌||◌, List, [], ◌∷◌, ◌++◌, Option, Some, None, refl}
use Rattle.iri_normal.proofs.Common.{◌∙◌, ap, subst, append-nil, eqb-true, ◌==◌, is_some, list_all, Tests, IsSpec, path_char, is_ascii_path}
use Rattle.iri_normal.proofs.Common.{is_ascii_pchar, is_ascii_reg_name, is_ascii_unreserved, is_sub_delim, is_path, lacks, both, text_over}
use Rattle.iri_normal.proofs.Common.{path_rules, is_empty, starts_with_slash, starts_with_slashes, pieces, as_it_is, pct, whole_triplets}
use Rattle.iri_normal.proofs.Common.{normal_nil, normal_plain, pct-stable, is_dot_segment, is_two_dots, without_last, closed, remove_after}
use Rattle.iri_normal.proofs.Common.{remove_dots, path_text, dots, guard, normal_path, text_over-append, nothing_over, pct-path, path-whole}
use Rattle.iri_normal.proofs.removal.Output.{left, text_after, dots-text}
use Rattle.iri_normal.proofs.segments.DotKinds.{nothing-is_no_dot, pieces-some}
use Rattle.iri_normal.proofs.removal.Stability.{unsplit, unsplit-pieces, dots-stable, guard-dots}
use Rattle.iri_normal.proofs.targets.Targets.{slash_in_path}
use Rattle.iri_normal.proofs.targets.CutTexts.{slash_over, point_over, text_over-cut}
use Rattle.iri_normal.proofs.triplets.PathTriplets.{pct-head, dots-pct}

-- ---- what holds of each segment holds of each that is left
each-left : (P : List ℕ → Bool) (two : Bool) (st : List (List ℕ)) → P [] ≡ true → list_all P st ≡ true → list_all P (left two st) ≡ true
each-left P true [] n h = rw n refl
each-left P true (s ∷ []) n h = rw n refl
each-left P true (s ∷ t ∷ ss) n h = (both (P s) (list_all P (t ∷ ss)) h).1
each-left P false st n h = h

each-closed : (P : List ℕ → Bool) (ss st : List (List ℕ)) → P [] ≡ true → list_all P st ≡ true → list_all P (closed ss st) ≡ true
each-closed P [] st n h = rw n h
each-closed P (s ∷ ss) st n h = h

each-after : (P : List ℕ → Bool) (st ss : List (List ℕ)) → P [] ≡ true → list_all P st ≡ true → list_all P ss ≡ true
    → list_all P (remove_after st ss) ≡ true
each-after P st [] n h k = h
each-after P st (s ∷ ss) n h k =
    let l = both (P s) (list_all P ss) k in
    elim (is_dot_segment s) as (λ b. list_all P (cond b (remove_after (closed ss (left (is_two_dots s) st)) ss)
    (remove_after (s ∷ st) ss)) ≡ true) [
      | true ↦ each-after P (closed ss (left (is_two_dots s) st)) ss n
          (each-closed P ss (left (is_two_dots s) st) n (each-left P (is_two_dots s) st n h)) l.1
      | false ↦ each-after P (s ∷ st) ss n (rw l.0 h) l.1
    ]

each-removed : (P : List ℕ → Bool) (ss : List (List ℕ)) → P [] ≡ true → list_all P ss ≡ true → list_all P (remove_dots ss) ≡ true
each-removed P [] n h = rw n refl
each-removed P (s ∷ ss) n h =
    let l = both (P s) (list_all P ss) h in
    elim (is_dot_segment s) as (λ b. list_all P (cond b (remove_dots ss) (remove_after (s ∷ []) ss))
    ≡ true) [ true ↦ each-removed P ss n l.1 | false ↦ each-after P (s ∷ []) ss n (rw l.0 refl) l.1 ]

-- ---- the class of a path
each-over : (p : ℕ → Bool) (t : List ℕ) (ss : List (List ℕ)) → text_over p (unsplit (t ∷ ss)) ≡ true
    → list_all (text_over p) (t ∷ ss) ≡ true
each-over p t [] h = let k = rw (append-nil t) at h in rw k refl
each-over p t (u ∷ us) h = let c = text_over-cut p t (unsplit (u ∷ us)) h in rw c.left (each-over p u us c.right)

pub pieces-over : (p : ℕ → Bool) (t : List ℕ) → text_over p t ≡ true → list_all (text_over p) (pieces 47 t) ≡ true
pieces-over p t h =
    let r = pieces-some t in rw r.whole (each-over p r.first r.rest
    (subst (λ ps. text_over p (unsplit ps) ≡ true) r.whole (rw (unsplit-pieces t) h)))

text-over : (p : ℕ → Bool) (st : List (List ℕ)) → p 47 ≡ true → list_all (text_over p) st ≡ true → text_over p (path_text st) ≡ true
text-over p [] s h = nothing_over p
text-over p (t ∷ []) s h = (both (text_over p t) true h).0
text-over p (t ∷ u ∷ us) s h =
    let l = both (text_over p t) (list_all (text_over p) (u ∷ us)) h in
    text_over-append p (path_text (u ∷ us)) (47 ∷ t) (text-over p (u ∷ us) s l.1) (text_over-append p (47 ∷ []) t (slash_over p s) l.0)

pub dots-over : (p : ℕ → Bool) (t : List ℕ) → p 47 ≡ true → text_over p t ≡ true → text_over p (dots t) ≡ true
unfolding dots
dots-over p t s h = text-over p (remove_dots (pieces 47 t)) s
    (each-removed (text_over p) (pieces 47 t) (nothing_over p) (pieces-over p t h))

-- ---- a path that begins with a slash still does
abbrev rooted : List ℕ → Bool
rooted o = is_empty o || starts_with_slash o

slash-rooted : (o : List ℕ) → starts_with_slash o ≡ true → rooted o ≡ true
slash-rooted [] h = refl
slash-rooted (x ∷ xs) h = h

rooted-last : (o : List ℕ) → rooted o ≡ true → rooted (without_last o) ≡ true
rooted-last [] h = refl
rooted-last (x ∷ xs) h = elim (lacks 47 xs) as (λ b. rooted (cond b [] (x ∷ without_last xs)) ≡ true) [ true ↦ refl | false ↦ h ]

rooted-left : (two : Bool) (o : List ℕ) → rooted o ≡ true → rooted (cond two (without_last o) o) ≡ true
rooted-left true o h = rooted-last o h
rooted-left false o h = h

slash-pushed : (o s : List ℕ) → rooted o ≡ true → starts_with_slash (o ++ 47 ∷ s) ≡ true
slash-pushed [] s h = refl
slash-pushed (x ∷ xs) s h = h

slash-after : (o s : List ℕ) (ss : List (List ℕ)) → rooted o ≡ true → starts_with_slash (text_after o (s ∷ ss)) ≡ true
slash-after o s [] h =
    elim (is_dot_segment s) as (λ b. starts_with_slash (cond b (cond (is_two_dots s) (without_last o) o ++ 47 ∷ []) (o ++ 47 ∷ s)) ≡ true) [
      | true ↦ slash-pushed (cond (is_two_dots s) (without_last o) o) [] (rooted-left (is_two_dots s) o h)
      | false ↦ slash-pushed o s h
    ]
slash-after o s (t ∷ ts) h =
    elim (is_dot_segment s) as (λ b. starts_with_slash
    (cond b (text_after (cond (is_two_dots s) (without_last o) o) (t ∷ ts)) (text_after (o ++ 47 ∷ s) (t ∷ ts))) ≡ true) [
      | true ↦ slash-after (cond (is_two_dots s) (without_last o) o) t ts (rooted-left (is_two_dots s) o h)
      | false ↦ slash-after (o ++ 47 ∷ s) t ts (slash-rooted (o ++ 47 ∷ s) (slash-pushed o s h))
    ]

pub dots-slash : (t : List ℕ) → starts_with_slash t ≡ true → starts_with_slash (dots t) ≡ true
dots-slash [] h = cc
dots-slash (x ∷ xs) h =
    let r = pieces-some xs in subst (λ z. starts_with_slash z ≡ true) (dots-text (x ∷ xs))
    (rw (h, nothing-is_no_dot, r.whole) (slash-after [] r.first r.rest refl))

pub dots-nothing : dots [] ≡ []
unfolding dots
dots-nothing = rw nothing-is_no_dot refl

-- ---- the normal form
pub point_in_path : (s : Tests) → path_char s 46 ≡ true
unfolding path_char is_ascii_path is_ascii_pchar is_ascii_reg_name is_ascii_unreserved is_sub_delim
point_in_path s = refl

pub guard-over : (p : ℕ → Bool) (q : List ℕ) (stands : Bool) → p 47 ≡ true → p 46 ≡ true → text_over p q ≡ true
    → text_over p (guard q stands) ≡ true
guard-over p q stands s d h =
    elim (stands || not (starts_with_slashes q)) as (λ b. text_over p (cond b q (47 ∷ 46 ∷ q)) ≡ true) [
      | true ↦ h
      | false ↦ text_over-append p (47 ∷ []) (46 ∷ q) (slash_over p s) (text_over-append p (46 ∷ []) q (point_over p d) h)
    ]

pub path-over : (s : Tests) (a : Option (List ℕ)) (t : List ℕ) → IsSpec s → is_path s t ≡ true → is_path s (normal_path s a t) ≡ true
unfolding normal_path
path-over s a t k h =
    guard-over (path_char s) (pct s (dots t)) (is_some a) (slash_in_path s) (point_in_path s)
    (pct-path s (dots t) k (dots-over (path_char s) t (slash_in_path s) h))

pub pct-slash : (s : Tests) (t : List ℕ) → starts_with_slash t ≡ true → starts_with_slash (pct s t) ≡ true
pct-slash s [] h = cc
pct-slash s (x ∷ xs) h =
    let e : x ≡ 47 = eqb-true x 47 h in
    let n : (x == 37) ≡ false = ap (λ y. y == 37) e in
    rw (normal_plain s as_it_is x xs n) h

path-rooted : (s : Tests) (t : List ℕ) → rooted t ≡ true → rooted (pct s (dots t)) ≡ true
path-rooted s [] h = rw (dots-nothing, normal_nil s as_it_is) refl
path-rooted s (x ∷ xs) h = slash-rooted (pct s (dots (x ∷ xs))) (pct-slash s (dots (x ∷ xs)) (dots-slash (x ∷ xs) h))

pub guarded : (q : List ℕ) → not (starts_with_slashes (guard q false)) ≡ true
guarded q = elim (starts_with_slashes q) as (λ b. starts_with_slashes q ≡ b
    → not (starts_with_slashes (cond (not b) q (47 ∷ 46 ∷ q))) ≡ true) [ true ↦ λ _. refl | false ↦ λ e. rw e refl ] refl

pub path-rules : (s : Tests) (f : List ℕ → List ℕ) (x y : List ℕ) (a : Option (List ℕ)) (t : List ℕ) → path_rules (Some x) a t ≡ true
    → path_rules (Some y) (option_map f a) (normal_path s a t) ≡ true
unfolding normal_path
path-rules s f x y (Some z) t h = path-rooted s t h
path-rules s f x y None t h = guarded (pct s (dots t))

pub stands-still : (f : List ℕ → List ℕ) (o : Option (List ℕ)) → is_some (option_map f o) ≡ is_some o
stands-still f None = refl
stands-still f (Some x) = refl

pub path-stable : (s : Tests) (f : List ℕ → List ℕ) (a : Option (List ℕ)) (t : List ℕ) → IsSpec s → is_path s t ≡ true
    → normal_path s (option_map f a) (normal_path s a t) ≡ normal_path s a t
unfolding normal_path
path-stable s f a t k h =
    let w = path-whole s (dots t) k (dots-over (path_char s) t (slash_in_path s) h) in
    let q = pct s (dots t) in
    let again : pct s (dots (guard q (is_some a))) ≡ q =
    ap (pct s) (guard-dots q (is_some a) ∙ (dots-pct s (dots t) k w ∙ ap (pct s) (dots-stable t))) ∙ pct-stable s (dots t) k w in
    rw again (ap (guard q) (stands-still f a))

-- ---- the path without its dot segments, as it stands otherwise
pub plain-over : (s : Tests) (a : Option (List ℕ)) (t : List ℕ) → is_path s t ≡ true → is_path s (guard (dots t) (is_some a)) ≡ true
plain-over s a t h = guard-over (path_char s) (dots t) (is_some a) (slash_in_path s) (point_in_path s)
    (dots-over (path_char s) t (slash_in_path s) h)

dots-rooted : (t : List ℕ) → rooted t ≡ true → rooted (dots t) ≡ true
dots-rooted [] h = rw dots-nothing refl
dots-rooted (x ∷ xs) h = slash-rooted (dots (x ∷ xs)) (dots-slash (x ∷ xs) h)

pub plain-rules : (x : List ℕ) (a : Option (List ℕ)) (t : List ℕ) → path_rules (Some x) a t ≡ true
    → path_rules (Some x) a (guard (dots t) (is_some a)) ≡ true
plain-rules x (Some z) t h = dots-rooted t h
plain-rules x None t h = guarded (dots t)

-- ---- triplets in normal form at the start of a path
pub pct-unrooted : (s : Tests) (t : List ℕ) → IsSpec s → whole_triplets t ≡ true → starts_with_slash t ≡ false
    → starts_with_slash (pct s t) ≡ false
pct-unrooted s t k w h = pct-head s t k w ∙ h

pub normal-rooted : (s : Tests) (t : List ℕ) → starts_with_slash t ≡ true → starts_with_slash (normal_path s None t) ≡ true
unfolding normal_path
normal-rooted s t h =
    let e = pct-slash s (dots t) (dots-slash t h) in
    elim (starts_with_slashes (pct s (dots t))) as (λ b. starts_with_slash (cond (not b) (pct s (dots t)) (47 ∷ 46 ∷ pct s (dots t)))
    ≡ true) [ true ↦ refl | false ↦ e ]

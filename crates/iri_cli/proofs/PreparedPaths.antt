-- A path without the dot segments before its last segment: it is a path again, no longer, and references are merged with it as before.
use Rattle.iri_cli.proofs.Common.{◌≡◌, ℕ, ◌+◌, ◌≤◌, Bool, true, false, cond, not, ◌&&◌, ◌||◌, List, [], ◌∷◌, ◌++◌, Option, Some, None}
use Rattle.iri_cli.proofs.Common.{length, refl, sym, ◌∙◌, ap, subst, arith, append-nil, length-append, ◌==◌, is_some, IsSome, Tests}
use Rattle.iri_cli.proofs.Common.{path_char, lacks, path_rules, is_empty, starts_with_slash, starts_with_slashes, both}
use Rattle.iri_grammar.specs.Components.{is_path}
use Rattle.iri_grammar.specs.Pieces.{joined}
use Rattle.std.proofs.Math.Bool.{and-false}
use Rattle.std.proofs.lemmas.Bool.{not-true}
use Rattle.iri_grammar.proofs.hosts.Ipv6Laws.{joined_pieces}
use Rattle.iri_grammar.proofs.units.UnitRuns.{text_over-append}
use Rattle.iri_normal.specs.DotRemoval.{without_last, dots, guard}
use Rattle.iri_normal.specs.Dots.{is_two_dots, is_dot_segment, any_dot_segment, has_dot_segment}
use Rattle.iri_normal.specs.Target.{to_last_slash, last_segment, ends_at_slash}
use Rattle.iri_normal.specs.inside.Written.{but_last, left, closing, written_segments, written}
use Rattle.iri_normal.proofs.normal_forms.Lengths.{length-dots, length-last}
use Rattle.iri_normal.proofs.normal_forms.Paths.{dots-nothing, dots-slash, guarded, plain-over}
use Rattle.iri_normal.proofs.segments.DotKinds.{nothing-is_no_dot}
use Rattle.iri_normal.proofs.normal_forms.SchemeRules.{begun}
use Rattle.iri_normal.proofs.segments.CutPaths.{alone, ended}
use Rattle.iri_normal.proofs.segments.Slashes.{at_last_slash, ends, none_prefix}
use Rattle.iri_normal.proofs.removal.Stability.{guarded_stable, no_dots_same}
use Rattle.iri_normal.proofs.targets.Targets.{cut_over}
use Rattle.iri_normal.proofs.removal.Buffers.{written-dots, written-ends, written-two}
use Rattle.iri_cli.specs.run.Prepared.{prepared_path}
use Rattle.iri_normal.proofs.removal.RfcSteps.{some_byte}

-- ---- the directory: what stands before the last segment
abbrev directory_of : Bool → List ℕ → List ℕ
directory_of stands path = guard (dots (to_last_slash path)) stands

dots_end : (f : List ℕ) → ends_at_slash f ≡ true → ends_at_slash (dots f) ≡ true
dots_end f h = subst (λ z. ends_at_slash z ≡ true) (written-dots f) (written-ends [] f refl h)

guard_ends : (q : List ℕ) (stands : Bool) → ends_at_slash q ≡ true → ends_at_slash (guard q stands) ≡ true
guard_ends [] true h = refl
guard_ends [] false h = refl
guard_ends (x ∷ xs) stands h =
    elim (stands || not (starts_with_slashes (x ∷ xs))) as (λ b. ends_at_slash (cond b (x ∷ xs) (47 ∷ 46 ∷ x ∷ xs)) ≡ true) [ true ↦ h | false ↦ h ]

directory_ends : (stands : Bool) (path : List ℕ) → ends_at_slash (directory_of stands path) ≡ true
directory_ends stands path = guard_ends (dots (to_last_slash path)) stands (dots_end (to_last_slash path) (ends path))

-- ---- what follows the directory finds its dot segments removed
onto_dots : (f r : List ℕ) → ends_at_slash f ≡ true → written (dots f) r ≡ dots (f ++ r)
onto_dots f r h = ap (λ b. written b r) (sym (written-dots f)) ∙ (sym (written-two [] f r h) ∙ written-dots (f ++ r))

directory_dots : (stands : Bool) (path r : List ℕ) → dots (directory_of stands path ++ r) ≡ dots (to_last_slash path ++ r)
directory_dots stands path r =
    sym (onto_dots (directory_of stands path) r (directory_ends stands path))
    ∙ (ap (λ b. written b r) (guarded_stable (to_last_slash path) stands) ∙ onto_dots (to_last_slash path) r (ends path))

pub whole_dots : (stands : Bool) (path : List ℕ) → dots (prepared_path stands path) ≡ dots path
whole_dots stands path = directory_dots stands path (last_segment path) ∙ ap dots (at_last_slash path).0

-- ---- the last slash is where it was
has_slash : (x : ℕ) (xs l : List ℕ) → ends_at_slash (x ∷ xs) ≡ true → lacks 47 (x ∷ (xs ++ l)) ≡ false
has_slash x [] l h = ap (λ b. not b && lacks 47 l) h
has_slash x (y ∷ ys) l h = ap (λ b. not (x == 47) && b) (has_slash y ys l h) ∙ and-false (not (x == 47))

cut_again : (f l : List ℕ) → ends_at_slash f ≡ true → lacks 47 l ≡ true → to_last_slash (f ++ l) ≡ f
cut_again [] l h k = none_prefix l k
cut_again (x ∷ []) l h k = ap (λ b. cond b [] (x ∷ to_last_slash l)) (has_slash x [] l h) ∙ ap (λ z. x ∷ z) (none_prefix l k)
cut_again (x ∷ y ∷ ys) l h k = ap (λ b. cond b [] (x ∷ to_last_slash (y ∷ (ys ++ l)))) (has_slash x (y ∷ ys) l h)
    ∙ ap (λ z. x ∷ z) (cut_again (y ∷ ys) l h k)

directory_again : (stands : Bool) (path : List ℕ) → to_last_slash (prepared_path stands path) ≡ directory_of stands path
directory_again stands path = cut_again (directory_of stands path) (last_segment path) (directory_ends stands path) (at_last_slash path).1

-- ---- beside an authority the path is empty or begins with a slash, and so it stays
abbrev pub IsRooted : Option (List ℕ) → List ℕ → Type 0
IsRooted None path = Unit {0}
IsRooted (Some a) path = (is_empty path || starts_with_slash path) ≡ true

pub rooted_beside : (scheme authority : Option (List ℕ)) (path : List ℕ) → path_rules scheme authority path ≡ true → IsRooted authority path
rooted_beside None None path h = tt
rooted_beside (Some x) None path h = tt
rooted_beside None (Some a) path h = h
rooted_beside (Some x) (Some a) path h = h

first_slash : (path : List ℕ) → starts_with_slash path ≡ true → starts_with_slash (to_last_slash path) ≡ true
first_slash [] h = h
first_slash (x ∷ xs) h = ap (λ b. starts_with_slash (cond (not b && lacks 47 xs) [] (x ∷ to_last_slash xs))) h ∙ h

slash_onto : (q l : List ℕ) → starts_with_slash q ≡ true → starts_with_slash (q ++ l) ≡ true
slash_onto [] l h = cc
slash_onto (x ∷ xs) l h = h

still_slash : (path : List ℕ) → starts_with_slash path ≡ true → starts_with_slash (prepared_path true path) ≡ true
still_slash path h =
    slash_onto (directory_of true path) (last_segment path) (dots-slash (to_last_slash path) (first_slash path h))

still_empty : prepared_path true [] ≡ []
still_empty = append-nil (dots []) ∙ dots-nothing

pub same_empty : (a : Option (List ℕ)) (path : List ℕ) → IsRooted a path
    → (is_some a && is_empty (prepared_path (is_some a) path)) ≡ (is_some a && is_empty path)
same_empty None path h = refl
same_empty (Some a) [] h = ap is_empty still_empty
same_empty (Some a) (x ∷ xs) h = begun (prepared_path true (x ∷ xs)) (still_slash (x ∷ xs) h)

-- ---- references are merged with the directory
pub merged_dots : (a : Option (List ℕ)) (path r : List ℕ) → IsRooted a path
    → dots (cond (is_some a && is_empty (prepared_path (is_some a) path)) (47 ∷ []) (to_last_slash (prepared_path (is_some a) path)) ++ r)
    ≡ dots (cond (is_some a && is_empty path) (47 ∷ []) (to_last_slash path) ++ r)
merged_dots a path r h =
    ap (λ b. dots (cond b (47 ∷ []) (to_last_slash (prepared_path (is_some a) path)) ++ r)) (same_empty a path h)
    ∙ (ap (λ f. dots (cond (is_some a && is_empty path) (47 ∷ []) f ++ r)) (directory_again (is_some a) path)
    ∙ (elim (is_some a && is_empty path) as (λ b. dots (cond b (47 ∷ []) (directory_of (is_some a) path) ++ r)
    ≡ dots (cond b (47 ∷ []) (to_last_slash path) ++ r)) [ true ↦ refl | false ↦ directory_dots (is_some a) path r ]))

-- ---- it is a path, by the rules of one
pub path_over : (s : Tests) (a : Option (List ℕ)) (path : List ℕ) → is_path s path ≡ true
    → is_path s (prepared_path (is_some a) path) ≡ true
path_over s a path h =
    let c = cut_over (path_char s) path h in
    text_over-append (path_char s) (directory_of (is_some a) path) (last_segment path) (plain-over s a (to_last_slash path) c.0) c.1

no_start : (l : List ℕ) → lacks 47 l ≡ true → starts_with_slash l ≡ false
no_start [] k = refl
no_start (c ∷ cs) k = not-true (c == 47) (both (not (c == 47)) (lacks 47 cs) k).0

apart : (f l : List ℕ) → not (starts_with_slashes f) ≡ true → lacks 47 l ≡ true → not (starts_with_slashes (f ++ l)) ≡ true
apart [] [] h k = refl
apart [] (c ∷ cs) h k = ap (λ b. not (b && starts_with_slash cs)) (no_start (c ∷ cs) k)
apart (c ∷ []) l h k = ap (λ b. not (c == 47 && b)) (no_start l k) ∙ ap not (and-false (c == 47))
apart (c ∷ d ∷ ds) l h k = h

rooted_start : (q : List ℕ) → starts_with_slash q ≡ true → (is_empty q || starts_with_slash q) ≡ true
rooted_start [] h = refl
rooted_start (x ∷ xs) h = h

pub rules_kept : (scheme : List ℕ) (a : Option (List ℕ)) (path : List ℕ) → path_rules (Some scheme) a path ≡ true
    → path_rules (Some scheme) a (prepared_path (is_some a) path) ≡ true
rules_kept scheme None path h = apart (directory_of false path) (last_segment path) (guarded (dots (to_last_slash path))) (at_last_slash path).1
rules_kept scheme (Some a) [] h = ap (λ z. is_empty z || starts_with_slash z) still_empty
rules_kept scheme (Some a) (x ∷ xs) h = rooted_start (prepared_path true (x ∷ xs)) (still_slash (x ∷ xs) h)

-- ---- it is no longer: where `/.` is put before it, a dot segment went with its slash
length-but_last : (x : ℕ) (xs : List ℕ) → length (but_last (x ∷ xs)) + 1 ≡ length (x ∷ xs)
length-but_last x [] = omega arith
length-but_last x (y ∷ ys) = let r = length-but_last y ys in omega arith

length-left : (two : Bool) (b : List ℕ) → length (left two b) ≤ length b
length-left false b = omega arith
length-left true [] = omega arith
length-left true (x ∷ xs) =
    let last = but_last (x ∷ xs) in
    omega (arith, length-append (without_last last) (47 ∷ []), length-last last, length-but_last x xs)

-- segments, and nothing after their last slash
abbrev ended_by : List (List ℕ) → List (List ℕ)
ended_by ss = ss ++ [] ∷ []

length-more : (s : List ℕ) (ss : List (List ℕ)) → length (joined 47 (s ∷ ended_by ss)) ≡ length s + (1 + length (joined 47 (ended_by ss)))
length-more s [] = omega (arith, length-append s (47 ∷ []))
length-more s (t ∷ ts) = omega (arith, length-append s (47 ∷ joined 47 (t ∷ ended_by ts)))

closing-ended : (ss : List (List ℕ)) → closing (ended_by ss) ≡ 47 ∷ []
closing-ended [] = refl
closing-ended (t ∷ ts) = refl

-- two bytes fewer, where a dot segment stands among them
fewer : (b : List ℕ) (ss : List (List ℕ)) → length (written_segments b (ended_by ss)) + cond (any_dot_segment (ended_by ss)) 2 0
    ≤ length b + length (joined 47 (ended_by ss))
fewer b [] = rw nothing-is_no_dot (omega (arith, ap length (append-nil b)))
fewer b (s ∷ ss) =
    let more = length-more s ss in
    let text = s ++ closing (ended_by ss) in
    elim (is_dot_segment s) as (λ v. is_dot_segment s ≡ v → length (cond v (written_segments (left (is_two_dots s) b) (ended_by ss))
    (written_segments (b ++ text) (ended_by ss))) + cond (v || any_dot_segment (ended_by ss)) 2 0
    ≤ length b + length (joined 47 (s ∷ ended_by ss))) [
      | true ↦ λ e. omega (arith, fewer (left (is_two_dots s) b) ss, length-left (is_two_dots s) b, more, some_byte s e)
      | false ↦ λ _. omega (arith, fewer (b ++ text) ss, length-append {A = ℕ}, ap length (closing-ended ss))
    ] refl

two_fewer : (f : List ℕ) → ends_at_slash f ≡ true → has_dot_segment f ≡ true → length (dots f) + 2 ≤ length f
two_fewer f h d =
    let e = ended f h in
    let p = alone f e in
    let r = fewer [] e.segments in
    let text : length (dots f) ≡ length (written_segments [] (ended_by e.segments)) =
    sym (ap length (written-dots f)) ∙ ap (λ ps. length (written_segments [] ps)) p in
    let size : length (joined 47 (ended_by e.segments)) ≡ length f =
    ap (λ ps. length (joined 47 ps)) (sym p) ∙ ap length (joined_pieces 47 f) in
    let bytes : Bool → ℕ = λ b. cond b 2 0 in
    let two : bytes (any_dot_segment (ended_by e.segments)) ≡ 2 = ap (λ ps. bytes (any_dot_segment ps)) (sym p) ∙ ap bytes d in
    omega (arith, r, text, size, two)

directory_apart : (f l : List ℕ) → not (starts_with_slashes (f ++ l)) ≡ true → not (starts_with_slashes f) ≡ true
directory_apart [] l h = refl
directory_apart (x ∷ []) l h = ap not (and-false (x == 47))
directory_apart (x ∷ y ∷ ys) l h = h

-- no `//` begins it, but one begins what is left of it
dotted : (f : List ℕ) → not (starts_with_slashes f) ≡ true → starts_with_slashes (dots f) ≡ true → has_dot_segment f ≡ true
dotted f h e =
    elim (has_dot_segment f) as (λ b. has_dot_segment f ≡ b → b ≡ true) [
      | true ↦ λ _. refl
      | false ↦ λ n. let k : not (starts_with_slashes (dots f)) ≡ true = ap (λ z. not (starts_with_slashes z)) (no_dots_same f n) ∙ h in cc
    ] refl

directory_short : (scheme a : Option (List ℕ)) (path : List ℕ) → IsSome scheme → path_rules scheme a path ≡ true
    → length (directory_of (is_some a) path) ≤ length (to_last_slash path)
directory_short None a path i h = cc
directory_short (Some x) (Some a) path i h = length-dots (to_last_slash path)
directory_short (Some x) None path i h =
    let f = to_last_slash path in
    let apart = directory_apart f (last_segment path) (subst (λ z. not (starts_with_slashes z) ≡ true) (sym (at_last_slash path).0) h) in
    elim (starts_with_slashes (dots f)) as (λ b. starts_with_slashes (dots f) ≡ b → length (cond (not b) (dots f) (47 ∷ 46 ∷ dots f))
    ≤ length f) [
      | true ↦ λ e. omega (arith, two_fewer f (ends path) (dotted f apart e))
      | false ↦ λ _. length-dots f
    ] refl

pub path_short : (scheme a : Option (List ℕ)) (path : List ℕ) → IsSome scheme → path_rules scheme a path ≡ true
    → length (prepared_path (is_some a) path) ≤ length path
path_short scheme a path i h =
    omega (arith, directory_short scheme a path i h, length-append {A = ℕ}, ap length (at_last_slash path).0)

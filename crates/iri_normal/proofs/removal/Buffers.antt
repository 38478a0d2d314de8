-- Dot removal with a buffer, and the last segment of the buffer.
use Rattle.iri_normal.proofs.Common.{unwrap_or, ◌≡◌, ℕ, Bool, true, false, cond, ◌||◌, List, [], ◌∷◌, ◌++◌, Option, Some, None, refl, sym}
use Rattle.iri_normal.proofs.Common.{◌∙◌, ap, subst, append_assoc, append-nil, or_parts, before, after, is_empty, pieces, more_pieces}
use Rattle.iri_normal.proofs.Common.{pieces_cut, is_two_dots, without_last, dots, is_dot_segment, any_dot_segment, has_dot_segment}
use Rattle.iri_normal.proofs.Common.{ends_at_slash, popped, left, written_segments, written, ◌+◌, ◌-◌, ◌<◌, ◌≤◌, arith, length, take, drop}
use Rattle.iri_normal.proofs.Common.{is_byte, IsLastByte, length-take-le, take-append-drop, lacks, lacks-append, both, by_test, not, ◌&&◌, ◌==◌, Tests, path_char, is_path}
use Rattle.iri_normal.proofs.Common.{text_over, text_over-append, nothing_over}
use Rattle.iri_grammar.proofs.hosts.Ipv6Laws.{joined_pieces}
use Rattle.iri_grammar.specs.Pieces.{joined}
use Rattle.iri_normal.proofs.segments.Slashes.{both-end, slash-ends, after_last, end_slash, without_end, no_slash, slash_is}
use Rattle.iri_normal.proofs.removal.Output.{text_after, text_from, dots-text, without_last-all, without_last-slash}
use Rattle.iri_normal.proofs.segments.DotKinds.{pieces-some, nothing-is_no_dot}
use Rattle.iri_normal.proofs.segments.CutPaths.{alone, ended}
use Rattle.iri_normal.specs.inside.Written.{but_last, closing}
use Rattle.iri_normal.proofs.targets.Targets.{slash_in_path}
use Rattle.iri_normal.proofs.targets.CutTexts.{slash_over, text_over-cut}
use Rattle.std.proofs.Math.Seq.{take-length}
use Rattle.std.proofs.lemmas.List.{take-take, take_more}
use Rattle.std.specs.Prelude.{slice_set}

-- ---- dot removal with a buffer
-- ---- the definition's output is the buffer without its last slash
pub but_last-slash : (o : List ℕ) (c : ℕ) → but_last (o ++ c ∷ []) ≡ o
but_last-slash [] c = refl
but_last-slash (x ∷ []) c = refl
but_last-slash (x ∷ y ∷ ys) c = ap (λ l. x ∷ l) (but_last-slash (y ∷ ys) c)

pub popped-output : (o : List ℕ) → popped (o ++ 47 ∷ []) ≡ without_last o ++ 47 ∷ []
popped-output [] = refl
popped-output (x ∷ xs) = ap (λ l. without_last l ++ 47 ∷ []) (but_last-slash (x ∷ xs) 47)

pub left-output : (two : Bool) (o : List ℕ) → left two (o ++ 47 ∷ []) ≡ cond two (without_last o) o ++ 47 ∷ []
left-output true o = popped-output o
left-output false o = refl

pub left-nothing : (two : Bool) → left two [] ≡ []
left-nothing true = refl
left-nothing false = refl

pub two_ends : (o s r : List ℕ) → (o ++ 47 ∷ s) ++ r ≡ (o ++ 47 ∷ []) ++ (s ++ r)
two_ends o s r = append_assoc o (47 ∷ s) r ∙ sym (append_assoc o (47 ∷ []) (s ++ r))

written-output : (o s : List ℕ) (ss : List (List ℕ)) → text_after o (s ∷ ss) ≡ written_segments (o ++ 47 ∷ []) (s ∷ ss)
written-output o s [] =
    elim (is_dot_segment s) as (λ b. cond b (cond (is_two_dots s) (without_last o) o ++ 47 ∷ []) (o ++ 47 ∷ s)
    ≡ cond b (left (is_two_dots s) (o ++ 47 ∷ [])) ((o ++ 47 ∷ []) ++ (s ++ []))) [
      | true ↦ sym (left-output (is_two_dots s) o)
      | false ↦ sym (append-nil (o ++ 47 ∷ s)) ∙ two_ends o s []
    ]
written-output o s (t ∷ ts) =
    elim (is_dot_segment s) as (λ b. cond b (text_after (cond (is_two_dots s) (without_last o) o) (t ∷ ts)) (text_after (o ++ 47 ∷ s) (t ∷ ts))
    ≡ cond b (written_segments (left (is_two_dots s) (o ++ 47 ∷ [])) (t ∷ ts))
    (written_segments ((o ++ 47 ∷ []) ++ (s ++ 47 ∷ [])) (t ∷ ts))) [
      | true ↦ written-output (cond (is_two_dots s) (without_last o) o) t ts
          ∙ ap (λ l. written_segments l (t ∷ ts)) (sym (left-output (is_two_dots s) o))
      | false ↦ written-output (o ++ 47 ∷ s) t ts ∙ ap (λ l. written_segments l (t ∷ ts)) (two_ends o s (47 ∷ []))
    ]

written-from : (ss : List (List ℕ)) → text_from [] ss ≡ written_segments [] ss
written-from [] = refl
written-from (s ∷ []) =
    elim (is_dot_segment s) as (λ b. cond b [] s ≡ cond b (left (is_two_dots s) []) (s ++ [])) [
      | true ↦ sym (left-nothing (is_two_dots s))
      | false ↦ sym (append-nil s)
    ]
written-from (s ∷ t ∷ ts) =
    elim (is_dot_segment s) as (λ b. cond b (text_from [] (t ∷ ts)) (text_after s (t ∷ ts))
    ≡ cond b (written_segments (left (is_two_dots s) []) (t ∷ ts)) (written_segments (s ++ 47 ∷ []) (t ∷ ts))) [
      | true ↦ written-from (t ∷ ts) ∙ ap (λ l. written_segments l (t ∷ ts)) (sym (left-nothing (is_two_dots s)))
      | false ↦ written-output s t ts
    ]

-- from an empty buffer on it is dot removal
pub written-dots : (p : List ℕ) → written [] p ≡ dots p
written-dots p = sym (written-from (pieces 47 p)) ∙ dots-text p

-- ---- segments without dots
closing-more : (ss : List (List ℕ)) (t : List ℕ) (ts : List (List ℕ)) → closing (ss ++ t ∷ ts) ≡ 47 ∷ []
closing-more [] t ts = refl
closing-more (s ∷ ss) t ts = refl

-- a dot segment at the start
pub written-nothing : (b : List ℕ) → written b [] ≡ b
written-nothing b = rw nothing-is_no_dot (append-nil b)

pub written-dot : (b m : List ℕ) → is_dot_segment (before 47 m) ≡ true
    → written b m ≡ written (left (is_two_dots (before 47 m)) b) (unwrap_or (after 47 m) [])
written-dot b m h = ap (written_segments b) (pieces_cut 47 m) ∙ rw h (by_rest (left (is_two_dots (before 47 m)) b) (after 47 m))
  where
    by_rest : (l : List ℕ) (o : Option (List ℕ)) → written_segments l (more_pieces 47 o) ≡ written l (unwrap_or o [])
    by_rest l None = sym (written-nothing l)
    by_rest l (Some r) = refl

plain-joined : (b : List ℕ) (ss : List (List ℕ)) → any_dot_segment ss ≡ false → written_segments b ss ≡ b ++ joined 47 ss
plain-joined b [] h = sym (append-nil b)
plain-joined b (s ∷ []) h =
    let n = or_parts (is_dot_segment s) false h in rw n.0 (ap (λ l. b ++ l) (append-nil s))
plain-joined b (s ∷ t ∷ ts) h =
    let n = or_parts (is_dot_segment s) (any_dot_segment (t ∷ ts)) h in
    rw n.0 (plain-joined (b ++ (s ++ 47 ∷ [])) (t ∷ ts) n.1
    ∙ (append_assoc b (s ++ 47 ∷ []) (joined 47 (t ∷ ts)) ∙ ap (λ l. b ++ l) (append_assoc s (47 ∷ []) (joined 47 (t ∷ ts)))))

-- where no dot segment is left
pub written-plain : (b t : List ℕ) → has_dot_segment t ≡ false → written b t ≡ b ++ t
written-plain b t h = plain-joined b (pieces 47 t) h ∙ ap (λ l. b ++ l) (joined_pieces 47 t)

-- ---- a path in two parts
pub two-segments : (b : List ℕ) (ss : List (List ℕ)) (t : List ℕ) (ts : List (List ℕ))
    → written_segments b (ss ++ t ∷ ts) ≡ written_segments (written_segments b (ss ++ [] ∷ [])) (t ∷ ts)
two-segments b [] t ts = ap (λ l. written_segments l (t ∷ ts)) (sym (written-nothing b))
two-segments b (s ∷ ss) t ts =
    rw (closing-more ss t ts, closing-more ss [] [])
    (elim (is_dot_segment s) as (λ v. cond v (written_segments (left (is_two_dots s) b) (ss ++ t ∷ ts)) (written_segments (b ++ (s ++ 47 ∷ [])) (ss ++ t ∷ ts))
    ≡ written_segments (cond v (written_segments (left (is_two_dots s) b) (ss ++ [] ∷ [])) (written_segments (b ++ (s ++ 47 ∷ [])) (ss ++ [] ∷ []))) (t ∷ ts)) [
      | true ↦ two-segments (left (is_two_dots s) b) ss t ts
      | false ↦ two-segments (b ++ (s ++ 47 ∷ [])) ss t ts
    ])

pub written-two : (b f p : List ℕ) → ends_at_slash f ≡ true → written b (f ++ p) ≡ written (written b f) p
written-two b f p h =
    let e = ended f h in
    let ps = pieces-some p in
    ap (written_segments b) (e.whole p)
    ∙ (subst (λ l. written_segments b (e.segments ++ l) ≡ written_segments (written_segments b (e.segments ++ [] ∷ [])) l) (sym ps.whole)
    (two-segments b e.segments ps.first ps.rest)
    ∙ ap (λ l. written_segments (written_segments b l) (pieces 47 p)) (sym (alone f e)))

-- segments without dots are copied
pub written-run : (b r m : List ℕ) → ends_at_slash r ≡ true → has_dot_segment r ≡ false → written b (r ++ m) ≡ written (b ++ r) m
written-run b r m h d = written-two b r m h ∙ ap (λ l. written l m) (written-plain b r d)

pub popped-ends : (b : List ℕ) → ends_at_slash (popped b) ≡ true
popped-ends [] = refl
popped-ends (x ∷ xs) = slash-ends (without_last (but_last (x ∷ xs)))

pub left-ends : (two : Bool) (b : List ℕ) → ends_at_slash b ≡ true → ends_at_slash (left two b) ≡ true
left-ends true b h = popped-ends b
left-ends false b h = h

segments-end : (b : List ℕ) (ss : List (List ℕ)) → ends_at_slash b ≡ true → ends_at_slash (written_segments b (ss ++ [] ∷ [])) ≡ true
segments-end b [] h = ap ends_at_slash (written-nothing b) ∙ h
segments-end b (s ∷ ss) h =
    rw (closing-more ss [] [])
    (elim (is_dot_segment s) as (λ v. ends_at_slash (cond v (written_segments (left (is_two_dots s) b) (ss ++ [] ∷ []))
    (written_segments (b ++ (s ++ 47 ∷ [])) (ss ++ [] ∷ []))) ≡ true) [
      | true ↦ segments-end (left (is_two_dots s) b) ss (left-ends (is_two_dots s) b h)
      | false ↦ segments-end (b ++ (s ++ 47 ∷ [])) ss (both-end b (s ++ 47 ∷ []) h (slash-ends s))
    ])

pub written-ends : (b f : List ℕ) → ends_at_slash b ≡ true → ends_at_slash f ≡ true → ends_at_slash (written b f) ≡ true
written-ends b f h k =
    let e = ended f k in ap (λ ps. ends_at_slash (written_segments b ps)) (alone f e) ∙ segments-end b e.segments h

-- a path in two pieces
pub written-parts : (f p : List ℕ) → (is_empty p || ends_at_slash f) ≡ true → written (written [] f) p ≡ dots (f ++ p)
written-parts f [] h = written-nothing (written [] f) ∙ (written-dots f ∙ ap dots (sym (append-nil f)))
written-parts f (x ∷ xs) h = sym (written-two [] f (x ∷ xs) h) ∙ written-dots (f ++ x ∷ xs)

pub parts-end : (f p : List ℕ) → (is_empty p || ends_at_slash f) ≡ true → (is_empty p || ends_at_slash (written [] f)) ≡ true
parts-end f [] h = refl
parts-end f (x ∷ xs) h = written-ends [] f refl h

-- ---- the last segment of the output buffer
-- the buffer is what stands before its last slash, and the slash
buffer-end : (t : List ℕ) (n : ℕ) → 0 < n → n ≤ length t → ends_at_slash (take n t) ≡ true → take n t ≡ take (n - 1) t ++ 47 ∷ []
buffer-end t n l m h =
    let size : length (take n t) ≡ n = length-take-le n t m in
    let end = without_end (take n t) h (omega arith) in
    let same : take (length (take n t) - 1) (take n t) ≡ take (n - 1) t = ap (λ k. take (k - 1) (take n t)) size ∙ take-take (n - 1) n t (omega arith) in
    end ∙ ap (λ f. f ++ 47 ∷ []) same

-- the last slash of what stands before it
last-gone : (t : List ℕ) (i : ℕ) → IsLastByte (is_byte 47) t (Some i) → without_last t ++ 47 ∷ [] ≡ take (i + 1) t
last-gone t i h =
    let at = slash_is t i h in
    let whole = take-append-drop (i + 1) t in
    let size : length (take (i + 1) t) ≡ i + 1 = length-take-le (i + 1) t (omega arith) in
    let plain = after_last t (take (i + 1) t) (drop (i + 1) t) i h (sym whole) size in
    let prefix : take (i + 1) t ≡ take i t ++ 47 ∷ [] = take_more t i 0 at.0 ∙ ap (λ b. take i t ++ b ∷ []) at.1 in
    let text : t ≡ take i t ++ 47 ∷ drop (i + 1) t =
    sym whole ∙ (ap (λ f. f ++ drop (i + 1) t) prefix ∙ append_assoc (take i t) (47 ∷ []) (drop (i + 1) t)) in
    ap (λ o. o ++ 47 ∷ []) (ap without_last text ∙ without_last-slash (take i t) (drop (i + 1) t) plain) ∙ sym prefix

pub popped-some : (t : List ℕ) (n i : ℕ) → 0 < n → n ≤ length t → ends_at_slash (take n t) ≡ true
    → IsLastByte (is_byte 47) (take (n - 1) t) (Some i) → take (i + 1) t ≡ popped (take n t)
popped-some t n i l m h k =
    let at = slash_is (take (n - 1) t) i k in
    let size : length (take (n - 1) t) ≡ n - 1 = length-take-le (n - 1) t (omega arith) in
    sym (ap popped (buffer-end t n l m h)
    ∙ (popped-output (take (n - 1) t)
    ∙ (last-gone (take (n - 1) t) i k
    ∙ take-take (i + 1) (n - 1) t (omega arith))))

pub first-slash : (t : List ℕ) → 0 < length t → take 1 (slice_set t 0 47) ≡ 47 ∷ []
first-slash [] l = absurd (omega arith)
first-slash (x ∷ xs) l = refl

pub popped-none : (t : List ℕ) (n : ℕ) → 0 < n → n ≤ length t → ends_at_slash (take n t) ≡ true
    → IsLastByte (is_byte 47) (take (n - 1) t) None → take 1 (slice_set t 0 47) ≡ popped (take n t)
popped-none t n l m h k =
    first-slash t (omega arith)
    ∙ sym (ap popped (buffer-end t n l m h)
    ∙ (popped-output (take (n - 1) t)
    ∙ ap (λ o. o ++ 47 ∷ []) (without_last-all (take (n - 1) t) (no_slash (take (n - 1) t) k).0)))

-- of a text of its own
pub popped-last : (t : List ℕ) (i : ℕ) → 0 < length t → ends_at_slash t ≡ true
    → IsLastByte (is_byte 47) (take (length t - 1) t) (Some i) → take (i + 1) t ≡ popped t
popped-last t i l h k =
    let all = take-length t in
    popped-some t (length t) i l (omega arith) (ap ends_at_slash all ∙ h) k ∙ ap popped all

pub popped-alone : (t : List ℕ) → 0 < length t → ends_at_slash t ≡ true
    → IsLastByte (is_byte 47) (take (length t - 1) t) None → 47 ∷ [] ≡ popped t
popped-alone t l h k =
    let u = take (length t - 1) t in
    sym (ap popped (without_end t h l) ∙ (popped-output u ∙ ap (λ o. o ++ 47 ∷ []) (without_last-all u (no_slash u k).0)))

-- what is left is a path
pub record LastCut (o : List ℕ) : Type 0 where
  pub rest : List ℕ
  pub whole : o ≡ without_last o ++ 47 ∷ rest

pub last-cut : (o : List ℕ) → lacks 47 o ≡ false → LastCut o
last-cut [] h = cc
last-cut (x ∷ xs) h =
    elim (lacks 47 xs) as (λ b. lacks 47 xs ≡ b → LastCut (x ∷ xs)) [
      | true ↦ λ e. record { rest = xs; whole = rw e (ap (λ y. y ∷ xs) (is_slash e)) }
      | false ↦ λ e. let r = last-cut xs e in record { rest = r.rest; whole = rw e (ap (λ l. x ∷ l) r.whole) }
    ] refl
  where
    is_slash : lacks 47 xs ≡ true → x ≡ 47
    is_slash e = by_test x 47 (λ b. (not b && lacks 47 xs) ≡ false → x ≡ 47) (λ y _. y) (λ _ k. let n : true ≡ false = sym e ∙ k in cc) h

without_last-over : (p : ℕ → Bool) (o : List ℕ) → text_over p o ≡ true → text_over p (without_last o) ≡ true
without_last-over p o h =
    elim (lacks 47 o) as (λ b. lacks 47 o ≡ b → text_over p (without_last o) ≡ true) [
      | true ↦ λ e. subst (λ l. text_over p l ≡ true) (sym (without_last-all o e)) (nothing_over p)
      | false ↦ λ e. let r = last-cut o e in
          (text_over-cut p (without_last o) r.rest (subst (λ l. text_over p l ≡ true) r.whole h)).left
    ] refl

pub segment-path : (s : Tests) (a : List ℕ) → is_path s a ≡ true → is_path s (a ++ 47 ∷ []) ≡ true
segment-path s a h = text_over-append (path_char s) a (47 ∷ []) h (slash_over (path_char s) (slash_in_path s))

pub popped-path : (s : Tests) (d : List ℕ) → is_path s d ≡ true → ends_at_slash d ≡ true → is_path s (popped d) ≡ true
popped-path s [] h e = h
popped-path s (x ∷ xs) h e =
    let r = end_slash (x ∷ xs) e (omega arith) in
    let prefix = (text_over-cut (path_char s) r.prefix [] (subst (λ l. is_path s l ≡ true) r.whole h)).left in
    subst (λ l. is_path s l ≡ true) (sym (ap popped r.whole ∙ popped-output r.prefix))
    (segment-path s (without_last r.prefix) (without_last-over (path_char s) r.prefix prefix))

-- what has no percent-encoded octet
but_last-lacks : (t : List ℕ) → lacks 37 t ≡ true → lacks 37 (but_last t) ≡ true
but_last-lacks [] h = refl
but_last-lacks (x ∷ []) h = refl
but_last-lacks (x ∷ y ∷ ys) h = let k = both (not (x == 37)) (lacks 37 (y ∷ ys)) h in rw k.0 (but_last-lacks (y ∷ ys) k.1)

without_last-lacks : (t : List ℕ) → lacks 37 t ≡ true → lacks 37 (without_last t) ≡ true
without_last-lacks [] h = refl
without_last-lacks (x ∷ xs) h =
    let k = both (not (x == 37)) (lacks 37 xs) h in
    elim (lacks 47 xs) as (λ b. lacks 37 (cond b [] (x ∷ without_last xs)) ≡ true) [
      | true ↦ refl
      | false ↦ rw k.0 (without_last-lacks xs k.1)
    ]

pub popped-lacks : (d : List ℕ) → lacks 37 d ≡ true → lacks 37 (popped d) ≡ true
popped-lacks [] h = h
popped-lacks (x ∷ xs) h =
    lacks-append 37 (without_last (but_last (x ∷ xs))) (47 ∷ []) (without_last-lacks (but_last (x ∷ xs)) (but_last-lacks (x ∷ xs) h)) refl

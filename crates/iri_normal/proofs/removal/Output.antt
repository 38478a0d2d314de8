-- Dot removal over segments and over the output's text.
use Rattle.iri_normal.proofs.Common.{◌≡◌, ℕ, Bool, true, false, cond, not, ◌&&◌, List, [], ◌∷◌, ◌++◌, refl, sym, ◌∙◌, ap, map, ◌==◌, eq-eqb}
use Rattle.iri_normal.proofs.Common.{list_all, lacks, both, pieces, is_dot_segment, without_last, closed, remove_after, remove_dots}
use Rattle.iri_normal.proofs.Common.{path_text, dots, is_two_dots}
use Rattle.iri_normal.proofs.segments.DotKinds.{all_lack, pieces-lack}
use Rattle.iri_normal.specs.DotRemoval.{without_top}

-- the segments that follow a slash, after the text that was put out
abbrev pub closed_text : List (List ℕ) → List ℕ → List ℕ
closed_text [] output = output ++ 47 ∷ []
closed_text (s ∷ ss) output = output

abbrev pub text_after : List ℕ → List (List ℕ) → List ℕ
text_after output [] = output
text_after output (s ∷ ss) = cond (is_dot_segment s) (text_after (closed_text ss (cond (is_two_dots s) (without_last output) output)) ss)
    (text_after (output ++ 47 ∷ s) ss)

abbrev pub text_from : List ℕ → List (List ℕ) → List ℕ
text_from output [] = output
text_from output (s ∷ ss) = cond (is_dot_segment s) (text_from output ss) (text_after (output ++ s) ss)

-- at least one segment, and none has a slash
abbrev pub is_output : List (List ℕ) → Bool
is_output [] = false
is_output (s ∷ ss) = all_lack (s ∷ ss)

pub output-lack : (st : List (List ℕ)) → is_output st ≡ true → all_lack st ≡ true
output-lack [] h = cc
output-lack (s ∷ ss) h = h

pub output-without_top : (st : List (List ℕ)) → is_output st ≡ true → is_output (without_top st) ≡ true
output-without_top [] h = refl
output-without_top (s ∷ []) h = refl
output-without_top (s ∷ t ∷ ss) h = (both (lacks 47 s) (all_lack (t ∷ ss)) h).1

pub output-push : (s : List ℕ) (st : List (List ℕ)) → lacks 47 s ≡ true → is_output st ≡ true → is_output (s ∷ st) ≡ true
output-push s st h k = rw h (output-lack st k)

pub output-closed : (ss st : List (List ℕ)) → is_output st ≡ true → is_output (closed ss st) ≡ true
output-closed [] st h = output-push [] st refl h
output-closed (s ∷ ss) st h = h

pub text-push : (s : List ℕ) (st : List (List ℕ)) → is_output st ≡ true → path_text (s ∷ st) ≡ path_text st ++ 47 ∷ s
text-push s [] h = cc
text-push s (t ∷ ts) h = refl

pub lacks_there : (c : ℕ) (xs ys : List ℕ) → lacks c (xs ++ c ∷ ys) ≡ false
lacks_there c [] ys = ap (λ b. not b && lacks c ys) (eq-eqb c c refl)
lacks_there c (x ∷ xs) ys = elim (x == c) as (λ b. (not b && lacks c (xs ++ c ∷ ys)) ≡ false) [ true ↦ refl | false ↦ lacks_there c xs ys ]

-- the output's last segment
pub without_last-slash : (xs ys : List ℕ) → lacks 47 ys ≡ true → without_last (xs ++ 47 ∷ ys) ≡ xs
without_last-slash [] ys h = rw h refl
without_last-slash (x ∷ xs) ys h = rw (lacks_there 47 xs ys) (ap (λ zs. x ∷ zs) (without_last-slash xs ys h))

pub without_last-all : (xs : List ℕ) → lacks 47 xs ≡ true → without_last xs ≡ []
without_last-all [] h = refl
without_last-all (x ∷ xs) h = rw ((both (not (x == 47)) (lacks 47 xs) h).1) refl

pub text-without_top : (st : List (List ℕ)) → is_output st ≡ true → without_last (path_text st) ≡ path_text (without_top st)
text-without_top [] h = refl
text-without_top (s ∷ []) h = without_last-all s (both (lacks 47 s) true h).0
text-without_top (s ∷ t ∷ ss) h = without_last-slash (path_text (t ∷ ss)) s (both (lacks 47 s) (all_lack (t ∷ ss)) h).0

pub text-closed : (ss st : List (List ℕ)) → is_output st ≡ true → closed_text ss (path_text st) ≡ path_text (closed ss st)
text-closed [] st h = sym (text-push [] st h)
text-closed (s ∷ ss) st h = refl

-- what a dot segment leaves
abbrev pub left : Bool → List (List ℕ) → List (List ℕ)
left two st = cond two (without_top st) st

pub output-left : (two : Bool) (st : List (List ℕ)) → is_output st ≡ true → is_output (left two st) ≡ true
output-left true st h = output-without_top st h
output-left false st h = h

pub text-left : (two : Bool) (st : List (List ℕ)) → is_output st ≡ true
    → cond two (without_last (path_text st)) (path_text st) ≡ path_text (left two st)
text-left true st h = text-without_top st h
text-left false st h = refl

pub text-after : (st ss : List (List ℕ)) → is_output st ≡ true → all_lack ss ≡ true
    → text_after (path_text st) ss ≡ path_text (remove_after st ss)
text-after st [] h k = refl
text-after st (s ∷ ss) h k =
    let parts = both (lacks 47 s) (all_lack ss) k in
    let l = output-left (is_two_dots s) st h in
    elim (is_dot_segment s) as (λ b. cond b (text_after
    (closed_text ss (cond (is_two_dots s) (without_last (path_text st)) (path_text st))) ss) (text_after (path_text st ++ 47 ∷ s) ss)
    ≡ path_text (cond b (remove_after (closed ss (left (is_two_dots s) st)) ss) (remove_after (s ∷ st) ss))) [
      | true ↦ ap (λ o. text_after (closed_text ss o) ss) (text-left (is_two_dots s) st h)
          ∙ (ap (λ o. text_after o ss) (text-closed ss (left (is_two_dots s) st) l)
          ∙ text-after (closed ss (left (is_two_dots s) st)) ss (output-closed ss (left (is_two_dots s) st) l) parts.1)
      | false ↦ ap (λ o. text_after o ss) (sym (text-push s st h)) ∙ text-after (s ∷ st) ss (output-push s st parts.0 h) parts.1
    ]

text-from : (ss : List (List ℕ)) → all_lack ss ≡ true → text_from [] ss ≡ path_text (remove_dots ss)
text-from [] h = refl
text-from (s ∷ ss) h =
    let parts = both (lacks 47 s) (all_lack ss) h in
    elim (is_dot_segment s) as (λ b. cond b (text_from [] ss) (text_after s ss)
    ≡ path_text (cond b (remove_dots ss) (remove_after (s ∷ []) ss))) [
      | true ↦ text-from ss parts.1
      | false ↦ text-after (s ∷ []) ss (rw parts.0 refl) parts.1
    ]

pub dots-text : (p : List ℕ) → text_from [] (pieces 47 p) ≡ dots p
unfolding dots
dots-text p = text-from (pieces 47 p) (pieces-lack p)

-- ---- what is done to each segment
-- f keeps what segments are, of those that pass the test
pub record KeepsSegments (ok : List ℕ → Bool) (f : List ℕ → List ℕ) : Type 0 where
  pub nothing : f [] ≡ []
  pub slash : (a s : List ℕ) → f (a ++ 47 ∷ s) ≡ f a ++ 47 ∷ f s
  pub dot : (s : List ℕ) → ok s ≡ true → is_dot_segment (f s) ≡ is_dot_segment s
  pub two : (s : List ℕ) → ok s ≡ true → is_two_dots (f s) ≡ is_two_dots s

module _ (ok : List ℕ → Bool) (f : List ℕ → List ℕ) (k : KeepsSegments ok f) where
  top-map : (st : List (List ℕ)) → without_top (map f st) ≡ map f (without_top st)
  top-map [] = ap (λ s. s ∷ []) (sym k.nothing)
  top-map (t ∷ []) = ap (λ s. s ∷ []) (sym k.nothing)
  top-map (t ∷ u ∷ us) = refl

  left-map : (two : Bool) (st : List (List ℕ)) → left two (map f st) ≡ map f (left two st)
  left-map true st = top-map st
  left-map false st = refl

  closed-map : (ss st : List (List ℕ)) → closed (map f ss) (map f st) ≡ map f (closed ss st)
  closed-map [] st = ap (λ s. s ∷ map f st) (sym k.nothing)
  closed-map (t ∷ ts) st = refl

  after-map : (st ss : List (List ℕ)) → list_all ok ss ≡ true → remove_after (map f st) (map f ss) ≡ map f (remove_after st ss)
  after-map st [] w = refl
  after-map st (t ∷ ts) w =
      let l = both (ok t) (list_all ok ts) w in
      rw (k.dot t l.0, k.two t l.0)
      (elim (is_dot_segment t) as (λ b. cond b (remove_after (closed (map f ts) (left (is_two_dots t) (map f st))) (map f ts))
      (remove_after (map f (t ∷ st)) (map f ts))
      ≡ map f (cond b (remove_after (closed ts (left (is_two_dots t) st)) ts) (remove_after (t ∷ st) ts))) [
        | true ↦ ap (λ o. remove_after (closed (map f ts) o) (map f ts)) (left-map (is_two_dots t) st)
            ∙ (ap (λ o. remove_after o (map f ts)) (closed-map ts (left (is_two_dots t) st))
            ∙ after-map (closed ts (left (is_two_dots t) st)) ts l.1)
        | false ↦ after-map (t ∷ st) ts l.1
      ])

  removed-map : (ss : List (List ℕ)) → list_all ok ss ≡ true → remove_dots (map f ss) ≡ map f (remove_dots ss)
  removed-map [] w = ap (λ s. s ∷ []) (sym k.nothing)
  removed-map (t ∷ ts) w =
      let l = both (ok t) (list_all ok ts) w in
      rw (k.dot t l.0)
      (elim (is_dot_segment t) as (λ b. cond b (remove_dots (map f ts)) (remove_after (map f (t ∷ [])) (map f ts))
      ≡ map f (cond b (remove_dots ts) (remove_after (t ∷ []) ts))) [
        | true ↦ removed-map ts l.1
        | false ↦ after-map (t ∷ []) ts l.1
      ])

  text-map : (st : List (List ℕ)) → path_text (map f st) ≡ f (path_text st)
  text-map [] = sym k.nothing
  text-map (t ∷ []) = refl
  text-map (t ∷ u ∷ us) = ap (λ xs. xs ++ 47 ∷ f t) (text-map (u ∷ us)) ∙ sym (k.slash (path_text (u ∷ us)) t)

  -- dots are removed before it or after it
  pub dots-map : (p : List ℕ) → pieces 47 (f p) ≡ map f (pieces 47 p) → list_all ok (pieces 47 p) ≡ true → dots (f p) ≡ f (dots p)
  unfolding dots
  dots-map p e w = ap (λ ps. path_text (remove_dots ps)) e
      ∙ (ap path_text (removed-map (pieces 47 p) w) ∙ text-map (remove_dots (pieces 47 p)))

-- What each piece of a lax walk leaves.
use Rattle.iri_link.proofs.Common.{◌≡◌, ℕ, suc, ◌<◌, ◌≤◌, true, false, cond, ◌==◌, List, [], ◌∷◌, ◌++◌, Option, Some, None, length, drop, refl, sym, ap, ◌∙◌, subst, arith}
use Rattle.iri_link.proofs.Common.{both, list_all, is_blank, before, after, delimited, lacks, map, first_passes, IsRun, str_to_ascii_lowercase}
use Rattle.iri_link.proofs.Common.{LinkParam, before_link, in_target, after_param, after_semicolon, after_name, after_equals, in_token, quoted_len, unquoted}
use Rattle.std.proofs.Common.{length-append}
use Rattle.std.specs.Prelude.{filter}
use denote.Bor.{Bor}
use Rattle.iri_grammar.proofs.splits.CutLaws.{joined}
use Rattle.iri_grammar.proofs.faults.Scans.{before-lacks}
use Rattle.iri_link.specs.LaxReadings.{reads, passed, is_name_char, is_value_char, is_writable, lax_param, with_writable}
unfoldable use Rattle.iri_link.specs.LaxReadings.{lax_reading}
use Rattle.iri_link.specs.Readings.{Reading, of_links, of_value}
use Rattle.iri_link.specs.declared.piece.Piece.{Piece}
use Rattle.iri_link.specs.declared.piece.Piece.TheVariants.{Target, Param, NoParam, Comma}
use Rattle.iri_link.specs.inside.Pieces.{Comes, Ends, IsPieceOf, IsValueAt, Left, without_end}
use Rattle.iri_link.specs.inside.ReadParams.{LacksEquals, ReadsEquals}
use Rattle.iri_link.specs.inside.ReadQuoted.{IsCutOpen}
use Rattle.iri_link.proofs.LaxLemmas.{lax-blanks, lax-equals, lax-named, lax-named_ends, lax-nameless, lax-open, lax-quoted, lax-semicolon, lax-target, lax-unnamed, lax-unquoted, lax-value}
use Rattle.iri_link.proofs.LaxLemmas.{link-outside, param-bare}
use Rattle.iri_link.proofs.PhaseLemmas.{with_name, with_text}
use Rattle.iri_link.proofs.QuotedLemmas.{after-shorter}
use Rattle.iri_link.proofs.TargetLemmas.{some-lacks, none-lacks}

abbrev left_of : List LinkParam → Reading → Left
left_of ps r = record { params = ps; links = map with_writable r.links }

-- what is left, after a target or a parameter
abbrev pub left_inside : Reading → Left
left_inside r = left_of (filter is_writable r.params) r

-- ---- before a link-value, over blanks
begins_passed : (t : List ℕ) → first_passes is_blank t ≡ false → first_passes (λ c. c == 60) t ≡ false → lax_reading (reads before_link) t ≡ lax_reading passed t
unfolding lax_reading
begins_passed [] h k = refl
begins_passed (c ∷ cs) h k = rw (h, k) refl

open_nothing : (inner : List ℕ) → lacks 62 inner ≡ true → lax_reading (reads before_link) (60 ∷ inner) ≡ of_links []
unfolding lax_reading
open_nothing inner h = rw h refl

closed_link : (inner : List ℕ) → lacks 62 inner ≡ false → lax_reading (reads before_link) (60 ∷ inner)
    ≡ of_links (record { target = (lax_reading (reads in_target) inner).text; params = (lax_reading (reads in_target) inner).params } ∷ (lax_reading (reads in_target) inner).links)
unfolding lax_reading
closed_link inner h = rw h refl

module _ (t a next : List ℕ) (h : IsRun is_blank t a next) where
  over_before : lax_reading (reads before_link) t ≡ lax_reading (reads before_link) next
  over_before = ap (lax_reading (reads before_link)) h.whole ∙ lax-blanks before_link refl a next h.all

  pub lax_comma_before : (rest : List ℕ) → first_passes (λ c. c == 60) next ≡ false → (lax_reading passed next ≡ lax_reading (reads before_link) rest) × (length rest < length next)
      → Comes false t Comma rest
  lax_comma_before rest k m = record {
    same = ap (left_of []) (over_before ∙ (begins_passed next h.ends k ∙ m.0));
    named = tt;
    shorter = omega (arith, m.1, ap length h.whole, length-append a next);
  }

  pub lax_end_before : first_passes (λ c. c == 60) next ≡ false → lax_reading passed next ≡ of_links [] → Ends false t
  lax_end_before k m = ap (left_of []) (over_before ∙ (begins_passed next h.ends k ∙ m))

  pub lax_open_before : (inner : List ℕ) → next ≡ 60 ∷ inner → None ≡ after 62 inner → Ends false t
  lax_open_before inner e none =
      ap (left_of []) (over_before ∙ (ap (lax_reading (reads before_link)) e ∙ open_nothing inner (none-lacks 62 inner none)))

  pub lax_target_before : (inner : List ℕ) (u : Bor (List ℕ)) (rest : List ℕ) → next ≡ 60 ∷ inner → u.now ≡ before 62 inner → Some rest ≡ after 62 inner
      → Comes false t (Target u) rest
  lax_target_before inner u rest e is r =
      let has = some-lacks 62 inner rest r in
      let whole : inner ≡ u.now ++ 62 ∷ rest =
      sym (joined 62 inner) ∙ (ap (λ o. before 62 inner ++ delimited 62 o) (sym r) ∙ ap (λ l. l ++ 62 ∷ rest) (sym is)) in
      let closed : lacks 62 u.now ≡ true = ap (lacks 62) is ∙ before-lacks 62 inner in
      let given : lax_reading (reads in_target) inner ≡ with_text u.now (lax_reading (reads after_param) rest) =
      ap (lax_reading (reads in_target)) whole ∙ lax-target u.now rest closed in
      record {
        same = ap (left_of []) (over_before ∙ (ap (lax_reading (reads before_link)) e ∙ (closed_link inner has
            ∙ ap (λ o. of_links (record { target = o.text; params = o.params } ∷ o.links)) given)));
        named = tt;
        shorter = omega (arith, after-shorter 62 inner rest r, ap length e, ap length h.whole, length-append a next);
      }

-- ---- after a target or a parameter, over blanks
inside_passed : (t : List ℕ) → first_passes is_blank t ≡ false → first_passes (λ c. c == 59) t ≡ false → lax_reading (reads after_param) t ≡ lax_reading passed t
unfolding lax_reading
inside_passed [] h k = refl
inside_passed (c ∷ cs) h k = rw (h, k) refl

module _ (t a next : List ℕ) (h : IsRun is_blank t a next) where
  over_inside : lax_reading (reads after_param) t ≡ lax_reading (reads after_param) next
  over_inside = ap (lax_reading (reads after_param)) h.whole ∙ lax-blanks after_param refl a next h.all

  pub lax_comma_inside : (rest : List ℕ) → first_passes (λ c. c == 59) next ≡ false → (lax_reading passed next ≡ lax_reading (reads before_link) rest) × (length rest < length next)
      → Comes true t Comma rest
  lax_comma_inside rest k m = record {
    same = ap left_inside (over_inside ∙ (inside_passed next h.ends k ∙ (m.0 ∙ sym (link-outside rest))));
    named = tt;
    shorter = omega (arith, m.1, ap length h.whole, length-append a next);
  }

  pub lax_end_inside : first_passes (λ c. c == 59) next ≡ false → lax_reading passed next ≡ of_links [] → Ends true t
  lax_end_inside k m = ap left_inside (over_inside ∙ (inside_passed next h.ends k ∙ m))

  pub lax_piece_inside : (x : Piece) (rest : List ℕ) → Comes true next x rest → Comes true t x rest
  lax_piece_inside x rest k = record {
    same = ap left_inside over_inside ∙ k.same;
    named = k.named;
    shorter = omega (arith, k.shorter, ap length h.whole, length-append a next);
  }

-- ---- a value
pub quoted_lax : (t inner raw rest : List ℕ) → t ≡ 34 ∷ inner → IsCutOpen inner raw rest → IsValueAt t rest (unquoted raw)
quoted_lax t inner raw rest e h = record {
  same = ap (lax_reading (reads after_equals)) e ∙ (lax-open inner ∙ (lax-quoted false inner
      ∙ (ap (λ z. with_text (unquoted z) (lax_reading (reads after_param) (drop (suc (quoted_len false inner)) inner))) (sym h.prefix)
      ∙ ap (λ z. with_text (unquoted raw) (lax_reading (reads after_param) z)) (sym h.suffix))));
  short = omega (arith, ap length e, h.short);
}

pub unquoted_lax : (t run rest v : List ℕ) → first_passes is_blank t ≡ false → first_passes (λ c. c == 34) t ≡ false → IsRun is_value_char t run rest → v ≡ without_end run
    → IsValueAt t rest v
unquoted_lax t run rest v b m h e = record {
  same = lax-unquoted t b m ∙ (ap (lax_reading (reads in_token)) h.whole ∙ (lax-value run rest h.all h.ends
      ∙ ap (λ z. with_text z (lax_reading (reads after_param) rest)) (sym e)));
  short = omega (arith, ap length h.whole, length-append run rest);
}

-- ---- what follows a name, which may be empty: a value, or none
record FollowsName (rest tail : List ℕ) (v : Option (List ℕ)) : Type 0 where
  named : lax_reading (reads after_name) rest ≡ of_value v (lax_reading (reads after_param) tail)
  nameless : first_passes is_blank rest ≡ false → first_passes is_name_char rest ≡ false → with_text [] (lax_reading (reads after_semicolon) rest) ≡ with_text [] (lax_reading (reads after_param) tail)
  short : length tail ≤ length rest

-- no blanks begin such a text
no_blanks : (a y t : List ℕ) → t ≡ a ++ y → list_all is_blank a ≡ true → first_passes is_blank t ≡ false → t ≡ y
no_blanks [] y t e h k = e
no_blanks (c ∷ cs) y t e h k = let w : first_passes is_blank t ≡ true = ap (first_passes is_blank) e ∙ (both (is_blank c) (list_all is_blank cs) h).0 in cc

valued : (rest start tail v : List ℕ) → ReadsEquals rest start → IsValueAt start tail v → FollowsName rest tail (Some v)
valued rest start tail v k r =
    let after : lax_reading (reads after_equals) (k.b ++ start) ≡ with_text v (lax_reading (reads after_param) tail) =
    lax-blanks after_equals refl k.b start k.following ∙ r.same in
    record {
      named = ap (lax_reading (reads after_name)) k.whole ∙ (lax-blanks after_name refl k.a (61 ∷ (k.b ++ start)) k.before
          ∙ (lax-equals (k.b ++ start) ∙ ap (λ o. of_value (Some o.text) o) after));
      nameless = λ b _.
          ap (λ z. with_text [] (lax_reading (reads after_semicolon) z)) (no_blanks k.a (61 ∷ (k.b ++ start)) rest k.whole k.before b)
          ∙ (ap (with_text []) (lax-nameless (k.b ++ start)) ∙ ap (with_text []) after);
      short = omega (arith, r.short, ap length k.whole, length-append k.a (61 ∷ (k.b ++ start)), length-append k.b start);
    }

unvalued : (rest : List ℕ) → LacksEquals rest → FollowsName rest rest None
unvalued rest k =
    let h = k.run in
    record {
      named = ap (lax_reading (reads after_name)) h.whole ∙ (lax-blanks after_name refl k.a k.rest h.all ∙ (lax-named_ends k.rest h.ends k.none
          ∙ (sym (lax-blanks after_param refl k.a k.rest h.all) ∙ (sym (ap (lax_reading (reads after_param)) h.whole) ∙ sym (param-bare rest)))));
      nameless = λ b n.
          ap (with_text []) (lax-unnamed rest b n (ap (first_passes (λ c. c == 61)) (no_blanks k.a k.rest rest h.whole h.all b) ∙ k.none));
      short = omega arith;
    }

-- ---- a parameter, or none that can be written
one_piece : (x : Piece) (q : LinkParam) (whole tail : List ℕ) → IsPieceOf x q → left_inside (lax_reading (reads after_param) whole) ≡ record {
  params = cond (is_writable q) (q ∷ filter is_writable (lax_reading (reads after_param) tail).params) (filter is_writable (lax_reading (reads after_param) tail).params);
  links = map with_writable (lax_reading (reads after_param) tail).links;
} → length tail < length whole → Comes true whole x tail
one_piece (Param p) q whole tail h e short =
    let l = left_inside (lax_reading (reads after_param) tail) in
    record {
      same = e ∙ (ap (λ b. record { params = cond b (q ∷ l.params) l.params; links = l.links }) h.1 ∙ ap (λ o. record { params = o ∷ l.params; links = l.links }) (sym h.0));
      named = h.2;
      shorter = short;
    }
one_piece NoParam q whole tail h e short =
    let l = left_inside (lax_reading (reads after_param) tail) in
    record { same = e ∙ ap (λ b. record { params = cond b (q ∷ l.params) l.params; links = l.links }) h; named = tt; shorter = short }
one_piece (Target u) q whole tail h e short = absurd h
one_piece Comma q whole tail h e short = absurd h

module _ (whole following b next name rest : List ℕ) (e : whole ≡ 59 ∷ following) (h : IsRun is_blank following b next) (r : IsRun is_name_char next name rest) where
  over_after : lax_reading (reads after_param) whole ≡ lax_reading (reads after_semicolon) (name ++ rest)
  over_after =
      ap (lax_reading (reads after_param)) e ∙ (lax-semicolon following ∙ (ap (lax_reading (reads after_semicolon)) h.whole
      ∙ (lax-blanks after_semicolon refl b next h.all ∙ ap (lax_reading (reads after_semicolon)) r.whole)))

  param_comes : (x : Piece) (v : Option (List ℕ)) (tail : List ℕ) → FollowsName rest tail v → IsPieceOf x (record { name = str_to_ascii_lowercase name; value = v })
      → Comes true whole x tail
  param_comes x v tail d is =
      let short : length tail < length whole = omega (arith, d.short, ap length e, ap length h.whole, length-append b next, ap length r.whole, length-append name rest) in
      elim name as (λ n. n ≡ name → IsPieceOf x (record { name = str_to_ascii_lowercase n; value = v }) → Comes true whole x tail) [
        | [] ↦ λ n i.
            let same : next ≡ rest = r.whole ∙ ap (λ z. z ++ rest) (sym n) in
            one_piece x (record { name = []; value = v }) whole tail i
            (ap left_inside (over_after ∙ ap (λ z. lax_reading (reads after_semicolon) (z ++ rest)) (sym n))
            ∙ ap left_inside (d.nameless (subst (λ z. first_passes is_blank z ≡ false) same h.ends) r.ends)) short
        | c ∷ cs ↦ λ n i.
            one_piece x (record { name = str_to_ascii_lowercase (c ∷ cs); value = v }) whole tail i
            (ap left_inside (over_after ∙ (ap (λ z. lax_reading (reads after_semicolon) (z ++ rest)) (sym n)
            ∙ (lax-named c cs rest (subst (λ z. list_all is_name_char z ≡ true) (sym n) r.all) r.ends ∙ ap (λ o. lax_param c (with_name cs o)) d.named)))) short
      ] refl is

  pub valued_comes : (x : Piece) (start tail v : List ℕ) → ReadsEquals rest start → IsValueAt start tail v → IsPieceOf x (record { name = str_to_ascii_lowercase name; value = Some v })
      → Comes true whole x tail
  valued_comes x start tail v k l is = param_comes x (Some v) tail (valued rest start tail v k l) is

  pub bare_comes : (x : Piece) → LacksEquals rest → IsPieceOf x (record { name = str_to_ascii_lowercase name; value = None }) → Comes true whole x rest
  bare_comes x k is = param_comes x None rest (unvalued rest k) is

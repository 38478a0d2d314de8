-- How a lax reading goes on over runs.
use Rattle.iri_link.proofs.Common.{◌≡◌, ℕ, suc, ◌<◌, ◌≤◌, ◌+◌, Bool, true, false, cond, not, ◌&&◌, ◌||◌, ◌==◌, List, [], ◌∷◌, ◌++◌, Some, length, take, drop}
use Rattle.iri_link.proofs.Common.{drop-cons, drop_all, refl, sym, ap, ◌∙◌, arith, both, by_test, list_all, lacks, slice_index, is_blank, first_passes}
use Rattle.iri_link.proofs.Common.{before_link, in_target, after_param, after_semicolon, in_name, after_name, after_equals, in_token, in_quoted, Phase, quoted_len, unquoted_from}
use Rattle.std.proofs.lemmas.Bool.{not-true}
use Rattle.iri_grammar.specs.Parts.{is_empty}
use Rattle.iri_link.specs.Phases.{in_pair}
use Rattle.iri_link.specs.Readings.{Reading, of_links, of_params, of_value, more}
use Rattle.iri_link.specs.LaxReadings.{LaxPhase, reads, passed, passed_quoted, passed_pair, passing, lax_param_next, lax_next, lax_param}
use Rattle.iri_link.specs.LaxReadings.{is_name_char, is_value_char}
unfoldable use Rattle.iri_link.specs.LaxReadings.{lax_reading}
use Rattle.iri_link.specs.declared.walk.Passing.{Passing}
use Rattle.iri_link.specs.declared.walk.Passing.TheVariants.{Outer, Quoted, Pair}
use Rattle.iri_link.specs.inside.Pieces.{EndsPassing, IsCommaAt, passing_phase, without_end}
use Rattle.iri_link.proofs.PhaseLemmas.{by_blank, skips, with_text, with_name}
use Rattle.iri_link.proofs.RunLemmas.{when}

-- ---- what nothing is left of
-- before a link-value and in what is passed over, of a parameter
abbrev Outside : LaxPhase → List ℕ → Type 0
Outside p t = of_links (lax_reading p t).links ≡ lax_reading p t

passing-outside : (c : ℕ) (cs : List ℕ) → Outside (reads before_link) cs → Outside passed cs → Outside passed_quoted cs → Outside (passing c) cs
passing-outside c cs f g h = when (c == 44) _ (λ k. rw k f) (λ k. when (c == 34) _ (λ m. rw (k, m) h) (λ m. rw (k, m) g))

outside : (t : List ℕ) → Outside (reads before_link) t × Outside passed t × Outside passed_quoted t × Outside passed_pair t
unfolding lax_reading
outside [] = (refl, refl, refl, refl)
outside (c ∷ cs) =
    let i = outside cs in
    let p = passing-outside c cs i.0 i.1 i.2 in
    let start : Type 0 = Outside (reads before_link) (c ∷ cs) in
    let string : Type 0 = Outside passed_quoted (c ∷ cs) in (
      when (c == 60) start (λ k. rw k refl) (λ k. when (is_blank c) start (λ b. rw (k, b) i.0) (λ b. rw (k, b) p)),
      p,
      when (c == 34) string (λ k. rw k i.1) (λ k. when (c == 92) string (λ m. rw (k, m) i.3) (λ m. rw (k, m) i.2)),
      i.2,
    )

-- after a parameter and a semicolon, of a target, a name and a value
abbrev Bare : LaxPhase → List ℕ → Type 0
Bare p t = with_text [] (lax_reading p t) ≡ lax_reading p t

next-bare : (c : ℕ) (cs : List ℕ) → Bare (reads after_semicolon) cs → Bare (lax_param_next c) cs
next-bare c cs h =
    let o = outside cs in
    let p = passing-outside c cs o.0 o.1 o.2 in
    when (c == 59) _ (λ k. rw k h) (λ k. rw k (ap (with_text []) (sym p) ∙ p))

bare : (t : List ℕ) → Bare (reads after_param) t × Bare (reads after_semicolon) t
unfolding lax_reading
bare [] = (refl, refl)
bare (c ∷ cs) =
    let i = bare cs in
    let after = next-bare c cs i.1 in
    let P : Type 0 = Bare (reads after_param) (c ∷ cs) in
    let Q : Type 0 = Bare (reads after_semicolon) (c ∷ cs) in (
      when (is_blank c) P (λ b. rw b i.0) (λ b. rw b after),
      when (is_name_char c) Q (λ k. rw k refl) (λ k. when (c == 61) Q (λ m. rw (k, m) refl) (λ m. when (is_blank c) Q (λ b. rw (k, m, b) i.1) (λ b. rw (k, m, b) after))),
    )

pub link-outside : (t : List ℕ) → Outside (reads before_link) t
link-outside t = (outside t).0

pub param-bare : (t : List ℕ) → Bare (reads after_param) t
param-bare t = (bare t).0

named-bare : (t : List ℕ) → with_name [] (lax_reading (reads after_name) t) ≡ lax_reading (reads after_name) t
unfolding lax_reading
named-bare [] = refl
named-bare (c ∷ cs) =
    let P : Type 0 = with_name [] (lax_reading (reads after_name) (c ∷ cs)) ≡ lax_reading (reads after_name) (c ∷ cs) in
    let b = next-bare c cs (bare cs).1 in
    when (c == 61) P (λ k. rw k refl)
    (λ k. when (is_blank c) P (λ m. rw (k, m) (named-bare cs)) (λ m. rw (k, m) (ap (with_name []) (sym b) ∙ b)))

-- ---- blanks
blank_step : (p : Phase) → skips p ≡ true → (c : ℕ) (cs : List ℕ) → is_blank c ≡ true → lax_reading (reads p) (c ∷ cs) ≡ lax_reading (reads p) cs
unfolding lax_reading
blank_step before_link k c cs = by_blank c (λ d. lax_reading (reads before_link) (d ∷ cs) ≡ lax_reading (reads before_link) cs) refl refl
blank_step after_param k c cs = by_blank c (λ d. lax_reading (reads after_param) (d ∷ cs) ≡ lax_reading (reads after_param) cs) refl refl
blank_step after_semicolon k c cs = by_blank c (λ d. lax_reading (reads after_semicolon) (d ∷ cs) ≡ lax_reading (reads after_semicolon) cs) refl refl
blank_step after_name k c cs = by_blank c (λ d. lax_reading (reads after_name) (d ∷ cs) ≡ lax_reading (reads after_name) cs) refl refl
blank_step after_equals k c cs = by_blank c (λ d. lax_reading (reads after_equals) (d ∷ cs) ≡ lax_reading (reads after_equals) cs) refl refl
blank_step in_target k c cs = cc
blank_step in_name k c cs = cc
blank_step in_token k c cs = cc
blank_step in_quoted k c cs = cc
blank_step in_pair k c cs = cc

pub lax-blanks : (p : Phase) → skips p ≡ true → (a y : List ℕ) → list_all is_blank a ≡ true → lax_reading (reads p) (a ++ y) ≡ lax_reading (reads p) y
lax-blanks p k [] y h = refl
lax-blanks p k (c ∷ cs) y h = let b = both (is_blank c) (list_all is_blank cs) h in blank_step p k c (cs ++ y) b.0 ∙ lax-blanks p k cs y b.1

-- ---- targets
pub lax-target : (u y : List ℕ) → lacks 62 u ≡ true → lax_reading (reads in_target) (u ++ 62 ∷ y) ≡ with_text u (lax_reading (reads after_param) y)
unfolding lax_reading
lax-target [] y h = sym (param-bare y)
lax-target (c ∷ cs) y h = let k = both (not (c == 62)) (lacks 62 cs) h in rw (not-true (c == 62) k.0) (ap (more c) (lax-target cs y k.1))

-- ---- names
name-ends : (y : List ℕ) → first_passes is_name_char y ≡ false → lax_reading (reads in_name) y ≡ lax_reading (reads after_name) y
unfolding lax_reading
name-ends [] e = refl
name-ends (c ∷ cs) e = rw e refl

pub lax-name : (n y : List ℕ) → list_all is_name_char n ≡ true → first_passes is_name_char y ≡ false
    → lax_reading (reads in_name) (n ++ y) ≡ with_name n (lax_reading (reads after_name) y)
unfolding lax_reading
lax-name [] y h e = name-ends y e ∙ sym (named-bare y)
lax-name (c ∷ cs) y h e = let k = both (is_name_char c) (list_all is_name_char cs) h in rw k.0 (ap (more c) (lax-name cs y k.1 e))

name_no_blank : (c : ℕ) → is_name_char c ≡ true → is_blank c ≡ false
name_no_blank c h = when (is_blank c) (is_blank c ≡ false) (λ k. let w : is_name_char c ≡ false = rw k refl in cc) (λ k. k)

-- a parameter that has a name
pub lax-named : (c : ℕ) (n y : List ℕ) → list_all is_name_char (c ∷ n) ≡ true → first_passes is_name_char y ≡ false
    → lax_reading (reads after_semicolon) ((c ∷ n) ++ y) ≡ lax_param c (with_name n (lax_reading (reads after_name) y))
unfolding lax_reading
lax-named c n y h e =
    let k = both (is_name_char c) (list_all is_name_char n) h in
    rw (k.0, name_no_blank c k.0) (ap (lax_param c) (lax-name n y k.1 e))

pub lax-equals : (y : List ℕ) → lax_reading (reads after_name) (61 ∷ y) ≡ of_value (Some (lax_reading (reads after_equals) y).text) (lax_reading (reads after_equals) y)
unfolding lax_reading
lax-equals y = refl

-- where no `=` follows, a name ends a parameter
pub lax-named_ends : (t : List ℕ) → first_passes is_blank t ≡ false → first_passes (λ c. c == 61) t ≡ false
    → lax_reading (reads after_name) t ≡ lax_reading (reads after_param) t
unfolding lax_reading
lax-named_ends [] h k = refl
lax-named_ends (c ∷ cs) h k = rw (h, k) refl

-- a `;` without a name after it, and with a `=`
pub lax-unnamed : (t : List ℕ) → first_passes is_blank t ≡ false → first_passes is_name_char t ≡ false → first_passes (λ c. c == 61) t ≡ false
    → lax_reading (reads after_semicolon) t ≡ lax_reading (reads after_param) t
unfolding lax_reading
lax-unnamed [] h n k = refl
lax-unnamed (c ∷ cs) h n k = rw (n, h, k) refl

pub lax-nameless : (y : List ℕ) → lax_reading (reads after_semicolon) (61 ∷ y)
    ≡ of_params (lax_reading (reads after_equals) y).params (lax_reading (reads after_equals) y).links
unfolding lax_reading
lax-nameless y = refl

pub lax-semicolon : (y : List ℕ) → lax_reading (reads after_param) (59 ∷ y) ≡ lax_reading (reads after_semicolon) y
unfolding lax_reading
lax-semicolon y = refl

-- ---- values
value_end : (c : ℕ) → is_value_char c ≡ false → is_blank c ≡ false
value_end c h =
    by_test c 32 (λ b. (c == 32) ≡ b → is_blank c ≡ false) (λ e _. let w : is_value_char c ≡ true = ap is_value_char e in cc)
    (λ _ k. by_test c 9 (λ b. (c == 9) ≡ b → is_blank c ≡ false) (λ e _. let w : is_value_char c ≡ true = ap is_value_char e in cc) (λ _ m. rw (k, m) refl) refl) refl

value-ends : (y : List ℕ) → first_passes is_value_char y ≡ false → lax_reading (reads in_token) y ≡ lax_reading (reads after_param) y
unfolding lax_reading
value-ends [] e = refl
value-ends (c ∷ cs) e = rw (e, value_end c e) refl

one_more : (b : Bool) (c : ℕ) (w : List ℕ) (r : Reading) → cond b (more c (with_text w r)) (with_text w r) ≡ with_text (cond b (c ∷ w) w) r
one_more true c w r = refl
one_more false c w r = refl

pub lax-value : (v y : List ℕ) → list_all is_value_char v ≡ true → first_passes is_value_char y ≡ false
    → lax_reading (reads in_token) (v ++ y) ≡ with_text (without_end v) (lax_reading (reads after_param) y)
unfolding lax_reading
lax-value [] y h e = value-ends y e ∙ sym (param-bare y)
lax-value (c ∷ cs) y h e =
    let k = both (is_value_char c) (list_all is_value_char cs) h in
    let i = lax-value cs y k.1 e in
    rw k.0 (ap (λ r. cond (not (is_blank c && is_empty r.text)) (more c r) r) i
    ∙ one_more (not (is_blank c && is_empty (without_end cs))) c (without_end cs) (lax_reading (reads after_param) y))

pub lax-unquoted : (t : List ℕ) → first_passes is_blank t ≡ false → first_passes (λ c. c == 34) t ≡ false → lax_reading (reads after_equals) t ≡ lax_reading (reads in_token) t
unfolding lax_reading
lax-unquoted [] h k = refl
lax-unquoted (c ∷ cs) h k = rw (h, k) refl

-- ---- quoted strings
abbrev in_quotes : Bool → Phase
in_quotes false = in_quoted
in_quotes true = in_pair

pub lax-quoted : (e : Bool) (t : List ℕ) → lax_reading (reads (in_quotes e)) t
    ≡ with_text (unquoted_from e (take (quoted_len e t) t)) (lax_reading (reads after_param) (drop (suc (quoted_len e t)) t))
unfolding lax_reading quoted_len unquoted_from
lax-quoted true [] = refl
lax-quoted false [] = refl
lax-quoted true (c ∷ cs) = ap (more c) (lax-quoted false cs)
lax-quoted false (c ∷ cs) =
    let rest : Bool → Bool → Reading = λ a b. lax_reading (reads (cond a after_param (cond b in_pair in_quoted))) cs in
    by_test c 34 (λ a. cond (a || c == 92) (rest a (c == 92)) (more c (rest a (c == 92)))
    ≡ with_text (unquoted_from false (take (cond a 0 (suc (quoted_len (c == 92) cs))) (c ∷ cs))) (lax_reading (reads after_param) (drop (suc (cond a 0 (suc (quoted_len (c == 92) cs)))) (c ∷ cs))))
    (λ _. sym (param-bare cs))
    (λ _. by_test c 92 (λ b. cond b (rest false b) (more c (rest false b))
    ≡ with_text (cond b (unquoted_from true (take (quoted_len b cs) cs)) (c ∷ unquoted_from false (take (quoted_len b cs) cs))) (lax_reading (reads after_param) (drop (suc (quoted_len b cs)) cs)))
    (λ _. lax-quoted true cs) (λ _. ap (more c) (lax-quoted false cs)))

pub lax-open : (y : List ℕ) → lax_reading (reads after_equals) (34 ∷ y) ≡ lax_reading (reads in_quoted) y
unfolding lax_reading
lax-open y = refl

-- ---- what is passed over
passing_step : (p : Passing) (c : ℕ) (cs : List ℕ) → lax_reading (passing_phase p) (c ∷ cs) ≡ lax_reading (lax_next (passing_phase p) c) cs
unfolding lax_reading
passing_step Outer c cs = refl
passing_step Quoted c cs = refl
passing_step Pair c cs = refl

module _ (bs : List ℕ) (i : ℕ) (p : Passing) (inside : i < length bs) (same : lax_reading passed bs ≡ lax_reading (passing_phase p) (drop i bs)) where
  passed_on : lax_reading passed bs ≡ lax_reading (lax_next (passing_phase p) (slice_index bs i)) (drop (i + 1) bs)
  passed_on =
      let n : suc i ≡ i + 1 = omega arith in
      same ∙ (ap (lax_reading (passing_phase p)) (drop-cons bs i 0 inside)
      ∙ (passing_step p (slice_index bs i) (drop (suc i) bs) ∙ ap (λ k. lax_reading (lax_next (passing_phase p) (slice_index bs i)) (drop k bs)) n))

  pub comma_found : EndsPassing p (slice_index bs i) → IsCommaAt bs i
  comma_found h = record { inside = inside; comma = h.1; same = passed_on ∙ ap (λ q. lax_reading q (drop (i + 1) bs)) h.0 }

  pub passing_on : (q : Passing) → lax_next (passing_phase p) (slice_index bs i) ≡ passing_phase q → lax_reading passed bs ≡ lax_reading (passing_phase q) (drop (i + 1) bs)
  passing_on q h = passed_on ∙ ap (λ r. lax_reading r (drop (i + 1) bs)) h

pub passing_end : (bs : List ℕ) (i : ℕ) (p : Passing) → length bs ≤ i → lax_reading passed bs ≡ lax_reading (passing_phase p) (drop i bs) → lax_reading passed bs ≡ of_links []
unfolding lax_reading
passing_end bs i p h same = same ∙ ap (lax_reading (passing_phase p)) (drop_all i bs h)

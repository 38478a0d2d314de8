-- How the first fault of a text, and what it gives, go on over runs.
use Rattle.iri_link.proofs.Common.{◌≡◌, ℕ, Bool, true, false, not, ◌&&◌, List, [], ◌∷◌, ◌++◌, Option, None, Some, refl, sym, ◌∙◌, ap, subst, ◌==◌, ◌||◌, list_all}
use Rattle.iri_link.proofs.Common.{Tests, both, by_test, test_apart, append_assoc, is_blank, is_token_char, is_pair_char, is_plain_char, lacks, Phase, before_link, in_target, after_param}
use Rattle.iri_link.proofs.Common.{after_semicolon, in_name, after_name, after_equals, in_token, in_quoted, fault_from, closes_from, first_passes, str_to_ascii_lowercase}
use Rattle.iri_link.proofs.Common.{IsQuoted, done, plain, pair, IsValue, token, quoted}
use Rattle.iri_link.specs.Fault.{Fault}
use Rattle.iri_link.specs.Phases.{in_pair}
use Rattle.std.proofs.lemmas.Bool.{not-true}
use Rattle.iri_link.proofs.RunLemmas.{when}
use Rattle.iri_link.specs.Readings.{Reading, of_links, of_params, of_value, more, reading}

-- ---- what a text comes to
-- the first fault of what is left, and what it gives
abbrev pub outcome : Tests → Phase → List ℕ → Option Fault × Reading
outcome s p t = (fault_from s p t, reading p t)

-- the same fault, and what is made of what is given
abbrev pub giving : (Reading → Reading) → Option Fault × Reading → Option Fault × Reading
giving f x = (x.0, f x.1)

-- the rest of a target or of a value, and of a name
abbrev pub with_text : List ℕ → Reading → Reading
with_text t r = record { text = t; value = None; params = r.params; links = r.links }

abbrev pub with_name : List ℕ → Reading → Reading
with_name n r = record { text = n; value = r.value; params = r.params; links = r.links }

-- between targets, names and values nothing is left of one, nor, but after a name, a value
record Forms (t : List ℕ) : Type 0 where
  start : of_links (reading before_link t).links ≡ reading before_link t
  param : with_text [] (reading after_param t) ≡ reading after_param t
  semicolon : with_text [] (reading after_semicolon t) ≡ reading after_semicolon t
  name : with_name [] (reading after_name t) ≡ reading after_name t

forms : (t : List ℕ) → Forms t
unfolding reading
forms [] = record { start = refl; param = refl; semicolon = refl; name = refl }
forms (c ∷ cs) =
    let i = forms cs in
    let comma = ap (with_text []) (sym i.start) ∙ i.start in
    let P : Type 0 = with_text [] (reading after_param (c ∷ cs)) ≡ reading after_param (c ∷ cs) in
    let Q : Type 0 = with_text [] (reading after_semicolon (c ∷ cs)) ≡ reading after_semicolon (c ∷ cs) in
    let N : Type 0 = with_name [] (reading after_name (c ∷ cs)) ≡ reading after_name (c ∷ cs) in
    record {
      start = when (c == 60) (of_links (reading before_link (c ∷ cs)).links ≡ reading before_link (c ∷ cs)) (λ k. rw k refl) (λ k. rw k i.start);
      param = when (c == 59) P (λ k. rw k i.semicolon) (λ k. when (c == 44) P (λ m. rw (k, m) comma) (λ m. rw (k, m) i.param));
      semicolon = when (is_token_char c) Q (λ k. rw k refl) (λ k. when (c == 44) Q (λ m. rw (k, m) comma) (λ m. rw (k, m) i.semicolon));
      name = when (c == 61) N (λ k. rw k refl) (λ k. when (c == 59) N (λ m. rw (k, m) (ap (with_name []) (sym i.semicolon) ∙ i.semicolon))
          (λ m. when (c == 44) N (λ n. rw (k, m, n) (ap (with_name []) (sym i.start) ∙ i.start)) (λ n. rw (k, m, n) i.name)));
    }

pub ready : (s : Tests) (t : List ℕ) → outcome s after_param t ≡ giving (with_text []) (outcome s after_param t)
ready s t = ap (λ r. (fault_from s after_param t, r)) (sym (forms t).param)

-- ---- blanks
pub by_blank : (c : ℕ) (P : ℕ → Type 0) → P 32 → P 9 → is_blank c ≡ true → P c
by_blank c P a b h =
    by_test c 32 (λ t. (t || c == 9) ≡ true → P c) (λ e _. subst P (sym e) a)
    (λ _ k. by_test c 9 (λ t. t ≡ true → P c) (λ e _. subst P (sym e) b) (λ _ l. cc) k) h

abbrev pub skips : Phase → Bool
skips before_link = true
skips after_param = true
skips after_semicolon = true
skips after_name = true
skips after_equals = true
skips _ = false

blank_step : (s : Tests) (p : Phase) → skips p ≡ true → (c : ℕ) (cs : List ℕ) → is_blank c ≡ true → outcome s p (c ∷ cs) ≡ outcome s p cs
unfolding fault_from reading
blank_step s before_link k c cs = by_blank c (λ d. outcome s before_link (d ∷ cs) ≡ outcome s before_link cs) refl refl
blank_step s after_param k c cs = by_blank c (λ d. outcome s after_param (d ∷ cs) ≡ outcome s after_param cs) refl refl
blank_step s after_semicolon k c cs = by_blank c (λ d. outcome s after_semicolon (d ∷ cs) ≡ outcome s after_semicolon cs) refl refl
blank_step s after_name k c cs = by_blank c (λ d. outcome s after_name (d ∷ cs) ≡ outcome s after_name cs) refl refl
blank_step s after_equals k c cs = by_blank c (λ d. outcome s after_equals (d ∷ cs) ≡ outcome s after_equals cs) refl refl
blank_step s in_target k c cs = cc
blank_step s in_name k c cs = cc
blank_step s in_token k c cs = cc
blank_step s in_quoted k c cs = cc
blank_step s in_pair k c cs = cc

-- blanks change nothing
pub blanks : (s : Tests) (p : Phase) → skips p ≡ true → (a y : List ℕ) → list_all is_blank a ≡ true → outcome s p (a ++ y) ≡ outcome s p y
blanks s p k [] y h = refl
blanks s p k (c ∷ cs) y h = let b = both (is_blank c) (list_all is_blank cs) h in blank_step s p k c (cs ++ y) b.0 ∙ blanks s p k cs y b.1

pub fault-blanks : (s : Tests) (p : Phase) → skips p ≡ true → (a y : List ℕ) → list_all is_blank a ≡ true → fault_from s p (a ++ y) ≡ fault_from s p y
fault-blanks s p k a y h = ap (λ x. x.0) (blanks s p k a y h)

pub blank_no_token : (a y : List ℕ) → list_all is_blank a ≡ true → first_passes is_token_char y ≡ false → first_passes is_token_char (a ++ y) ≡ false
blank_no_token [] y h e = e
blank_no_token (c ∷ cs) y h e = by_blank c (λ d. is_token_char d ≡ false) refl refl (both (is_blank c) (list_all is_blank cs) h).0

-- ---- targets
pub target-given : (s : Tests) (t y : List ℕ) → lacks 62 t ≡ true → outcome s in_target (t ++ 62 ∷ y) ≡ giving (with_text t) (outcome s after_param y)
unfolding fault_from reading
target-given s [] y h = ready s y
target-given s (c ∷ cs) y h =
    let k = both (not (c == 62)) (lacks 62 cs) h in
    rw (not-true (c == 62) k.0) (ap (giving (more c)) (target-given s cs y k.1))

-- ---- values
quoted-given : (s : Tests) (t v z : List ℕ) → IsQuoted t v
    → (closes_from false (t ++ 34 ∷ z) ≡ true) × (outcome s in_quoted (t ++ 34 ∷ z) ≡ giving (with_text v) (outcome s after_param z))
unfolding closes_from fault_from reading
quoted-given s t v z done = (refl, ready s z)
quoted-given s t v z (plain c u w h r) =
    let a = test_apart is_plain_char 34 c refl h in
    let b = test_apart is_plain_char 92 c refl h in
    let k = both (is_pair_char c) (not (c == 34) && not (c == 92)) h in
    let q = quoted-given s u w z r in
    (rw (a, b, k.0) q.0, rw (a, b) (ap (giving (more c)) q.1))
quoted-given s t v z (pair c u w h r) = let q = quoted-given s u w z r in (rw h q.0, ap (giving (more c)) q.1)

pub equals-quoted : (s : Tests) (y : List ℕ) → closes_from false y ≡ true → outcome s after_equals (34 ∷ y) ≡ outcome s in_quoted y
unfolding fault_from reading
equals-quoted s y h = rw h refl

pub string-given : (s : Tests) (u v z : List ℕ) → IsQuoted u v → outcome s after_equals ((34 ∷ (u ++ 34 ∷ [])) ++ z) ≡ giving (with_text v) (outcome s after_param z)
string-given s u v z q =
    let k = quoted-given s u v z q in
    ap (λ l. outcome s after_equals (34 ∷ l)) (append_assoc u (34 ∷ []) z) ∙ (equals-quoted s (u ++ 34 ∷ z) k.0 ∙ k.1)

token-ends : (s : Tests) (z : List ℕ) → first_passes is_token_char z ≡ false → outcome s in_token z ≡ outcome s after_param z
unfolding fault_from reading
token-ends s [] e = refl
token-ends s (c ∷ cs) e = rw e refl

token-given : (s : Tests) (t z : List ℕ) → list_all is_token_char t ≡ true → first_passes is_token_char z ≡ false
    → outcome s in_token (t ++ z) ≡ giving (with_text t) (outcome s after_param z)
unfolding fault_from reading
token-given s [] z h e = token-ends s z e ∙ ready s z
token-given s (c ∷ cs) z h e =
    let k = both (is_token_char c) (list_all is_token_char cs) h in rw k.0 (ap (giving (more c)) (token-given s cs z k.1 e))

equals-token : (s : Tests) (c : ℕ) (cs : List ℕ) → is_token_char c ≡ true → outcome s after_equals (c ∷ cs) ≡ giving (more c) (outcome s in_token cs)
unfolding fault_from reading
equals-token s c cs h = rw (test_apart is_token_char 34 c refl h, h) refl

-- after a value nothing that a token has may stand
pub value-given : (s : Tests) (t v z : List ℕ) → IsValue t v → first_passes is_token_char z ≡ false → outcome s after_equals (t ++ z) ≡ giving (with_text v) (outcome s after_param z)
value-given s t v z (token [] h) e = cc
value-given s t v z (token (c ∷ cs) h) e =
    let k = both (is_token_char c) (list_all is_token_char cs) h in
    equals-token s c (cs ++ z) k.0 ∙ ap (giving (more c)) (token-given s cs z k.1 e)
value-given s t v z (quoted u w q) e = string-given s u w z q

-- ---- names
name-ends : (s : Tests) (y : List ℕ) → first_passes is_token_char y ≡ false → outcome s in_name y ≡ outcome s after_name y
unfolding fault_from reading
name-ends s [] e = refl
name-ends s (c ∷ cs) e = rw e refl

pub name-given : (s : Tests) (n y : List ℕ) → list_all is_token_char n ≡ true → first_passes is_token_char y ≡ false
    → outcome s in_name (n ++ y) ≡ giving (with_name n) (outcome s after_name y)
unfolding fault_from reading
name-given s [] y h e = name-ends s y e ∙ ap (λ r. (fault_from s after_name y, r)) (sym (forms y).name)
name-given s (c ∷ cs) y h e =
    let k = both (is_token_char c) (list_all is_token_char cs) h in rw k.0 (ap (giving (more c)) (name-given s cs y k.1 e))

-- a parameter begins
abbrev pub begun : ℕ → Reading → Reading
begun c r = of_params (record { name = str_to_ascii_lowercase (c ∷ r.text); value = r.value } ∷ r.params) r.links

pub semicolon-name : (s : Tests) (c : ℕ) (cs : List ℕ) → is_token_char c ≡ true → outcome s after_semicolon (c ∷ cs) ≡ giving (begun c) (outcome s in_name cs)
unfolding fault_from reading
semicolon-name s c cs h = rw h refl

pub name-equals : (s : Tests) (y : List ℕ) → outcome s after_name (61 ∷ y) ≡ giving (λ r. of_value (Some r.text) r) (outcome s after_equals y)
unfolding fault_from reading
name-equals s y = refl

-- ---- `;`, `,` and the end
pub semicolon-same : (s : Tests) (y : List ℕ) → (outcome s after_name (59 ∷ y) ≡ outcome s after_semicolon y) × (outcome s after_param (59 ∷ y) ≡ outcome s after_semicolon y)
    × (outcome s after_semicolon (59 ∷ y) ≡ outcome s after_semicolon y)
unfolding fault_from reading
semicolon-same s y = (refl, refl, refl)

-- the same after a name, a parameter and a semicolon and before a link-value
abbrev pub AllSame : Tests → List ℕ → Option Fault × Reading → Type 0
AllSame s y x = (outcome s after_name y ≡ x) × (outcome s after_param y ≡ x) × (outcome s after_semicolon y ≡ x) × (outcome s before_link y ≡ x)

pub comma-same : (s : Tests) (y : List ℕ) → AllSame s (44 ∷ y) (fault_from s before_link y, of_links (reading before_link y).links)
unfolding fault_from reading
comma-same s y = let e = ap (λ r. (fault_from s before_link y, r)) (sym (forms y).start) in (e, e, e, e)

pub end-same : (s : Tests) → AllSame s [] (None, of_links [])
unfolding fault_from reading
end-same s = (refl, refl, refl, refl)

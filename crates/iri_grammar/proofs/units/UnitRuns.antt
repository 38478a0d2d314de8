-- Units of a class at the start of a text, taken some at a time.
use Rattle.iri_grammar.proofs.Common.{◌≡◌, ℕ, zero, suc, ◌+◌, ◌-◌, ◌<◌, ◌≤◌, Bool, true, false, cond, ◌&&◌, List, [], ◌∷◌, ◌++◌, length}
use Rattle.iri_grammar.proofs.Common.{take, drop, ◌≢◌, refl, sym, ◌∙◌, ap, subst, arith, length-append, append-nil, ◌==◌, slice_index}
use Rattle.iri_grammar.proofs.Common.{is_ascii_hexdigit, encode_utf8, chars, IsUtf8, is_utf8, both, eqb-true, nat_tests, length-drop}
use Rattle.iri_grammar.proofs.Common.{take-add, take-append_seam, drop-append_seam, Tests, IsSpec, ascii_test, class_test, Class, over}
use Rattle.iri_grammar.proofs.Common.{over_from, text_over, run_of, begins_with_triplet, AreUnits, HasNoUnit, lacks, is_empty}
use Rattle.std.proofs.lemmas.Str.{chars-append, IsUtf8-append, IsUtf8-drop, IsUtf8-from_ascii, IsUtf8-from_is_utf8, IsUtf8-past_char}
use Rattle.std.proofs.lemmas.Str.{IsUtf8-take, IsCharBoundary-from_drop, IsCharBoundary-from_take}
use Rattle.std.proofs.lemmas.Str.Ascii.{IsAscii-cons, IsAscii-nil}
use Rattle.iri_grammar.specs.inside.Runs.{LacksNearUnit}
use Rattle.iri_grammar.proofs.authorities.AuthorityTexts.{text_over-utf8}
use Rattle.iri_grammar.proofs.splits.CutLaws.{by_test, all-lacks, lacks-append, test_apart}
use Rattle.iri_grammar.proofs.units.ClassLaws.{no_percent}
use Rattle.iri_grammar.proofs.units.LackedBytes.{encode-lacks}
use Rattle.iri_grammar.proofs.faults.PlainTails.{plain-over, run-all}
use Rattle.iri_grammar.proofs.units.FirstUnits.{ascii_prefix, char_past, char_stops, hex_is_ascii, none-over, nothing_left, nothing_more, of_text}
use Rattle.iri_grammar.proofs.units.FirstUnits.{run_of_le, triplet_past}
use Rattle.iri_grammar.proofs.splits.TextParts.{rest-text}

-- ---- units decide nothing: what follows them decides as the whole does
over-past : (p : ℕ → Bool) (n : ℕ) (xs ys : List ℕ) → over_from p n xs ≡ true → over_from p n (xs ++ ys) ≡ over p ys
unfolding over_from
over-past p zero [] ys h = refl
over-past p (suc n) [] ys h = cc
over-past p zero (x ∷ xs) ys h =
    by_test x 37 (λ b. cond b (over_from p 2 xs) (p x && over_from p 0 xs) ≡ true
    → cond b (over_from p 2 (xs ++ ys)) (p x && over_from p 0 (xs ++ ys)) ≡ over p ys)
    (λ _ l. over-past p 2 xs ys l)
    (λ _ l. let r = both (p x) (over_from p 0 xs) l in rw r.0 (over-past p 0 xs ys r.1))
    h
over-past p (suc n) (x ∷ xs) ys h = let r = both (is_ascii_hexdigit x) (over_from p n xs) h in rw r.0 (over-past p n xs ys r.1)

-- where no unit follows units, what goes on is not over the class
pub stops-over : (p : ℕ → Bool) (a y z : List ℕ) → text_over p a ≡ true → is_empty y ≡ false → HasNoUnit p (y ++ z) → text_over p (a ++ y) ≡ false
stops-over p a y z h some stops =
    let ua = text_over-utf8 p a h in
    elim (is_utf8 (a ++ y)) as (λ b. is_utf8 (a ++ y) ≡ b → (b && over p (chars (a ++ y))) ≡ false) [
      | true ↦ λ e. ap (over p) (chars-append a y ua) ∙ (over-past p 0 (chars a) (chars y) (sym (of_text p a ua) ∙ h)
          ∙ none-over p y z (rest-text a y ua (IsUtf8-from_is_utf8 (a ++ y) e)) some stops)
      | false ↦ λ _. refl
    ] refl

-- the longest start of whole units tells whether the text is made of them
pub cut_decides : (p : ℕ → Bool) (a r : List ℕ) → text_over p a ≡ true → HasNoUnit p r → text_over p (a ++ r) ≡ (length r == 0)
cut_decides p a [] h stops = ap (text_over p) (append-nil a) ∙ h
cut_decides p a (x ∷ xs) h stops =
    stops-over p a (x ∷ xs) [] h refl (subst (HasNoUnit p) (sym (append-nil (x ∷ xs))) stops) ∙ never (length xs)
  where
    never : (n : ℕ) → false ≡ (suc n == 0)
    never n = grind (arith, nat_tests)

-- ---- texts over a class, put together
pub text_over-append : (p : ℕ → Bool) (xs ys : List ℕ) → text_over p xs ≡ true → text_over p ys ≡ true → text_over p (xs ++ ys) ≡ true
text_over-append p xs ys h k =
    let u = text_over-utf8 p xs h in
    let w = text_over-utf8 p ys k in
    let e = chars-append xs ys u in
    of_text p (xs ++ ys) (IsUtf8-append xs ys u w)
    ∙ rw e (over-past p 0 (chars xs) (chars ys) (sym (of_text p xs u) ∙ h) ∙ (sym (of_text p ys w) ∙ k))

-- ---- none, and some after others
pub nothing_over : (p : ℕ → Bool) → text_over p [] ≡ true
unfolding over_from chars is_utf8
nothing_over p = refl

pub no_units : (p : ℕ → Bool) (t : List ℕ) → AreUnits p t 0
no_units p t = record { within = omega arith; over = nothing_over p }

-- units are a text, and so is what follows them in one
pub units_text : (p : ℕ → Bool) (t : List ℕ) (i : ℕ) → AreUnits p t i → IsUtf8 (take i t)
units_text p t i a = text_over-utf8 p (take i t) a.over

pub rest_text : (p : ℕ → Bool) (t : List ℕ) (i : ℕ) → IsUtf8 t → AreUnits p t i → IsUtf8 (drop i t)
rest_text p t i u a = IsUtf8-drop t i u (IsCharBoundary-from_take t i u a.within (units_text p t i a))

pub units_onward : (p : ℕ → Bool) (t : List ℕ) (i j : ℕ) → AreUnits p t i → AreUnits p (drop i t) j → AreUnits p t (i + j)
units_onward p t i j a b = record {
  within = omega (arith, a.within, b.within, length-drop i t);
  over = ap (text_over p) (take-add i j t) ∙ text_over-append p (take i t) (take j (drop i t)) a.over b.over;
}

-- ---- one character, one triplet, and a run of ASCII characters
-- the first n bytes are a character of the class
pub char_units : (p : ℕ → Bool) (c n : ℕ) (t : List ℕ) → IsUtf8 (take n t) → n ≤ length t → take n t ≡ encode_utf8 c → p 37 ≡ false → p c ≡ true
    → AreUnits p t n
char_units p c n t u within e h k = record {
  within = within;
  over = of_text p (take n t) u ∙ sym (char_past p c (take n t) [] u (e ∙ sym (append-nil (encode_utf8 c))) h k) ∙ nothing_more p;
}

-- and it is no percent sign
pub char_lacks : (p : ℕ → Bool) (c n : ℕ) (t : List ℕ) → take n t ≡ encode_utf8 c → p 37 ≡ false → p c ≡ true → lacks 37 (take n t) ≡ true
char_lacks p c n t e h k = ap (lacks 37) e ∙ encode-lacks 37 c (omega arith) (test_apart p 37 c h k)

-- the same of the character c that a text begins with, before r
pub prefix_of : (c : ℕ) (t r : List ℕ) → t ≡ encode_utf8 c ++ r → take (length t - length r) t ≡ encode_utf8 c
prefix_of c t r e =
    let x = encode_utf8 c in
    let len : length t - length r ≡ length x = omega (arith, ap length e, length-append x r) in
    ap (λ n. take n t) len ∙ (ap (take (length x)) e ∙ take-append_seam x r)

pub prefix_text : (t r : List ℕ) (c : ℕ) → IsUtf8 t → t ≡ encode_utf8 c ++ r → IsUtf8 (take (length t - length r) t)
prefix_text t r c u e =
    let x = encode_utf8 c in
    let len : length t - length r ≡ length x = omega (arith, ap length e, length-append x r) in
    let rest : drop (length t - length r) t ≡ r = ap (λ n. drop n t) len ∙ (ap (drop (length x)) e ∙ drop-append_seam x r) in
    IsUtf8-take t (length t - length r) u
    (IsCharBoundary-from_drop t (length t - length r) (omega arith) (subst IsUtf8 (sym rest) (IsUtf8-past_char t r c u e)))

pub triplet_units : (p : ℕ → Bool) (t : List ℕ) → begins_with_triplet t ≡ true → AreUnits p t 3
triplet_units p [] h = cc
triplet_units p (x ∷ []) h = let clash = both (x == 37) false h in cc
triplet_units p (x ∷ a ∷ []) h = let one = both (x == 37) (is_ascii_hexdigit a && false) h in
    let clash = both (is_ascii_hexdigit a) false one.1 in cc
triplet_units p (x ∷ a ∷ b ∷ cs) h =
    let one = both (x == 37) (is_ascii_hexdigit a && is_ascii_hexdigit b) h in
    let two = both (is_ascii_hexdigit a) (is_ascii_hexdigit b) one.1 in
    let low = eqb-true x 37 one.0 in
    let t = x ∷ a ∷ b ∷ [] in
    let u = IsUtf8-from_ascii t (IsAscii-cons x (a ∷ b ∷ []) (omega (arith, low)) (IsAscii-cons a (b ∷ []) (hex_is_ascii a two.0)
    (IsAscii-cons b [] (hex_is_ascii b two.1) IsAscii-nil))) in
    record {
      within = omega arith;
      over = of_text p t u ∙ sym (triplet_past p t u h) ∙ nothing_more p;
    }

pub run_units : (s : Tests) → IsSpec s → (k : Class) (t : List ℕ) → AreUnits (class_test s k) t (run_of (ascii_test k) t)
run_units s l k t = record {
  within = run_of_le (ascii_test k) t;
  over = plain-over s l k (take (run_of (ascii_test k) t) t) (run-all (ascii_test k) t);
}

-- ---- without triplets
pub lacks_onward : (t : List ℕ) (i j : ℕ) → lacks 37 (take i t) ≡ true → lacks 37 (take j (drop i t)) ≡ true → lacks 37 (take (i + j) t) ≡ true
lacks_onward t i j h k = ap (lacks 37) (take-add i j t) ∙ lacks-append 37 (take i t) (take j (drop i t)) h k

pub run_lacks : (k : Class) (t : List ℕ) → lacks 37 (take (run_of (ascii_test k) t) t) ≡ true
run_lacks k t = all-lacks (ascii_test k) 37 (take (run_of (ascii_test k) t) t) (no_percent k) (run-all (ascii_test k) t)

-- ---- no unit
-- of a text that begins in ASCII
pub near_stops : (p : ℕ → Bool) (t : List ℕ) → IsUtf8 t → slice_index t 0 < 128 → LacksNearUnit p t → HasNoUnit p t
near_stops p [] u l h = nothing_left p [] refl
near_stops p (x ∷ xs) u l h = char_stops p x (x ∷ xs) xs u (ascii_prefix x xs l) h.triplet (h.ascii l (omega arith))

-- no triplet begins with another byte
pub no_triplet_at : (t : List ℕ) → slice_index t 0 ≢ 37 → begins_with_triplet t ≡ false
no_triplet_at [] n = refl
no_triplet_at (x ∷ xs) n = let other : (x == 37) ≡ false = grind (arith, nat_tests) in rw other refl

-- Characters past ASCII, told from their bytes.
use Rattle.iri_grammar.proofs.Common.{◌≡◌, ℕ, ◌+◌, ◌-◌, ◌<◌, ◌≤◌, true, List, [], ◌∷◌, ◌++◌, take, drop, length, refl, sym, ◌∙◌, ap, subst}
use Rattle.iri_grammar.proofs.Common.{arith, append-nil, inl, inr, ◌/◌, ◌*◌, slice_index, cases_lt, nat_tests, IsUtf8, Tests, IsSpec}
use Rattle.iri_grammar.proofs.Common.{class_test, lacks, Class, Unreserved, RegName, Userinfo, Pchar, Path, Query, Fragment, Any, AreUnits}
use Rattle.std.proofs.Common.{◌%◌}
use Rattle.std.specs.Int.{is_in_range}
use Rattle.std.proofs.lemmas.Bool.{lt-ltb, le-ltb}
use Rattle.std.proofs.lemmas.Str.{IsUtf8-encode}
use lib.Utf8.{encode, next, scalar}
use Rattle.iri_grammar.specs.Classes.{HasFirstUcschars}
use Rattle.iri_grammar.specs.inside.Runs.{begins_with_more, BeginsWide}
use Rattle.iri_grammar.proofs.units.ClassLaws.{class_past_ascii, class_has_no_percent}
use Rattle.iri_grammar.proofs.units.UnitRuns.{char_units, char_lacks}

-- ---- the spelling of a character past ASCII, by its width
pub spelled_in_two : (code lead a : ℕ) (os : List ℕ) → 192 ≤ lead → lead < 224 → a < 64 → code ≡ (lead - 192) * 64 + a → 128 ≤ code
    → lead ∷ (128 + a) ∷ os ≡ encode code ++ os
unfolding encode
spelled_in_two code lead a os l u p e h =
    let x : lead ≡ 192 + code / 64 = omega arith in
    let y : a ≡ code % 64 = omega arith in
    rw (le-ltb code 128 h, lt-ltb code 2048 (omega arith)) (ap (λ n. n ∷ (128 + a) ∷ os) x ∙ ap (λ n. (192 + code / 64) ∷ (128 + n) ∷ os) y)

pub spelled_in_three : (code lead a b : ℕ) (os : List ℕ) → 224 ≤ lead → lead < 240 → a < 64 → b < 64
    → code ≡ ((lead - 224) * 64 + a) * 64 + b → 2048 ≤ code → lead ∷ (128 + a) ∷ (128 + b) ∷ os ≡ encode code ++ os
unfolding encode
spelled_in_three code lead a b os l u p q e h =
    let x : lead ≡ 224 + code / 4096 = omega arith in
    let y : a ≡ code / 64 % 64 = omega arith in
    let z : b ≡ code % 64 = omega arith in
    rw (le-ltb code 128 (omega arith), le-ltb code 2048 h, lt-ltb code 65536 (omega arith))
    (ap (λ n. n ∷ (128 + a) ∷ (128 + b) ∷ os) x ∙ ap (λ n. (224 + code / 4096) ∷ (128 + n) ∷ (128 + b) ∷ os) y
    ∙ ap (λ n. (224 + code / 4096) ∷ next (code / 64) ∷ (128 + n) ∷ os) z)

-- ---- characters from U+00C0 to U+D7FF at the start
in_range : (low high x : ℕ) → is_in_range low high x ≡ true → (low ≤ x) × (x ≤ high)
in_range low high x h = (grind (arith, nat_tests), grind (arith, nat_tests))

pub two_bytes : (t : List ℕ) → 2 ≤ length t → is_in_range 195 223 (slice_index t 0) ≡ true → is_in_range 128 191 (slice_index t 1) ≡ true → BeginsWide t 2
two_bytes [] n f m = absurd (omega arith)
two_bytes (x ∷ []) n f m = absurd (omega arith)
two_bytes (x ∷ y ∷ t) n f m =
    let l = (in_range 195 223 x f).0 in
    let h = (in_range 195 223 x f).1 in
    let r = in_range 128 191 y m in
    let a = y - 128 in
    let code = (x - 192) * 64 + a in
    let same : 128 + a ≡ y = omega (arith, r.0) in
    record {
      c = code;
      low = omega (arith, l);
      high = omega (arith, h, r.1);
      within = omega arith;
      text = ap (λ z. x ∷ z ∷ []) (sym same)
          ∙ (spelled_in_two code x a [] (omega (arith, l)) (omega (arith, h)) (omega (arith, r.1)) refl (omega (arith, l)) ∙ append-nil (encode code));
    }

-- what the first two bytes tell of the code
three_low : (x y : ℕ) → 57504 ≤ x * 256 + y → y ≤ 191 → (224 ≤ x) × (2048 ≤ (x - 224) * 4096 + (y - 128) * 64)
three_low x y l h = (omega arith, elim (cases_lt x 225) [ inl lt ↦ omega arith | inr ge ↦ omega arith ])

three_high : (x y : ℕ) → x * 256 + y ≤ 60831 → 128 ≤ y → y ≤ 191 → (x ≤ 237) × ((x - 224) * 4096 + (y - 128) * 64 ≤ 55232)
three_high x y l m h = (omega arith, elim (cases_lt x 237) [ inl lt ↦ omega arith | inr ge ↦ omega arith ])

pub three_bytes : (t : List ℕ) → 2 ≤ length t → is_in_range 57504 60831 (slice_index t 0 * 256 + slice_index t 1) ≡ true
    → is_in_range 128 191 (slice_index t 1) ≡ true → begins_with_more (drop 2 t) ≡ true → BeginsWide t 3
three_bytes [] n f m k = absurd (omega arith)
three_bytes (x ∷ []) n f m k = absurd (omega arith)
three_bytes (x ∷ y ∷ []) n f m k = cc
three_bytes (x ∷ y ∷ z ∷ t) n f m k =
    let f2 = in_range 57504 60831 (x * 256 + y) f in
    let r = in_range 128 191 y m in
    let low = three_low x y f2.0 r.1 in
    let high = three_high x y f2.1 r.0 r.1 in
    let q = in_range 128 191 z k in
    let a = y - 128 in
    let b = z - 128 in
    let code = ((x - 224) * 64 + a) * 64 + b in
    let same : 128 + a ≡ y = omega (arith, r.0) in
    let next : 128 + b ≡ z = omega (arith, q.0) in
    record {
      c = code;
      low = omega (arith, low.1);
      high = omega (arith, high.1, q.1);
      within = omega arith;
      text = ap (λ w. x ∷ w ∷ z ∷ []) (sym same) ∙ ap (λ w. x ∷ (128 + a) ∷ w ∷ []) (sym next)
          ∙ (spelled_in_three code x a b [] low.0 (omega (arith, high.0)) (omega (arith, r.1)) (omega (arith, q.1)) refl (omega (arith, low.1))
          ∙ append-nil (encode code));
    }

-- ---- they are in each class
in_each_class : (s : Tests) (k : Class) (c : ℕ) → 128 ≤ c → s.ucs c ≡ true → class_test s k c ≡ true
in_each_class s Unreserved c l h = class_past_ascii s Unreserved c l ∙ h
in_each_class s RegName c l h = class_past_ascii s RegName c l ∙ h
in_each_class s Userinfo c l h = class_past_ascii s Userinfo c l ∙ h
in_each_class s Pchar c l h = class_past_ascii s Pchar c l ∙ h
in_each_class s Path c l h = class_past_ascii s Path c l ∙ h
in_each_class s Query c l h = class_past_ascii s Query c l ∙ rw h refl
in_each_class s Fragment c l h = class_past_ascii s Fragment c l ∙ h
in_each_class s Any c l h = class_past_ascii s Any c l ∙ rw h refl

wide_test : (s : Tests) → HasFirstUcschars s → (k : Class) (t : List ℕ) (n : ℕ) → (b : BeginsWide t n) → class_test s k b.c ≡ true
wide_test s has k t n b = in_each_class s k b.c (omega (arith, b.low)) (has b.c (omega (arith, b.low)) (omega (arith, b.high)))

pub wide_units : (s : Tests) → IsSpec s → HasFirstUcschars s → (k : Class) (t : List ℕ) (n : ℕ) → BeginsWide t n → AreUnits (class_test s k) t n
wide_units s lawful has k t n b =
    let is_scalar : scalar b.c ≡ true = grind (arith, nat_tests) in
    char_units (class_test s k) b.c n t (subst IsUtf8 (sym b.text) (IsUtf8-encode b.c is_scalar)) b.within b.text
    (class_has_no_percent s lawful k) (wide_test s has k t n b)

pub wide_lacks : (s : Tests) → IsSpec s → HasFirstUcschars s → (k : Class) (t : List ℕ) (n : ℕ) → BeginsWide t n → lacks 37 (take n t) ≡ true
wide_lacks s lawful has k t n b = char_lacks (class_test s k) b.c n t b.text (class_has_no_percent s lawful k) (wide_test s has k t n b)

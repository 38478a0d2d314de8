use Rattle.iri_template.proofs.Common.{◌≡◌, ◌≢◌, ◌≤◌, ℕ, Bool, true, false, cond, ◌&&◌, List, [], ◌∷◌, length, drop, refl, sym, ◌∙◌, ap}
use Rattle.iri_template.proofs.Common.{arith}
use Rattle.iri_template.proofs.Common.{length-drop, ◌==◌, is_ascii_hexdigit, ne_eqb, nat_tests, nil_from_length, by_test, over, over_from}
use Rattle.iri_template.proofs.Common.{is_name_char, begins_triplet}
use Rattle.std.proofs.lemmas.Bool.{and_parts, and_left}
use Rattle.std.proofs.lemmas.List.{take_rest}
use Rattle.iri_template.proofs.var_name.past_unit.Goals as goal

long_enough : (t : List ℕ) → begins_triplet t ≡ true → 3 ≤ length t
long_enough [] h = cc
long_enough (x ∷ []) h = cc
long_enough (x ∷ a ∷ []) h = cc
long_enough (x ∷ a ∷ b ∷ t) h = omega arith

and_more : (p q : Bool) (z : Bool) → (p && q) ≡ false → (p && (q && z)) ≡ false
and_more true true z h = cc
and_more true false z h = refl
and_more false q z h = refl

past_octet : (t : List ℕ) → begins_triplet t ≡ true → over is_name_char (drop 3 t) ≡ over is_name_char t
unfolding over_from
past_octet [] h = cc
past_octet (x ∷ []) h = cc
past_octet (x ∷ a ∷ []) h = cc
past_octet (x ∷ a ∷ b ∷ t) h =
    let k = and_parts (x == 37) (is_ascii_hexdigit a && is_ascii_hexdigit b) h in
    let l = and_parts (is_ascii_hexdigit a) (is_ascii_hexdigit b) k.1 in
    rw (k.0, l.0, l.1) refl

percent_apart : (x : ℕ) → is_name_char x ≡ true → x ≢ 37
unfolding is_name_char
percent_apart x h = grind (arith, nat_tests)

past_char : (x : ℕ) (t : List ℕ) → is_name_char x ≡ true → over is_name_char t ≡ over is_name_char (x ∷ t)
unfolding over_from
past_char x t h = let n = ne_eqb x 37 (percent_apart x h) in rw (n, h) refl

no_octet : (x : ℕ) (t : List ℕ) → begins_triplet (x ∷ t) ≡ false → x ≡ 37 → over_from is_name_char 2 t ≡ false
unfolding over_from
no_octet x [] h e = refl
no_octet x (a ∷ []) h e = elim (is_ascii_hexdigit a) as (λ b. (b && false) ≡ false) [ true ↦ refl | false ↦ refl ]
no_octet x (a ∷ b ∷ t) h e =
    let k : (is_ascii_hexdigit a && is_ascii_hexdigit b) ≡ false =
    ap (λ n. (n == 37) && (is_ascii_hexdigit a && is_ascii_hexdigit b)) (sym e) ∙ h in
    and_more (is_ascii_hexdigit a) (is_ascii_hexdigit b) (over_from is_name_char 0 t) k

no_unit : (x : ℕ) (t : List ℕ) → begins_triplet (x ∷ t) ≡ false → is_name_char x ≡ false → over is_name_char (x ∷ t) ≡ false
unfolding over_from
no_unit x t h k =
    by_test x 37 (λ b. cond b (over_from is_name_char 2 t) (is_name_char x && over_from is_name_char 0 t) ≡ false) (no_octet x t h)
    (λ _. and_left (is_name_char x) (over_from is_name_char 0 t) k)

nothing_left : (t : List ℕ) → length t ≡ 0 → over is_name_char t ≡ (length t == 0)
unfolding over_from
nothing_left t h = let e = nil_from_length t h in rw e refl

pub returns-then-begins_triplet : goal.returns-then-begins_triplet
returns-then-begins_triplet c =
    let t = c.args.t.now in
    let h : begins_triplet t ≡ true = sym c.begins_triplet.ensures ∙ c.if-begins_triplet.true in (
      ap (over is_name_char) (take_rest t 3) ∙ past_octet t h,
      omega (arith, ap length (take_rest t 3), length-drop 3 t, long_enough t h),
    )

pub returns-then-is_name_byte : goal.returns-then-is_name_byte
returns-then-is_name_byte c =
    let e = c.in-Some.ensures.cases.0 in (
      past_char c.in-Some.b.now c.in-Some.rest.now (sym c.is_name_byte.ensures ∙ c.if-is_name_byte.true) ∙ ap (over is_name_char) (sym e),
      omega (arith, ap length e),
    )

pub returns-else-is_name_byte : goal.returns-else-is_name_byte
returns-else-is_name_byte c =
    let e = c.in-Some.ensures.cases.0 in
    let h = ap begins_triplet (sym e) ∙ (sym c.begins_triplet.ensures ∙ c.if-begins_triplet.false) in
    ap (over is_name_char) e ∙ no_unit c.in-Some.b.now c.in-Some.rest.now h (sym c.is_name_byte.ensures ∙ c.if-is_name_byte.false)
    ∙ sym (ap (λ l. length l == 0) e ∙ ne_eqb (length (c.in-Some.b.now ∷ c.in-Some.rest.now)) 0 (λ z. absurd (omega arith)))

pub returns-in-None : goal.returns-in-None
returns-in-None c = nothing_left c.args.t.now c.in-None.ensures.cases

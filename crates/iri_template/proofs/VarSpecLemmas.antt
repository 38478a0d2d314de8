-- A varspec has no fault exactly where it is one.
use Rattle.iri_template.proofs.Common.{◌≡◌, ◌≢◌, ℕ, zero, suc, ◌+◌, true, false, cond, Bool, not, ◌&&◌, List, [], ◌∷◌, ◌++◌, length, map}
use Rattle.iri_template.proofs.Common.{Some, None, refl, sym, ◌∙◌, ap, arith, ◌==◌, nat_le, is_ascii_digit, is_ascii_hexdigit, list_all}
use Rattle.iri_template.proofs.Common.{both, not-true, nat_tests, by_test, before_any, from_any, over, over_from, run_of, Modifier, whole}
use Rattle.iri_template.proofs.Common.{explode, prefix, VarSpec, is_varspec, modifier_text, varspec_text, ends_name, name_of, varspec_of}
use Rattle.iri_template.proofs.Common.{fault, moved, first, unless, modifier_fault, varspec_fault, varspecs_fault, Error, InvalidExpression}
use Rattle.std.specs.Prelude.{nat_lt}
use Rattle.std.proofs.lemmas.Bool.{leb-true}
use Rattle.iri_template.specs.Names.{is_name_char, is_varname, begins_name}
use Rattle.iri_template.specs.Template.{is_max_length, is_modifier}
use Rattle.iri_template.specs.Reading.{modifier_of}
use Rattle.iri_template.specs.Fault.{max_length_fault}
use Rattle.iri_template.proofs.FaultLemmas.{unmoved, neither, passed}
use Rattle.iri_grammar.proofs.splits.PartEnds.{run_of_all}
use Rattle.iri_grammar.proofs.hosts.LiteralChars.{all-join as all_append, all-weaken}

-- ---- the bytes of names
-- ASCII, and neither a comma nor a brace
abbrev pub inner : ℕ → Bool
inner c = nat_lt c 128 && (not (c == 44) && not (c == 125))

abbrev pub name_byte : ℕ → Bool
name_byte c = inner c && not (ends_name c)

over_bytes : (p q : ℕ → Bool) (n : ℕ) (xs : List ℕ) → ((c : ℕ) → p c ≡ true → q c ≡ true) → q 37 ≡ true
    → ((c : ℕ) → is_ascii_hexdigit c ≡ true → q c ≡ true) → over_from p n xs ≡ true → list_all q xs ≡ true
unfolding over_from
over_bytes p q n [] P k H h = refl
over_bytes p q zero (c ∷ cs) P k H h =
    by_test c 37 (λ b. cond b (over_from p 2 cs) (p c && over_from p 0 cs) ≡ true → (q c && list_all q cs) ≡ true)
    (λ e j. rw (ap q e ∙ k) (over_bytes p q 2 cs P k H j))
    (λ _ j. let parts = both (p c) (over_from p 0 cs) j in rw (P c parts.0) (over_bytes p q 0 cs P k H parts.1)) h
over_bytes p q (suc n) (c ∷ cs) P k H h = let parts = both (is_ascii_hexdigit c) (over_from p n cs) h in
    rw (H c parts.0) (over_bytes p q n cs P k H parts.1)

char_is_byte : (c : ℕ) → is_name_char c ≡ true → name_byte c ≡ true
unfolding is_name_char
char_is_byte c h = grind (arith, nat_tests)

hex_is_byte : (c : ℕ) → is_ascii_hexdigit c ≡ true → name_byte c ≡ true
hex_is_byte c h = grind (arith, nat_tests)

digit_is_inner : (c : ℕ) → is_ascii_digit c ≡ true → inner c ≡ true
digit_is_inner c h = grind (arith, nat_tests)

pub name_bytes : (x : List ℕ) → is_varname x ≡ true → list_all name_byte x ≡ true
unfolding is_varname
name_bytes x h = over_bytes is_name_char name_byte 0 x char_is_byte refl hex_is_byte (both (begins_name x) (over is_name_char x) h).1

modifier_bytes : (m : Modifier) → is_modifier m ≡ true → list_all inner (modifier_text m) ≡ true
unfolding is_max_length
modifier_bytes whole h = refl
modifier_bytes explode h = refl
modifier_bytes (prefix []) h = cc
modifier_bytes (prefix (d ∷ ds)) h =
    let one = both (not (d == 48) && list_all is_ascii_digit (d ∷ ds)) (nat_le (length (d ∷ ds)) 4) h in
    all-weaken is_ascii_digit inner digit_is_inner (d ∷ ds) (both (not (d == 48)) (list_all is_ascii_digit (d ∷ ds)) one.0).1

pub varspec_bytes : (v : VarSpec) → is_varspec v ≡ true → list_all inner (varspec_text v) ≡ true
varspec_bytes v h =
    let k = both (is_varname v.name) (is_modifier v.modifier) h in
    all_append inner v.name (modifier_text v.modifier)
    (all-weaken name_byte inner (λ c j. (both (inner c) (not (ends_name c)) j).0) v.name (name_bytes v.name k.0))
    (modifier_bytes v.modifier k.1)

-- ---- cutting at the end of the name
pub starts : (ℕ → Bool) → List ℕ → Bool
starts p [] = true
starts p (c ∷ cs) = p c

any_cut : (p : ℕ → Bool) (x m : List ℕ) → list_all (λ c. not (p c)) x ≡ true → starts p m ≡ true
    → (before_any p (x ++ m) ≡ x) × (from_any p (x ++ m) ≡ m)
unfolding starts
any_cut p [] [] h k = (refl, refl)
any_cut p [] (c ∷ cs) h k = rw k (refl, refl)
any_cut p (x ∷ xs) m h k =
    let j = both (not (p x)) (list_all (λ c. not (p c)) xs) h in
    let more = any_cut p xs m j.1 k in
    rw (not-true (p x) j.0) (ap (λ l. x ∷ l) more.0, more.1)

pub any_joined : (p : ℕ → Bool) (t : List ℕ) → (before_any p t ++ from_any p t ≡ t) × (starts p (from_any p t) ≡ true)
unfolding starts
any_joined p [] = (refl, refl)
any_joined p (x ∷ xs) =
    elim (p x) as (λ b. p x ≡ b → (cond b [] (x ∷ before_any p xs) ++ cond b (x ∷ xs) (from_any p xs) ≡ x ∷ xs)
    × (starts p (cond b (x ∷ xs) (from_any p xs)) ≡ true)) [
      | true ↦ λ e. (refl, e)
      | false ↦ λ _. let k = any_joined p xs in (ap (λ l. x ∷ l) k.0, k.1)
    ] refl

-- ---- lengths
max_fine : (ds : List ℕ) → is_max_length ds ≡ true → max_length_fault ds ≡ None
unfolding is_max_length
max_fine [] h = cc
max_fine (d ∷ ds) h =
    let one = both (not (d == 48) && list_all is_ascii_digit (d ∷ ds)) (nat_le (length (d ∷ ds)) 4) h in
    let two = both (not (d == 48)) (list_all is_ascii_digit (d ∷ ds)) one.0 in
    let short = leb-true (length (d ∷ ds)) 4 one.1 in
    let long : (nat_lt 0 (length (d ∷ ds)) && nat_lt (length (d ∷ ds)) 5) ≡ true = grind (arith, nat_tests) in
    max_none _ _ _ long (run_of_all is_ascii_digit (d ∷ ds) ∙ two.1) (not-true (d == 48) two.0)
  where
    max_none : (a b c : Bool) → a ≡ true → b ≡ true → c ≡ false
        → cond a (cond b (cond c (fault InvalidExpression 2) None) (fault InvalidExpression (run_of is_ascii_digit (d ∷ ds) + 2)))
        (fault InvalidExpression 2) ≡ None
    max_none a b c e f g = rw (e, f, g) refl

tests : (a b c : Bool) (d e f : Error) → cond a (cond b (cond c (Some d) None) (Some e)) (Some f) ≡ None
    → (a ≡ true) × (b ≡ true) × (c ≡ false)
tests true true false d e f h = (refl, refl, refl)
tests true true true d e f h = cc
tests true false c d e f h = cc
tests false b c d e f h = cc

max_is : (ds : List ℕ) → max_length_fault ds ≡ None → is_max_length ds ≡ true
unfolding is_max_length
max_is [] h = cc
max_is (d ∷ ds) h =
    let k = tests (nat_lt 0 (length (d ∷ ds)) && nat_lt (length (d ∷ ds)) 5) (run_of is_ascii_digit (d ∷ ds) == length (d ∷ ds))
    (d == 48) _ _ _ h in
    let short = (both (nat_lt 0 (length (d ∷ ds))) (nat_lt (length (d ∷ ds)) 5) k.0).1 in
    let four : nat_le (length (d ∷ ds)) 4 ≡ true = grind (arith, nat_tests) in
    rw (k.2, sym (run_of_all is_ascii_digit (d ∷ ds)) ∙ k.1, four) refl

-- ---- modifiers
modifier_fine : (m : Modifier) → is_modifier m ≡ true
    → (modifier_fault (modifier_text m) ≡ None) × (modifier_of (modifier_text m) ≡ m) × (starts ends_name (modifier_text m) ≡ true)
unfolding starts
modifier_fine whole h = (refl, refl, refl)
modifier_fine explode h = (refl, refl, refl)
modifier_fine (prefix ds) h = (max_fine ds h, refl, refl)

none_there : (xs : List ℕ) (e : Error) → unless (length xs == 0) (Some e) ≡ None → xs ≡ []
none_there [] e h = refl
none_there (x ∷ xs) e h = let z : (length (x ∷ xs) == 0) ≡ false = grind (arith, nat_tests) in
    let clash : Some e ≡ None = sym (ap (λ b. unless b (Some e)) z) ∙ h in cc

star : (c : ℕ) → ends_name c ≡ true → c ≢ 58 → 42 ≡ c
star c h n = grind (arith, nat_tests)

modifier_is : (r : List ℕ) → starts ends_name r ≡ true → modifier_fault r ≡ None
    → (is_modifier (modifier_of r) ≡ true) × (modifier_text (modifier_of r) ≡ r)
unfolding starts
modifier_is [] s h = (refl, refl)
modifier_is (c ∷ cs) s h =
    by_test c 58 (λ b. cond b (max_length_fault cs) (unless (length cs == 0) (fault InvalidExpression 1)) ≡ None
    → (is_modifier (cond b (prefix cs) explode) ≡ true) × (modifier_text (cond b (prefix cs) explode) ≡ c ∷ cs))
    (λ e k. (max_is cs k, ap (λ n. n ∷ cs) (sym e)))
    (λ n k. (refl, ap (λ l. 42 ∷ l) (sym (none_there cs _ k)) ∙ ap (λ x. x ∷ cs) (star c s n))) h

-- ---- varspecs
pub record IsOne (v : VarSpec) (t : List ℕ) : Type 0 where
  pub fault : varspec_fault t ≡ None
  pub read : varspec_of t ≡ v

no_end : (x : List ℕ) → is_varname x ≡ true → list_all (λ c. not (ends_name c)) x ≡ true
no_end x h = all-weaken name_byte (λ c. not (ends_name c)) (λ c j. (both (inner c) (not (ends_name c)) j).1) x (name_bytes x h)

pub varspec_fine : (v : VarSpec) → is_varspec v ≡ true → IsOne v (varspec_text v)
unfolding varspec_fault
varspec_fine v h =
    let k = both (is_varname v.name) (is_modifier v.modifier) h in
    let m = modifier_fine v.modifier k.1 in
    let cut = any_cut ends_name v.name (modifier_text v.modifier) (no_end v.name k.0) m.2 in
    record {
      fault =
          ap (λ n. cond (is_varname n) (moved (length n) (modifier_fault (from_any ends_name (varspec_text v))))
          (fault InvalidExpression 0)) cut.0
          ∙ (ap (λ b. cond b (moved (length v.name) (modifier_fault (from_any ends_name (varspec_text v)))) (fault InvalidExpression 0)) k.0
          ∙ ap (moved (length v.name)) (ap modifier_fault cut.1 ∙ m.0));
      read = ap (λ n. record { name = n; modifier = modifier_of (from_any ends_name (varspec_text v)) }) cut.0
          ∙ ap (λ q. record { name = v.name; modifier = q }) (ap modifier_of cut.1 ∙ m.1);
    }

pub varspec_is : (t : List ℕ) → varspec_fault t ≡ None → (is_varspec (varspec_of t) ≡ true) × (varspec_text (varspec_of t) ≡ t)
unfolding varspec_fault
varspec_is t h =
    let k = passed (is_varname (name_of t)) (moved (length (name_of t)) (modifier_fault (from_any ends_name t))) _ h in
    let cut = any_joined ends_name t in
    let m = modifier_is (from_any ends_name t) cut.1 (unmoved (length (name_of t)) (modifier_fault (from_any ends_name t)) k.1) in
    (rw (k.0, m.0) refl, ap (λ l. name_of t ++ l) m.1 ∙ cut.0)

pub varspecs_fine : (at : ℕ) (vs : List VarSpec) → list_all is_varspec vs ≡ true
    → (varspecs_fault at (map varspec_text vs) ≡ None) × (map varspec_of (map varspec_text vs) ≡ vs)
varspecs_fine at [] h = (refl, refl)
varspecs_fine at (v ∷ vs) h =
    let k = both (is_varspec v) (list_all is_varspec vs) h in
    let one = varspec_fine v k.0 in
    let more = varspecs_fine (at + length (varspec_text v) + 1) vs k.1 in (
      ap (λ f. first (moved at f) (varspecs_fault (at + length (varspec_text v) + 1) (map varspec_text vs))) one.fault
          ∙ more.0,
      ap (λ w. w ∷ map varspec_of (map varspec_text vs)) one.read ∙ ap (λ ws. v ∷ ws) more.1,
    )

pub varspecs_are : (at : ℕ) (ts : List (List ℕ)) → varspecs_fault at ts ≡ None
    → (list_all is_varspec (map varspec_of ts) ≡ true) × (map varspec_text (map varspec_of ts) ≡ ts)
varspecs_are at [] h = (refl, refl)
varspecs_are at (t ∷ ts) h =
    let k = neither (moved at (varspec_fault t)) (varspecs_fault (at + length t + 1) ts) h in
    let one = varspec_is t (unmoved at (varspec_fault t) k.0) in
    let more = varspecs_are (at + length t + 1) ts k.1 in
    (rw (one.0, more.0) refl, ap (λ x. x ∷ map varspec_text (map varspec_of ts)) one.1 ∙ ap (λ xs. t ∷ xs) more.1)

-- The steps of a text lead to its normal form, wherever it stands.
use Rattle.iri_resolve.proofs.Common.{◌≡◌, ℕ, zero, suc, ◌+◌, ◌-◌, ◌*◌, ◌<◌, ◌≤◌, Bool, true, false, ◌&&◌, List, [], ◌∷◌, ◌++◌, Option}
use Rattle.iri_resolve.proofs.Common.{Some, None, length, refl, sym, ◌∙◌, ap, subst, arith, cond, append_assoc, length-append, Shows, ◌==◌}
use Rattle.iri_resolve.proofs.Common.{drop, slice_index, is_ascii_hexdigit, is_ascii_uppercase, to_ascii_lowercase, to_ascii_uppercase}
use Rattle.iri_resolve.proofs.Common.{encode_utf8, len_utf8, nat_tests, length-encode, Tests, IsSpec, Parts, by_test, decoded, normal_nil}
use Rattle.iri_resolve.proofs.Common.{normal_plain, is_decoded, other_same, whole_plain, lacks-whole, normal, octets, whole_triplets}
use Rattle.iri_resolve.proofs.Common.{CanonMode, is_small_digit, with_capital_digit, with_decoded, with_small_host_letter}
use Rattle.iri_resolve.proofs.Common.{with_small_letter, component_steps, step_in, Part, Step, HostLetter, HexDigit, Decode}
use Rattle.iri_resolve.proofs.Common.{get_or-append_seam, set-append_seam, step_if}
use Rattle.std.proofs.Common.{length-drop, Result, Ok, Err, IsErr}
use Rattle.iri_text.specs.Shown.{AreSinkLaws}
use Rattle.iri_text.specs.declared.shown.show.Stop.{Stop}
use Rattle.std.proofs.Math.Seq.{take-append_seam}
use Rattle.std.proofs.lemmas.Str.{encode_ascii}
use Rattle.std.proofs.lemmas.List.{length-map}
use Rattle.iri_percent.proofs.forms.ByUnits.{normal_kept}
use Rattle.iri_percent.specs.inside.Pieces.{case_of}
use Rattle.iri_percent.proofs.forms.Cases.{encode_case}
use Rattle.iri_percent.proofs.forms.Changes.{case_is, decodes}
use Rattle.iri_percent.proofs.units.WholeTriplets.{whole_triplet, percent_follows}
use Rattle.iri_percent.proofs.forms.Stability.{upper_hex, encode_percent, unreserved_percent}
use Rattle.iri_percent.proofs.units.OfParts.{whole-append}
use Rattle.iri_resolve.specs.NormalSteps.{Prefix, byte_prefix, prefix_of, triplet_prefix}
use Rattle.iri_resolve.proofs.ChangeKeeps.{capital-keeps, decoding-keeps}
use Rattle.iri_resolve.proofs.PushedSteps.{Going, all_gone, going_on, gone_wrong}
use Rattle.iri_resolve.proofs.Replays.{Led, led-nothing, led-step, led-on, not-whole, whole_nil, whole_percent, capital-at, capital_same}
use Rattle.iri_resolve.proofs.Replays.{decoded-at}
use Rattle.iri_resolve.proofs.Places.{IsPlace}
use Rattle.iri_resolve.proofs.ByteLaws.{capital_low}

-- ---- letters
case-lowered : (lower : Bool) (x : ℕ) → (lower && is_ascii_uppercase x) ≡ true
    → (case_of lower x ≡ to_ascii_lowercase x) × (lower ≡ true) × (is_ascii_uppercase x ≡ true)
case-lowered true x h = (refl, refl, h)
case-lowered false x h = cc

case-kept : (lower : Bool) (x : ℕ) → (lower && is_ascii_uppercase x) ≡ false → case_of lower x ≡ x
case-kept true x h = other_same x h
case-kept false x h = refl

plain_case : (lower : Bool) (x : ℕ) → (x == 37) ≡ false → (case_of lower x == 37) ≡ false
plain_case true x h = grind (arith, nat_tests)
plain_case false x h = h

letter-at : (a r : List ℕ) (x : ℕ) → whole_triplets a ≡ true → is_ascii_uppercase x ≡ true
    → with_small_host_letter (length a) (a ++ x ∷ r) ≡ Some (a ++ to_ascii_lowercase x ∷ r)
unfolding with_small_host_letter with_small_letter
letter-at a r x w h = rw (take-append_seam a (x ∷ r), w, get_or-append_seam a x r 0, h)
    (ap Some (set-append_seam a x r (to_ascii_lowercase x)))

-- ---- what is done to a text in its place
module _ (s : Tests) (m : CanonMode) (part : Part) (lower : Bool) (start : ℕ) (ok : List ℕ → Bool) (put : List ℕ → Parts) (p : IsPlace s part lower start ok put) where
  letter-led : (a r : List ℕ) (x at : ℕ) → whole_triplets a ≡ true → at ≡ start + length a → ok (a ++ x ∷ r) ≡ true
      → Led s m ok put (a ++ x ∷ r) (step_if (lower && is_ascii_uppercase x) (HostLetter at)) (a ++ case_of lower x ∷ r)
  letter-led a r x at w e h =
      elim (lower && is_ascii_uppercase x) as (λ b. (lower && is_ascii_uppercase x) ≡ b
      → Led s m ok put (a ++ x ∷ r) (step_if b (HostLetter at)) (a ++ case_of lower x ∷ r)) [
        | true ↦ λ g.
            let c = case-lowered lower x g in
            let q = p.letter m (length a) (a ++ x ∷ r) (a ++ to_ascii_lowercase x ∷ r) c.1 h (letter-at a r x w c.2) in
            rw (c.0, e) (led-step s m ok put (a ++ x ∷ r) (a ++ to_ascii_lowercase x ∷ r) (HostLetter (start + length a)) q.0 q.1)
        | false ↦ λ g. rw (case-kept lower x g) (led-nothing s m ok put (a ++ x ∷ r) h)
      ] refl

  digit-led : (a r : List ℕ) (x at : ℕ) → whole_triplets a ≡ false → is_ascii_hexdigit x ≡ true → at ≡ start + length a
      → ok (a ++ x ∷ r) ≡ true → Led s m ok put (a ++ x ∷ r) (step_if (is_small_digit x) (HexDigit part at)) (a ++ to_ascii_uppercase x ∷ r)
  unfolding step_in
  digit-led a r x at w d e h =
      elim (is_small_digit x) as (λ b. is_small_digit x ≡ b
      → Led s m ok put (a ++ x ∷ r) (cond b (HexDigit part at ∷ []) []) (a ++ to_ascii_uppercase x ∷ r)) [
        | true ↦ λ g.
            let q = p.triplets with_capital_digit (length a) (a ++ x ∷ r) (a ++ to_ascii_uppercase x ∷ r) (capital-keeps s) h
            (capital-at a r x w g) in
            rw e (led-step s m ok put (a ++ x ∷ r) (a ++ to_ascii_uppercase x ∷ r) (HexDigit part (start + length a)) q.0 q.1)
        | false ↦ λ g. rw (capital_same x d g) (led-nothing s m ok put (a ++ x ∷ r) h)
      ] refl

  -- the digits of a triplet that stays
  digits-led : (a r : List ℕ) (x y at : ℕ) → is_ascii_hexdigit x ≡ true → is_ascii_hexdigit y ≡ true → at ≡ start + length a
      → ok (a ++ 37 ∷ x ∷ y ∷ r) ≡ true
      → Led s m ok put (a ++ 37 ∷ x ∷ y ∷ r) (step_if (is_small_digit x) (HexDigit part (at + 1)) ++ step_if (is_small_digit y) (HexDigit part (at + 2)))
      ((a ++ 37 ∷ to_ascii_uppercase x ∷ to_ascii_uppercase y ∷ []) ++ r)
  unfolding whole_triplets
  digits-led a r x y at dx dy e h =
      let X = to_ascii_uppercase x in
      let Y = to_ascii_uppercase y in
      let group : (z : ℕ) (w : List ℕ) → (a ++ 37 ∷ []) ++ z ∷ w ≡ a ++ 37 ∷ z ∷ w = λ z w. append_assoc a (37 ∷ []) (z ∷ w) in
      let pair : (z v : ℕ) (w : List ℕ) → (a ++ 37 ∷ z ∷ []) ++ v ∷ w ≡ a ++ 37 ∷ z ∷ v ∷ w =
      λ z v w. append_assoc a (37 ∷ z ∷ []) (v ∷ w) in
      let one : Led s m ok put (a ++ 37 ∷ x ∷ y ∷ r) (step_if (is_small_digit x) (HexDigit part (at + 1))) (a ++ 37 ∷ X ∷ y ∷ r) =
      subst (λ z. Led s m ok put z (step_if (is_small_digit x) (HexDigit part (at + 1))) (a ++ 37 ∷ X ∷ y ∷ r)) (group x (y ∷ r))
      (subst (λ z. Led s m ok put ((a ++ 37 ∷ []) ++ x ∷ y ∷ r) (step_if (is_small_digit x) (HexDigit part (at + 1))) z) (group X (y ∷ r))
      (digit-led (a ++ 37 ∷ []) (y ∷ r) x (at + 1) (not-whole a (37 ∷ []) whole_percent) dx
      (omega (arith, e, length-append a (37 ∷ []))) (ap ok (group x (y ∷ r)) ∙ h))) in
      let two = digit-led (a ++ 37 ∷ X ∷ []) r y (at + 2) (not-whole a (37 ∷ X ∷ []) refl) dy
      (omega (arith, e, length-append a (37 ∷ X ∷ []))) (ap ok (pair X y r) ∙ one.good) in
      led-on s m ok put (a ++ 37 ∷ x ∷ y ∷ r) (a ++ 37 ∷ X ∷ y ∷ r) ((a ++ 37 ∷ X ∷ Y ∷ []) ++ r) (step_if (is_small_digit x) (HexDigit part (at + 1)))
      (step_if (is_small_digit y) (HexDigit part (at + 2))) one
      (subst (λ z. Led s m ok put z (step_if (is_small_digit y) (HexDigit part (at + 2))) ((a ++ 37 ∷ X ∷ Y ∷ []) ++ r)) (pair X y r)
      (subst (λ z. Led s m ok put ((a ++ 37 ∷ X ∷ []) ++ y ∷ r) (step_if (is_small_digit y) (HexDigit part (at + 2))) z)
      (pair X Y r ∙ sym (append_assoc a (37 ∷ X ∷ Y ∷ []) r)) two))

  -- a letter that was decoded
  char-led : (a r : List ℕ) (c at : ℕ) → whole_triplets a ≡ true → at ≡ start + length a → ok (a ++ (encode_utf8 c ++ r)) ≡ true
      → Led s m ok put (a ++ (encode_utf8 c ++ r)) (step_if (lower && is_ascii_uppercase c) (HostLetter at)) (a ++ (encode_utf8 (case_of lower c) ++ r))
  char-led a r c at w e h =
      elim (lower && is_ascii_uppercase c) as (λ b. (lower && is_ascii_uppercase c) ≡ b
      → Led s m ok put (a ++ (encode_utf8 c ++ r)) (step_if b (HostLetter at)) (a ++ (encode_utf8 (case_of lower c) ++ r))) [
        | true ↦ λ g.
            let k = case-lowered lower c g in
            let low = capital_low c k.2 in
            let old : encode_utf8 c ≡ c ∷ [] = encode_ascii c low.0 in
            let new : encode_utf8 (case_of lower c) ≡ case_of lower c ∷ [] =
            encode_ascii (case_of lower c) (subst (λ z. z < 128) (sym k.0) low.1) in
            subst (λ z. Led s m ok put (a ++ (z ++ r)) (step_if true (HostLetter at)) (a ++ (encode_utf8 (case_of lower c) ++ r))) (sym old)
            (subst (λ z. Led s m ok put (a ++ c ∷ r) (step_if true (HostLetter at)) (a ++ (z ++ r))) (sym new)
            (subst (λ b. Led s m ok put (a ++ c ∷ r) (step_if b (HostLetter at)) (a ++ case_of lower c ∷ r)) g
            (letter-led a r c at w e (ap (λ z. ok (a ++ (z ++ r))) (sym old) ∙ h))))
        | false ↦ λ g. rw (case-kept lower c g) (led-nothing s m ok put (a ++ (encode_utf8 c ++ r)) h)
      ] refl

  decode-led : (a t : List ℕ) (c at : ℕ) → IsSpec s → whole_triplets a ≡ true → decoded s (octets t) ≡ Some c → at ≡ start + length a
      → ok (a ++ t) ≡ true → Led s m ok put (a ++ t) (Decode part at ∷ step_if (lower && is_ascii_uppercase c) (HostLetter at))
      ((a ++ encode_utf8 (case_of lower c)) ++ drop (3 * len_utf8 c) t)
  unfolding step_in
  decode-led a t c at k w d e h =
      let r = drop (3 * len_utf8 c) t in
      let q = p.triplets (with_decoded s) (length a) (a ++ t) (a ++ (encode_utf8 c ++ r)) (decoding-keeps s k) h (decoded-at s a t c d) in
      let one = led-step s m ok put (a ++ t) (a ++ (encode_utf8 c ++ r)) (Decode part (start + length a)) q.0 q.1 in
      let two = char-led a r c at w e one.good in
      led-on s m ok put (a ++ t) (a ++ (encode_utf8 c ++ r)) ((a ++ encode_utf8 (case_of lower c)) ++ r) (Decode part at ∷ [])
      (step_if (lower && is_ascii_uppercase c) (HostLetter at))
      (subst (λ i. Led s m ok put (a ++ t) (Decode part i ∷ []) (a ++ (encode_utf8 c ++ r))) (sym e) one)
      (subst (λ z. Led s m ok put (a ++ (encode_utf8 c ++ r)) (step_if (lower && is_ascii_uppercase c) (HostLetter at)) z)
      (sym (append_assoc a (encode_utf8 (case_of lower c)) r)) two)

-- ---- what a text begins with
pub record IsPrefix (s : Tests) (part : Part) (lower : Bool) (at : ℕ) (t : List ℕ) (p : Prefix) : Type 0 where
  pub text : List ℕ
  pub long : length text ≡ p.normal_len
  pub some : 0 < p.len
  pub shorter : p.normal_len ≤ p.len
  pub within : p.len ≤ length t
  pub whole : whole_triplets text ≡ true
  pub whole_rest : whole_triplets (drop p.len t) ≡ true
  pub form : normal s (case_of lower) t ≡ text ++ normal s (case_of lower) (drop p.len t)
  pub leads : (m : CanonMode) (start : ℕ) (ok : List ℕ → Bool) (put : List ℕ → Parts) → IsPlace s part lower start ok put → (a : List ℕ)
      → whole_triplets a ≡ true → at ≡ start + length a → ok (a ++ t) ≡ true → Led s m ok put (a ++ t) p.steps ((a ++ text) ++ drop p.len t)

module _ (s : Tests) (k : IsSpec s) (part : Part) (lower : Bool) (at : ℕ) where
  byte-is : (x : ℕ) (xs : List ℕ) → whole_triplets (x ∷ xs) ≡ true → (x == 37) ≡ false
      → IsPrefix s part lower at (x ∷ xs) (byte_prefix lower at x)
  byte-is x xs w n = record {
    text = case_of lower x ∷ [];
    long = refl;
    some = omega arith;
    shorter = omega arith;
    within = omega arith;
    whole = whole_plain (case_of lower x) [] (plain_case lower x n) ∙ whole_nil;
    whole_rest = sym (whole_plain x xs n) ∙ w;
    form = normal_plain s (case_of lower) x xs n;
    leads = λ m start ok put p a v e h.
        subst (λ z. Led s m ok put (a ++ x ∷ xs) (step_if (lower && is_ascii_uppercase x) (HostLetter at)) z)
        (sym (append_assoc a (case_of lower x ∷ []) xs)) (letter-led s m part lower start ok put p a xs x at v e h);
  }

  kept-is : (x y : ℕ) (r : List ℕ) → whole_triplets r ≡ true → is_ascii_hexdigit x ≡ true → is_ascii_hexdigit y ≡ true
      → decoded s (octets (37 ∷ x ∷ y ∷ r)) ≡ None
      → IsPrefix s part lower at (37 ∷ x ∷ y ∷ r) (triplet_prefix part lower at (37 ∷ x ∷ y ∷ r) None)
  kept-is x y r w dx dy n = record {
    text = 37 ∷ to_ascii_uppercase x ∷ to_ascii_uppercase y ∷ [];
    long = refl;
    some = omega arith;
    shorter = omega arith;
    within = omega arith;
    whole = whole_triplet (to_ascii_uppercase x) (to_ascii_uppercase y) [] (upper_hex x dx) (upper_hex y dy) ∙ whole_nil;
    whole_rest = w;
    form = normal_kept s (case_of lower) x y r dx dy n;
    leads = λ m start ok put p a v e h. digits-led s m part lower start ok put p a r x y at dx dy e h;
  }

  decoded-is : (t : List ℕ) (c : ℕ) → whole_triplets t ≡ true → slice_index t 0 ≡ 37 → decoded s (octets t) ≡ Some c
      → IsPrefix s part lower at t (triplet_prefix part lower at t (Some c))
  decoded-is t c w e d =
      let f = case_of lower in
      let r = decodes s lower t c w e d in
      let zero : 0 + 3 * len_utf8 c ≡ 3 * len_utf8 c = omega arith in
      let percent = unreserved_percent s c k (is_decoded s (octets t) c d).1 in
      record {
        text = encode_utf8 (f c);
        long = ap length (sym (encode_case f c (case_is lower))) ∙ length-map (encode_utf8 c) f ∙ length-encode c;
        some = omega (arith, r.some);
        shorter = omega arith;
        within = omega (arith, r.within);
        whole = lacks-whole (encode_utf8 (f c)) (encode_percent (f c) (plain_case lower c percent));
        whole_rest = ap (λ i. whole_triplets (drop i t)) (sym zero) ∙ r.whole;
        form = r.text ∙ ap (λ i. encode_utf8 (f c) ++ normal s f (drop i t)) zero;
        leads = λ m start ok put p a v i h. decode-led s m part lower start ok put p a t c at k v d i h;
      }

  triplet-is : (x : ℕ) (xs : List ℕ) (o : Option ℕ) → whole_triplets (x ∷ xs) ≡ true → x ≡ 37 → decoded s (octets (x ∷ xs)) ≡ o
      → IsPrefix s part lower at (x ∷ xs) (triplet_prefix part lower at (x ∷ xs) o)
  triplet-is x xs (Some c) w e d = decoded-is (x ∷ xs) c w e d
  triplet-is x xs None w e d =
      let g = percent_follows xs (ap (λ z. whole_triplets (z ∷ xs)) (sym e) ∙ w) in
      let text : x ∷ xs ≡ 37 ∷ g.a ∷ g.b ∷ g.ys = ap (λ z. z ∷ xs) e ∙ ap (λ z. 37 ∷ z) g.text in
      let rest : whole_triplets g.ys ≡ true = sym (whole_triplet g.a g.b g.ys g.first g.second) ∙ ap whole_triplets (sym text) ∙ w in
      subst (λ t. IsPrefix s part lower at t (triplet_prefix part lower at t None)) (sym text)
      (kept-is g.a g.b g.ys rest g.first g.second (ap (λ t. decoded s (octets t)) (sym text) ∙ d))

  pub prefix-is : (t : List ℕ) → whole_triplets t ≡ true → 0 < length t → IsPrefix s part lower at t (prefix_of s part lower at t)
  prefix-is [] w h = absurd (omega arith)
  prefix-is (x ∷ xs) w h =
      by_test x 37 (λ b. (x == 37) ≡ b → IsPrefix s part lower at (x ∷ xs)
      (cond b (triplet_prefix part lower at (x ∷ xs) (decoded s (octets (x ∷ xs)))) (byte_prefix lower at x)))
      (λ e _. triplet-is x xs (decoded s (octets (x ∷ xs))) w e refl)
      (λ _ n. byte-is x xs w n)
      refl

-- ---- the whole text
skipped : (s : Tests) (part : Part) (lower : Bool) (n at : ℕ) (t : List ℕ)
    → component_steps s part lower n at t ≡ component_steps s part lower 0 at (drop n t)
unfolding component_steps
skipped s part lower zero at t = refl
skipped s part lower (suc n) at [] = refl
skipped s part lower (suc n) at (x ∷ xs) = skipped s part lower n at xs

pub next-steps : (s : Tests) (part : Part) (lower : Bool) (at : ℕ) (t : List ℕ) → 0 < length t → 0 < (prefix_of s part lower at t).len
    → component_steps s part lower 0 at t ≡ (prefix_of s part lower at t).steps
    ++ component_steps s part lower 0 (at + (prefix_of s part lower at t).normal_len) (drop (prefix_of s part lower at t).len t)
unfolding component_steps
next-steps s part lower at [] h g = absurd (omega arith)
next-steps s part lower at (x ∷ xs) h g =
    let p = prefix_of s part lower at (x ∷ xs) in
    let n : p.len ≡ suc (p.len - 1) = omega arith in
    ap (λ l. p.steps ++ l) (skipped s part lower (p.len - 1) (at + p.normal_len) xs
    ∙ ap (λ i. component_steps s part lower 0 (at + p.normal_len) (drop i (x ∷ xs))) (sym n))

pub no-steps : (s : Tests) (part : Part) (lower : Bool) (at : ℕ) → component_steps s part lower 0 at [] ≡ []
unfolding component_steps
no-steps s part lower at = refl

module _ (s : Tests) (k : IsSpec s) (m : CanonMode) (part : Part) (lower : Bool) (start : ℕ) (ok : List ℕ → Bool) (put : List ℕ → Parts) (c : IsPlace s part lower start ok put) where
  goes : (n : ℕ) (a t : List ℕ) (at : ℕ) → length t ≤ n → whole_triplets a ≡ true → whole_triplets t ≡ true → at ≡ start + length a
      → ok (a ++ t) ≡ true → Led s m ok put (a ++ t) (component_steps s part lower 0 at t) (a ++ normal s (case_of lower) t)
  goes n a [] at l w v e h = rw (no-steps s part lower at, normal_nil s (case_of lower)) (led-nothing s m ok put (a ++ []) h)
  goes zero a (x ∷ xs) at l w v e h = absurd (omega arith)
  goes (suc n) a (x ∷ xs) at l w v e h =
      let t = x ∷ xs in
      let f = case_of lower in
      let p = prefix_of s part lower at t in
      let q = prefix-is s k part lower at t v (omega arith) in
      let r = drop p.len t in
      let rest = component_steps s part lower 0 (at + p.normal_len) r in
      let one = q.leads m start ok put c a w e h in
      let two = goes n (a ++ q.text) r (at + p.normal_len) (omega (arith, l, q.some, length-drop p.len t)) (whole-append a q.text w q.whole)
      q.whole_rest (omega (arith, e, q.long, length-append a q.text)) one.good in
      let text : (a ++ q.text) ++ normal s f r ≡ a ++ normal s f t = append_assoc a q.text (normal s f r) ∙ ap (λ z. a ++ z) (sym q.form) in
      subst (λ i. Led s m ok put (a ++ t) i (a ++ normal s f t)) (sym (next-steps s part lower at t (omega arith) q.some))
      (subst (λ z. Led s m ok put (a ++ t) (p.steps ++ rest) z) text
      (led-on s m ok put (a ++ t) ((a ++ q.text) ++ r) ((a ++ q.text) ++ normal s f r) p.steps rest one two))

  pub component-led : (t : List ℕ) → whole_triplets t ≡ true → ok t ≡ true
      → Led s m ok put t (component_steps s part lower 0 start t) (normal s (case_of lower) t)
  component-led t w h = goes (length t) [] t start (omega arith) whole_nil w (omega arith) h

-- ---- as it is written: the steps before the rest of a text have gone in
pub record Walked {W : Type 0} (puts : W → List Step → W → Type 0) (stops : W → ℕ) (s : Tests) (part : Part) (lower : Bool) (start : ℕ)
    (x : List ℕ) (at : ℕ) (t : List ℕ) (old new : W) : Type 0 where
  pub steps : Going puts stops old (component_steps s part lower 0 start x) (component_steps s part lower 0 at t) new
  pub place : at + length (normal s (case_of lower) t) ≡ start + length (normal s (case_of lower) x)
  pub room : at + length t ≤ start + length x
  pub whole : whole_triplets t ≡ true

module _ {W : Type 0} {puts halts : W → List Step → W → Type 0} {stops : W → ℕ} (laws : AreSinkLaws puts halts) (s : Tests) (part : Part) (lower : Bool)
    (start : ℕ) (x : List ℕ) (at : ℕ) (t : List ℕ) (k : IsSpec s) where
  pub walked-on : {a b c : W} {u : Unit {0}} → 0 < length t → Walked puts stops s part lower start x at t a b
      → Shows puts halts stops b (prefix_of s part lower at t).steps c (Ok u)
      → Walked puts stops s part lower start x (at + (prefix_of s part lower at t).normal_len) (drop (prefix_of s part lower at t).len t) a c
  walked-on h w e =
      let f = case_of lower in
      let p = prefix_of s part lower at t in
      let q = prefix-is s k part lower at t w.whole h in
      let r = drop p.len t in
      record {
        steps = going_on laws (component_steps s part lower 0 at t) p.steps (component_steps s part lower 0 (at + p.normal_len) r)
            (next-steps s part lower at t h q.some) w.steps e;
        place = omega (arith, w.place, ap length q.form, length-append q.text (normal s f r), q.long);
        room = omega (arith, w.room, q.shorter, q.within, length-drop p.len t);
        whole = q.whole_rest;
      }

  pub walk-stopped : {a b c : W} {e : Stop} {r : Result (Unit {0}) Stop} → IsErr r → 0 < length t → Walked puts stops s part lower start x at t a b
      → Shows puts halts stops b (prefix_of s part lower at t).steps c (Err e)
      → Shows puts halts stops a (component_steps s part lower 0 start x) c r
  walk-stopped is h w e =
      let p = prefix_of s part lower at t in
      gone_wrong laws (component_steps s part lower 0 at t) p.steps (component_steps s part lower 0 (at + p.normal_len) (drop p.len t))
      (next-steps s part lower at t h (prefix-is s k part lower at t w.whole h).some) is w.steps e

  pub walk-ended : {a b : W} {u : Unit {0}} → t ≡ [] → Walked puts stops s part lower start x at t a b
      → Shows puts halts stops a (component_steps s part lower 0 start x) b (Ok u)
  walk-ended e w = all_gone laws (component_steps s part lower 0 at t) (ap (component_steps s part lower 0 at) e ∙ no-steps s part lower at) w.steps

pub something : (t : List ℕ) → (length t == 0) ≡ false → 0 < length t
something t h = grind (arith, nat_tests)

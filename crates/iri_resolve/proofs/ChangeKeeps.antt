-- What a change of triplets keeps.
use Rattle.iri_resolve.proofs.Common.{◌≡◌, ℕ, ◌<◌, length, Bool, true, false, not, ◌&&◌, ◌||◌, List, [], ◌∷◌, ◌++◌, Option, Some, None}
use Rattle.iri_resolve.proofs.Common.{refl, sym, ◌∙◌, ap, arith, length-append, ◌==◌, take, encode_utf8, nat_tests, not-true, Tests, IsSpec}
use Rattle.iri_resolve.proofs.Common.{unreserved, both, text_over, path_rules, is_empty, starts_with_slash, starts_with_slashes}
use Rattle.iri_resolve.proofs.Common.{whole_triplets, normal, encode_bytes, lacks-whole, is_small_digit, with_capital_digit, with_decoded}
use Rattle.std.proofs.Common.{append-nil}
use Rattle.std.proofs.lemmas.List.{length-take}
use Rattle.iri_grammar.specs.Cut.{lacks}
use Rattle.iri_grammar.proofs.units.LackedBytes.{lacks-encodes}
use Rattle.iri_grammar.proofs.splits.CutLaws.{lacks-other, test_apart}
use Rattle.iri_normal.proofs.triplets.PathTriplets.{slash-delimits}
use Rattle.iri_normal.proofs.removal.Output.{lacks_there}
use Rattle.iri_resolve.proofs.ByteLaws.{capital_digit}
use Rattle.iri_resolve.proofs.ChangeLaws.{digit-normal, digit-over, decoding, decoded-normal, decoded-over, some_triplets}

-- texts that differ from a place on, where both go on with another byte than `/`
pub record Differ (t u : List ℕ) : Type 0 where
  pub prefix : List ℕ
  pub x : ℕ
  pub y : ℕ
  pub xs : List ℕ
  pub ys : List ℕ
  pub old : t ≡ prefix ++ x ∷ xs
  pub new : u ≡ prefix ++ y ∷ ys
  pub no_slash : (x == 47) ≡ false
  pub no_new_slash : (y == 47) ≡ false

-- a change that keeps the class, the triplet normal form, and where the slashes stand; it changes a text with a `%`
pub record TripletChange (s : Tests) (change : ℕ → List ℕ → Option (List ℕ)) : Type 0 where
  pub over : (p : ℕ → Bool) (i : ℕ) (t u : List ℕ) → p 37 ≡ false → ((c : ℕ) → unreserved s c ≡ true → p c ≡ true) → change i t ≡ Some u
      → text_over p t ≡ true → text_over p u ≡ true
  pub form : (f : ℕ → ℕ) (i : ℕ) (t u : List ℕ) → change i t ≡ Some u → whole_triplets t ≡ true → whole_triplets u ≡ true
      → normal s f u ≡ normal s f t
  pub percent : (i : ℕ) (t u : List ℕ) → change i t ≡ Some u → lacks 37 t ≡ false
  pub slashes : (i : ℕ) (t u : List ℕ) → change i t ≡ Some u → Differ t u
  pub inside : (i : ℕ) (t u : List ℕ) → change i t ≡ Some u → i < length t

-- ---- a text with a `%`
percent-inside : (t : List ℕ) (i : ℕ) → not (whole_triplets (take i t)) ≡ true → lacks 37 (take i t) ≡ false
percent-inside t i h =
    elim (lacks 37 (take i t)) as (λ b. lacks 37 (take i t) ≡ b
    → b ≡ false) [ true ↦ λ e. let no : not true ≡ true = ap not (sym (lacks-whole (take i t) e)) ∙ h in cc | false ↦ λ _. refl ] refl

prefix-lacks : (a r : List ℕ) → lacks 37 a ≡ false → lacks 37 (a ++ r) ≡ false
prefix-lacks [] r h = cc
prefix-lacks (x ∷ a) r h = elim (x == 37) as (λ b. (not b && lacks 37 a) ≡ false
    → (not b && lacks 37 (a ++ r)) ≡ false) [ true ↦ λ _. refl | false ↦ λ k. prefix-lacks a r k ] h

-- ---- the place lies in the text
lies-inside : (i : ℕ) (t : List ℕ) (y : ℕ) (r : List ℕ) → t ≡ take i t ++ y ∷ r → i < length t
lies-inside i t y r e = omega (arith, ap length e, length-append (take i t) (y ∷ r), length-take i t)

pub decode-inside : (s : Tests) (i : ℕ) (t u : List ℕ) → with_decoded s i t ≡ Some u → i < length t
decode-inside s i t u h =
    let d = decoding s i t u h in
    let g = some_triplets d.c d.sp (encode_utf8 d.c) d.spells refl in
    lies-inside i t 37 (g.rest ++ d.back) (d.old ∙ ap (λ z. take i t ++ (z ++ d.back)) g.text)

-- ---- the two changes
digit_slash : (x : ℕ) → is_small_digit x ≡ true → (x == 47) ≡ false
digit_slash x h = grind (arith, nat_tests)

capital_slash : (x : ℕ) → is_small_digit x ≡ true → (Rattle.std.specs.Char.to_ascii_uppercase x == 47) ≡ false
capital_slash x h = grind (arith, nat_tests)

pub capital-keeps : (s : Tests) → TripletChange s with_capital_digit
unfolding unreserved
capital-keeps s = record {
  over = λ p i t u n q h o. digit-over p i t u (λ c k. q c (ap (λ b. b || s.ucs c) k)) h o;
  form = λ f i t u h w v. digit-normal s f i t u h w v;
  percent = λ i t u h. let c = capital_digit i t u h in ap (lacks 37) c.change.old ∙ prefix-lacks (take i t) _ (percent-inside t i c.place);
  slashes = λ i t u h.
      let c = capital_digit i t u h in
      record {
        prefix = take i t;
        x = c.change.byte;
        y = Rattle.std.specs.Char.to_ascii_uppercase c.change.byte;
        xs = c.change.back;
        ys = c.change.back;
        old = c.change.old;
        new = c.change.new;
        no_slash = digit_slash c.change.byte c.change.passes;
        no_new_slash =
            capital_slash c.change.byte c.change.passes;
      };
  inside = λ i t u h. let c = capital_digit i t u h in lies-inside i t c.change.byte c.change.back c.change.old;
}

pub encode-slash : (c : ℕ) (lead : ℕ) (tail : List ℕ) → (c == 47) ≡ false → encode_utf8 c ≡ lead ∷ tail → (lead == 47) ≡ false
encode-slash c lead tail n e =
    let l : lacks 47 (encode_utf8 c) ≡ true = ap (lacks 47) (sym (append-nil (encode_utf8 c)))
    ∙ lacks-encodes 47 (c ∷ []) (omega arith) (lacks-other 47 c [] n refl) in
    not-true (lead == 47) (both (not (lead == 47)) (lacks 47 tail) (ap (lacks 47) (sym e) ∙ l)).0

pub decoding-keeps : (s : Tests) → IsSpec s → TripletChange s (with_decoded s)
decoding-keeps s k = record {
  over = λ p i t u n q h o. decoded-over s p i t u k n q h o;
  form = λ f i t u h w v. decoded-normal s f i t u k h w;
  percent = λ i t u h.
      let d = decoding s i t u h in
      let g = some_triplets d.c d.sp (encode_utf8 d.c) d.spells refl in
      ap (lacks 37) (d.old ∙ ap (λ z. take i t ++ (z ++ d.back)) g.text) ∙ lacks_there 37 (take i t) (g.rest ++ d.back);
  slashes = λ i t u h.
      let d = decoding s i t u h in
      let g = some_triplets d.c d.sp (encode_utf8 d.c) d.spells refl in
      let b = encode_bytes d.c in
      record {
        prefix = take i t;
        x = 37;
        y = b.lead;
        xs = g.rest ++ d.back;
        ys = b.tail ++ d.back;
        old = d.old ∙ ap (λ z. take i t ++ (z ++ d.back)) g.text;
        new = d.new ∙ ap (λ z. take i t ++ (z ++ d.back)) b.split;
        no_slash = refl;
        no_new_slash = encode-slash d.c b.lead b.tail (test_apart (unreserved s) 47 d.c (slash-delimits s k).reserved d.free) b.split;
      };
  inside = λ i t u h. decode-inside s i t u h;
}

-- ---- the rules of a path
slash-same : (a xs ys : List ℕ) (x y : ℕ) → (x == 47) ≡ false → (y == 47) ≡ false
    → starts_with_slash (a ++ y ∷ ys) ≡ starts_with_slash (a ++ x ∷ xs)
slash-same [] xs ys x y n m = m ∙ sym n
slash-same (z ∷ a) xs ys x y n m = refl

slashes-same : (a xs ys : List ℕ) (x y : ℕ) → (x == 47) ≡ false → (y == 47) ≡ false
    → starts_with_slashes (a ++ y ∷ ys) ≡ starts_with_slashes (a ++ x ∷ xs)
slashes-same [] xs ys x y n m = rw (n, m) refl
slashes-same (z ∷ a) xs ys x y n m = ap (λ b. (z == 47) && b) (slash-same a xs ys x y n m)

empty-same : (a xs ys : List ℕ) (x y : ℕ) → is_empty (a ++ y ∷ ys) ≡ is_empty (a ++ x ∷ xs)
empty-same [] xs ys x y = refl
empty-same (z ∷ a) xs ys x y = refl

pub rules-same : (sch : List ℕ) (o : Option (List ℕ)) (t u : List ℕ) → Differ t u → path_rules (Some sch) o u ≡ path_rules (Some sch) o t
rules-same sch (Some a) t u d = rw (d.old, d.new) (rw
    (empty-same d.prefix d.xs d.ys d.x d.y, slash-same d.prefix d.xs d.ys d.x d.y d.no_slash d.no_new_slash) refl)
rules-same sch None t u d = rw (d.old, d.new) (ap not (slashes-same d.prefix d.xs d.ys d.x d.y d.no_slash d.no_new_slash))

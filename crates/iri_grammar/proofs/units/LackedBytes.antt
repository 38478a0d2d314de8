-- A text over a class lacks the bytes of what is in no unit of it.
use Rattle.iri_grammar.proofs.Common.{◌≡◌, ℕ, ◌<◌, ◌≤◌, Bool, true, false, cond, not, ◌&&◌, List, [], ◌∷◌, ◌++◌, refl, subst, arith, zero}
use Rattle.iri_grammar.proofs.Common.{suc, ◌+◌, ◌/◌, ◌==◌, chars, IsUtf8, is_ascii_hexdigit, nat_tests, over_from, over, lacks}
use lib.Dec.{ltb}
use lib.Utf8.{encode, encodes, next}
use Rattle.std.proofs.lemmas.Str.{encodes-chars}
use Rattle.iri_grammar.proofs.splits.CutLaws.{by_test, both, lacks-other, lacks-append, test_apart}

-- a text over a class lacks what is in no class
pub over-lacks : (p : ℕ → Bool) (c n : ℕ) (cs : List ℕ) → p c ≡ false → (37 == c) ≡ false → is_ascii_hexdigit c ≡ false
    → over_from p n cs ≡ true → lacks c cs ≡ true
unfolding over_from
over-lacks p c n [] pc pe hx h = refl
over-lacks p c zero (x ∷ cs) pc pe hx h =
    by_test x 37 (λ b. cond b (over_from p 2 cs) (p x && over_from p 0 cs) ≡ true → lacks c (x ∷ cs) ≡ true)
    (λ e k. lacks-other c x cs (rw e pe) (over-lacks p c 2 cs pc pe hx k))
    (λ _ k. let parts = both (p x) (over_from p 0 cs) k in
    lacks-other c x cs (test_apart p c x pc parts.0) (over-lacks p c 0 cs pc pe hx parts.1))
    h
over-lacks p c (suc n) (x ∷ cs) pc pe hx h =
    let parts = both (is_ascii_hexdigit x) (over_from p n cs) h in
    lacks-other c x cs (test_apart is_ascii_hexdigit c x hx parts.0) (over-lacks p c n cs pc pe hx parts.1)

high : (c x : ℕ) → c < 128 → 128 ≤ x → (x == c) ≡ false
high c x l h = grind (arith, nat_tests)

either : (c : ℕ) (b : Bool) (xs ys : List ℕ) → lacks c xs ≡ true → lacks c ys ≡ true → lacks c (cond b xs ys) ≡ true
either c true xs ys h k = h
either c false xs ys h k = k

-- the bytes of another character
pub encode-lacks : (c x : ℕ) → c < 128 → (x == c) ≡ false → lacks c (encode x) ≡ true
unfolding encode
encode-lacks c x l n =
    let h : (y : ℕ) (ys : List ℕ) → 128 ≤ y → lacks c ys ≡ true → lacks c (y ∷ ys) ≡ true =
    λ y ys b k. lacks-other c y ys (high c y l b) k in
    let tail : (y : ℕ) (ys : List ℕ) → lacks c ys ≡ true → lacks c (next y ∷ ys) ≡ true = λ y ys k. h (next y) ys (omega arith) k in
    either c (ltb x 128) _ _ (lacks-other c x [] n refl)
    (either c (ltb x 2048) _ _ (h (192 + x / 64) (next x ∷ []) (omega arith) (tail x [] refl))
    (either c (ltb x 65536) _ _ (h (224 + x / 4096) (next (x / 64) ∷ next x ∷ []) (omega arith)
    (tail (x / 64) (next x ∷ []) (tail x [] refl)))
    (h (240 + x / 262144) (next (x / 4096) ∷ next (x / 64) ∷ next x ∷ []) (omega arith)
    (tail (x / 4096) (next (x / 64) ∷ next x ∷ []) (tail (x / 64) (next x ∷ []) (tail x [] refl))))))

pub lacks-encodes : (c : ℕ) (cs : List ℕ) → c < 128 → lacks c cs ≡ true → lacks c (encodes cs) ≡ true
lacks-encodes c [] l h = refl
lacks-encodes c (x ∷ cs) l h =
    by_test x c (λ b. (x == c) ≡ b → (not b && lacks c cs) ≡ true → lacks c (encode x ++ encodes cs) ≡ true)
    (λ _ _ k. cc)
    (λ _ n k. lacks-append c (encode x) (encodes cs) (encode-lacks c x l n) (lacks-encodes c cs l k))
    refl h

-- a text over a class lacks the bytes of what is in no class
pub text-lacks : (p : ℕ → Bool) (c : ℕ) (bs : List ℕ) → IsUtf8 bs → c < 128 → p c ≡ false → (37 == c) ≡ false → is_ascii_hexdigit c ≡ false
    → over p (chars bs) ≡ true → lacks c bs ≡ true
text-lacks p c bs u l pc pe hx h =
    subst (λ z. lacks c z ≡ true) (encodes-chars bs u) (lacks-encodes c (chars bs) l (over-lacks p c 0 (chars bs) pc pe hx h))

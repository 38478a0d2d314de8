-- The values of quoted strings, and their written form, are texts.
use Rattle.iri_link.proofs.Common.{zero, suc, length, Option, Some, None, before, after, delimited, test_apart, is_plain_char, unquoted, unquoted_from, first_passes, ◌≡◌, ℕ, ◌<◌, ◌≤◌, true, false, cond, List, [], ◌∷◌, ◌++◌, refl, sym, ap, ◌∙◌, subst, arith, inl}
use Rattle.iri_link.proofs.Common.{inr, ◌==◌, ◌||◌, IsUtf8, nat_tests, both, cases_lt, append-nil, IsUtf8-append, IsUtf8-nil, lacks}
use Rattle.iri_link.proofs.Common.{delimited-utf8, IsQuoted, done, plain, pair, escaped}
use Rattle.std.proofs.lemmas.Str.{IsUtf8-encode, encode_ascii}
use lib.Utf8.{encode, encodes, scalar, scalars}
use Rattle.std.proofs.Common.{◌⊎◌}
use Rattle.iri_grammar.proofs.splits.CharBoundaries.{text_after_delimiter, text_before_delimiter}
use Rattle.iri_grammar.proofs.splits.CutLaws.{joined}
use Rattle.iri_grammar.proofs.units.FirstUnits.{text_after_ascii}
use Rattle.iri_link.proofs.QuotedLemmas.{after_pair, unquoted-chunk, after_pair-plain, after-shorter}
use Rattle.iri_link.proofs.EscapeLemmas.{escaped-same}
use Rattle.iri_link.proofs.RunLemmas.{mark}
use Rattle.iri_grammar.proofs.units.LackedBytes.{lacks-encodes}

-- ---- characters
high_lacks : (c x : ℕ) → c < 128 → 128 ≤ x → lacks c (encode x) ≡ true
high_lacks c x l h =
    let other : (x == c) ≡ false = grind (arith, nat_tests) in
    subst (λ z. lacks c z ≡ true) (append-nil (encode x)) (lacks-encodes c (x ∷ []) l (rw other refl))

-- ---- the value of a quoted string
quoted-value : (t v : List ℕ) → IsQuoted t v → v ≡ unquoted t
unfolding unquoted_from
quoted-value t v done = refl
quoted-value t v (plain c u w h r) = rw (test_apart is_plain_char 92 c refl h) (ap (λ l. c ∷ l) (quoted-value u w r))
quoted-value t v (pair c u w h r) = ap (λ l. c ∷ l) (quoted-value u w r)

after-pair : (t b : List ℕ) → Some b ≡ after 92 t → (first_passes (λ c. c == 92) b ≡ false) ⊎ ((r : List ℕ) × (b ≡ 92 ∷ r))
    → ((y : List ℕ) → length y < length t → IsUtf8 y → IsUtf8 (unquoted y)) → IsUtf8 b → IsUtf8 (unquoted_from true b)
unfolding unquoted_from
after-pair t b e (inl other) again u = subst IsUtf8 (sym (after_pair-plain b other)) (again b (after-shorter 92 t b e) u)
after-pair t b e (inr m) again u =
    let short : length m.0 < length t = omega (arith, after-shorter 92 t b e, ap length m.1) in
    subst (λ z. IsUtf8 (unquoted_from true z)) (sym m.1)
    (delimited-utf8 92 (unquoted m.0) (omega arith) (again m.0 short (text_after_ascii 92 m.0 (subst IsUtf8 m.1 u) (omega arith))))

unquoted-utf8 : (n : ℕ) (t : List ℕ) → length t < n → IsUtf8 t → IsUtf8 (unquoted t)
unquoted-utf8 zero t lt u = absurd (omega (arith, lt))
unquoted-utf8 (suc n) t lt u =
    elim (after 92 t) as (λ o. o ≡ after 92 t → IsUtf8 (unquoted t)) [
      | None ↦ λ e. subst IsUtf8 (sym (joined 92 t) ∙ (ap (λ o. before 92 t ++ delimited 92 o) (sym e) ∙ sym (chunk None e))) u
      | Some b ↦ λ e.
          let whole : IsUtf8 (before 92 t ++ 92 ∷ b) = subst IsUtf8 (sym (joined 92 t) ∙ ap (λ o. before 92 t ++ delimited 92 o) (sym e)) u in
          let rest = after-pair t b e (mark 92 b) (λ y l. unquoted-utf8 n y (omega (arith, l, lt))) (text_after_delimiter 92 (before 92 t) b (omega arith) whole) in
          subst IsUtf8 (sym (chunk (Some b) e)) (IsUtf8-append (before 92 t) (unquoted_from true b) (text_before_delimiter 92 (before 92 t) b (omega arith) whole) rest)
    ] refl
  where
    chunk : (o : Option (List ℕ)) → o ≡ after 92 t → unquoted t ≡ before 92 t ++ after_pair o
    chunk o e = unquoted-chunk t ∙ ap (λ z. before 92 t ++ after_pair z) (sym e)

pub value-utf8 : (t v : List ℕ) → IsUtf8 t → IsQuoted t v → IsUtf8 v
value-utf8 t v u q = subst IsUtf8 (sym (quoted-value t v q)) (unquoted-utf8 (suc (length t)) t (omega arith) u)

-- ---- the written form of a value
pub escaped-append : (a b : List ℕ) → escaped (a ++ b) ≡ escaped a ++ escaped b
escaped-append [] b = refl
escaped-append (c ∷ cs) b =
    elim (c == 34 || c == 92) as (λ t. cond t (92 ∷ c ∷ escaped (cs ++ b)) (c ∷ escaped (cs ++ b)) ≡ cond t (92 ∷ c ∷ escaped cs) (c ∷ escaped cs) ++ escaped b) [
      | true ↦ ap (λ l. 92 ∷ c ∷ l) (escaped-append cs b)
      | false ↦ ap (λ l. c ∷ l) (escaped-append cs b)
    ]

one_escaped : (x : ℕ) → scalar x ≡ true → IsUtf8 (escaped (encode x))
one_escaped x s =
    elim (cases_lt x 128) [
      | inl l ↦ rw (encode_ascii x l)
          (elim (x == 34 || x == 92) as (λ b. IsUtf8 (cond b (92 ∷ x ∷ []) (x ∷ []))) [
            | true ↦ delimited-utf8 92 (x ∷ []) (omega arith) (delimited-utf8 x [] l IsUtf8-nil)
            | false ↦ delimited-utf8 x [] l IsUtf8-nil
          ])
      | inr ge ↦ rw (escaped-same (encode x) (high_lacks 34 x (omega arith) ge) (high_lacks 92 x (omega arith) ge)) (IsUtf8-encode x s)
    ]

all_escaped : (xs : List ℕ) → scalars xs ≡ true → IsUtf8 (escaped (encodes xs))
all_escaped [] h = IsUtf8-nil
all_escaped (x ∷ xs) h =
    let k = both (scalar x) (scalars xs) h in
    rw (escaped-append (encode x) (encodes xs)) (IsUtf8-append (escaped (encode x)) (escaped (encodes xs)) (one_escaped x k.0) (all_escaped xs k.1))

pub escaped-utf8 : (v : List ℕ) → IsUtf8 v → IsUtf8 (escaped v)
escaped-utf8 v u = subst (λ z. IsUtf8 (escaped z)) u.1.1 (all_escaped u.0 u.1.0)

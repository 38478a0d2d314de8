-- Keys with the hashes of their texts are compared as their texts are.
use Rattle.iri_register.proofs.Common.{◌≡◌, ℕ, zero, suc, ◌+◌, List, [], ◌∷◌, ◌++◌, true, false, refl, sym, ◌∙◌, ap, filter}
use Rattle.iri_register.proofs.Common.{length, Some, None, position, string_bytes, keys_of, lookup, Lines, Key, AreHashed}
use Rattle.iri_register.proofs.Common.{IsHashed, key_eq, is_live, is_text}
use Rattle.std.proofs.Common.{not, ◌&&◌, cond, nat_lt, slice_set}
use Rattle.std.proofs.Math.Bool.{and-false}
use Rattle.std.specs.Prelude.{nat_eq}
use Rattle.std.specs.List.{position_or_len}
use Rattle.std.specs.Hash.DefaultHasher.{finish, write}
use Rattle.std.specs.declared.hash.DefaultHasher.{DefaultHasher}
use Rattle.indexmap.specs.IndexMap.{set_value_at}
use Rattle.iri_register.proofs.GroupLemmas.{is_same, same}

module _ (h : DefaultHasher) where
  pub as_texts : (j k : Key) → IsHashed h j → IsHashed h k → key_eq j k ≡ is_text (string_bytes j.text) k
  as_texts j k a b =
      elim (is_text (string_bytes j.text) k) as (λ c. is_text (string_bytes j.text) k ≡ c → (nat_eq j.hash k.hash && c) ≡ c) [
        | true ↦ λ m.
            let alike : j.hash ≡ k.hash = a ∙ ap (λ t. finish (write h t)) (is_same (string_bytes j.text) (string_bytes k.text) m) ∙ sym b in
            ap (λ n. nat_eq n k.hash && true) alike ∙ same (k.hash ∷ [])
        | false ↦ λ m. and-false (nat_eq j.hash k.hash)
      ] refl

  pub lookup_as : (j : Key) (es : List (Key × Lines)) → IsHashed h j → AreHashed h es
      → lookup (key_eq j) es ≡ lookup (is_text (string_bytes j.text)) es
  lookup_as j [] a b = refl
  lookup_as j (e ∷ es) a b = λ i. cond (as_texts j e.0 a b.0 i) (Some e.1) (lookup_as j es a b.1 i)

  or_len_as : (j : Key) (es : List (Key × Lines)) → IsHashed h j → AreHashed h es
      → position_or_len (key_eq j) (keys_of es) ≡ position_or_len (is_text (string_bytes j.text)) (keys_of es)
  or_len_as j [] a b = refl
  or_len_as j (e ∷ es) a b = λ i. cond (not (as_texts j e.0 a b.0 i)) (1 + or_len_as j es a b.1 i) 0

  pub position_as : (j : Key) (es : List (Key × Lines)) → IsHashed h j → AreHashed h es
      → position (key_eq j) (keys_of es) ≡ position (is_text (string_bytes j.text)) (keys_of es)
  position_as j es a b = ap (λ k. cond (nat_lt k (length (keys_of es))) (Some k) None) (or_len_as j es a b)

  -- ---- and so do they stay

  pub hashed_set : (es : List (Key × Lines)) (i : ℕ) (w : Lines) → AreHashed h es → AreHashed h (set_value_at es i w)
  hashed_set [] i w a = tt
  hashed_set (e ∷ es) zero w a = a
  hashed_set (e ∷ es) (suc i) w a = (a.0, hashed_set es i w a.1)

  pub hashed_slot : (es : List (Key × Lines)) (i : ℕ) (x : Key × Lines) → AreHashed h es → IsHashed h x.0 → AreHashed h (slice_set es i x)
  hashed_slot [] i x a b = tt
  hashed_slot (e ∷ es) zero x a b = (b, a.1)
  hashed_slot (e ∷ es) (suc i) x a b = (a.0, hashed_slot es i x a.1 b)

  pub hashed_last : (es : List (Key × Lines)) (x : Key × Lines) → AreHashed h es → IsHashed h x.0 → AreHashed h (es ++ x ∷ [])
  hashed_last [] x a b = (b, tt)
  hashed_last (e ∷ es) x a b = (a.0, hashed_last es x a.1 b)

  pub hashed_live : (es : List (Key × Lines)) → AreHashed h es → AreHashed h (filter is_live es)
  hashed_live [] a = tt
  hashed_live (e ∷ es) a =
      let rest = hashed_live es a.1 in
      elim (is_live e) as (λ b. AreHashed h (cond b (e ∷ filter is_live es) (filter is_live es))) [ true ↦ (a.0, rest) | false ↦ rest ]

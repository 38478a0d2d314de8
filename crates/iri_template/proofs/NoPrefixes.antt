-- A text without a colon after its first brace has no varspec with a prefix, so that no type of a value is wrong (RFC 6570 section 2.4.1).
use Rattle.iri_template.proofs.Common.{◌≡◌, ℕ, zero, suc, ◌+◌, ◌-◌, true, false, cond, List, [], ◌∷◌, length, drop, map, refl, ◌∙◌, ap, both}
use Rattle.iri_template.proofs.Common.{not-true, not, ◌==◌, None, list_all, chars, lacks, before, from_any, pieces, first, fault, ShownValue}
use Rattle.iri_template.proofs.Common.{UnexpectedValueType, is_mistyped, placed_type_fault, piece_text, literal, varspec_text, varspec_of}
use Rattle.iri_template.proofs.Common.{expression_of, body_of, name_of, operator_of, operator_text, after_operator, ends_name, piece_len, pieces_from}
use Rattle.iri_grammar.proofs.splits.CutLaws.{lacks-other}
use Rattle.iri_grammar.specs.Cut.{from}
use Rattle.iri_grammar.specs.Pieces.{onto}
use Rattle.iri_template.specs.Places.{placed_varspecs, placed_within, placed_pieces}
use Rattle.iri_template.specs.Reading.{modifier_of, piece_of, triplet_of, first_of}
use Rattle.iri_template.specs.VarSpecs.{held}
use Rattle.iri_template.proofs.PlacedNames.{types_append}

-- ---- what is cut from a text without a byte
lacked : (c x : ℕ) (xs : List ℕ) → lacks c (x ∷ xs) ≡ true → ((x == c) ≡ false) × (lacks c xs ≡ true)
lacked c x xs h = let k = both (not (x == c)) (lacks c xs) h in (not-true (x == c) k.0, k.1)

lacks_drop : (c n : ℕ) (t : List ℕ) → lacks c t ≡ true → lacks c (drop n t) ≡ true
lacks_drop c zero t h = h
lacks_drop c (suc n) [] h = h
lacks_drop c (suc n) (x ∷ xs) h = lacks_drop c n xs (lacked c x xs h).1

lacks_before : (c d : ℕ) (t : List ℕ) → lacks c t ≡ true → lacks c (before d t) ≡ true
lacks_before c d [] h = refl
lacks_before c d (x ∷ xs) h =
    let k = lacked c x xs h in
    elim (x == d) as (λ b. lacks c (cond b [] (x ∷ before d xs)) ≡ true) [
      | true ↦ refl
      | false ↦ lacks-other c x (before d xs) k.0 (lacks_before c d xs k.1)
    ]

lacks_from : (c d : ℕ) (t : List ℕ) → lacks c t ≡ true → lacks c (from d t) ≡ true
lacks_from c d [] h = refl
lacks_from c d (x ∷ xs) h =
    elim (x == d) as (λ b. lacks c (cond b (x ∷ xs) (from d xs)) ≡ true) [ true ↦ h | false ↦ lacks_from c d xs (lacked c x xs h).1 ]

onto_lacks : (c x : ℕ) (ps : List (List ℕ)) → (x == c) ≡ false → list_all (lacks c) ps ≡ true → list_all (lacks c) (onto x ps) ≡ true
onto_lacks c x [] n h = rw n refl
onto_lacks c x (p ∷ ps) n h = rw n h

lacks_pieces : (c d : ℕ) (t : List ℕ) → lacks c t ≡ true → list_all (lacks c) (pieces d t) ≡ true
lacks_pieces c d [] h = refl
lacks_pieces c d (x ∷ xs) h =
    let k = lacked c x xs h in
    elim (x == d) as (λ b. list_all (lacks c) (cond b ([] ∷ pieces d xs) (onto x (pieces d xs))) ≡ true) [
      | true ↦ lacks_pieces c d xs k.1
      | false ↦ onto_lacks c x (pieces d xs) k.0 (lacks_pieces c d xs k.1)
    ]

-- ---- a varspec without a colon, and an expression
no_prefix : (t : List ℕ) (v : ShownValue) → lacks 58 t ≡ true → is_mistyped (held (modifier_of (from_any ends_name t))) v ≡ false
no_prefix [] v h = refl
no_prefix (x ∷ xs) v h =
    let k = lacked 58 x xs h in
    elim (ends_name x) as (λ b. is_mistyped (held (modifier_of (cond b (x ∷ xs) (from_any ends_name xs)))) v ≡ false) [
      | true ↦ rw k.0 refl
      | false ↦ no_prefix xs v k.1
    ]

module _ (value : List ℕ → ShownValue) where
  varspecs_fine : (at : ℕ) (ts : List (List ℕ)) → list_all (lacks 58) ts ≡ true → placed_type_fault value (placed_varspecs at (map varspec_of ts)) ≡ None
  varspecs_fine at [] h = refl
  varspecs_fine at (t ∷ ts) h =
      let k = both (lacks 58 t) (list_all (lacks 58) ts) h in
      let there = at + length (varspec_text (varspec_of t)) + 1 in
      ap (λ b. cond b (fault UnexpectedValueType at) (placed_type_fault value (placed_varspecs there (map varspec_of ts))))
      (no_prefix t (value (name_of t)) k.0) ∙ varspecs_fine there ts k.1

  expression_fine : (at : ℕ) (b : List ℕ) → lacks 58 b ≡ true → placed_type_fault value (placed_within at (expression_of b)) ≡ None
  expression_fine at b h =
      let n = length (operator_text (operator_of b)) in
      varspecs_fine (at + 1 + n) (pieces 44 (after_operator b)) (lacks_pieces 58 44 (after_operator b) (lacks_drop 58 n b h))

  -- ---- all pieces
  piece_fine : (at x : ℕ) (xs : List ℕ) → lacks 58 (from 123 (x ∷ xs)) ≡ true → placed_type_fault value (placed_within at (piece_of (x ∷ xs))) ≡ None
  piece_fine at x xs h =
      let t = x ∷ xs in
      elim (x == 123) as (λ b. lacks 58 (cond b t (from 123 xs)) ≡ true → placed_type_fault value (placed_within at
      (cond b (expression_of (body_of t)) (cond (x == 37) (triplet_of t) (literal (first_of (chars t)))))) ≡ None) [
        | true ↦ λ k. expression_fine at (body_of t) (lacks_before 58 125 xs (lacked 58 x xs k).1)
        | false ↦ λ k.
            elim (x == 37) as (λ b. placed_type_fault value (placed_within at (cond b (triplet_of t) (literal (first_of (chars t))))) ≡ None) [
              | true ↦ refl
              | false ↦ refl
            ]
      ] h

  after_one : (x : ℕ) (xs : List ℕ) → lacks 58 (from 123 (x ∷ xs)) ≡ true → lacks 58 (from 123 xs) ≡ true
  after_one x xs h =
      elim (x == 123) as (λ b. lacks 58 (cond b (x ∷ xs) (from 123 xs)) ≡ true → lacks 58 (from 123 xs) ≡ true) [
        | true ↦ λ k. lacks_from 58 123 xs (lacked 58 x xs k).1
        | false ↦ λ k. k
      ] h

  pub none_mistyped : (at skip : ℕ) (t : List ℕ) → lacks 58 (from 123 t) ≡ true → placed_type_fault value (placed_pieces at (pieces_from skip t)) ≡ None
  unfolding pieces_from
  none_mistyped at skip [] h = refl
  none_mistyped at (suc skip) (x ∷ xs) h = none_mistyped at skip xs (after_one x xs h)
  none_mistyped at zero (x ∷ xs) h =
      let n = piece_len (x ∷ xs) - 1 in
      let there = at + length (piece_text (piece_of (x ∷ xs))) in
      let rest = placed_pieces there (pieces_from n xs) in
      types_append value (placed_within at (piece_of (x ∷ xs))) rest
      ∙ ap (λ f. first f (placed_type_fault value rest)) (piece_fine at x xs h) ∙ none_mistyped there n xs (after_one x xs h)

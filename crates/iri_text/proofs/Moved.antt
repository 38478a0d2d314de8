-- What a call of a reader has moved so far.
use Rattle.iri_text.proofs.Common.{◌≡◌, ℕ, ◌+◌, List, [], ◌∷◌, ◌++◌, length, Option, None, Some, refl, subst, sym, ◌∙◌, ap, arith, inl}
use Rattle.iri_text.proofs.Common.{append_assoc, length-append, Consumes, NoLf, LineState}
use Rattle.std.proofs.Common.{◌⊎◌}
use Rattle.iri_text.specs.Source.{IsAtEnd}

pub record Moved (old now : LineState) (left_old left_now : Option (List ℕ)) : Type 0 where
  pub moved : List ℕ
  pub moves : Consumes left_old left_now moved
  pub counted : now.taken ≡ old.taken + length moved
  pub needed : NoLf old.held ⊎ (moved ≡ [])
  pub line_limit : now.line_limit ≡ old.line_limit
  pub input_limit : now.input_limit ≡ old.input_limit
  pub held : now.held ≡ old.held ++ moved

pub Consumes-append : (a b c : Option (List ℕ)) (xs ys : List ℕ) → Consumes a b xs → Consumes b c ys → Consumes a c (xs ++ ys)
Consumes-append None None None xs ys p q = tt
Consumes-append None None (Some n) xs ys p q = absurd q
Consumes-append None (Some m) c xs ys p q = absurd p
Consumes-append (Some l) None c xs ys p q = absurd p
Consumes-append (Some l) (Some m) None xs ys p q = absurd q
Consumes-append (Some l) (Some m) (Some n) xs ys p q = p ∙ ap (λ r. xs ++ r) q ∙ sym (append_assoc xs ys n)

pub still_at_end : (a b : Option (List ℕ)) (xs : List ℕ) → IsAtEnd a → Consumes a b xs → IsAtEnd b
still_at_end None None xs e p = tt
still_at_end None (Some m) xs e p = absurd p
still_at_end (Some l) None xs e p = absurd p
still_at_end (Some l) (Some []) xs e p = refl
still_at_end (Some l) (Some (y ∷ ys)) xs e p = absurd (omega (arith, ap length (sym e ∙ p), length-append xs (y ∷ ys)))

NoLf-prefix : (xs ys : List ℕ) → NoLf (xs ++ ys) → NoLf xs
NoLf-prefix [] ys p = tt
NoLf-prefix (x ∷ xs) ys p = (p.0, NoLf-prefix xs ys p.1)

-- more bytes came after what is held, where that has no LF
pub more : (old now next : LineState) (a b c : Option (List ℕ)) (bytes : List ℕ) → Moved old now a b → NoLf now.held → Consumes b c bytes
    → next.held ≡ now.held ++ bytes → next.taken ≡ now.taken + length bytes → next.line_limit ≡ now.line_limit
    → next.input_limit ≡ now.input_limit → Moved old next a c
more old now next a b c bytes m no_lf came held taken line_limit input_limit = record {
  moved = m.moved ++ bytes;
  moves = Consumes-append a b c m.moved bytes m.moves came;
  counted = omega (arith, taken, m.counted, length-append m.moved bytes);
  needed = inl (NoLf-prefix old.held m.moved (subst NoLf m.held no_lf));
  line_limit = line_limit ∙ m.line_limit;
  input_limit = input_limit ∙ m.input_limit;
  held = held ∙ ap (λ l. l ++ bytes) m.held ∙ append_assoc old.held m.moved bytes;
}

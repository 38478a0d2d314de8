-- The reading of a line.
use Rattle.iri_robots.proofs.Common.{◌≡◌, ℕ, Bool, true, false, cond, ◌&&◌, List, [], ◌∷◌, ◌++◌, refl, sym, ◌∙◌, ap, IsUtf8, is_utf8}
use Rattle.std.proofs.Math.Bool.{and-true}
use Rattle.std.proofs.lemmas.Bool.{and_right, false_from_ne_true}
use Rattle.std.proofs.lemmas.Str.{IsUtf8-from_is_utf8}
use Rattle.iri_grammar.specs.Blanks.{is_blank}
use Rattle.iri_robots.specs.FileLines.{all_blank, without_end}

and_moved : (a b c d : Bool) → b ≡ c && d → a && b ≡ (a && c) && d
and_moved true b c d h = h
and_moved false b c d h = refl

all_blank_last : (xs : List ℕ) (x : ℕ) → all_blank (xs ++ x ∷ []) ≡ all_blank xs && is_blank x
all_blank_last [] x = and-true (is_blank x)
all_blank_last (y ∷ ys) x = and_moved (is_blank y) (all_blank (ys ++ x ∷ [])) (all_blank ys) (is_blank x) (all_blank_last ys x)

blank_ends : (xs : List ℕ) (x : ℕ) → is_blank x ≡ true → without_end (xs ++ x ∷ []) ≡ without_end xs
blank_ends [] x h = ap (λ b. cond (b && true) [] (x ∷ [])) h
blank_ends (y ∷ ys) x h =
    ap (λ b. cond b [] (y ∷ without_end (ys ++ x ∷ []))) (all_blank_last (y ∷ ys) x ∙ (ap (λ b. all_blank (y ∷ ys) && b) h ∙ and-true (all_blank (y ∷ ys))))
    ∙ ap (λ l. cond (all_blank (y ∷ ys)) [] (y ∷ l)) (blank_ends ys x h)

text_ends : (xs : List ℕ) (x : ℕ) → is_blank x ≡ false → without_end (xs ++ x ∷ []) ≡ xs ++ x ∷ []
text_ends [] x h = ap (λ b. cond (b && true) [] (x ∷ [])) h
text_ends (y ∷ ys) x h =
    ap (λ b. cond b [] (y ∷ without_end (ys ++ x ∷ []))) (all_blank_last (y ∷ ys) x ∙ and_right (all_blank (y ∷ ys)) (is_blank x) h)
    ∙ ap (λ l. y ∷ l) (text_ends ys x h)

pub blank_at_end : (t xs : List ℕ) (x : ℕ) → t ≡ xs ++ x ∷ [] → is_blank x ≡ true → without_end t ≡ without_end xs
blank_at_end t xs x e h = ap without_end e ∙ blank_ends xs x h

pub text_at_end : (t xs : List ℕ) (x : ℕ) → t ≡ xs ++ x ∷ [] → is_blank x ≡ false → without_end t ≡ t
text_at_end t xs x e h = ap without_end e ∙ text_ends xs x h ∙ sym e

pub not_text : (line : List ℕ) → (IsUtf8 line → ⊥) → is_utf8 line ≡ false
not_text line h = false_from_ne_true (is_utf8 line) (λ e. h (IsUtf8-from_is_utf8 line e))

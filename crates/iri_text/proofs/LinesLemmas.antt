-- The lines of a text, one after another.
use Rattle.iri_text.proofs.Common.{◌≡◌, ◌≤◌, length, ℕ, List, [], ◌∷◌, ◌++◌, refl, sym, ◌∙◌, ap, arith, append_assoc, append-nil, nat_tests}
use Rattle.std.proofs.Common.{◌≢◌, ◌==◌, true, false, if◌then◌else◌}
use Rattle.iri_text.specs.Lines.{NoLf, ended_from, no_cr, last_line, lines, lines_from}

-- one byte of a line
step : (prefix : List ℕ) (b : ℕ) (bs : List ℕ) → b ≢ 10 → lines_from prefix (b ∷ bs) ≡ lines_from (prefix ++ b ∷ []) bs
step prefix b bs h = grind (arith, nat_tests)

-- the bytes of a line
pub lines_from-append : (prefix raw rest : List ℕ) → NoLf raw → lines_from prefix (raw ++ rest) ≡ lines_from (prefix ++ raw) rest
lines_from-append prefix [] rest n = ap (λ f. lines_from f rest) (sym (append-nil prefix))
lines_from-append prefix (b ∷ raw) rest n =
    step prefix b (raw ++ rest) n.0 ∙ lines_from-append (prefix ++ b ∷ []) raw rest n.1
    ∙ ap (λ f. lines_from f rest) (append_assoc prefix (b ∷ []) raw)

-- a line that an LF ends
pub lines-lf : (raw rest : List ℕ) → NoLf raw → lines (raw ++ 10 ∷ rest) ≡ no_cr raw ∷ lines rest
lines-lf raw rest n = lines_from-append [] raw (10 ∷ rest) n

last_line-some : (raw : List ℕ) → raw ≢ [] → last_line raw ≡ no_cr raw ∷ []
last_line-some [] h = absurd (h refl)
last_line-some (b ∷ raw) h = refl

-- a last line
pub lines-last : (raw : List ℕ) → NoLf raw → raw ≢ [] → lines raw ≡ no_cr raw ∷ []
lines-last raw n h = ap lines (sym (append-nil raw)) ∙ lines_from-append [] raw [] n ∙ last_line-some raw h

pub no_cr-shorter : (raw : List ℕ) → length (no_cr raw) ≤ length raw
no_cr-shorter [] = omega arith
no_cr-shorter (b ∷ []) =
    elim (b == 13) as (λ c. length (if c then [] else b ∷ []) ≤ length (b ∷ [])) [ true ↦ omega arith | false ↦ omega arith ]
no_cr-shorter (b ∷ c ∷ raw) = let h = no_cr-shorter (c ∷ raw) in omega (arith, h)

-- ---- lines that an LF ends
module _ (cut : List ℕ → List ℕ) where
  ended_step : (prefix : List ℕ) (b : ℕ) (bs : List ℕ) → b ≢ 10 → ended_from cut prefix (b ∷ bs) ≡ ended_from cut (prefix ++ b ∷ []) bs
  ended_step prefix b bs h = grind (arith, nat_tests)

  -- the bytes of a line
  pub ended_from-append : (prefix raw rest : List ℕ) → NoLf raw → ended_from cut prefix (raw ++ rest) ≡ ended_from cut (prefix ++ raw) rest
  ended_from-append prefix [] rest n = ap (λ f. ended_from cut f rest) (sym (append-nil prefix))
  ended_from-append prefix (b ∷ raw) rest n =
      ended_step prefix b (raw ++ rest) n.0 ∙ ended_from-append (prefix ++ b ∷ []) raw rest n.1
      ∙ ap (λ f. ended_from cut f rest) (append_assoc prefix (b ∷ []) raw)

  -- a line that an LF ends
  pub ended-lf : (raw rest : List ℕ) → NoLf raw → ended_from cut [] (raw ++ 10 ∷ rest) ≡ cut raw ∷ ended_from cut [] rest
  ended-lf raw rest n = ended_from-append [] raw (10 ∷ rest) n

  -- bytes with no LF have no line that an LF ends
  pub ended-none : (raw : List ℕ) → NoLf raw → ended_from cut [] raw ≡ []
  ended-none raw n = ap (ended_from cut []) (sym (append-nil raw)) ∙ ended_from-append [] raw [] n

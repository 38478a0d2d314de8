-- What stands beside an ASCII delimiter is a text.
use Rattle.iri_grammar.proofs.Common.{◌≡◌, ℕ, ◌+◌, ◌<◌, List, [], ◌∷◌, ◌++◌, Some, length, drop, get_or, sym, ◌∙◌, ap, subst, arith}
use Rattle.iri_grammar.proofs.Common.{length-append, append_assoc, IsUtf8, IsUtf8-drop, IsUtf8-take, before, after, delimited}
use Rattle.std.proofs.lemmas.List.{drop_at}
use Rattle.std.proofs.Math.Seq.{get_or-append_seam, take-append_seam}
use Rattle.std.proofs.lemmas.Str.{IsCharBoundary-after_ascii, IsCharBoundary-before_ascii}
use Rattle.iri_grammar.proofs.splits.CutLaws.{joined}

pub text_after_delimiter : (c : ℕ) (b r : List ℕ) → c < 128 → IsUtf8 (b ++ c ∷ r) → IsUtf8 r
text_after_delimiter c b r l u =
    let t = b ++ c ∷ r in
    let at : get_or t (length b) 0 ≡ c = get_or-append_seam b c r 0 in
    let inside : length b < length t = omega (arith, length-append b (c ∷ r)) in
    let whole : (b ++ c ∷ []) ++ r ≡ t = append_assoc b (c ∷ []) r in
    let rest : drop (length b + 1) t ≡ r = ap (drop (length b + 1)) (sym whole)
    ∙ drop_at (b ++ c ∷ []) r (length b + 1) (length-append b (c ∷ [])) in
    subst IsUtf8 rest (IsUtf8-drop t (length b + 1) u (IsCharBoundary-after_ascii t (length b) u inside (omega (arith, at))))

pub text_before_delimiter : (c : ℕ) (b r : List ℕ) → c < 128 → IsUtf8 (b ++ c ∷ r) → IsUtf8 b
text_before_delimiter c b r l u =
    let t = b ++ c ∷ r in
    let at : get_or t (length b) 0 ≡ c = get_or-append_seam b c r 0 in
    let inside : length b < length t = omega (arith, length-append b (c ∷ r)) in
    subst IsUtf8 (take-append_seam b (c ∷ r))
    (IsUtf8-take t (length b) u (IsCharBoundary-before_ascii t (length b) inside (omega (arith, at))))

-- what follows the first delimiter
pub text_after : (c : ℕ) (t r : List ℕ) → c < 128 → IsUtf8 t → after c t ≡ Some r → IsUtf8 r
text_after c t r l u e =
    let whole : before c t ++ c ∷ r ≡ t = ap (λ o. before c t ++ delimited c o) (sym e) ∙ joined c t in
    text_after_delimiter c (before c t) r l (subst IsUtf8 (sym whole) u)

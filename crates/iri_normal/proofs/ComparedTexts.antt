-- A text compared with what is put piece by piece.
use Rattle.iri_normal.proofs.Common.{◌≡◌, ℕ, ◌+◌, true, false, List, ◌++◌, Option, Some, None, length, sym, ◌∙◌, ap, subst}
use Rattle.iri_normal.proofs.Common.{take-append-drop, MatchOption, Result, Err, take, drop, Bor, bytes_eq, take-append_seam}
use Rattle.iri_normal.specs.declared.comparison.Comparison.{Comparison}
use Rattle.iri_normal.specs.inside.Comparison.{IsApart, Differs}
use Rattle.iri_text.specs.declared.shown.show.Stop.{Stop}
use Rattle.std.proofs.lemmas.Slice.Eq.{bytes_eq-Decides}
use Rattle.std.specs.Prelude.{OnErr}

pub stands : (t p r : List ℕ) → bytes_eq (take (length p) t) p ≡ true → r ≡ drop (length p) t → t ≡ p ++ r
stands t p r h e = sym (take-append-drop (length p) t) ∙ ap (λ z. z ++ drop (length p) t) ((bytes_eq-Decides (take (length p) t) p).0 h)
    ∙ ap (λ z. p ++ z) (sym e)

pub apart : (t p : List ℕ) → bytes_eq (take (length p) t) p ≡ false → IsApart t p
apart t p h r e =
    let prefix : take (length p) t ≡ p = ap (take (length p)) e ∙ take-append_seam p r in
    let no : true ≡ false = sym ((bytes_eq-Decides (take (length p) t) p).1 prefix) ∙ h in
    cc

-- what `strip_prefix` answers, said of the whole text
pub stripped : (o : Option (Bor (List ℕ))) (t p : List ℕ)
    → MatchOption o (bytes_eq (take (length p) t) p ≡ false)
    (λ x. (bytes_eq (take (length p) t) p ≡ true) × (x.now ≡ drop (length p) t) × (length x.now + length p ≡ length t))
    → MatchOption o (IsApart t p) (λ r. t ≡ p ++ r.now)
stripped None t p h = apart t p h
stripped (Some x) t p h = stands t p x.now h.0 h.1

-- a text that was stopped at
pub stopped : (r : Result (Unit {0}) Stop) (x : Stop) (a b : Comparison) (t : List ℕ) → r ≡ Err x → OnErr r (Differs a t b)
    → IsApart a.left.now t
stopped r x a b t e h = (subst (λ z. OnErr z (Differs a t b)) e h).apart

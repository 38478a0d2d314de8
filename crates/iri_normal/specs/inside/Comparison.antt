-- A text compared with what is put piece by piece.
use Rattle.std.specs.Prelude.{◌≡◌, ℕ, List, [], ◌++◌}
use Rattle.std.proofs.Common.{refl, sym, ◌∙◌, ap, append_assoc}
use Rattle.std.proofs.lemmas.List.{append_cancel_left}
use Rattle.iri_normal.specs.declared.comparison.Comparison.{Comparison}

-- the piece doesn't stand at the start of the text
abbrev pub IsApart : List ℕ → List ℕ → Type 0
IsApart text piece = (rest : List ℕ) → text ≡ piece ++ rest → ⊥

-- the piece stood at the start, and what follows it is left
pub record Leaves (a : Comparison) (t : List ℕ) (b : Comparison) : Type 0 where
  pub left : a.left.now ≡ t ++ b.left.now

pub record Differs (a : Comparison) (t : List ℕ) (b : Comparison) : Type 0 where
  pub apart : IsApart a.left.now t

pub leaves_none : (a : Comparison) → Leaves a [] a
leaves_none a = record { left = refl }

pub leaves_both : (a b c : Comparison) (t u : List ℕ) → Leaves a t b → Leaves b u c → Leaves a (t ++ u) c
leaves_both a b c t u p q = record { left = p.left ∙ ap (λ l. t ++ l) q.left ∙ sym (append_assoc t u c.left.now) }

pub differs_until : (a b c : Comparison) (t u : List ℕ) → Leaves a t b → Differs b u c → Differs a (t ++ u) c
differs_until a b c t u p h = record {
  apart = λ r e. h.apart r
      (append_cancel_left t b.left.now (u ++ r) (sym p.left ∙ e ∙ append_assoc t u r));
}

pub differs_within : (a b : Comparison) (t u : List ℕ) → Differs a t b → Differs a (t ++ u) b
differs_within a b t u h = record { apart = λ r e. h.apart (u ++ r) (e ∙ append_assoc t u r) }

-- How a text begins, told from its pieces.
use Rattle.std.specs.Prelude.{◌≡◌, ℕ, Bool, true, false, cond, ◌==◌, List, [], ◌∷◌, ◌++◌}
use Rattle.std.proofs.Common.{refl, sym, ◌∙◌, ap}
use Rattle.iri_grammar.specs.Characters.{slash}
use Rattle.iri_normal.specs.declared.beginning.Begun.{Begun}
use Rattle.iri_normal.specs.declared.beginning.Begun.TheVariants.{Nothing, Slash, Slashes, Other}
use Rattle.iri_normal.specs.declared.beginning.Beginning.{Beginning}

abbrev pub after_byte : Begun → ℕ → Begun
after_byte Nothing b = cond (b == slash) Slash Other
after_byte Slash b = cond (b == slash) Slashes Other
after_byte Slashes b = Slashes
after_byte Other b = Other

abbrev pub begun_by : Begun → List ℕ → Begun
begun_by begun [] = begun
begun_by begun (b ∷ bs) = begun_by (after_byte begun b) bs

begun_by-append : (s : Begun) (t u : List ℕ) → begun_by s (t ++ u) ≡ begun_by (begun_by s t) u
begun_by-append s [] u = refl
begun_by-append s (b ∷ bs) u = begun_by-append (after_byte s b) bs u

-- the text was put
pub record Begins (a : Beginning) (t : List ℕ) (b : Beginning) : Type 0 where
  pub begun : b.begun ≡ begun_by a.begun t

-- it never stops
abbrev pub StopsNowhere : Beginning → List ℕ → Beginning → Type 0
StopsNowhere a t b = ⊥

pub begins_none : (a : Beginning) → Begins a [] a
begins_none a = record { begun = refl }

pub begins_both : (a b c : Beginning) (t u : List ℕ) → Begins a t b → Begins b u c → Begins a (t ++ u) c
begins_both a b c t u p q = record { begun = q.begun ∙ (ap (λ s. begun_by s u) p.begun ∙ sym (begun_by-append a.begun t u)) }

abbrev pub is_slashes : Begun → Bool
is_slashes Slashes = true
is_slashes _ = false

-- The command `register`: lines that are live, and share an entry.
use Rattle.std.specs.Prelude.{◌≡◌, ◌↔◌, ℕ, ◌+◌, List, ◌∷◌, ◌++◌, length, None, Contains}
use Rattle.std.specs.List.{All}
use Rattle.iri_grammar.specs.Classes.{Tests}
use Rattle.iri_grammar.specs.Fault.{bytes_fault}
use Rattle.iri_grammar.specs.WholeFault.{reference_fault}
use Rattle.iri_percent.specs.declared.canon_mode.CanonMode.{CanonMode}
use Rattle.iri_normal.specs.NormalForm.{canonical_in}
use Rattle.iri_register.specs.Entries.{Entry}
use Rattle.iri_register.specs.Shared.{TargetsJoin}
use Rattle.iri_cli.specs.canon.Answers.{refusal}
use Rattle.iri_cli.specs.register.Lines.{RegisterLine, adds, removes, finds, bad, line_of, entries_after}

module _ (s : Tests) (mode : CanonMode) (base : List ℕ) where
  -- the line takes the entry of this target out: it removes a reference without a fault that has this target
  abbrev pub TakesOut : List ℕ → RegisterLine → Type 0
  TakesOut target (removes r) = (bytes_fault (reference_fault s) r ≡ None) × (canonical_in s mode base r ≡ target)
  TakesOut target (adds r) = ⊥
  TakesOut target (finds r) = ⊥
  TakesOut target bad = ⊥

  -- Of the lines after the base, which has number 1, the one of this number adds this reference, which has no fault, and no line after it
  -- takes the entry of its target out.
  pub record IsLiveLine (lines : List (List ℕ)) (number : ℕ) (reference : List ℕ) : Type 0 where
    pub before : List (List ℕ)
    pub line : List ℕ
    pub after : List (List ℕ)
    pub split : lines ≡ before ++ line ∷ after
    pub numbered : number ≡ 2 + length before
    pub asks : line_of line ≡ adds reference
    pub faultless : bytes_fault (reference_fault s) reference ≡ None
    pub stays : All (λ l. ¬ (TakesOut (canonical_in s mode base reference) (line_of l))) after

  -- after these lines both numbers stand in the lines of one entry
  abbrev pub ShareEntry : List (List ℕ) → (m n : ℕ) → Type 0
  ShareEntry lines m n = (e : Entry) × Contains (entries_after s mode base lines) e × Contains e.lines m × Contains e.lines n

-- Two live lines share an entry exactly where their canonical targets are equal, and that is exactly where steps of the mode join the
-- targets of their references (RFC 3986 sections 5.2, 6.2.2 and 6.2.3).
pub record LiveLinesShareEntries (s : Tests) (mode : CanonMode) : Type 0 where
  pub targets : (base q r : List ℕ) (lines : List (List ℕ)) (m n : ℕ) → IsLiveLine s mode base lines m q → IsLiveLine s mode base lines n r
      → ShareEntry s mode base lines m n ↔ (canonical_in s mode base q ≡ canonical_in s mode base r)
  pub steps : (base q r : List ℕ) (lines : List (List ℕ)) (m n : ℕ) → refusal s base ≡ None → IsLiveLine s mode base lines m q
      → IsLiveLine s mode base lines n r → ShareEntry s mode base lines m n ↔ TargetsJoin s mode base q r

-- Valid parts make a text of each kind that allows what stands, and each text of a kind has such parts.
use Rattle.std.proofs.Common.{◌≡◌, ℕ, true, List, Option, Some, None, refl, sym, subst}
use Rattle.std.specs.Prelude.{not, is_some, IsNone}
use Rattle.iri_grammar.specs.Classes.{Tests, IsSpec}
use Rattle.iri_grammar.proofs.splits.CutLaws.{both}
use Rattle.iri_grammar.proofs.faults.MadeLaws.{made-reference, made-iri, made-absolute, made-relative}
use Rattle.iri_grammar.specs.Parts.{Parts, Fits, recompose}
use Rattle.iri_grammar.specs.Split.{split_of}
use Rattle.iri_grammar.proofs.splits.SplitUnique.{split_is}
use Rattle.iri_grammar.specs.WholeFault.{reference_fault, iri_fault, absolute_fault, relative_fault}
use Rattle.iri_grammar.proofs.faults.FaultLaws.{iri-law, absolute-law, relative-law}
use Rattle.iri_types.specs.Allowed.{allows_reference, allows_iri, allows_absolute, allows_relative}

absent : (o : Option (List ℕ)) → not (is_some o) ≡ true → IsNone o
absent None h = refl
absent (Some x) h = cc

none-absent : (o : Option (List ℕ)) → IsNone o → not (is_some o) ≡ true
none-absent None h = refl
none-absent (Some x) h = cc

-- ---- from parts to texts
pub reference-made : (s : Tests) → IsSpec s → (p : Parts) → Fits s p → allows_reference (is_some p.scheme) (is_some p.fragment) ≡ true
    → reference_fault s (recompose p) ≡ None
reference-made s k p f h = made-reference s k p f

pub iri-made : (s : Tests) → IsSpec s → (p : Parts) → Fits s p → allows_iri (is_some p.scheme) (is_some p.fragment) ≡ true
    → iri_fault s (recompose p) ≡ None
iri-made s k p f h = made-iri s k p f h

pub absolute-made : (s : Tests) → IsSpec s → (p : Parts) → Fits s p → allows_absolute (is_some p.scheme) (is_some p.fragment) ≡ true
    → absolute_fault s (recompose p) ≡ None
absolute-made s k p f h = let b = both (is_some p.scheme) (not (is_some p.fragment)) h in made-absolute s k p f b.0 (absent p.fragment b.1)

pub relative-made : (s : Tests) → IsSpec s → (p : Parts) → Fits s p → allows_relative (is_some p.scheme) (is_some p.fragment) ≡ true
    → relative_fault s (recompose p) ≡ None
relative-made s k p f h = made-relative s k p f (absent p.scheme h)

-- ---- from texts to parts
pub reference-allowed : (s : Tests) → IsSpec s → (t : List ℕ) → reference_fault s t ≡ None
    → allows_reference (is_some (split_of t).scheme) (is_some (split_of t).fragment) ≡ true
reference-allowed s k t h = refl

pub iri-allowed : (s : Tests) → IsSpec s → (t : List ℕ) → iri_fault s t ≡ None
    → allows_iri (is_some (split_of t).scheme) (is_some (split_of t).fragment) ≡ true
iri-allowed s k t h =
    let r = (iri-law s k t).0 h in
    subst (λ (p : Parts). allows_iri (is_some p.scheme) (is_some p.fragment) ≡ true) (sym (split_is s t r.0 k r.1)) r.2

pub absolute-allowed : (s : Tests) → IsSpec s → (t : List ℕ) → absolute_fault s t ≡ None
    → allows_absolute (is_some (split_of t).scheme) (is_some (split_of t).fragment) ≡ true
absolute-allowed s k t h =
    let r = (absolute-law s k t).0 h in
    subst (λ (p : Parts). allows_absolute (is_some p.scheme) (is_some p.fragment) ≡ true) (sym (split_is s t r.0 k r.1))
    (rw r.2 (none-absent r.0.fragment r.3))

pub relative-allowed : (s : Tests) → IsSpec s → (t : List ℕ) → relative_fault s t ≡ None
    → allows_relative (is_some (split_of t).scheme) (is_some (split_of t).fragment) ≡ true
relative-allowed s k t h =
    let r = (relative-law s k t).0 h in
    subst (λ (p : Parts). allows_relative (is_some p.scheme) (is_some p.fragment) ≡ true) (sym (split_is s t r.0 k r.1))
    (none-absent r.0.scheme r.2)

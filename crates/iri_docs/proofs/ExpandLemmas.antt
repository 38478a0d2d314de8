-- A template's expansion by its faults and its length.
use Rattle.iri_docs.proofs.Common.{◌≡◌, ◌∙◌, ℕ, List, Ok, Err, if◌then◌else◌, refl, sym, ap, value_in, ShownValue, AnswersBut, expanded}
use Rattle.iri_docs.proofs.Common.{expansion_within, IsExpanded, Template, TooLong, Memory}
use Rattle.std.proofs.Common.{◌≤◌, ◌<◌, length, Some, None, Result, true, false, nat_lt, arith}
use Rattle.std.specs.Prelude.{IfOk}
use Rattle.std.proofs.lemmas.Bool.Decides.{nat_tests}
use Rattle.iri_grammar.specs.Classes.{Tests, IsSpec}
use Rattle.iri_grammar.specs.Parts.{IsReference}
use Rattle.iri_grammar.specs.WholeFault.{reference_fault}
use Rattle.iri_grammar.proofs.faults.FaultLaws.{reference-law}
use Rattle.iri_template.specs.Expansion.{expansion}
use Rattle.iri_template.specs.Fault.{template_fault}
use Rattle.iri_template.specs.Reading.{pieces_of}
use Rattle.iri_template.specs.TypeFaults.{expansion_fault, type_fault}
use Rattle.iri_template.proofs.FaultLemmas.{neither}
use Rattle.iri_template.proofs.Grammar.{no_fault_is_template}
use Rattle.iri_template.specs.declared.error.Error.{Error}
use Rattle.iri_template.specs.declared.simple_context.SimpleContext.{SimpleContext}
use Rattle.iri_percent.specs.declared.canon_mode.CanonMode.{CanonMode}
use Rattle.iri_normal.specs.NormalForm.{canonical_in}
use Rattle.iri_owned.specs.OwnedText.{OwnedText}
use Rattle.iri_docs.specs.Documents.{result_and_then, unless}
use Rattle.iri_docs.specs.Expanded.{canonical_or_fault, expansion_limit, within_limit}
use Rattle.iri_docs.specs.Held.{Held}
use Rattle.iri_docs.specs.declared.expand_error.DocExpandError.{DocExpandError}
use Rattle.iri_docs.specs.declared.expand_error.DocExpandError.TheVariants.{Invalid}

module _ (s : Tests) (v : List ℕ → ShownValue) (t : List ℕ) where
  pub faulty : (e : Error) → expansion_fault v t ≡ Some e → expansion_within s v t ≡ Err (Template e)
  faulty e fault = ap (λ f. unless Template f (within_limit (expansion s v (pieces_of t)))) fault

  module _ (good : expansion_fault v t ≡ None) where
    pub by_length : expansion_within s v t ≡ within_limit (expansion s v (pieces_of t))
    by_length = ap (λ f. unless Template f (within_limit (expansion s v (pieces_of t)))) good

    pub too_long : expansion_limit < length (expansion s v (pieces_of t)) → expansion_within s v t ≡ Err TooLong
    too_long long =
        let past : nat_lt expansion_limit (length (expansion s v (pieces_of t))) ≡ true = grind (arith, nat_tests) in
        by_length ∙ rw past refl

    pub short : length (expansion s v (pieces_of t)) ≤ expansion_limit → expansion_within s v t ≡ Ok (expansion s v (pieces_of t))
    short fits =
        let within : nat_lt expansion_limit (length (expansion s v (pieces_of t))) ≡ false = grind (arith, nat_tests) in
        by_length ∙ rw within refl

-- the expansion of the same template with the same values
pub same_expansion : (s : Tests) (x y : SimpleContext) (t u : List ℕ) → x ≡ y → t ≡ u
    → expansion s (value_in x) (pieces_of t) ≡ expansion s (value_in y) (pieces_of u)
same_expansion s x y t u context text =
    ap (λ z. expansion s (value_in z) (pieces_of t)) context ∙ ap (λ z. expansion s (value_in y) (pieces_of z)) text

-- ---- what a text of a document is
ok_same : {x y : List ℕ} → ◌≡◌ {A = Result (List ℕ) DocExpandError} (Ok x) (Ok y) → x ≡ y
ok_same h = cc

module _ (s : Tests) (mode : CanonMode) (spec : IsSpec s) (base : List ℕ) (d : Held) (answer : List ℕ) where
  is_canonical : (t : List ℕ) → canonical_or_fault s mode base t ≡ Ok answer → (IsReference s t) × (answer ≡ canonical_in s mode base t)
  is_canonical t =
      elim (reference_fault s t) as (λ f. reference_fault s t ≡ f → unless (λ kind. Invalid (record { kind = kind })) f (Ok (canonical_in s mode base t)) ≡ Ok answer
      → (IsReference s t) × (answer ≡ canonical_in s mode base t)) [
        | None ↦ λ valid is. ((reference-law s spec t).0 valid, sym (ok_same is))
        | Some kind ↦ λ invalid is. cc
      ] refl

  is_within : (t : List ℕ) → result_and_then (canonical_or_fault s mode base) (within_limit t) ≡ Ok answer
      → (length t ≤ expansion_limit) × (IsReference s t) × (answer ≡ canonical_in s mode base t)
  is_within t =
      elim (nat_lt expansion_limit (length t)) as (λ b. nat_lt expansion_limit (length t) ≡ b
      → result_and_then (canonical_or_fault s mode base) (if b then Err TooLong else Ok t) ≡ Ok answer
      → (length t ≤ expansion_limit) × (IsReference s t) × (answer ≡ canonical_in s mode base t)) [
        | true ↦ λ long is. cc
        | false ↦ λ short is. let z = is_canonical t is in (grind (arith, nat_tests), z.0, z.1)
      ] refl

  pub is_expanded : expanded s mode base d.value_of d.template ≡ Ok answer → IsExpanded s mode base d answer
  is_expanded =
      let text = expansion s d.value_of (pieces_of d.template) in
      elim (expansion_fault d.value_of d.template) as (λ f. expansion_fault d.value_of d.template ≡ f
      → result_and_then (canonical_or_fault s mode base) (unless Template f (within_limit text)) ≡ Ok answer → IsExpanded s mode base d answer) [
        | None ↦ λ good is.
            let n = neither (template_fault d.template) (type_fault d.value_of (pieces_of d.template)) good in
            let z = is_within text is in
            record {
              pieces = pieces_of d.template;
              spelled = no_fault_is_template d.template n.0;
              typed = n.1;
              within = z.0;
              reference = z.1;
              canonical_is = z.2;
            }
        | Some e ↦ λ bad is. cc
      ] refl

pub all_expanded : (s : Tests) (mode : CanonMode) (spec : IsSpec s) (base : List ℕ) (d : Held) (x : Result OwnedText DocExpandError)
    → AnswersBut Memory (λ t. t.text) x (expanded s mode base d.value_of d.template) → IfOk x (λ t. IsExpanded s mode base d t.text)
all_expanded s mode spec base d (Ok t) h = is_expanded s mode spec base d t.text h
all_expanded s mode spec base d (Err e) h = tt

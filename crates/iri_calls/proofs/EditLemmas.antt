-- What edits come to where the text is a reference.
use Rattle.iri_calls.proofs.Common.{◌≡◌, ℕ, List, ◌++◌, ◌∷◌, None, Some, sym, ◌∙◌, ap, Tests, IsSpec, before, bytes_fault, fragment_fault}
use Rattle.iri_calls.proofs.Common.{reference_fault, ErrorKind, no_fault, BAD_TEXT, Outcome, text, unless_fault}
use Rattle.iri_edit.specs.Fragment.{with_fragment}
use Rattle.iri_edit.specs.Password.{with_password}
use Rattle.iri_edit.proofs.FragmentLemmas.{fragment-removed, fragment-put}
use Rattle.iri_normal.proofs.canonical_texts.CanonicalTexts.{fault_none}
use Rattle.iri_calls.specs.Edits.{cut_in, fragment_in, password_in}
use Rattle.iri_calls.specs.declared.status.TheConstants.{BAD_PART}
use Rattle.iri_calls.specs.Outcome.Outcome.{fault}
use Rattle.iri_calls.specs.Outcomes.{of_reference}

module _ (s : Tests) (k : IsSpec s) (t : List ℕ) (none : bytes_fault (reference_fault s) t ≡ None) where
  is_reference : (next : Outcome) → next ≡ of_reference t s next
  is_reference next = ap (λ o. unless_fault BAD_TEXT o next) (sym none)

  pub password_text : (v w : List ℕ) → v ≡ t → bytes_fault no_fault w ≡ None → text (with_password v w) ≡ password_in t w s
  password_text v w e free =
      ap (λ x. text (with_password x w)) e ∙ ap (λ o. unless_fault BAD_PART o (text (with_password t w))) (sym free)
      ∙ is_reference (unless_fault BAD_PART (bytes_fault no_fault w) (text (with_password t w)))

  pub password_refused : (w : List ℕ) (kind : ErrorKind) → bytes_fault no_fault w ≡ Some kind → fault BAD_PART kind ≡ password_in t w s
  password_refused w kind e =
      ap (λ o. unless_fault BAD_PART o (text (with_password t w))) (sym e)
      ∙ is_reference (unless_fault BAD_PART (bytes_fault no_fault w) (text (with_password t w)))

  pub cut_text : (x : List ℕ) → x ≡ before 35 t → text x ≡ cut_in t s
  cut_text x e =
      ap text (e ∙ sym (fragment-removed s k t (fault_none (reference_fault s) t none)))
      ∙ is_reference (text (with_fragment t None))

  pub fragment_text : (x f : List ℕ) → x ≡ before 35 t → bytes_fault (fragment_fault s) f ≡ None → text (x ++ 35 ∷ f) ≡ fragment_in t f s
  fragment_text x f e free =
      ap text (ap (λ y. y ++ 35 ∷ f) e ∙ sym (fragment-put s k t (fault_none (reference_fault s) t none) f))
      ∙ ap (λ o. unless_fault BAD_PART o (text (with_fragment t (Some f)))) (sym free)
      ∙ is_reference (unless_fault BAD_PART (bytes_fault (fragment_fault s) f) (text (with_fragment t (Some f))))

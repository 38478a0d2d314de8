-- The answers of `parts`.
use Rattle.iri_cli.proofs.Common.{◌≡◌, ◌∙◌, ℕ, true, false, List, Option, Some, None, refl, sym, ap, subst}
use Rattle.iri_cli.proofs.Common.{Tests, IsSpec, split_of, bytes_fault, reference_fault, ErrorKind, CanonMode, canonical_in}
use Rattle.iri_grammar.specs.Authority.{ReadsAuthority, authority_parts, is_authority}
use Rattle.iri_grammar.specs.Components.{if_there}
use Rattle.iri_grammar.specs.ErrorTexts.{description}
use Rattle.iri_grammar.specs.Parts.{IsIri, IsReference, Parts, Splits}
use Rattle.iri_grammar.proofs.authorities.AuthorityLaws.{authority_law, reading_is}
use Rattle.iri_grammar.proofs.splits.SplitUnique.{split_is}
use Rattle.iri_normal.proofs.canonical_texts.CanonicalTexts.{canonical_in-iri, canonical_in-splits, canonical_in-split}
use Rattle.iri_cli.specs.parts.Object.{bad_text, parts_text}
use Rattle.iri_cli.specs.parts.Answers.{AnswersAreTakenApart, parts_answer, parts_line}
use Rattle.iri_cli.specs.parts.Rules.{is_taken_apart}
use Rattle.iri_cli.proofs.BytesLemmas.{base_absolute, line_reference}
use Rattle.iri_cli.proofs.Unescaped.{reference_unescaped}

iri_reference : (s : Tests) (t : List ℕ) → IsIri s t → IsReference s t
iri_reference s t r = (r.0, r.1)

pub answer_of_reference : (s : Tests) (m : CanonMode) (base reference line : List ℕ) → bytes_fault (reference_fault s) line ≡ None → reference ≡ line
    → parts_text (canonical_in s m base reference) (split_of (canonical_in s m base reference)) ≡ parts_answer s m base line
unfolding parts_answer
answer_of_reference s m base reference line none is =
    ap (λ x. parts_line None (canonical_in s m base x) (split_of (canonical_in s m base x))) is
    ∙ ap (λ f. parts_line f (canonical_in s m base line) (split_of (canonical_in s m base line))) (sym none)

pub answer_of_fault : (s : Tests) (m : CanonMode) (base line : List ℕ) (kind : ErrorKind) → bytes_fault (reference_fault s) line ≡ Some kind
    → bad_text (description kind) ≡ parts_answer s m base line
unfolding parts_answer
answer_of_fault s m base line kind some =
    ap (λ f. parts_line f (canonical_in s m base line) (split_of (canonical_in s m base line))) (sym some)

-- which answers are good
pub good_by_text : (text : List ℕ) (p : Parts) → true ≡ is_taken_apart (parts_text text p)
good_by_text text p = refl

pub bad_by_words : (words : List ℕ) → false ≡ is_taken_apart (bad_text words)
bad_by_words words = refl

authority_reads : (s : Tests) → IsSpec s → (o : Option (List ℕ)) → if_there (is_authority s) o ≡ true → (a : List ℕ) → o ≡ Some a
    → ReadsAuthority s a (authority_parts a)
authority_reads s k o h a e =
    let is : is_authority s a ≡ true = subst (λ x. if_there (is_authority s) x ≡ true) e h in
    let r = (authority_law s k a).0 is in
    subst (ReadsAuthority s a) (sym (reading_is s k a r.0 r.1)) r.1

pub answers_are_taken_apart : (s : Tests) (m : CanonMode) → IsSpec s → AnswersAreTakenApart s m
unfolding parts_answer
answers_are_taken_apart s m k base line taken none =
    let b = base_absolute s k base taken in
    let r = line_reference s k line none in
    let text = canonical_in s m base line in
    let splits : Splits s text (split_of text) =
    subst (Splits s text) (sym (canonical_in-split s m base line k b r)) (canonical_in-splits s m base line k b r) in
    record {
      text = text;
      parts = split_of text;
      canonical_is = refl;
      valid = canonical_in-iri s m base line k b r;
      splits = splits;
      one = λ other h. sym (split_is s text other k h);
      authority = authority_reads s k (split_of text).authority splits.fits.authority;
      unescaped = reference_unescaped s k text (iri_reference s text (canonical_in-iri s m base line k b r));
      answer_is = rw none refl;
    }

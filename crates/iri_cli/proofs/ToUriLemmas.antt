-- The answers of `canon` with `to uri`.
use Rattle.iri_cli.proofs.Common.{◌≡◌, ◌∙◌, ℕ, List, None, Some, refl, sym, ap, subst, Tests, IsSpec, bytes_fault, reference_fault, ErrorKind}
use Rattle.iri_cli.proofs.Common.{CanonMode, canonical_in, answer_by, good_answer, bad_answer}
use Rattle.iri_grammar.specs.Classes.{uri_tests}
use Rattle.iri_grammar.specs.inside.Laws.{uri_is_spec}
use Rattle.iri_normal.proofs.canonical_texts.CanonicalTexts.{canonical_in-iri, canonical_in-split, canonical_in-own}
use Rattle.iri_normal.proofs.mapping.MappedForms.{mapped-canonical}
use Rattle.iri_grammar.specs.Parts.{IsIri}
use Rattle.iri_grammar.specs.Split.{split_of}
use Rattle.iri_percent.proofs.mapping.Productions.{mapped-absolute, mapped-reference}
use Rattle.iri_percent.specs.Mapping.{mapped}
use Rattle.iri_cli.specs.to_uri.Answers.{AnswersAreCanonicalUris, uri_answer}
use Rattle.iri_cli.proofs.BytesLemmas.{base_absolute, line_reference}

-- the answer to a line that is a reference, and to one that has a fault
pub answer_of_reference : (s : Tests) (m : CanonMode) (base reference line : List ℕ) → bytes_fault (reference_fault s) line ≡ None
    → reference ≡ line → good_answer (mapped (canonical_in s m base reference)) ≡ uri_answer s m base line
unfolding uri_answer
answer_of_reference s m base reference line none is =
    ap (λ r. good_answer (mapped (canonical_in s m base r))) is ∙ ap (λ f. answer_by f (mapped (canonical_in s m base line))) (sym none)

pub answer_of_fault : (s : Tests) (m : CanonMode) (base line : List ℕ) (kind : ErrorKind) → bytes_fault (reference_fault s) line ≡ Some kind
    → bad_answer kind ≡ uri_answer s m base line
unfolding uri_answer
answer_of_fault s m base line kind some = ap (λ f. answer_by f (mapped (canonical_in s m base line))) (sym some)

-- each good answer is a canonical text, mapped
pub answers_are_canonical_uris : (s : Tests) (m : CanonMode) → IsSpec s → AnswersAreCanonicalUris s m
unfolding uri_answer
answers_are_canonical_uris s m k base line taken none =
    let b = base_absolute s k base taken in
    let r = line_reference s k line none in
    let is = mapped-canonical s m base line k b r in
    let mb = mapped-absolute s base k b in
    let mr = mapped-reference s line k r in
    record {
      text = mapped (canonical_in s m base line);
      answer_is = rw none refl;
      mapped_is = refl;
      canonical_is = is;
      valid = subst (IsIri uri_tests) (sym is) (canonical_in-iri uri_tests m _ _ uri_is_spec mb mr);
      splits = ap split_of is ∙ canonical_in-split uri_tests m _ _ uri_is_spec mb mr;
      own = λ other _. ap (canonical_in uri_tests m other) is ∙ canonical_in-own uri_tests m _ _ other uri_is_spec mb mr ∙ sym is;
    }

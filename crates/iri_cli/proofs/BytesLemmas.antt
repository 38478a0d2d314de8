-- The first fault of bytes, and what follows where there is none.
use Rattle.iri_cli.proofs.Common.{◌≡◌, ℕ, List, Option, Some, None, refl, ap, Tests, IsSpec, bytes_fault, absolute-law, IsAbsolute, CanonMode}
use Rattle.iri_cli.proofs.Common.{of_bytes, reference-utf8, canonical_in, absolute_fault, reference_fault, ErrorKind, tests_of, refusal, answer_in}
use Rattle.std.specs.Prelude.{option_map}
use Rattle.iri_grammar.specs.ErrorTexts.{description}
use Rattle.iri_grammar.specs.Classes.{uri_tests}
use Rattle.iri_grammar.proofs.faults.FaultLaws.{reference-law}
use Rattle.iri_grammar.proofs.faults.UriLaws.{absolute-wider}
use Rattle.iri_grammar.specs.Parts.{IsReference}
use Rattle.iri_normal.proofs.canonical_texts.CanonicalTexts.{canonical_in-iri, canonical_in-split, canonical_in-own, fault_none}
use Rattle.iri_grammar.specs.inside.Laws.{uri_is_spec, iri_is_spec}
use Rattle.iri_cli.specs.declared.run.words.Grammar.{Grammar}
use Rattle.iri_cli.specs.declared.run.words.Grammar.TheVariants.{Uri, Iri}
use Rattle.iri_cli.specs.canon.Answers.{AnswersAreCanonicalIn}

pub refused_none : (k : Option ErrorKind) → option_map description k ≡ None → k ≡ None
refused_none None h = refl
refused_none (Some k) h = cc

-- what is said of a base by its first fault
pub no_fault_taken : (s : Tests) (bs : List ℕ) → bytes_fault (absolute_fault s) bs ≡ None → refusal s bs ≡ None
unfolding refusal
no_fault_taken s bs none = ap (option_map description) none

pub taken_no_fault : (s : Tests) (bs : List ℕ) → refusal s bs ≡ None → bytes_fault (absolute_fault s) bs ≡ None
unfolding refusal
taken_no_fault s bs taken = refused_none (bytes_fault (absolute_fault s) bs) taken

pub fault_refused : (s : Tests) (bs : List ℕ) (kind : ErrorKind) → bytes_fault (absolute_fault s) bs ≡ Some kind
    → refusal s bs ≡ Some (description kind)
unfolding refusal
fault_refused s bs kind some = ap (option_map description) some

-- a base that is taken is an absolute URI of the spec
pub base_absolute : (s : Tests) → IsSpec s → (bs : List ℕ) → refusal s bs ≡ None → IsAbsolute s bs
base_absolute s l bs h = (absolute-law s l bs).0 (fault_none (absolute_fault s) bs (taken_no_fault s bs h))

-- a base without a fault in the grammar of URIs is taken
pub taken_of_uris : (s : Tests) → IsSpec s → (base : List ℕ) → absolute_fault uri_tests base ≡ None → refusal s base ≡ None
taken_of_uris s k base none =
    let valid = absolute-wider s base ((absolute-law uri_tests uri_is_spec base).0 none) in
    no_fault_taken s base ((of_bytes (absolute_fault s) (IsAbsolute s base) base (λ r. reference-utf8 s base (r.0, r.1))
    (absolute-law s k base)).1 valid)

-- a line without a fault is a reference
pub line_reference : (s : Tests) → IsSpec s → (bs : List ℕ) → bytes_fault (reference_fault s) bs ≡ None → IsReference s bs
line_reference s l bs h = (reference-law s l bs).0 (fault_none (reference_fault s) bs h)

-- each good answer is canonical
pub canonical_answers : (s : Tests) (m : CanonMode) → IsSpec s → AnswersAreCanonicalIn s m
unfolding answer_in
canonical_answers s m l base line taken none =
    let b = base_absolute s l base taken in
    let r = line_reference s l line none in
    record {
      text = canonical_in s m base line;
      answer_is = rw none refl;
      canonical_is = refl;
      valid = canonical_in-iri s m base line l b r;
      splits = canonical_in-split s m base line l b r;
      own = λ other _. canonical_in-own s m base line other l b r;
    }

-- both grammars are specs
pub grammar_is_spec : (grammar : Grammar) → IsSpec (tests_of grammar)
grammar_is_spec Uri = uri_is_spec
grammar_is_spec Iri = iri_is_spec

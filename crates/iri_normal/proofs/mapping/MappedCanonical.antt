-- A canonical text, mapped, is one of URIs.
use Rattle.iri_normal.proofs.Common.{◌≡◌, ◌∙◌, ℕ, List, None, sym, ap, subst, Tests, IsSpec, absolute-law, reference-law, canonical_in, split_of}
use Rattle.iri_grammar.specs.Classes.{uri_tests}
use Rattle.iri_grammar.specs.Fault.{bytes_fault}
use Rattle.iri_grammar.specs.Parts.{IsIri}
use Rattle.iri_grammar.specs.WholeFault.{absolute_fault, reference_fault}
use Rattle.iri_grammar.specs.inside.Laws.{uri_is_spec}
use Rattle.iri_percent.proofs.mapping.Productions.{mapped-absolute, mapped-reference}
use Rattle.iri_percent.specs.Mapping.{mapped}
use Rattle.iri_percent.specs.declared.canon_mode.CanonMode.{CanonMode}
use Rattle.iri_normal.specs.Canonicalized.{IsCanonicalTextIn}
use Rattle.iri_normal.proofs.canonical_texts.CanonicalTexts.{canonical_in-iri, canonical_in-own, canonical_in-split, fault_none}
use Rattle.iri_normal.proofs.mapping.MappedForms.{mapped-canonical}

pub mapped_is_canonical : (s : Tests) (m : CanonMode) → IsSpec s → (base reference t : List ℕ) → bytes_fault (absolute_fault s) base ≡ None
    → bytes_fault (reference_fault s) reference ≡ None → t ≡ mapped (canonical_in s m base reference)
    → IsCanonicalTextIn uri_tests m (mapped base) (mapped reference) t
mapped_is_canonical s m k base reference t hb hr e =
    let b = (absolute-law s k base).0 (fault_none (absolute_fault s) base hb) in
    let r = (reference-law s k reference).0 (fault_none (reference_fault s) reference hr) in
    let is = e ∙ mapped-canonical s m base reference k b r in
    let mb = mapped-absolute s base k b in
    let mr = mapped-reference s reference k r in
    record {
      canonical_is = is;
      valid = subst (IsIri uri_tests) (sym is) (canonical_in-iri uri_tests m _ _ uri_is_spec mb mr);
      splits = ap split_of is ∙ canonical_in-split uri_tests m _ _ uri_is_spec mb mr;
      own = λ other _. ap (canonical_in uri_tests m other) is ∙ canonical_in-own uri_tests m _ _ other uri_is_spec mb mr ∙ sym is;
    }

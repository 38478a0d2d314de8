-- Laws of the kinds: a text of URIs is one of every grammar, so of IRIs; texts of whole kinds are references.
use Rattle.std.proofs.Common.{◌≡◌, ◌↔◌, ℕ, List, Option, None, sym, subst}
use Rattle.std.specs.Prelude.{IsSome}
use Rattle.iri_grammar.specs.Classes.{Tests, IsSpec, uri_tests}
use Rattle.iri_grammar.specs.Components.{is_query, is_fragment}
use Rattle.iri_grammar.specs.inside.Laws.{uri_is_spec}
use Rattle.iri_grammar.specs.Parts.{Parts, IsReference, IsIri, IsAbsolute, IsRelative}
use Rattle.iri_grammar.specs.Split.{split_of}
use Rattle.iri_grammar.proofs.splits.SplitUnique.{split_is}
use Rattle.iri_grammar.specs.Fault.{query_fault, fragment_fault}
use Rattle.iri_grammar.specs.WholeFault.{reference_fault, iri_fault, absolute_fault, relative_fault}
use Rattle.iri_grammar.proofs.faults.FaultLaws.{passed, no_fault, no_fault_where_splits, reference-law, iri-law, absolute-law, relative-law}
use Rattle.iri_grammar.proofs.faults.UriLaws.{query-wider, fragment-wider, reference-wider, iri-wider, absolute-wider, relative-wider}
use Rattle.iri_grammar.specs.declared.error.ErrorKind.{ErrorKind}
use Rattle.iri_grammar.specs.declared.error.ErrorKind.TheVariants.{InvalidQuery, InvalidFragment}

-- ---- what has no fault as a text of URIs has none in any grammar
-- by a production that the fault is about
wider_by : (fault : Tests → List ℕ → Option ErrorKind) (P : Tests → List ℕ → Type 0)
    → ((s : Tests) → IsSpec s → (t : List ℕ) → (fault s t ≡ None) ↔ P s t)
    → ((s : Tests) (t : List ℕ) → P uri_tests t → P s t)
    → (s : Tests) → IsSpec s → (t : List ℕ) → fault uri_tests t ≡ None → fault s t ≡ None
wider_by fault P law wider s k t h = (law s k t).1 (wider s t ((law uri_tests uri_is_spec t).0 h))

pub reference-within : (s : Tests) → IsSpec s → (t : List ℕ) → reference_fault uri_tests t ≡ None → reference_fault s t ≡ None
reference-within = wider_by reference_fault IsReference reference-law reference-wider

pub iri-within : (s : Tests) → IsSpec s → (t : List ℕ) → iri_fault uri_tests t ≡ None → iri_fault s t ≡ None
iri-within = wider_by iri_fault IsIri iri-law iri-wider

pub absolute-within : (s : Tests) → IsSpec s → (t : List ℕ) → absolute_fault uri_tests t ≡ None → absolute_fault s t ≡ None
absolute-within = wider_by absolute_fault IsAbsolute absolute-law absolute-wider

pub relative-within : (s : Tests) → IsSpec s → (t : List ℕ) → relative_fault uri_tests t ≡ None → relative_fault s t ≡ None
relative-within = wider_by relative_fault IsRelative relative-law relative-wider

pub query-within : (s : Tests) → IsSpec s → (t : List ℕ) → query_fault uri_tests t ≡ None → query_fault s t ≡ None
query-within s k t h = no_fault (is_query s t) InvalidQuery (query-wider s t (passed (is_query uri_tests t) InvalidQuery h))

pub fragment-within : (s : Tests) → IsSpec s → (t : List ℕ) → fragment_fault uri_tests t ≡ None → fragment_fault s t ≡ None
fragment-within s k t h = no_fault (is_fragment s t) InvalidFragment
    (fragment-wider s t (passed (is_fragment uri_tests t) InvalidFragment h))

-- ---- texts of whole kinds are references
pub reference-whole : (s : Tests) → IsSpec s → (t : List ℕ) → reference_fault s t ≡ None → reference_fault s t ≡ None
reference-whole s k t h = h

pub iri-whole : (s : Tests) → IsSpec s → (t : List ℕ) → iri_fault s t ≡ None → reference_fault s t ≡ None
iri-whole s k t h = let r = (iri-law s k t).0 h in no_fault_where_splits s k t r.0 r.1

pub absolute-whole : (s : Tests) → IsSpec s → (t : List ℕ) → absolute_fault s t ≡ None → reference_fault s t ≡ None
absolute-whole s k t h = let r = (absolute-law s k t).0 h in no_fault_where_splits s k t r.0 r.1

pub relative-whole : (s : Tests) → IsSpec s → (t : List ℕ) → relative_fault s t ≡ None → reference_fault s t ≡ None
relative-whole s k t h = let r = (relative-law s k t).0 h in no_fault_where_splits s k t r.0 r.1

-- ---- texts with a scheme
pub absolute-scheme : (s : Tests) → IsSpec s → (t : List ℕ) → absolute_fault s t ≡ None → IsSome (split_of t).scheme
absolute-scheme s k t h = let r = (absolute-law s k t).0 h in subst (λ (p : Parts). IsSome p.scheme) (sym (split_is s t r.0 k r.1)) r.2

-- Valid parts whose path keeps the rules make a valid text, and their text is split into them.
use Rattle.iri_grammar.proofs.Common.{◌≡◌, true, List, ℕ, None, refl, IsSome, IsNone, Tests, IsSpec, recompose_authority, authority_parts}
use Rattle.iri_grammar.proofs.Common.{is_authority, Parts, Fits, Splits, recompose, split_of, reference_fault, iri_fault}
use Rattle.iri_grammar.specs.Authority.{AuthorityParts, FitsAuthority}
use Rattle.iri_grammar.proofs.authorities.AuthorityLaws.{reading_is, passes}
use Rattle.iri_grammar.proofs.splits.SplitUnique.{split_is}
use Rattle.iri_grammar.specs.WholeFault.{absolute_fault, relative_fault}
use Rattle.iri_grammar.proofs.faults.FaultLaws.{splits_where_no_fault, no_fault_where_splits, iri-law, absolute-law, relative-law}

made-splits : (s : Tests) (p : Parts) → Fits s p → Splits s (recompose p) p
made-splits s p f = record { fits = f; text = refl }

pub made-split : (s : Tests) → IsSpec s → (p : Parts) → Fits s p → split_of (recompose p) ≡ p
made-split s k p f = split_is s (recompose p) p k (made-splits s p f)

pub made-reference : (s : Tests) → IsSpec s → (p : Parts) → Fits s p → reference_fault s (recompose p) ≡ None
made-reference s k p f = no_fault_where_splits s k (recompose p) p (made-splits s p f)

pub made-iri : (s : Tests) → IsSpec s → (p : Parts) → Fits s p → IsSome p.scheme → iri_fault s (recompose p) ≡ None
made-iri s k p f i = (iri-law s k (recompose p)).1 (p, made-splits s p f, i)

pub made-absolute : (s : Tests) → IsSpec s → (p : Parts) → Fits s p → IsSome p.scheme → IsNone p.fragment
    → absolute_fault s (recompose p) ≡ None
made-absolute s k p f i n = (absolute-law s k (recompose p)).1 (p, made-splits s p f, i, n)

pub made-relative : (s : Tests) → IsSpec s → (p : Parts) → Fits s p → IsNone p.scheme → relative_fault s (recompose p) ≡ None
made-relative s k p f n = (relative-law s k (recompose p)).1 (p, made-splits s p f, n)

-- the parts of a valid text
pub split-fits : (s : Tests) (t : List ℕ) → reference_fault s t ≡ None → Fits s (split_of t)
split-fits s t h = (splits_where_no_fault s t h).fits

-- ---- the same of authorities
pub made-authority : (s : Tests) → IsSpec s → (a : AuthorityParts) → FitsAuthority s a → is_authority s (recompose_authority a) ≡ true
made-authority s k a f = passes s k (recompose_authority a) a (f, refl)

pub made-reading : (s : Tests) → IsSpec s → (a : AuthorityParts) → FitsAuthority s a → authority_parts (recompose_authority a) ≡ a
made-reading s k a f = reading_is s k (recompose_authority a) a (f, refl)

-- Texts of one kind that are, or hold, texts of another.
use Rattle.std.proofs.Common.{◌≡◌, ℕ, true, List, ◌++◌, Some, None, refl, sym, ◌∙◌, ap, subst, append_assoc}
use Rattle.std.specs.Prelude.{IsSome, IsNone}
use Rattle.iri_grammar.specs.Classes.{Tests, IsSpec}
use Rattle.iri_grammar.specs.Cut.{before, after, lacks, delimited}
use Rattle.iri_grammar.proofs.splits.CutLaws.{after-delimited, lacks-append, joined}
use Rattle.iri_grammar.specs.Parts.{Parts, recompose, scheme_text, authority_text}
use Rattle.iri_grammar.specs.Split.{split_of}
use Rattle.iri_grammar.proofs.splits.SplitLaws.{Delimiters, recompose_split, authority_text-lacks, delimited-lacks}
use Rattle.iri_grammar.proofs.splits.SplitUnique.{fits-delimiters}
use Rattle.iri_grammar.specs.WholeFault.{reference_fault, iri_fault, absolute_fault, relative_fault}
use Rattle.iri_grammar.proofs.faults.FaultLaws.{splits_where_no_fault, iri-law, absolute-law, relative-law}
use Rattle.iri_types.specs.inside.KindLaws.{iri-whole}
use Rattle.iri_grammar.proofs.faults.KindLaws.{iri-has_scheme as iri-scheme, scheme_text-lacks, splits_without_fragment, without_fragment}

-- ---- a reference is an IRI where a scheme stands, and otherwise a relative reference
pub reference-iri : (s : Tests) → IsSpec s → (t u : List ℕ) → reference_fault s t ≡ None → t ≡ u → (x : List ℕ)
    → Some x ≡ (split_of u).scheme → iri_fault s t ≡ None
reference-iri s k t u h e x i = (iri-law s k t).1 (
  split_of t,
  splits_where_no_fault s t h,
  subst (λ o. IsSome o) (i ∙ ap (λ z. (split_of z).scheme) (sym e)) refl,
)

pub reference-relative : (s : Tests) → IsSpec s → (t u : List ℕ) → reference_fault s t ≡ None → t ≡ u → None ≡ (split_of u).scheme
    → relative_fault s t ≡ None
reference-relative s k t u h e i = (relative-law s k t).1
    (split_of t, splits_where_no_fault s t h, subst (λ o. IsNone o) (i ∙ ap (λ z. (split_of z).scheme) (sym e)) refl)

pub absolute-iri : (s : Tests) → IsSpec s → (t : List ℕ) → absolute_fault s t ≡ None → iri_fault s t ≡ None
absolute-iri s k t h = let r = (absolute-law s k t).0 h in (iri-law s k t).1 (r.0, r.1, r.2)

-- ---- what stands before the fragment
-- the parts but the fragment, as they stand in the text
abbrev prefix_of : Parts → List ℕ
prefix_of p = scheme_text p.scheme ++ (authority_text p.authority ++ (p.path ++ delimited 63 p.query))

recompose-prefix : (p : Parts) → recompose p ≡ prefix_of p ++ delimited 35 p.fragment
unfolding recompose
recompose-prefix p = regroup (scheme_text p.scheme) (authority_text p.authority) p.path (delimited 63 p.query) (delimited 35 p.fragment)
  where
    regroup : (a b c d e : List ℕ) → a ++ (b ++ (c ++ (d ++ e))) ≡ (a ++ (b ++ (c ++ d))) ++ e
    regroup a b c d e = simp append_assoc

lacks-prefix : (p : Parts) → Delimiters p → lacks 35 (prefix_of p) ≡ true
lacks-prefix p m =
    lacks-append 35 (scheme_text p.scheme) _ (scheme_text-lacks p.scheme m.scheme)
    (lacks-append 35 (authority_text p.authority) _ (authority_text-lacks 35 p.authority refl m.authority_hash)
    (lacks-append 35 p.path (delimited 63 p.query) m.path_hash (delimited-lacks 35 63 p.query refl m.query_hash)))

lacks-split : (s : Tests) → IsSpec s → (t : List ℕ) → reference_fault s t ≡ None → lacks 35 (prefix_of (split_of t)) ≡ true
lacks-split s k t h = lacks-prefix (split_of t) (fits-delimiters s (split_of t) k (splits_where_no_fault s t h).fits)

text-prefix : (t : List ℕ) → t ≡ prefix_of (split_of t) ++ delimited 35 (split_of t).fragment
text-prefix t = sym (recompose_split t) ∙ recompose-prefix (split_of t)

-- what comes after the `#` is the fragment
pub fragment-after : (s : Tests) → IsSpec s → (t : List ℕ) → reference_fault s t ≡ None → after 35 t ≡ (split_of t).fragment
fragment-after s k t h = ap (after 35) (text-prefix t)
    ∙ after-delimited 35 (prefix_of (split_of t)) (split_of t).fragment (lacks-split s k t h)

-- what stands before the `#` of an IRI is an absolute IRI
pub prefix-absolute : (s : Tests) → IsSpec s → (t : List ℕ) → iri_fault s t ≡ None → absolute_fault s (before 35 t) ≡ None
prefix-absolute s k t h =
    let whole = splits_where_no_fault s t (iri-whole s k t h) in
    (absolute-law s k (before 35 t)).1
    (without_fragment (split_of t), splits_without_fragment s k t (split_of t) whole, iri-scheme s k t h, refl)

-- both joined are the text
pub prefix-joined : (s : Tests) → IsSpec s → (t : List ℕ) → iri_fault s t ≡ None → before 35 t ++ delimited 35 (split_of t).fragment ≡ t
prefix-joined s k t h = ap (λ o. before 35 t ++ delimited 35 o) (sym (fragment-after s k t (iri-whole s k t h))) ∙ joined 35 t

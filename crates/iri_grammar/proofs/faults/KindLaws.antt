-- From one kind of whole text to another, and from a whole text to its parts, said of faults.
use Rattle.iri_grammar.proofs.Common.{◌≡◌, ℕ, true, List, [], ◌∷◌, ◌++◌, Option, Some, None, refl, sym, ◌∙◌, ap, subst, append_assoc}
use Rattle.iri_grammar.proofs.Common.{IsSome, append-nil, Tests, IsSpec, if_there, is_scheme, before, lacks, delimited, Parts, Splits}
use Rattle.iri_grammar.proofs.Common.{recompose, scheme_text, authority_text, split_of, iri_fault}
use Rattle.iri_grammar.proofs.splits.CutLaws.{before-delimited, lacks-append, lacks-other}
use Rattle.iri_grammar.proofs.splits.SplitLaws.{Delimiters, scheme-lacks, hash_ends, authority_text-lacks, delimited-lacks}
use Rattle.iri_grammar.proofs.splits.SplitUnique.{fits-delimiters, split_is}
use Rattle.iri_grammar.proofs.faults.FaultLaws.{iri-law}

-- ---- what stands and what doesn't
pub iri-has_scheme : (s : Tests) → IsSpec s → (t : List ℕ) → iri_fault s t ≡ None → IsSome (split_of t).scheme
iri-has_scheme s k t h = let r = (iri-law s k t).0 h in subst (λ p. IsSome p.scheme) (sym (split_is s t r.0 k r.1)) r.2

-- ---- the text before the fragment
abbrev pub without_fragment : Parts → Parts
without_fragment p = record { scheme = p.scheme; authority = p.authority; path = p.path; query = p.query; fragment = None }

pub scheme_text-lacks : (o : Option (List ℕ)) → if_there is_scheme o ≡ true → lacks 35 (scheme_text o) ≡ true
scheme_text-lacks None h = refl
scheme_text-lacks (Some x) h = lacks-append 35 x (58 ∷ []) (scheme-lacks 35 x hash_ends h) (lacks-other 35 58 [] refl refl)

before-hash : (sch a : Option (List ℕ)) (p : List ℕ) (q f : Option (List ℕ))
    → Delimiters (record { scheme = sch; authority = a; path = p; query = q; fragment = f })
    → recompose (record { scheme = sch; authority = a; path = p; query = q; fragment = None })
    ≡ before 35 (recompose (record { scheme = sch; authority = a; path = p; query = q; fragment = f }))
unfolding recompose
before-hash sch a p q f m =
    let prefix = scheme_text sch ++ (authority_text a ++ (p ++ delimited 63 q)) in
    let plain = lacks-append 35 (scheme_text sch) _ (scheme_text-lacks sch m.scheme)
    (lacks-append 35 (authority_text a) _ (authority_text-lacks 35 a refl m.authority_hash)
    (lacks-append 35 p (delimited 63 q) m.path_hash (delimited-lacks 35 63 q refl m.query_hash))) in
    let grouped : scheme_text sch ++ (authority_text a ++ (p ++ (delimited 63 q ++ delimited 35 f))) ≡ prefix ++ delimited 35 f = simp append_assoc in
    ap (λ z. scheme_text sch ++ (authority_text a ++ (p ++ z))) (append-nil (delimited 63 q))
    ∙ sym (ap (before 35) grouped ∙ before-delimited 35 prefix f plain)

pub splits_without_fragment : (s : Tests) → IsSpec s → (t : List ℕ) (p : Parts) → Splits s t p → Splits s (before 35 t) (without_fragment p)
splits_without_fragment s k t p h =
    record {
      fits = record {
        scheme = h.fits.scheme;
        authority = h.fits.authority;
        path = h.fits.path;
        query = h.fits.query;
        fragment = refl;
        rules = h.fits.rules;
      };
      text = before-hash p.scheme p.authority p.path p.query p.fragment (fits-delimiters s p k h.fits) ∙ ap (before 35) h.text;
    }

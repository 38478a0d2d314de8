-- An authority cut from bytes, and what was noted of it.
use Rattle.iri_grammar.proofs.Common.{◌≡◌, ℕ, [], ◌∷◌, ◌∙◌, List, Option, Some, None, MatchOption, false, ap, arith, subst, sym, is_utf8}
use Rattle.iri_grammar.proofs.Common.{before_any, from_any, now_of, authority_of, hier_of, ends_authority, IsPastAuthority}
use Rattle.iri_grammar.specs.declared.splitter.AuthorityCut.{AuthorityCut}
use Rattle.iri_grammar.specs.inside.CutNotes.{KeepsAuthorityNotes}
use Rattle.iri_grammar.proofs.splits.PartEnds.{past_authority}
use Rattle.iri_grammar.proofs.authorities.AuthorityTexts.{delimited-utf8, one_byte-utf8}
use Rattle.iri_grammar.proofs.splits.TextParts.{text-after}

slashes : (t : List ℕ) → is_utf8 (47 ∷ 47 ∷ t) ≡ is_utf8 t
slashes t = text-after (47 ∷ 47 ∷ []) t (delimited-utf8 47 (47 ∷ []) (omega arith) (one_byte-utf8 47 (omega arith)))

-- of bytes that follow two slashes, and of all
pub after_authority : (s t : List ℕ) (o : Option AuthorityCut) → s ≡ 47 ∷ 47 ∷ t
    → MatchOption o (is_utf8 t ≡ false) (λ r. (now_of r.authority ≡ Some (before_any ends_authority t)) × (r.rest.now ≡ from_any ends_authority t)
    × KeepsAuthorityNotes r × (is_utf8 t ≡ is_utf8 r.rest.now))
    → MatchOption o (is_utf8 s ≡ false) (λ r. (now_of r.authority ≡ authority_of (hier_of s)) × IsPastAuthority s r.rest.now × KeepsAuthorityNotes r
    × (is_utf8 s ≡ is_utf8 r.rest.now))
after_authority s t None e h = ap is_utf8 e ∙ (slashes t ∙ h)
after_authority s t (Some r) e h = (
  h.0 ∙ ((past_authority t).0 ∙ ap (λ x. authority_of (hier_of x)) (sym e)),
  subst (λ x. IsPastAuthority x r.rest.now) (sym e) (subst (IsPastAuthority (47 ∷ 47 ∷ t)) (sym h.1) (past_authority t).1),
  h.2,
  ap is_utf8 e ∙ (slashes t ∙ h.3),
)

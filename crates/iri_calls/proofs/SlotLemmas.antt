-- Parts and their delimiters together have as many bytes as their text.
use Rattle.iri_calls.proofs.Common.{◌≡◌, ◌+◌, ◌++◌, ◌∷◌, [], ℕ, List, length, refl, ap, ◌∙◌, arith, length-append, Option, Some, None}
use Rattle.iri_calls.proofs.Common.{delimited, Parts, recompose, scheme_text, authority_text, split_of, relative_split_of, recompose_split}
use Rattle.iri_calls.proofs.Common.{recompose_relative_split, width, total}
use Rattle.iri_grammar.specs.Authority.{AuthorityParts, authority_parts, recompose_authority, userinfo_text}
use Rattle.iri_grammar.specs.Characters.{at_sign, colon, number_sign, question_mark}
use Rattle.iri_grammar.specs.Split.{parts_of}
use Rattle.iri_grammar.proofs.authorities.AuthorityLaws.{authority_recomposed}
use Rattle.iri_calls.specs.inside.Five.{authority_total}

pub after-delimiter : (c : ℕ) (o : Option (List ℕ)) → width 1 o ≡ length (delimited c o)
after-delimiter c None = refl
after-delimiter c (Some x) = omega arith

pub of-scheme : (o : Option (List ℕ)) → width 1 o ≡ length (scheme_text o)
of-scheme None = refl
of-scheme (Some x) = omega (arith, length-append x (colon ∷ []))

pub of-userinfo : (o : Option (List ℕ)) → width 1 o ≡ length (userinfo_text o)
of-userinfo None = refl
of-userinfo (Some x) = omega (arith, length-append x (at_sign ∷ []))

pub of-authority : (o : Option (List ℕ)) → width 2 o ≡ length (authority_text o)
of-authority None = refl
of-authority (Some x) = omega arith

total-recompose : (p : Parts) → total p ≡ length (recompose p)
unfolding recompose
total-recompose p =
    let tail = delimited question_mark p.query ++ delimited number_sign p.fragment in
    omega (
      arith,
      of-scheme p.scheme,
      of-authority p.authority,
      after-delimiter question_mark p.query,
      after-delimiter number_sign p.fragment,
      length-append (scheme_text p.scheme) (authority_text p.authority ++ (p.path ++ tail)),
      length-append (authority_text p.authority) (p.path ++ tail),
      length-append p.path tail,
      length-append (delimited question_mark p.query) (delimited number_sign p.fragment),
    )

authority_total-recompose : (a : AuthorityParts) → authority_total a ≡ length (recompose_authority a)
unfolding recompose_authority
authority_total-recompose a =
    omega (
      arith,
      of-userinfo a.userinfo,
      after-delimiter colon a.port,
      length-append (userinfo_text a.userinfo) (a.host ++ delimited colon a.port),
      length-append a.host (delimited colon a.port),
    )

pub total_split : (t : List ℕ) → total (split_of t) ≡ length t
total_split t = total-recompose (split_of t) ∙ ap length (recompose_split t)

pub authority_total_parts : (t : List ℕ) → authority_total (authority_parts t) ≡ length t
authority_total_parts t = authority_total-recompose (authority_parts t) ∙ ap length (authority_recomposed t)

-- a scheme and what follows it
pub total_after : (o : Option (List ℕ)) (r : List ℕ) → total (parts_of o r) ≡ width 1 o + length r
unfolding relative_split_of
total_after o r = omega (arith, total-recompose (parts_of None r), ap length (recompose_relative_split r))

-- What a builder shows, part by part.
use Rattle.std.specs.Prelude.{unwrap_or}
use Rattle.iri_edit.proofs.Common.{◌≡◌, ℕ, true, cond, List, [], ◌∷◌, ◌++◌, Option, Some, None, refl, sym, ◌∙◌, ap, ◌||◌, is_some}
use Rattle.iri_edit.proofs.Common.{recompose_authority, userinfo_text, delimited, authority_text, Given, given_authority}
use Rattle.std.specs.Borrow.{Bor}
use Rattle.iri_grammar.specs.OptionalSlices.{now_of}
use Rattle.iri_edit.specs.inside.Rules.{ended}

pub delimited-some : (delimiter : List ℕ) (code : ℕ) (o : Option (Bor (List ℕ))) (a : Bor (List ℕ)) → delimiter ≡ code ∷ [] → o ≡ Some a
    → delimiter ++ a.now ≡ delimited code (now_of o)
delimited-some delimiter code o a h e = ap (λ l. l ++ a.now) h ∙ ap (λ (p : Option (Bor (List ℕ))). delimited code (now_of p)) (sym e)

ended-userinfo : (o : Option (List ℕ)) → ended 64 o ≡ userinfo_text o
ended-userinfo None = refl
ended-userinfo (Some x) = refl

pub authority-given : (g : Given) (host : List ℕ) → host ≡ unwrap_or g.host [] → (is_some g.userinfo || (is_some g.host || is_some g.port)) ≡ true
    → (47 ∷ 47 ∷ []) ++ (ended 64 g.userinfo ++ (host ++ delimited 58 g.port)) ≡ authority_text (given_authority g)
unfolding recompose_authority
authority-given g host h there =
    ap (λ u. 47 ∷ 47 ∷ (u ++ (host ++ delimited 58 g.port))) (ended-userinfo g.userinfo)
    ∙ (ap (λ x. 47 ∷ 47 ∷ (userinfo_text g.userinfo ++ (x ++ delimited 58 g.port))) h
    ∙ ap (λ b. authority_text (cond b
    (Some (recompose_authority (record { userinfo = g.userinfo; host = unwrap_or g.host []; port = g.port }))) None)) (sym there))

-- A text without a password stays as it is.
use Rattle.iri_edit.proofs.Common.{◌≡◌, ℕ, cond, List, ◌∷◌, ◌++◌, Option, Some, None, refl, sym, ◌∙◌, ap, not, is_some, append-nil}
use Rattle.iri_edit.proofs.Common.{authority_parts, recompose_authority, authority_recomposed, before, after, delimited, joined, recompose}
use Rattle.iri_edit.proofs.Common.{split_of, edited, edited_authority, password_of, password_in, userinfo_in, user_with, user_alone}
use Rattle.iri_edit.proofs.Common.{with_userinfo, with_password, without_password}
use Rattle.iri_edit.proofs.PlaceLemmas.{lacks-told}
use Rattle.iri_grammar.proofs.splits.SplitLaws.{recompose_split}
use Rattle.std.specs.Prelude.{option_map}

user_with-same : (w u : List ℕ) → after 58 u ≡ None → user_with w u ≡ u
user_with-same w u h = ap (λ b. cond b u (before 58 u ++ 58 ∷ w)) (lacks-told u ∙ ap (λ o. not (is_some o)) h)

user_alone-same : (u : List ℕ) → after 58 u ≡ None → user_alone u ≡ u
user_alone-same u h = sym (append-nil (before 58 u)) ∙ (ap (λ o. before 58 u ++ delimited 58 o) (sym h) ∙ joined 58 u)

module _ (f : List ℕ → List ℕ) (same : (u : List ℕ) → after 58 u ≡ None → f u ≡ u) where
  same-userinfo : (o : Option (List ℕ)) → password_in o ≡ None → option_map f o ≡ o
  same-userinfo None h = refl
  same-userinfo (Some u) h = ap Some (same u h)

  same-authority : (o : Option (List ℕ)) → password_in (userinfo_in o) ≡ None → edited_authority (with_userinfo f) o ≡ o
  same-authority None h = refl
  same-authority (Some a) h =
      ap Some (ap (λ o. recompose_authority (record (authority_parts a) { userinfo = o }))
      (same-userinfo (authority_parts a).userinfo h) ∙ authority_recomposed a)

  pub edited-same : (t : List ℕ) → password_of t ≡ None → edited (with_userinfo f) t ≡ t
  unfolding edited password_of
  edited-same t h =
      ap (λ o. recompose (record (split_of t) { authority = o })) (same-authority (split_of t).authority h) ∙ recompose_split t

pub with_password-same : (t w : List ℕ) → password_of t ≡ None → with_password t w ≡ t
with_password-same t w h = edited-same (user_with w) (user_with-same w) t h

pub without_password-same : (t : List ℕ) → password_of t ≡ None → without_password t ≡ t
without_password-same t h = edited-same user_alone user_alone-same t h

-- What edits keep of a text.
use Rattle.std.specs.Prelude.{option_map}
use Rattle.iri_edit.proofs.Common.{◌≡◌, ℕ, true, List, [], Option, Some, None, refl, ◌∙◌, ap, AuthorityParts, FitsAuthority}
use Rattle.iri_edit.proofs.Common.{authority_parts, is_authority, recompose_authority, reads, Tests, IsSpec, if_there, is_fragment}
use Rattle.iri_edit.proofs.Common.{is_userinfo, is_host, recompose, split_of, reference_fault, edited, edited_authority, edited_parts}
use Rattle.iri_edit.proofs.Common.{fragment_replaced, with_fragment, host_replaced, with_host, masked, user_alone, user_with}
use Rattle.iri_edit.proofs.Common.{with_password, with_userinfo, without_password}
use Rattle.iri_grammar.proofs.faults.MadeLaws.{made-reading, made-split, split-fits}
use Rattle.iri_edit.proofs.KindLemmas.{edited-fits, fragment-fits, host_replaced-fits}
use Rattle.iri_edit.proofs.UserLemmas.{nothing-fits, user_alone-fits, user_with-fits, with_userinfo-fits, user_with-twice}

module _ (s : Tests) (k : IsSpec s) where
  pub edited-split : (f : AuthorityParts → AuthorityParts) → ((a : AuthorityParts) → FitsAuthority s a → FitsAuthority s (f a))
      → (t : List ℕ) → reference_fault s t ≡ None → split_of (edited f t) ≡ edited_parts f (split_of t)
  unfolding edited
  edited-split f keeps t h = made-split s k (edited_parts f (split_of t)) (edited-fits s k f keeps (split_of t) (split-fits s t h))

  pub with-split : (t w : List ℕ) → reference_fault s t ≡ None → is_userinfo s w ≡ true
      → split_of (with_password t w) ≡ edited_parts (with_userinfo (user_with w)) (split_of t)
  with-split t w h v = edited-split (with_userinfo (user_with w)) (with_userinfo-fits s (user_with w) (user_with-fits s w v)) t h

  pub masked-split : (t : List ℕ) → reference_fault s t ≡ None
      → split_of (masked t) ≡ edited_parts (with_userinfo (user_with [])) (split_of t)
  masked-split t h = with-split t [] h (nothing-fits s)

  pub without-split : (t : List ℕ) → reference_fault s t ≡ None
      → split_of (without_password t) ≡ edited_parts (with_userinfo user_alone) (split_of t)
  without-split t h = edited-split (with_userinfo user_alone) (with_userinfo-fits s user_alone (user_alone-fits s)) t h

  pub host-split : (t host : List ℕ) → reference_fault s t ≡ None → is_host s host ≡ true
      → split_of (with_host t host) ≡ edited_parts (host_replaced host) (split_of t)
  host-split t host h v = edited-split (host_replaced host) (host_replaced-fits s host v) t h

  pub fragment-split : (t : List ℕ) (f : Option (List ℕ)) → reference_fault s t ≡ None → if_there (is_fragment s) f ≡ true
      → split_of (with_fragment t f) ≡ fragment_replaced f (split_of t)
  unfolding with_fragment
  fragment-split t f h v = made-split s k (fragment_replaced f (split_of t)) (fragment-fits s f v (split_of t) (split-fits s t h))

  -- ---- masked again
  user-again : (o : Option (List ℕ)) → option_map (user_with []) (option_map (user_with []) o) ≡ option_map (user_with []) o
  user-again None = refl
  user-again (Some u) = ap Some (user_with-twice [] u)

  mask : AuthorityParts → AuthorityParts
  mask a = with_userinfo (user_with []) a

  mask-again : (a : AuthorityParts) → mask (mask a) ≡ mask a
  unfolding mask
  mask-again a = ap (λ o. record a { userinfo = o }) (user-again a.userinfo)

  authority-again : (o : Option (List ℕ)) → if_there (is_authority s) o ≡ true
      → edited_authority mask (edited_authority mask o) ≡ edited_authority mask o
  unfolding mask
  authority-again None h = refl
  authority-again (Some a) h =
      let fits = with_userinfo-fits s (user_with []) (user_with-fits s [] (nothing-fits s)) (authority_parts a) (reads s a h).0 in
      ap Some (ap (λ z. recompose_authority (mask z)) (made-reading s k (mask (authority_parts a)) fits)
      ∙ ap recompose_authority (mask-again (authority_parts a)))

  pub masked-again : (t : List ℕ) → reference_fault s t ≡ None → masked (masked t) ≡ masked t
  unfolding edited mask
  masked-again t h =
      ap (λ p. recompose (edited_parts mask p)) (masked-split t h)
      ∙ ap (λ o. recompose (record (split_of t) { authority = o })) (authority-again (split_of t).authority (split-fits s t h).authority)

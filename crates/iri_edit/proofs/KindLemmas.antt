-- Edited texts stay in the production of their kind.
use Rattle.iri_edit.proofs.Common.{◌≡◌, ℕ, Bool, true, List, Option, Some, None, refl, ◌∙◌, is_some, AuthorityParts, FitsAuthority}
use Rattle.iri_edit.proofs.Common.{authority_parts, is_authority, reads, Tests, IsSpec, if_there, is_fragment, is_host, Fits, path_rules}
use Rattle.iri_edit.proofs.Common.{recompose, split_of, reference_fault, ErrorKind, edited, edited_authority, edited_parts}
use Rattle.iri_edit.proofs.Common.{fragment_replaced, with_fragment, host_replaced, with_host}
use Rattle.iri_grammar.proofs.faults.MadeLaws.{made-authority, split-fits}
use Rattle.iri_grammar.specs.Parts.{Parts}

module _ (s : Tests) (k : IsSpec s) (f : AuthorityParts → AuthorityParts)
    (keeps : (a : AuthorityParts) → FitsAuthority s a → FitsAuthority s (f a)) where
  authority-fits : (o : Option (List ℕ)) → if_there (is_authority s) o ≡ true → if_there (is_authority s) (edited_authority f o) ≡ true
  authority-fits None h = refl
  authority-fits (Some a) h = made-authority s k (f (authority_parts a)) (keeps (authority_parts a) (reads s a h).0)

  rules-kept : (scheme o : Option (List ℕ)) (path : List ℕ) → path_rules scheme o path ≡ true
      → path_rules scheme (edited_authority f o) path ≡ true
  rules-kept scheme None path h = h
  rules-kept scheme (Some a) path h = h

  pub edited-fits : (p : Parts) → Fits s p → Fits s (edited_parts f p)
  edited-fits p h =
      let a = authority-fits p.authority h.authority in
      let r = rules-kept p.scheme p.authority p.path h.rules in
      record { scheme = h.scheme; authority = a; path = h.path; query = h.query; fragment = h.fragment; rules = r }

pub host_replaced-fits : (s : Tests) (h : List ℕ) → is_host s h ≡ true → (a : AuthorityParts) → FitsAuthority s a
    → FitsAuthority s (host_replaced h a)
host_replaced-fits s h v a f = record { userinfo = f.userinfo; host = v; port = f.port }

pub fragment-fits : (s : Tests) (o : Option (List ℕ)) → if_there (is_fragment s) o ≡ true → (p : Parts) → Fits s p
    → Fits s (fragment_replaced o p)
fragment-fits s o v p h = record { scheme = h.scheme; authority = h.authority; path = h.path; query = h.query; fragment = v; rules = h.rules }

-- what holds of a whole kind
pub record IsWhole (s : Tests) (fault : Tests → List ℕ → Option ErrorKind) (allows : Bool → Bool → Bool) : Type 0 where
  pub whole : (t : List ℕ) → fault s t ≡ None → reference_fault s t ≡ None
  pub made : (p : Parts) → Fits s p → allows (is_some p.scheme) (is_some p.fragment) ≡ true → fault s (recompose p) ≡ None
  pub allowed : (t : List ℕ) → fault s t ≡ None → allows (is_some (split_of t).scheme) (is_some (split_of t).fragment) ≡ true

module _ (s : Tests) (fault : Tests → List ℕ → Option ErrorKind) (allows : Bool → Bool → Bool) (k : IsSpec s)
    (kind : IsWhole s fault allows) where
  pub edited-valid : (f : AuthorityParts → AuthorityParts) → ((a : AuthorityParts) → FitsAuthority s a → FitsAuthority s (f a))
      → (t : List ℕ) → fault s t ≡ None → fault s (edited f t) ≡ None
  unfolding edited
  edited-valid f keeps t h = kind.made (edited_parts f (split_of t))
      (edited-fits s k f keeps (split_of t) (split-fits s t (kind.whole t h))) (kind.allowed t h)

  pub host-valid : (host t : List ℕ) → is_host s host ≡ true → fault s t ≡ None → fault s (with_host t host) ≡ None
  host-valid host t v h = edited-valid (host_replaced host) (host_replaced-fits s host v) t h

  pub fragment-valid : ((scheme one other : Bool) → allows scheme one ≡ allows scheme other) → (o : Option (List ℕ))
      → if_there (is_fragment s) o ≡ true → (t : List ℕ) → fault s t ≡ None → fault s (with_fragment t o) ≡ None
  unfolding with_fragment
  fragment-valid free o v t h =
      kind.made (fragment_replaced o (split_of t)) (fragment-fits s o v (split_of t) (split-fits s t (kind.whole t h)))
      (free (is_some (split_of t).scheme) (is_some o) (is_some (split_of t).fragment) ∙ kind.allowed t h)

-- What a replay has reached, and what it keeps there.
use Rattle.std.specs.Prelude.{◌≡◌, ℕ, Bool, true, false, cond, List, Option, Some, None, is_some, string_bytes, option_and_then}
use Rattle.std.specs.Str.{bytes_eq}
use Rattle.iri_grammar.specs.Authority.{AuthorityParts, FitsAuthority, authority_parts, recompose_authority}
use Rattle.iri_grammar.specs.Classes.{Tests}
use Rattle.iri_grammar.specs.Parts.{Parts, Fits, is_empty}
use Rattle.iri_percent.specs.NormalHost.{is_ascii_host}
use Rattle.iri_normal.specs.Resolver.{bytes_of}
use Rattle.iri_resolve.specs.declared.reached.Reached.{Reached}
use Rattle.iri_resolve.specs.declared.reached.ReachedAuthority.{ReachedAuthority}

abbrev pub authority_of : ReachedAuthority → AuthorityParts
authority_of a = record { userinfo = bytes_of a.userinfo; host = string_bytes a.host; port = bytes_of a.port }

abbrev pub authority_text : Option ReachedAuthority → Option (List ℕ)
authority_text None = None
authority_text (Some a) = Some (recompose_authority (authority_of a))

abbrev pub parts_of : Reached → Parts
parts_of r = record {
  scheme = Some (string_bytes r.scheme);
  authority = authority_text r.authority;
  path = string_bytes r.path;
  query = bytes_of r.query;
  fragment = bytes_of r.fragment;
}

-- the texts are the parts of their authority
pub record IsRead (s : Tests) (a : ReachedAuthority) : Type 0 where
  pub fits : FitsAuthority s (authority_of a)
  pub in_ascii : a.in_ascii ≡ is_ascii_host (string_bytes a.host)

abbrev pub IsReadThere : Tests → Option ReachedAuthority → Type 0
IsReadThere s None = Unit {0}
IsReadThere s (Some a) = IsRead s a

pub record Holds (s : Tests) (r : Reached) : Type 0 where
  pub fits : Fits s (parts_of r)
  pub read : IsReadThere s r.authority

abbrev pub is_port_empty : Option (List ℕ) → Bool
is_port_empty None = false
is_port_empty (Some port) = is_empty port

-- the value after a change, where it is one
abbrev pub went : {X : Type 0} → Bool → X → Option X
went b x = cond b (Some x) None

-- whether the change f of a text that may stand is one, and the text after it
abbrev pub WentThere : (List ℕ → Option (List ℕ)) → Bool → Option (List ℕ) → Option (List ℕ) → Type 0
WentThere f true old new = (option_and_then f old ≡ new) × (is_some new ≡ true)
WentThere f false old new = option_and_then f old ≡ None

-- whether the change f of an authority is one, and the authority after it
pub record ReadOn (s : Tests) (f : AuthorityParts → Option (List ℕ)) (b : Bool) (old new : ReachedAuthority) : Type 0 where
  pub text : went b (recompose_authority (authority_of new)) ≡ f (authority_of old)
  pub read : b ≡ true → IsRead s new

-- the same of one that may stand
pub record ReadOnThere (s : Tests) (f : AuthorityParts → Option (List ℕ)) (b : Bool) (old new : Option ReachedAuthority) : Type 0 where
  pub text : WentThere (λ a. f (authority_parts a)) b (authority_text old) (authority_text new)
  pub read : b ≡ true → IsReadThere s new

-- the new text, where it is another one
abbrev pub other_than : List ℕ → List ℕ → Option (List ℕ)
other_than old new = cond (bytes_eq new old) None (Some new)

-- whether the parts o are reached, or there are none
pub record Reaches (s : Tests) (o : Option Parts) (b : Bool) (new : Reached) : Type 0 where
  pub parts : went b (parts_of new) ≡ o
  pub read : b ≡ true → IsReadThere s new.authority

-- The authority and its one reading (RFC 3986 section 3.2).
use Rattle.std.specs.Prelude.{◌≡◌, ℕ, Bool, true, cond, ◌&&◌, ◌==◌, List, [], ◌∷◌, ◌++◌, Option, Some, None, is_some}
use Rattle.iri_grammar.specs.Classes.{Tests}
use Rattle.iri_grammar.specs.Cut.{before, after, delimited}
use Rattle.iri_grammar.specs.Components.{is_userinfo, is_port, if_there}
use Rattle.iri_grammar.specs.Host.{is_host}
use Rattle.iri_grammar.specs.Characters.{at_sign, colon}

pub record AuthorityParts : Type 0 where
  pub userinfo : Option (List ℕ)
  pub host : List ℕ
  pub port : Option (List ℕ)

-- `userinfo@`
abbrev pub userinfo_text : Option (List ℕ) → List ℕ
userinfo_text None = []
userinfo_text (Some u) = u ++ at_sign ∷ []

-- [userinfo `@`] host [`:` port]
unfoldable pub recompose_authority : AuthorityParts → List ℕ
recompose_authority a = userinfo_text a.userinfo ++ (a.host ++ delimited colon a.port)

-- each part is in its production
pub record FitsAuthority (s : Tests) (a : AuthorityParts) : Type 0 where
  pub userinfo : if_there (is_userinfo s) a.userinfo ≡ true
  pub host : is_host s a.host ≡ true
  pub port : if_there is_port a.port ≡ true

-- the text is an authority with these parts
abbrev pub ReadsAuthority : Tests → List ℕ → AuthorityParts → Type 0
ReadsAuthority s t a = FitsAuthority s a × (recompose_authority a ≡ t)

-- the text before a last colon that only digits follow, or all
abbrev pub host_of : List ℕ → List ℕ
host_of [] = []
host_of (x ∷ xs) = cond (x == colon && is_port xs) [] (x ∷ host_of xs)

-- what follows a last colon, where that is only digits
abbrev pub port_of : List ℕ → Option (List ℕ)
port_of [] = None
port_of (x ∷ xs) = cond (x == colon && is_port xs) (Some xs) (port_of xs)

-- what stands before the first `@`, where there is one
abbrev pub userinfo_of : List ℕ → Option (List ℕ)
userinfo_of t = cond (is_some (after at_sign t)) (Some (before at_sign t)) None

-- what follows the first `@`, or all
abbrev pub or_all : List ℕ → Option (List ℕ) → List ℕ
or_all t None = t
or_all t (Some r) = r

abbrev pub after_userinfo : List ℕ → List ℕ
after_userinfo t = or_all t (after at_sign t)

-- the reading of a text. That an authority has no other one is a law
unfoldable pub authority_parts : List ℕ → AuthorityParts
authority_parts t = record { userinfo = userinfo_of t; host = host_of (after_userinfo t); port = port_of (after_userinfo t) }

-- `authority`: the text has a reading
unfoldable pub is_authority : Tests → List ℕ → Bool
is_authority s t = if_there (is_userinfo s) (authority_parts t).userinfo && is_host s (authority_parts t).host

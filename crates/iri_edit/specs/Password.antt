-- The password of a whole text: what follows the first `:` of its userinfo (RFC 3986 section 3.2.1).
use Rattle.std.specs.Prelude.{ℕ, cond, List, [], ◌∷◌, ◌++◌, Option, Some, None, option_map}
use Rattle.iri_grammar.specs.Authority.{AuthorityParts, authority_parts}
use Rattle.iri_grammar.specs.Cut.{before, after, lacks}
use Rattle.iri_grammar.specs.Split.{split_of}
use Rattle.iri_edit.specs.Edited.{edited}
use Rattle.iri_grammar.specs.Characters.{colon}

-- the userinfo of an authority that may stand
abbrev pub userinfo_in : Option (List ℕ) → Option (List ℕ)
userinfo_in None = None
userinfo_in (Some a) = (authority_parts a).userinfo

-- what follows the first colon of a userinfo that may stand
abbrev pub password_in : Option (List ℕ) → Option (List ℕ)
password_in None = None
password_in (Some u) = after colon u

-- the password of a text, where its userinfo has a colon
unfoldable pub password_of : List ℕ → Option (List ℕ)
password_of t = password_in (userinfo_in (split_of t).authority)

-- a userinfo with w in place of what follows its first colon; one without a colon stays
abbrev pub user_with : List ℕ → List ℕ → List ℕ
user_with w u = cond (lacks colon u) u (before colon u ++ colon ∷ w)

-- a userinfo without its first colon and what follows it
abbrev pub user_alone : List ℕ → List ℕ
user_alone u = before colon u

-- the parts of an authority, with its userinfo changed by f
abbrev pub with_userinfo : (List ℕ → List ℕ) → AuthorityParts → AuthorityParts
with_userinfo f a = record { userinfo = option_map f a.userinfo; host = a.host; port = a.port }

-- the text with w in place of its password
abbrev pub with_password : List ℕ → List ℕ → List ℕ
with_password t w = edited (with_userinfo (user_with w)) t

-- the text without what its password is
abbrev pub masked : List ℕ → List ℕ
masked t = with_password t []

-- the text without its password and the colon before it
abbrev pub without_password : List ℕ → List ℕ
without_password t = edited (with_userinfo user_alone) t

-- Texts built from parts (RFC 3986 section 5.3).
use Rattle.std.specs.Prelude.{ℕ, Bool, false, cond, not, ◌&&◌, ◌||◌, List, [], Option, Some, None, is_some, unwrap_or}
use Rattle.iri_grammar.specs.Authority.{recompose_authority}
use Rattle.iri_grammar.specs.Classes.{Tests}
use Rattle.iri_grammar.specs.Fault.{first, unless, part_fault, scheme_fault, userinfo_fault, host_fault, port_fault, path_fault}
use Rattle.iri_grammar.specs.Fault.{query_fault, fragment_fault}
use Rattle.iri_grammar.specs.Parts.{Parts, path_rules, recompose}
use Rattle.iri_grammar.specs.declared.error.ErrorKind.{ErrorKind}
use Rattle.iri_grammar.specs.declared.error.ErrorKind.TheVariants.{InvalidPath, InvalidScheme, UnexpectedFragment, UnexpectedRelative}
use Rattle.iri_normal.specs.NormalForm.{normal_form}

-- the parts that a builder was given, and whether the normal form is asked for
pub record Given : Type 0 where
  pub scheme : Option (List ℕ)
  pub userinfo : Option (List ℕ)
  pub host : Option (List ℕ)
  pub port : Option (List ℕ)
  pub path : List ℕ
  pub query : Option (List ℕ)
  pub fragment : Option (List ℕ)
  pub normal : Bool

-- nothing is given: the path is empty
abbrev pub nothing_given : Given
nothing_given = record {
  scheme = None;
  userinfo = None;
  host = None;
  port = None;
  path = [];
  query = None;
  fragment = None;
  normal = false;
}

-- an authority stands where userinfo, host or port is given; a host that isn't given is empty
abbrev pub given_authority : Given → Option (List ℕ)
given_authority g = cond (is_some g.userinfo || (is_some g.host || is_some g.port))
    (Some (recompose_authority (record { userinfo = g.userinfo; host = unwrap_or g.host []; port = g.port }))) None

-- the five parts
abbrev pub given_parts : Given → Parts
given_parts g = record { scheme = g.scheme; authority = given_authority g; path = g.path; query = g.query; fragment = g.fragment }

-- what a kind refuses of a scheme and a fragment: whether they are given (sections 3, 4.1, 4.2 and 4.3)
abbrev pub reference_refusal : Bool → Bool → Option ErrorKind
reference_refusal scheme fragment = None

abbrev pub iri_refusal : Bool → Bool → Option ErrorKind
iri_refusal scheme fragment = unless scheme UnexpectedRelative

abbrev pub absolute_refusal : Bool → Bool → Option ErrorKind
absolute_refusal scheme fragment = first (unless scheme UnexpectedRelative) (unless (not fragment) UnexpectedFragment)

abbrev pub relative_refusal : Bool → Bool → Option ErrorKind
relative_refusal scheme fragment = unless (not scheme) InvalidScheme

-- the first fault of the parts, each alone
unfoldable pub components_fault : Tests → Given → Option ErrorKind
components_fault s g =
    first (part_fault scheme_fault g.scheme)
    (first (part_fault (userinfo_fault s) g.userinfo)
    (first (part_fault (host_fault s) g.host)
    (first (part_fault port_fault g.port)
    (first (path_fault s g.path)
    (first (part_fault (query_fault s) g.query) (part_fault (fragment_fault s) g.fragment))))))

-- the first fault: of the parts, then what the kind refuses, then the rules of the path
abbrev pub built_fault : Tests → (Bool → Bool → Option ErrorKind) → Given → Option ErrorKind
built_fault s refusal g =
    first (components_fault s g) (first (refusal (is_some g.scheme) (is_some g.fragment))
    (unless (path_rules g.scheme (given_authority g) g.path) InvalidPath))

-- the parts recomposed, or their normal form where it is asked for and a scheme is given
abbrev pub built_text : Tests → Given → List ℕ
built_text s g = cond (g.normal && is_some g.scheme) (recompose (normal_form s (given_parts g))) (recompose (given_parts g))

-- The first fault of a text, in the order of its parts from left to right.
use Rattle.std.specs.Prelude.{◌≡◌, ℕ, Bool, cond, not, ◌&&◌, List, Option, Some, None, Result, MatchResult}
use Rattle.std.specs.Str.{is_utf8}
use Rattle.iri_grammar.specs.Classes.{Tests}
use Rattle.iri_grammar.specs.Components.{is_scheme, is_userinfo, is_port, is_path, is_path_segment, is_query, is_fragment}
use Rattle.iri_grammar.specs.Host.{is_host, is_reg_name}
use Rattle.iri_grammar.specs.Ipv4.{is_ipv4}
use Rattle.iri_grammar.specs.Authority.{authority_parts}
use Rattle.iri_grammar.specs.declared.error.ErrorKind.{ErrorKind}
use Rattle.iri_grammar.specs.declared.error.ErrorKind.TheVariants.{InvalidScheme, InvalidUserInfo, InvalidHost, InvalidRegName}
use Rattle.iri_grammar.specs.declared.error.ErrorKind.TheVariants.{InvalidPort, InvalidPath, InvalidQuery, InvalidFragment, InvalidUtf8}
use Rattle.iri_grammar.specs.declared.error.Error.{Error}

-- the first of two faults
abbrev pub first : Option ErrorKind → Option ErrorKind → Option ErrorKind
first None k = k
first (Some e) k = Some e

-- no fault where the test passes, otherwise this kind
abbrev pub unless : Bool → ErrorKind → Option ErrorKind
unless b k = cond b None (Some k)

-- the fault of a part that may stand
abbrev pub part_fault : (List ℕ → Option ErrorKind) → Option (List ℕ) → Option ErrorKind
part_fault f None = None
part_fault f (Some x) = f x

-- ---- single components (RFC 3986 sections 3.1 to 3.5)
abbrev pub scheme_fault : List ℕ → Option ErrorKind
scheme_fault x = unless (is_scheme x) InvalidScheme

abbrev pub userinfo_fault : Tests → List ℕ → Option ErrorKind
userinfo_fault s x = unless (is_userinfo s x) InvalidUserInfo

abbrev pub host_fault : Tests → List ℕ → Option ErrorKind
host_fault s x = unless (is_host s x) InvalidHost

-- a registered name is no IPv4 address
abbrev pub reg_name_fault : Tests → List ℕ → Option ErrorKind
reg_name_fault s x = unless (is_reg_name s x && not (is_ipv4 x)) InvalidRegName

abbrev pub port_fault : List ℕ → Option ErrorKind
port_fault x = unless (is_port x) InvalidPort

abbrev pub path_fault : Tests → List ℕ → Option ErrorKind
path_fault s x = unless (is_path s x) InvalidPath

abbrev pub path_segment_fault : Tests → List ℕ → Option ErrorKind
path_segment_fault s x = unless (is_path_segment s x) InvalidPath

abbrev pub query_fault : Tests → List ℕ → Option ErrorKind
query_fault s x = unless (is_query s x) InvalidQuery

abbrev pub fragment_fault : Tests → List ℕ → Option ErrorKind
fragment_fault s x = unless (is_fragment s x) InvalidFragment

-- what stands before the first `@` is to be a userinfo; of what remains, a last `:` that only digits follow
-- begins the port, and the rest is to be a host
abbrev pub authority_fault : Tests → List ℕ → Option ErrorKind
authority_fault s x = first (part_fault (userinfo_fault s) (authority_parts x).userinfo) (host_fault s (authority_parts x).host)

-- of bytes: they must be UTF-8 first
abbrev pub bytes_fault : (List ℕ → Option ErrorKind) → List ℕ → Option ErrorKind
bytes_fault f bs = cond (is_utf8 bs) (f bs) (Some InvalidUtf8)

-- the answer of a validator: Ok where there is no fault, otherwise the first fault
abbrev pub Answers : {A : Type 0} → Result A Error → Option ErrorKind → Type 0
Answers r k = MatchResult r (λ _. k ≡ None) (λ e. k ≡ Some e.kind)

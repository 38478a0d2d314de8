-- The steps to the normal form, from left to right (RFC 3986 sections 6.2.2 and 6.2.3). A place counts the bytes of what is in normal form.
use Rattle.std.specs.Prelude.{ℕ, zero, suc, ◌+◌, ◌-◌, ◌*◌, Bool, false, cond, ◌&&◌, ◌==◌, List, [], ◌∷◌, ◌++◌, Option, Some, None}
use Rattle.std.specs.Prelude.{is_some, length, slice_index}
use Rattle.std.specs.Char.{is_ascii_uppercase, len_utf8}
use Rattle.std.specs.Str.{bytes_eq}
use Rattle.iri_grammar.specs.Authority.{AuthorityParts, authority_parts, userinfo_text}
use Rattle.iri_grammar.specs.Characters.{percent_sign}
use Rattle.iri_grammar.specs.Classes.{Tests}
use Rattle.iri_grammar.specs.Parts.{Parts}
use Rattle.iri_percent.specs.NormalHost.{is_ascii_host, is_dropped, normal_userinfo}
use Rattle.iri_percent.specs.Triplets.{decoded}
use Rattle.iri_percent.specs.SchemeRules.{dropped_port}
use Rattle.iri_percent.specs.Triplets.{pct}
use Rattle.iri_percent.specs.Units.{octets}
use Rattle.iri_percent.specs.declared.canon_mode.CanonMode.{CanonMode}
use Rattle.iri_normal.specs.DotRemoval.{dots}
use Rattle.iri_normal.specs.DotRemoval.{guard}
use Rattle.iri_normal.specs.NormalForm.{becomes_slash}
use Rattle.iri_resolve.specs.Changes.{is_small_digit}
use Rattle.iri_resolve.specs.declared.step.Part.{Part}
use Rattle.iri_resolve.specs.declared.step.Part.TheVariants.{Authority, Path, Query, Fragment}
use Rattle.iri_resolve.specs.declared.step.Step.{Step}
use Rattle.iri_resolve.specs.declared.step.Step.TheVariants.{SchemeLetter, HostLetter, HexDigit, Decode, EmptyPort, Dots, DefaultPort, SlashPath}

-- of a part that may stand
abbrev pub steps_there : (List ℕ → List Step) → Option (List ℕ) → List Step
steps_there steps None = []
steps_there steps (Some t) = steps t

-- one step, or none
abbrev pub step_if : Bool → Step → List Step
step_if go step = cond go (step ∷ []) []

-- of a scheme
unfoldable pub scheme_steps : ℕ → List ℕ → List Step
scheme_steps at [] = []
scheme_steps at (x ∷ xs) = step_if (is_ascii_uppercase x) (SchemeLetter at) ++ scheme_steps (at + 1) xs

-- of what a text begins with, how many bytes that has, and how many in normal form
pub record Prefix : Type 0 where
  pub steps : List Step
  pub len : ℕ
  pub normal_len : ℕ

-- a byte outside triplets
abbrev pub byte_prefix : Bool → ℕ → ℕ → Prefix
byte_prefix lower at x = record { steps = step_if (lower && is_ascii_uppercase x) (HostLetter at); len = 1; normal_len = 1 }

-- the triplets of an unreserved character, which are decoded; a triplet that stays
abbrev pub triplet_prefix : Part → Bool → ℕ → List ℕ → Option ℕ → Prefix
triplet_prefix part lower at t (Some c) = record {
  steps = Decode part at ∷ step_if (lower && is_ascii_uppercase c) (HostLetter at);
  len = 3 * len_utf8 c;
  normal_len = len_utf8 c;
}
triplet_prefix part lower at t None = record {
  steps = step_if (is_small_digit (slice_index t 1)) (HexDigit part (at + 1)) ++ step_if (is_small_digit (slice_index t 2)) (HexDigit part (at + 2));
  len = 3;
  normal_len = 3;
}

abbrev pub prefix_of : Tests → Part → Bool → ℕ → List ℕ → Prefix
prefix_of s part lower at t = cond (slice_index t 0 == percent_sign) (triplet_prefix part lower at t (decoded s (octets t)))
    (byte_prefix lower at (slice_index t 0))

-- of a text, with its letters in lower case or as they are, where so many bytes at its start are done already
unfoldable pub component_steps : Tests → Part → Bool → ℕ → ℕ → List ℕ → List Step
component_steps s part lower skip at [] = []
component_steps s part lower (suc n) at (x ∷ xs) = component_steps s part lower n at xs
component_steps s part lower zero at (x ∷ xs) =
    let p = prefix_of s part lower at (x ∷ xs) in
    p.steps ++ component_steps s part lower (p.len - 1) (at + p.normal_len) xs

-- of the triplets of a userinfo, a path, a query or a fragment
abbrev pub triplet_steps : Tests → Part → List ℕ → List Step
triplet_steps s part t = component_steps s part false 0 0 t

-- of a host that begins at this place of the authority
abbrev pub host_steps : Tests → ℕ → List ℕ → List Step
host_steps s at h = component_steps s Authority (is_ascii_host h) 0 at h

-- of an empty port
abbrev pub port_steps : Option (List ℕ) → List Step
port_steps (Some []) = EmptyPort ∷ []
port_steps _ = []

abbrev pub authority_parts_steps : Tests → AuthorityParts → List Step
authority_parts_steps s a = steps_there (triplet_steps s Authority) a.userinfo
    ++ (host_steps s (length (userinfo_text (normal_userinfo s a.userinfo))) a.host ++ port_steps a.port)

-- of an authority: userinfo, host, port
unfoldable pub authority_steps : Tests → List ℕ → List Step
authority_steps s a = authority_parts_steps s (authority_parts a)

-- of a path: its triplets, and then its dot segments, where the guarded path without them is another one
unfoldable pub path_steps : Tests → Bool → List ℕ → List Step
path_steps s authority_stands p = triplet_steps s Path p
    ++ cond (bytes_eq (guard (dots (pct s p)) authority_stands) (pct s p)) [] (Dots ∷ [])

-- of parts, by the rules of every scheme
unfoldable pub plain_steps : Tests → Parts → List Step
plain_steps s t = steps_there (scheme_steps 0) t.scheme ++ (steps_there (authority_steps s) t.authority
    ++ (path_steps s (is_some t.authority) t.path
    ++ (steps_there (triplet_steps s Query) t.query ++ steps_there (triplet_steps s Fragment) t.fragment)))

-- the port is the one that is dropped
abbrev pub is_port_dropped : Option (List ℕ) → Option (List ℕ) → Bool
is_port_dropped dropped None = false
is_port_dropped dropped (Some port) = is_dropped dropped port

-- the authority has the port that is dropped
abbrev pub has_port : Option (List ℕ) → Option (List ℕ) → Bool
has_port dropped None = false
has_port dropped (Some a) = is_port_dropped dropped (authority_parts a).port

-- of parts, by scheme rules, where a port is dropped: the port, and an empty path that becomes `/`
abbrev pub scheme_rule_steps : Option (List ℕ) → Parts → List Step
scheme_rule_steps dropped t = step_if (has_port dropped t.authority) DefaultPort ++ step_if (becomes_slash dropped t.authority t.path) SlashPath

-- of parts in a mode
unfoldable pub steps_of : Tests → CanonMode → Parts → List Step
steps_of s mode t = plain_steps s t ++ scheme_rule_steps (dropped_port mode t.scheme) t

-- Steps that lead parts towards their normal form (RFC 3986 sections 6.2.2 and 6.2.3), and parts that steps join.
use Rattle.std.specs.Prelude.{◌≡◌, ℕ, ◌-◌, cond, List, [], ◌∷◌, Option, Some, None, is_some, length, nat_lt, option_map, option_and_then}
use Rattle.std.specs.Str.{bytes_eq}
use Rattle.iri_grammar.specs.Classes.{Tests}
use Rattle.iri_grammar.specs.Authority.{AuthorityParts, authority_parts, recompose_authority, userinfo_text}
use Rattle.iri_grammar.specs.Parts.{Parts}
use Rattle.iri_percent.specs.NormalHost.{is_ascii_host, is_dropped}
use Rattle.iri_percent.specs.SchemeRules.{dropped_port}
use Rattle.iri_percent.specs.declared.canon_mode.CanonMode.{CanonMode}
use Rattle.iri_grammar.specs.Characters.{slash}
use Rattle.iri_normal.specs.DotRemoval.{dots}
use Rattle.iri_normal.specs.DotRemoval.{guard}
use Rattle.iri_normal.specs.NormalForm.{becomes_slash, normal_form_in}
use Rattle.iri_resolve.specs.Changes.{with_small_letter, with_small_host_letter, with_capital_digit, with_decoded}
use Rattle.iri_resolve.specs.declared.step.Part.{Part}
use Rattle.iri_resolve.specs.declared.step.Part.TheVariants.{Authority, Path, Query, Fragment}
use Rattle.iri_resolve.specs.declared.step.Step.{Step}
use Rattle.iri_resolve.specs.declared.step.Step.TheVariants.{SchemeLetter, HostLetter, HexDigit, Decode, EmptyPort, Dots, DefaultPort, SlashPath}

-- where the host of an authority begins
abbrev pub host_start : AuthorityParts → ℕ
host_start a = length (userinfo_text a.userinfo)

-- a change at the place i of an authority, in its host
abbrev pub in_host : (ℕ → List ℕ → Option (List ℕ)) → ℕ → AuthorityParts → Option (List ℕ)
in_host change i a = cond (nat_lt i (host_start a)) None
    (option_map (λ h. recompose_authority (record a { host = h })) (change (i - host_start a) a.host))

-- a change at the place i of an authority, in its userinfo or its host
abbrev pub in_userinfo_or_host : (ℕ → List ℕ → Option (List ℕ)) → ℕ → AuthorityParts → Option (List ℕ)
in_userinfo_or_host change i a = cond (nat_lt i (host_start a))
    (option_map (λ u. recompose_authority (record a { userinfo = Some u })) (option_and_then (change i) a.userinfo)) (in_host change i a)

-- an authority without its empty port
abbrev pub without_empty_port : AuthorityParts → Option (List ℕ) → Option (List ℕ)
without_empty_port a (Some []) = Some (recompose_authority (record a { port = None }))
without_empty_port a _ = None

-- an authority without the port that is dropped
abbrev pub without_dropped_port : Option (List ℕ) → AuthorityParts → Option (List ℕ) → Option (List ℕ)
without_dropped_port dropped a None = None
without_dropped_port dropped a (Some port) = cond (is_dropped dropped port) (Some (recompose_authority (record a { port = None }))) None

-- the path `/`, where an empty one becomes it
abbrev pub with_slash : Option (List ℕ) → Parts → Option (List ℕ)
with_slash dropped t = cond (becomes_slash dropped t.authority t.path) (Some (slash ∷ [])) None

-- a capital in an ASCII host becomes small
abbrev pub with_small_letter_in_host : ℕ → AuthorityParts → Option (List ℕ)
with_small_letter_in_host i a = cond (is_ascii_host a.host) (in_host with_small_host_letter i a) None

-- the path without dot segments, guarded, where that is another path
abbrev pub with_dots_removed : Parts → Option (List ℕ)
with_dots_removed t = cond (bytes_eq (guard (dots t.path) (is_some t.authority)) t.path) None
    (Some (guard (dots t.path) (is_some t.authority)))

-- a change of triplets at the place i of a part
abbrev pub at_place : (ℕ → List ℕ → Option (List ℕ)) → Parts → Part → ℕ → Option Parts
at_place change t Authority i = option_map (λ a. record t { authority = Some a })
    (option_and_then (λ a. in_userinfo_or_host change i (authority_parts a)) t.authority)
at_place change t Path i = option_map (λ p. record t { path = p }) (change i t.path)
at_place change t Query i = option_map (λ q. record t { query = Some q }) (option_and_then (change i) t.query)
at_place change t Fragment i = option_map (λ f. record t { fragment = Some f }) (option_and_then (change i) t.fragment)

-- the parts after a step of a mode; none where it is no step from these parts
unfoldable pub step_in : Tests → CanonMode → Parts → Step → Option Parts
step_in s mode t (SchemeLetter i) = option_map (λ x. record t { scheme = Some x }) (option_and_then (with_small_letter i) t.scheme)
step_in s mode t (HostLetter i) = option_map (λ a. record t { authority = Some a })
    (option_and_then (λ a. with_small_letter_in_host i (authority_parts a)) t.authority)
step_in s mode t (HexDigit part i) = at_place with_capital_digit t part i
step_in s mode t (Decode part i) = at_place (with_decoded s) t part i
step_in s mode t EmptyPort = option_map (λ a. record t { authority = Some a })
    (option_and_then (λ a. without_empty_port (authority_parts a) (authority_parts a).port) t.authority)
step_in s mode t Dots = option_map (λ p. record t { path = p }) (with_dots_removed t)
step_in s mode t DefaultPort = option_map (λ a. record t { authority = Some a })
    (option_and_then (λ a. without_dropped_port (dropped_port mode t.scheme) (authority_parts a) (authority_parts a).port) t.authority)
step_in s mode t SlashPath = option_map (λ p. record t { path = p }) (with_slash (dropped_port mode t.scheme) t)

-- the parts after all of these steps, one after the other; none where one of them is no step from the parts reached
unfoldable pub replayed_in : Tests → CanonMode → Parts → List Step → Option Parts
replayed_in s mode t [] = Some t
replayed_in s mode t (x ∷ xs) = option_and_then (λ u. replayed_in s mode u xs) (step_in s mode t x)

-- steps from both lead to the same parts
abbrev pub JoinedIn : Tests → CanonMode → Parts → Parts → Type 0
JoinedIn s mode t u = (l m : List Step) × (v : Parts) × (replayed_in s mode t l ≡ Some v) × (replayed_in s mode u m ≡ Some v)

-- no two lists of steps lead from both to the same parts
abbrev pub AreApartIn : Tests → CanonMode → Parts → Parts → Type 0
AreApartIn s mode t u = JoinedIn s mode t u → ⊥

-- these two lists lead to the one normal form of both
abbrev pub LeadToNormalIn : Tests → CanonMode → Parts → Parts → List Step → List Step → Type 0
LeadToNormalIn s mode t u l m =
    (replayed_in s mode t l ≡ Some (normal_form_in s mode t)) × (replayed_in s mode u m ≡ Some (normal_form_in s mode t))

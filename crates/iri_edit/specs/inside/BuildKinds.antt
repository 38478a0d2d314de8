-- What isn't refused of a scheme and a fragment is allowed; components of URIs are components of every spec.
use Rattle.std.proofs.Common.{◌≡◌, ℕ, Bool, true, false, List, None, refl}
use Rattle.iri_grammar.specs.Classes.{Tests, IsSpec, uri_tests}
use Rattle.iri_grammar.specs.Components.{is_userinfo}
use Rattle.iri_grammar.specs.Fault.{userinfo_fault, host_fault}
use Rattle.iri_grammar.proofs.faults.FaultLaws.{no_fault, passed}
use Rattle.iri_grammar.specs.Host.{is_host}
use Rattle.iri_grammar.proofs.faults.UriLaws.{host-wider, userinfo-wider}
use Rattle.iri_grammar.specs.declared.error.ErrorKind.TheVariants.{InvalidHost, InvalidUserInfo}
use Rattle.iri_types.specs.Allowed.{allows_reference, allows_iri, allows_absolute, allows_relative}
use Rattle.iri_edit.specs.Built.{reference_refusal, iri_refusal, absolute_refusal, relative_refusal}

pub reference-allows : (scheme fragment : Bool) → reference_refusal scheme fragment ≡ None → allows_reference scheme fragment ≡ true
reference-allows scheme fragment h = refl

pub iri-allows : (scheme fragment : Bool) → iri_refusal scheme fragment ≡ None → allows_iri scheme fragment ≡ true
iri-allows true fragment h = refl
iri-allows false fragment h = cc

pub absolute-allows : (scheme fragment : Bool) → absolute_refusal scheme fragment ≡ None → allows_absolute scheme fragment ≡ true
absolute-allows true true h = cc
absolute-allows true false h = refl
absolute-allows false fragment h = cc

pub relative-allows : (scheme fragment : Bool) → relative_refusal scheme fragment ≡ None → allows_relative scheme fragment ≡ true
relative-allows true fragment h = cc
relative-allows false fragment h = refl

pub userinfo-within : (s : Tests) → IsSpec s → (t : List ℕ) → userinfo_fault uri_tests t ≡ None → userinfo_fault s t ≡ None
userinfo-within s k t h = no_fault (is_userinfo s t) InvalidUserInfo
    (userinfo-wider s t (passed (is_userinfo uri_tests t) InvalidUserInfo h))

pub host-within : (s : Tests) → IsSpec s → (t : List ℕ) → host_fault uri_tests t ≡ None → host_fault s t ≡ None
host-within s k t h = no_fault (is_host s t) InvalidHost (host-wider s t (passed (is_host uri_tests t) InvalidHost h))

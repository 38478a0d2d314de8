-- Parts without a fault make a text of the kind, and so does their normal form.
use Rattle.std.specs.Prelude.{unwrap_or}
use Rattle.iri_edit.proofs.Common.{◌≡◌, ℕ, Bool, true, false, cond, List, [], Option, Some, None, refl, sym, ◌∙◌, ap, ◌&&◌, ◌||◌, is_some}
use Rattle.iri_edit.proofs.Common.{chars, is_utf8, is_authority, Tests, IsSpec, if_there, is_userinfo, is_fragment, both, is_host}
use Rattle.iri_edit.proofs.Common.{over_from, Fits, path_rules, recompose, split_of, ErrorKind, Given, given_authority}
use Rattle.iri_grammar.specs.Components.{is_scheme, is_port, is_path, is_query}
use Rattle.iri_grammar.specs.Fault.{part_fault, scheme_fault, userinfo_fault, host_fault, port_fault, path_fault, query_fault}
use Rattle.iri_grammar.specs.Fault.{fragment_fault}
use Rattle.iri_grammar.proofs.faults.FaultLaws.{passed, neither, part-passed as there}
use Rattle.iri_grammar.proofs.faults.MadeLaws.{made-authority, made-iri, made-split}
use Rattle.iri_grammar.specs.WholeFault.{iri_fault}
use Rattle.iri_grammar.specs.declared.error.ErrorKind.TheVariants.{InvalidScheme, InvalidUserInfo, InvalidHost, InvalidPort, InvalidPath}
use Rattle.iri_grammar.specs.declared.error.ErrorKind.TheVariants.{InvalidQuery, InvalidFragment}
use Rattle.iri_normal.proofs.normal_forms.PartsFit.{form-fits}
use Rattle.iri_percent.specs.Triplets.{pct}
use Rattle.iri_normal.specs.NormalForm.{lowered, form, normal_form}
use Rattle.iri_edit.specs.Built.{built_fault, built_text, components_fault, given_parts}
use Rattle.iri_edit.proofs.KindLemmas.{IsWhole}
use Rattle.iri_normal.proofs.normal_forms.Paths.{stands-still as same-some}

empty_host : (s : Tests) → is_host s [] ≡ true
unfolding over_from chars is_utf8
empty_host s = refl

host-there : (s : Tests) (o : Option (List ℕ)) → if_there (is_host s) o ≡ true → is_host s (unwrap_or o []) ≡ true
host-there s None h = empty_host s
host-there s (Some x) h = h

where_asked : (p : List ℕ → Bool) (b : Bool) (x : List ℕ) → p x ≡ true → if_there p (cond b (Some x) None) ≡ true
where_asked p true x h = h
where_asked p false x h = refl

components-fit : (s : Tests) → IsSpec s → (g : Given) → components_fault s g ≡ None → path_rules g.scheme (given_authority g) g.path ≡ true
    → Fits s (given_parts g)
unfolding components_fault
components-fit s k g h rules =
    let one = neither (part_fault scheme_fault g.scheme) _ h in
    let two = neither (part_fault (userinfo_fault s) g.userinfo) _ one.1 in
    let three = neither (part_fault (host_fault s) g.host) _ two.1 in
    let four = neither (part_fault port_fault g.port) _ three.1 in
    let five = neither (path_fault s g.path) _ four.1 in
    let six = neither (part_fault (query_fault s) g.query) (part_fault (fragment_fault s) g.fragment) five.1 in
    let authority = made-authority s k (record { userinfo = g.userinfo; host = unwrap_or g.host []; port = g.port })
    (record {
      userinfo = there (is_userinfo s) InvalidUserInfo g.userinfo two.0;
      host = host-there s g.host (there (is_host s) InvalidHost g.host three.0);
      port = there is_port InvalidPort g.port four.0;
    }) in
    record {
      scheme = there is_scheme InvalidScheme g.scheme one.0;
      authority = where_asked (is_authority s) (is_some g.userinfo || (is_some g.host || is_some g.port)) _ authority;
      path = passed (is_path s g.path) InvalidPath five.0;
      query = there (is_query s) InvalidQuery g.query six.0;
      fragment = there (is_fragment s) InvalidFragment g.fragment six.1;
      rules = rules;
    }

-- ---- what a builder makes
module _ (s : Tests) (k : IsSpec s) (refusal : Bool → Bool → Option ErrorKind) (g : Given) (h : built_fault s refusal g ≡ None) where
  pub built-fits : Fits s (given_parts g)
  built-fits =
      let one = neither (components_fault s g) _ h in
      let two = neither (refusal (is_some g.scheme) (is_some g.fragment)) _ one.1 in
      components-fit s k g one.0 (passed (path_rules g.scheme (given_authority g) g.path) InvalidPath two.1)

  unrefused : refusal (is_some g.scheme) (is_some g.fragment) ≡ None
  unrefused = (neither (refusal (is_some g.scheme) (is_some g.fragment)) _ (neither (components_fault s g) _ h).1).0

  pub built-valid : (fault : Tests → List ℕ → Option ErrorKind) (allows : Bool → Bool → Bool) → IsWhole s fault allows
      → ((scheme fragment : Bool) → refusal scheme fragment ≡ None → allows scheme fragment ≡ true) → fault s (built_text s g) ≡ None
  unfolding normal_form form
  built-valid fault allows kind free =
      let allowed : allows (is_some g.scheme) (is_some g.fragment) ≡ true = free (is_some g.scheme) (is_some g.fragment) unrefused in
      let plain = kind.made (given_parts g) built-fits allowed in
      elim (g.normal && is_some g.scheme) as (λ b. (g.normal && is_some g.scheme) ≡ b
      → fault s (cond b (recompose (normal_form s (given_parts g))) (recompose (given_parts g))) ≡ None) [
        | true ↦ λ e.
            let i = (both g.normal (is_some g.scheme) e).1 in
            let normal = normal_form s (given_parts g) in
            let scheme : is_some normal.scheme ≡ is_some g.scheme = same-some lowered g.scheme in
            let fragment : is_some normal.fragment ≡ is_some g.fragment = same-some (pct s) g.fragment in
            kind.made normal (form-fits s (given_parts g) k built-fits i).0
            (ap (λ b. allows b (is_some normal.fragment)) scheme ∙ (ap (λ b. allows (is_some g.scheme) b) fragment ∙ allowed))
        | false ↦ λ _. plain
      ] refl

pub normal-built : (s : Tests) → IsSpec s → (g : Given) (t : List ℕ) → Fits s (given_parts g) → t ≡ recompose (given_parts g)
    → (g.normal && is_some g.scheme) ≡ true → recompose (normal_form s (split_of t)) ≡ built_text s g
normal-built s k g t f e n =
    ap (λ z. recompose (normal_form s (split_of z))) e
    ∙ (ap (λ p. recompose (normal_form s p)) (made-split s k (given_parts g) f)
    ∙ sym (ap (λ b. cond b (recompose (normal_form s (given_parts g))) (recompose (given_parts g))) n))

pub normal-iri : (s : Tests) → IsSpec s → (g : Given) (t : List ℕ) → Fits s (given_parts g) → t ≡ recompose (given_parts g)
    → (g.normal && is_some g.scheme) ≡ true → iri_fault s t ≡ None
normal-iri s k g t f e n = ap (iri_fault s) e ∙ made-iri s k (given_parts g) f (both g.normal (is_some g.scheme) n).1

-- The steps of each part lead to its normal form.
use Rattle.iri_resolve.proofs.Common.{option_map, ◌≡◌, ℕ, ◌+◌, ◌<◌, ◌≤◌, Bool, true, false, cond, ◌||◌, List, [], ◌∷◌, ◌++◌, Option, Some}
use Rattle.iri_resolve.proofs.Common.{None, length, refl, sym, ◌∙◌, ap, subst, arith, append_assoc, length-append, not, is_some, drop}
use Rattle.iri_resolve.proofs.Common.{slice_index, is_ascii_uppercase, to_ascii_lowercase, bytes_eq, get_or-append_seam, set-append_seam}
use Rattle.iri_resolve.proofs.Common.{bytes_eq-Decides, AuthorityParts, FitsAuthority, authority_parts, is_authority, recompose_authority}
use Rattle.iri_resolve.proofs.Common.{userinfo_text, authority_recomposed, reading_is, Tests, IsSpec, if_there, is_userinfo, is_path}
use Rattle.iri_resolve.proofs.Common.{is_query, is_fragment, is_host, Parts, Fits, starts_with_slashes, is_ascii_host, normal_authority}
use Rattle.iri_resolve.proofs.Common.{normal_authority_parts, normal_host, normal_port, normal_userinfo, normal, pct, CanonMode, reads}
use Rattle.iri_resolve.proofs.Common.{userinfo-whole, host-whole, path-whole, query-whole, fragment-whole, other_same, dots, guard}
use Rattle.iri_resolve.proofs.Common.{normal_path, normal_form, form, with_small_letter, component_steps, scheme_steps, host_start}
use Rattle.iri_resolve.proofs.Common.{replayed_in, step_in, loses_dots, Authority, Path, Query, Fragment, SchemeLetter, Dots, step_if}
use Rattle.std.proofs.Common.{drop_of_length-le, drop-cons}
use Rattle.std.proofs.Math.Numerals.{add-one}
use Rattle.iri_normal.specs.NormalForm.{lowered}
use Rattle.iri_normal.proofs.normal_forms.Authorities.{userinfo-fits, host-fits}
use Rattle.iri_normal.proofs.normal_forms.Paths.{stands-still}
use Rattle.iri_normal.proofs.triplets.PathTriplets.{dots-pct}
use Rattle.iri_resolve.specs.NormalSteps.{authority_parts_steps, authority_steps, host_steps, path_steps, plain_steps, port_steps}
use Rattle.iri_resolve.specs.NormalSteps.{steps_there, triplet_steps}
use Rattle.iri_resolve.proofs.ComponentLemmas.{component-led}
use Rattle.iri_resolve.proofs.GuardLemmas.{dots-lost}
use Rattle.iri_resolve.proofs.Replays.{Led, led-nothing, led-on, led-step, replayed_in-append}
use Rattle.iri_resolve.proofs.Places.{ascii-place, fragment-place, host-place, is_host_in_ascii, path-place, query-place, userinfo-place}
use Rattle.iri_resolve.proofs.Places.{with_authority}

abbrev any : List ℕ → Bool
any t = true

-- ---- the scheme
module _ (s : Tests) (m : CanonMode) (u : Parts) where
  abbrev scheme : List ℕ → Parts
  scheme t = record u { scheme = Some t }

  letter-led : (a r : List ℕ) (x at : ℕ) → at ≡ length a
      → Led s m any scheme (a ++ x ∷ r) (step_if (is_ascii_uppercase x) (SchemeLetter at)) (a ++ to_ascii_lowercase x ∷ r)
  unfolding step_in with_small_letter
  letter-led a r x at e =
      elim (is_ascii_uppercase x) as (λ b. is_ascii_uppercase x ≡ b
      → Led s m any scheme (a ++ x ∷ r) (cond b (SchemeLetter at ∷ []) []) (a ++ to_ascii_lowercase x ∷ r)) [
        | true ↦ λ g.
            let small : with_small_letter (length a) (a ++ x ∷ r) ≡ Some (a ++ to_ascii_lowercase x ∷ r) =
            rw (get_or-append_seam a x r 0, g) (ap Some (set-append_seam a x r (to_ascii_lowercase x))) in
            rw e (led-step s m any scheme (a ++ x ∷ r) (a ++ to_ascii_lowercase x ∷ r) (SchemeLetter (length a)) (ap (option_map scheme) small) refl)
        | false ↦ λ g. rw (other_same x g) (led-nothing s m any scheme (a ++ x ∷ r) refl)
      ] refl

  goes : (a t : List ℕ) (at : ℕ) → at ≡ length a → Led s m any scheme (a ++ t) (scheme_steps at t) (a ++ lowered t)
  unfolding scheme_steps
  goes a [] at e = led-nothing s m any scheme (a ++ []) refl
  goes a (x ∷ t) at e =
      let y = to_ascii_lowercase x in
      let two = goes (a ++ y ∷ []) t (at + 1) (omega (arith, e, length-append a (y ∷ []))) in
      led-on s m any scheme (a ++ x ∷ t) (a ++ y ∷ t) (a ++ y ∷ lowered t) (step_if (is_ascii_uppercase x) (SchemeLetter at)) (scheme_steps (at + 1) t)
      (letter-led a t x at e)
      (subst (λ z. Led s m any scheme z (scheme_steps (at + 1) t) (a ++ y ∷ lowered t)) (append_assoc a (y ∷ []) t)
      (subst (λ z. Led s m any scheme ((a ++ y ∷ []) ++ t) (scheme_steps (at + 1) t) z) (append_assoc a (y ∷ []) (lowered t)) two))

  scheme-led : (o : Option (List ℕ))
      → replayed_in s m (record u { scheme = o }) (steps_there (scheme_steps 0) o) ≡ Some (record u { scheme = option_map lowered o })
  unfolding replayed_in
  scheme-led None = refl
  scheme-led (Some t) = (goes [] t 0 refl).leads

pub next-letter : (w : List ℕ) (i : ℕ) → i < length w
    → scheme_steps i (drop i w) ≡ step_if (is_ascii_uppercase (slice_index w i)) (SchemeLetter i) ++ scheme_steps (i + 1) (drop (i + 1) w)
unfolding scheme_steps
next-letter w i h = ap (scheme_steps i) (drop-cons w i 0 h) ∙ rw add-one refl

-- ---- path, query and fragment
module _ (s : Tests) (k : IsSpec s) (m : CanonMode) (u : Parts) where
  query-led : (o : Option (List ℕ)) → if_there (is_query s) o ≡ true
      → replayed_in s m (record u { query = o }) (steps_there (triplet_steps s Query) o) ≡ Some (record u { query = option_map (pct s) o })
  unfolding replayed_in
  query-led None h = refl
  query-led (Some t) h = (component-led s k m Query false 0 (is_query s) (λ q. record u { query = Some q }) (query-place s u k) t
      (query-whole s t k h) h).leads

  fragment-led : (o : Option (List ℕ)) → if_there (is_fragment s) o ≡ true
      → replayed_in s m (record u { fragment = o }) (steps_there (triplet_steps s Fragment) o) ≡ Some (record u { fragment = option_map (pct s) o })
  unfolding replayed_in
  fragment-led None h = refl
  fragment-led (Some t) h = (component-led s k m Fragment false 0 (is_fragment s) (λ q. record u { fragment = Some q }) (fragment-place s u k) t
      (fragment-whole s t k h) h).leads

  dots-led : (p : List ℕ) → replayed_in s m (record u { path = p }) (cond (bytes_eq (guard (dots p) (is_some u.authority)) p) [] (Dots ∷ []))
      ≡ Some (record u { path = guard (dots p) (is_some u.authority) })
  unfolding replayed_in step_in
  dots-led p =
      let q = guard (dots p) (is_some u.authority) in
      elim (bytes_eq q p) as (λ b. bytes_eq q p ≡ b → replayed_in s m (record u { path = p }) (cond b [] (Dots ∷ [])) ≡ Some (record u { path = q })) [
        | true ↦ λ e. ap (λ z. Some (record u { path = z })) (sym ((bytes_eq-Decides q p).0 e))
        | false ↦ λ e. rw e refl
      ] refl

  path-led : (p : List ℕ) → is_path s p ≡ true → replayed_in s m (record u { path = p }) (path_steps s (is_some u.authority) p)
      ≡ Some (record u { path = guard (pct s (dots p)) (is_some u.authority) })
  unfolding path_steps
  path-led p h =
      let w = path-whole s p k h in
      let one = component-led s k m Path false 0 (is_path s) (λ q. record u { path = q }) (path-place s u k) p w h in
      replayed_in-append s m (record u { path = p }) (record u { path = pct s p }) (triplet_steps s Path p)
      (cond (bytes_eq (guard (dots (pct s p)) (is_some u.authority)) (pct s p)) [] (Dots ∷ [])) one.leads
      ∙ (dots-led (pct s p) ∙ ap (λ z. Some (record u { path = guard z (is_some u.authority) })) (dots-pct s p k w))

  -- ---- the authority
  userinfo-led : (p : AuthorityParts) (o : Option (List ℕ)) → FitsAuthority s (record p { userinfo = o })
      → replayed_in s m (with_authority u (record p { userinfo = o })) (steps_there (triplet_steps s Authority) o)
      ≡ Some (with_authority u (record p { userinfo = normal_userinfo s o }))
  unfolding replayed_in
  userinfo-led p None f = refl
  userinfo-led p (Some t) f = (component-led s k m Authority false 0 (is_userinfo s) (λ z. with_authority u (record p { userinfo = Some z }))
      (userinfo-place s u (record p { userinfo = Some t }) k f) t (userinfo-whole s t k f.userinfo) f.userinfo).leads

  host-led : (p : AuthorityParts) → FitsAuthority s p
      → replayed_in s m (with_authority u p) (host_steps s (host_start p) p.host) ≡ Some (with_authority u (record p { host = normal_host s p.host }))
  unfolding normal_host
  host-led p f =
      let h = p.host in
      let w = host-whole s h k f.host in
      elim (is_ascii_host h) as (λ b. is_ascii_host h ≡ b → replayed_in s m (with_authority u p) (component_steps s Authority b 0 (host_start p) h)
      ≡ Some (with_authority u (record p { host = cond b (normal s to_ascii_lowercase h) (pct s h) }))) [
        | true ↦ λ e. (component-led s k m Authority true (host_start p) (is_host_in_ascii s) (λ z. with_authority u (record p { host = z }))
            (ascii-place s u p k f) h w (rw (f.host, e) refl)).leads
        | false ↦ λ _. (component-led s k m Authority false (host_start p) (is_host s) (λ z. with_authority u (record p { host = z }))
            (host-place s u p k f) h w f.host).leads
      ] refl

  port-led : (p : AuthorityParts) (o : Option (List ℕ)) → FitsAuthority s (record p { port = o })
      → replayed_in s m (with_authority u (record p { port = o })) (port_steps o) ≡ Some (with_authority u (record p { port = normal_port o }))
  unfolding replayed_in step_in
  port-led p None f = refl
  port-led p (Some (x ∷ xs)) f = refl
  port-led p (Some []) f =
      let q : AuthorityParts = record p { port = Some [] } in
      let e : authority_parts (recompose_authority q) ≡ q = reading_is s k (recompose_authority q) q (f, refl) in
      rw e refl

  authority-led : (o : Option (List ℕ)) → if_there (is_authority s) o ≡ true
      → replayed_in s m (record u { authority = o }) (steps_there (authority_steps s) o)
      ≡ Some (record u { authority = option_map (normal_authority s) o })
  unfolding replayed_in normal_authority authority_steps
  authority-led None h = refl
  authority-led (Some a) h =
      let p = authority_parts a in
      let f = reads s a k h in
      let v : AuthorityParts = record p { userinfo = normal_userinfo s p.userinfo } in
      let w : AuthorityParts = record v { host = normal_host s p.host } in
      let fv : FitsAuthority s v = record { userinfo = userinfo-fits s p.userinfo k f.userinfo; host = f.host; port = f.port } in
      let fw : FitsAuthority s w = record { userinfo = fv.userinfo; host = host-fits s p.host k f.host; port = f.port } in
      subst (λ z. replayed_in s m (record u { authority = Some z }) (authority_parts_steps s p) ≡ Some (with_authority u (normal_authority_parts s p)))
      (authority_recomposed a)
      (replayed_in-append s m (with_authority u p) (with_authority u v) (steps_there (triplet_steps s Authority) p.userinfo)
      (host_steps s (host_start v) p.host ++ port_steps p.port) (userinfo-led p p.userinfo f)
      ∙ (replayed_in-append s m (with_authority u v) (with_authority u w) (host_steps s (host_start v) p.host) (port_steps p.port) (host-led v fv)
      ∙ port-led w p.port fw))

-- ---- all of it
pub plain-led : (s : Tests) (m : CanonMode) (t : Parts) → IsSpec s → Fits s t → replayed_in s m t (plain_steps s t) ≡ Some (normal_form s t)
unfolding normal_form form normal_path plain_steps
plain-led s m t k f =
    let t1 : Parts = record t { scheme = option_map lowered t.scheme } in
    let t2 : Parts = record t1 { authority = option_map (normal_authority s) t.authority } in
    let t3 : Parts = record t2 { path = guard (pct s (dots t.path)) (is_some t.authority) } in
    let t4 : Parts = record t3 { query = option_map (pct s) t.query } in
    let t5 : Parts = record t4 { fragment = option_map (pct s) t.fragment } in
    let b = steps_there (authority_steps s) t.authority in
    let c = path_steps s (is_some t.authority) t.path in
    let d = steps_there (triplet_steps s Query) t.query in
    let e = steps_there (triplet_steps s Fragment) t.fragment in
    let path : replayed_in s m t2 c ≡ Some t3 =
    subst (λ v. replayed_in s m t2 (path_steps s v t.path) ≡ Some (record t2 { path = guard (pct s (dots t.path)) v }))
    (stands-still (normal_authority s) t.authority) (path-led s k m t2 t.path f.path) in
    replayed_in-append s m t t1 (steps_there (scheme_steps 0) t.scheme) (b ++ (c ++ (d ++ e))) (scheme-led s m t t.scheme)
    ∙ (replayed_in-append s m t1 t2 b (c ++ (d ++ e)) (authority-led s k m t1 t.authority f.authority)
    ∙ (replayed_in-append s m t2 t3 c (d ++ e) path
    ∙ (replayed_in-append s m t3 t4 d e (query-led s k m t3 t.query f.query)
    ∙ fragment-led s k m t4 t.fragment f.fragment)))

-- ---- as they are written
pub no-letters : (w : List ℕ) (i : ℕ) → length w ≤ i → scheme_steps i (drop i w) ≡ []
unfolding scheme_steps
no-letters w i h = ap (scheme_steps i) (drop_of_length-le w h)

swapped : (b : Bool) → cond b (Dots ∷ []) [] ≡ cond (not b) [] (Dots ∷ [])
swapped true = refl
swapped false = refl

-- the step of dot segments that go, told by the path as it stands
pub path-pushed : (s : Tests) (p : List ℕ) (stands : Bool) → IsSpec s → is_path s p ≡ true → (stands || not (starts_with_slashes p)) ≡ true
    → triplet_steps s Path p ++ step_if (loses_dots p stands) Dots ≡ path_steps s stands p
unfolding path_steps
path-pushed s p stands k h g =
    let lost : bytes_eq (guard (dots (pct s p)) stands) (pct s p) ≡ not (loses_dots p stands) = dots-lost s k p (path-whole s p k h) stands g in
    ap (λ z. triplet_steps s Path p ++ z) (swapped (loses_dots p stands) ∙ ap (λ v. cond v [] (Dots ∷ [])) (sym lost))

-- the steps of an authority, told by what is read of it
pub authority-pushed : (s : Tests) (a : List ℕ) (p : AuthorityParts) (start : ℕ) (u o : Option (List ℕ)) (h : List ℕ) → p ≡ authority_parts a
    → u ≡ p.userinfo → h ≡ p.host → o ≡ p.port → start ≡ length (userinfo_text (normal_userinfo s u))
    → steps_there (triplet_steps s Authority) u ++ (host_steps s start h ++ port_steps o) ≡ authority_steps s a
unfolding authority_steps
authority-pushed s a p start u o h e hu hh ho i =
    ap (λ n. steps_there (triplet_steps s Authority) u ++ (host_steps s n h ++ port_steps o)) i ∙ rw (hu, hh, ho) (ap (authority_parts_steps s) e)

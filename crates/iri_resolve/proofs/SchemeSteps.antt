-- Steps of a mode keep the parts valid, and their normal form, and lead to it.
use Rattle.iri_resolve.proofs.Common.{IsSome, AuthorityParts, FitsAuthority, authority_parts, is_authority, recompose_authority, Tests}
use Rattle.iri_resolve.proofs.Common.{IsSpec, path_char, if_there, Parts, Fits, path_rules, recompose, authority_recomposed, reading_is}
use Rattle.iri_resolve.proofs.Common.{passes, is_dropped, normal_authority, normal_port, dropped_port, CanonMode, reads, with_capital_digit}
use Rattle.iri_resolve.proofs.Common.{with_decoded, with_small_letter, replayed_in, step_in, with_dots_removed, with_slash}
use Rattle.iri_resolve.proofs.Common.{with_small_letter_in_host, without_dropped_port, without_empty_port, is_port_dropped, steps_of, Step}
use Rattle.iri_resolve.proofs.Common.{SchemeLetter, HostLetter, HexDigit, Decode, EmptyPort, Dots, DefaultPort, SlashPath, ◌≡◌, ℕ, Bool}
use Rattle.iri_resolve.proofs.Common.{true, false, cond, List, [], ◌∷◌, Option, Some, None, refl, sym, ◌∙◌, ap, subst, option_map}
use Rattle.iri_resolve.proofs.Common.{option_and_then, normal_form, normal_path, step_if}
use Rattle.std.proofs.Common.{◌≢◌, ◌↔◌}
use Rattle.std.specs.Prelude.{codes}
use Rattle.std.specs.Str.{str_eq_ignore_ascii_case}
use Rattle.std.proofs.lemmas.Option.{cond_some}
use Rattle.iri_grammar.proofs.splits.SplitUnique.{one_split}
use Rattle.iri_percent.specs.NormalHost.{normal_authority_in, normal_authority_parts_in, normal_port_in}
use Rattle.iri_percent.specs.SchemeRules.{default_port, is_either}
use Rattle.iri_percent.specs.declared.canon_mode.CanonMode.TheVariants.{Default, Scheme}
use Rattle.iri_percent.proofs.hosts.Authorities.{authority_in}
use Rattle.iri_normal.specs.NormalForm.{becomes_slash, normal_form_in, slash_or}
use Rattle.iri_resolve.specs.Steps.{JoinedIn}
use Rattle.iri_resolve.specs.NormalSteps.{has_port, plain_steps, scheme_rule_steps}
use Rattle.iri_normal.proofs.normal_forms.Authorities.{normal-parts}
use Rattle.iri_resolve.proofs.AuthoritySteps.{letter-changed, port-changed, placed-gives, part-gives}
use Rattle.iri_resolve.proofs.NormalStepLemmas.{plain-led}
use Rattle.iri_resolve.proofs.Replays.{replayed_in-append}
use Rattle.iri_normal.proofs.normal_forms.PartsFit.{normal-slash, normal_in-fits}
use Rattle.iri_normal.proofs.normal_forms.SchemeRules.{by_mode, dropped-still, form-by_mode, kept_port, normal-is, one-form, slash-normal}
use Rattle.iri_normal.proofs.normal_forms.SchemeRules.{without, normal_parts}
use Rattle.iri_resolve.proofs.ChangeKeeps.{capital-keeps, decoding-keeps}
use Rattle.iri_resolve.proofs.StepsKept.{Kept, Valid, authority-changed, authority-fits, change-kept, dots-removed, dots-step, path-fits}
use Rattle.iri_resolve.proofs.StepsKept.{scheme-step}
use Rattle.iri_normal.proofs.targets.Targets.{slash_in_path}
use Rattle.iri_normal.proofs.targets.CutTexts.{slash_over}

-- u is valid, has a scheme, and has the normal form of t in the mode
pub record KeptIn (s : Tests) (m : CanonMode) (t u : Parts) : Type 0 where
  pub fits : Fits s u
  pub scheme : IsSome u.scheme
  pub form : normal_form_in s m u ≡ normal_form_in s m t

kept_in : (s : Tests) (m : CanonMode) (t u : Parts) → IsSpec s → Valid s t → Kept s t u → KeptIn s m t u
kept_in s m t u k v h = record { fits = h.fits; scheme = h.scheme; form = one-form s m u t k h.fits v.fits h.form }

-- ---- the port that is dropped
port-gone : (d : Option (List ℕ)) (o : Option (List ℕ)) → is_port_dropped d o ≡ true → normal_port_in d o ≡ None
port-gone d None h = refl
port-gone d (Some []) h = refl
port-gone d (Some (x ∷ xs)) h = rw h refl

without-fits : (s : Tests) (p : AuthorityParts) → FitsAuthority s p → FitsAuthority s (record p { port = None })
without-fits s p f = record { userinfo = f.userinfo; host = f.host; port = refl }

-- what is read of an authority without its port, and its normal form
without-kept : (s : Tests) (d : Option (List ℕ)) (a : List ℕ) → IsSpec s → is_authority s a ≡ true
    → is_port_dropped d (authority_parts a).port ≡ true
    → (is_authority s (recompose_authority (record (authority_parts a) { port = None })) ≡ true)
    × (normal_authority_in s d (recompose_authority (record (authority_parts a) { port = None })) ≡ normal_authority_in s d a)
without-kept s d a k h g =
    let p = authority_parts a in
    let q : AuthorityParts = record p { port = None } in
    let f = without-fits s p (reads s a k h) in
    let e : authority_parts (recompose_authority q) ≡ q = reading_is s k (recompose_authority q) q (f, refl) in
    let same : normal_authority_parts_in s d q ≡ normal_authority_parts_in s d p =
    ap (λ o. record (normal_authority_parts_in s d p) { port = o }) (sym (port-gone d p.port g)) in (
      passes s k (recompose_authority q) q (f, refl),
      sym (authority_in s d (recompose_authority q) q (sym e)) ∙ (ap recompose_authority same ∙ authority_in s d a p refl),
    )

-- what a step that drops a port gives
port-dropped : (d : Option (List ℕ)) (p : AuthorityParts) (o : Option (List ℕ)) (b : List ℕ) → without_dropped_port d p o ≡ Some b
    → (is_port_dropped d o ≡ true) × (recompose_authority (record p { port = None }) ≡ b)
port-dropped d p None b h = cc
port-dropped d p (Some x) b h = cond_some (is_dropped d x) (recompose_authority (record p { port = None })) b h

still-stands : (d : Option (List ℕ)) (a b p : List ℕ) → becomes_slash d (Some a) p ≡ becomes_slash d (Some b) p
still-stands None a b p = refl
still-stands (Some d) a b p = refl

still-path : (s : Tests) (a b p : List ℕ) → normal_path s (Some a) p ≡ normal_path s (Some b) p
unfolding normal_path
still-path s a b p = refl

default_port-kept : (s : Tests) (m : CanonMode) (t : Parts) (a b : List ℕ) → IsSpec s → Valid s t → t.authority ≡ Some a
    → without_dropped_port (dropped_port m t.scheme) (authority_parts a) (authority_parts a).port ≡ Some b
    → KeptIn s m t (record t { authority = Some b })
default_port-kept s m t a b k v e h =
    let d = dropped_port m t.scheme in
    let u : Parts = record t { authority = Some b } in
    let old : is_authority s a ≡ true = ap (if_there (is_authority s)) (sym e) ∙ v.fits.authority in
    let r = port-dropped d (authority_parts a) (authority_parts a).port b h in
    let kept = without-kept s d a k old r.0 in
    let new : is_authority s b ≡ true = subst (λ z. is_authority s z ≡ true) r.1 kept.0 in
    let same : normal_authority_in s d b ≡ normal_authority_in s d a = ap (normal_authority_in s d) (sym r.1) ∙ kept.1 in
    let parts : normal_parts s d u ≡ normal_parts s d t = rw (e, same, still-stands d b a t.path, still-path s b a t.path) refl in
    record {
      fits = authority-fits s t a b v.fits e new;
      scheme = v.scheme;
      form = normal-is s m u ∙ (parts ∙ sym (normal-is s m t));
    }

-- ---- the empty path
slash-stands : (d a : Option (List ℕ)) (p : List ℕ) → becomes_slash d a p ≡ true → (z : List ℕ) × (a ≡ Some z)
slash-stands None a p h = cc
slash-stands (Some d) None p h = cc
slash-stands (Some d) (Some z) p h = (z, refl)

not-empty : (d a : Option (List ℕ)) → becomes_slash d a (47 ∷ []) ≡ false
not-empty None a = refl
not-empty (Some d) None = refl
not-empty (Some d) (Some z) = refl

slash-kept : (s : Tests) (m : CanonMode) (t : Parts) → Valid s t → becomes_slash (dropped_port m t.scheme) t.authority t.path ≡ true
    → KeptIn s m t (record t { path = 47 ∷ [] })
slash-kept s m t v h =
    let d = dropped_port m t.scheme in
    let u : Parts = record t { path = 47 ∷ [] } in
    let z = slash-stands d t.authority t.path h in
    let normal : normal_path s t.authority (47 ∷ []) ≡ 47 ∷ [] = ap (λ a. normal_path s a (47 ∷ [])) z.1 ∙ normal-slash s z.0 in
    let parts : normal_parts s d u ≡ normal_parts s d t = rw (h, not-empty d t.authority, normal) refl in
    record {
      fits = path-fits s t (47 ∷ []) v.fits (slash_over (path_char s) (slash_in_path s))
          (ap (λ a. path_rules t.scheme a (47 ∷ [])) z.1);
      scheme = v.scheme;
      form = normal-is s m u ∙ (parts ∙ sym (normal-is s m t));
    }

-- ---- each step
pub step_in-kept : (s : Tests) (m : CanonMode) (t u : Parts) (x : Step) → IsSpec s → Valid s t → step_in s m t x ≡ Some u → KeptIn s m t u
unfolding step_in
step_in-kept s m t u (SchemeLetter i) k v h = kept_in s m t u k v (part-gives (Kept s t) (λ x. record t { scheme = Some x })
    (with_small_letter i) t.scheme u h (λ a b e f. scheme-step s t i a b v e f))
step_in-kept s m t u (HostLetter i) k v h = kept_in s m t u k v
    (authority-changed s t u (λ a. with_small_letter_in_host i (authority_parts a)) k v (λ a b o e. letter-changed s i a b k o e) h)
step_in-kept s m t u (HexDigit part i) k v h = kept_in s m t u k v (change-kept s with_capital_digit t u part i k (capital-keeps s) v h)
step_in-kept s m t u (Decode part i) k v h = kept_in s m t u k v (change-kept s (with_decoded s) t u part i k (decoding-keeps s k) v h)
step_in-kept s m t u EmptyPort k v h = kept_in s m t u k v
    (authority-changed s t u (λ a. without_empty_port (authority_parts a) (authority_parts a).port) k v (λ a b o e. port-changed s a b k o e) h)
step_in-kept s m t u Dots k v h = kept_in s m t u k v (placed-gives (Kept s t) (λ p. record t { path = p }) (with_dots_removed t) u h
    (λ b e. subst (λ p. Kept s t (record t { path = p })) (dots-removed t b e) (dots-step s t k v)))
step_in-kept s m t u DefaultPort k v h =
    let change : List ℕ → Option (List ℕ) = λ a. without_dropped_port (dropped_port m t.scheme) (authority_parts a) (authority_parts a).port in
    part-gives (KeptIn s m t) (λ a. record t { authority = Some a }) change t.authority u h (λ a b e f. default_port-kept s m t a b k v e f)
step_in-kept s m t u SlashPath k v h =
    placed-gives (KeptIn s m t) (λ p. record t { path = p }) (with_slash (dropped_port m t.scheme) t) u h
    (λ b e. let q = cond_some (becomes_slash (dropped_port m t.scheme) t.authority t.path) (47 ∷ []) b e in
    subst (λ p. KeptIn s m t (record t { path = p })) q.1 (slash-kept s m t v q.0))

-- ---- lists of steps
pub valid_in : (s : Tests) (m : CanonMode) (t u : Parts) → KeptIn s m t u → Valid s u
valid_in s m t u k = record { fits = k.fits; scheme = k.scheme }

pub replayed_in-kept : (s : Tests) (m : CanonMode) (t u : Parts) (l : List Step) → IsSpec s → Valid s t → replayed_in s m t l ≡ Some u
    → KeptIn s m t u
unfolding replayed_in
replayed_in-kept s m t u [] k v h = let same : t ≡ u = cc in
    subst (λ z. KeptIn s m t z) same (record { fits = v.fits; scheme = v.scheme; form = refl })
replayed_in-kept s m t u (x ∷ xs) k v h = at (step_in s m t x) refl h (λ w o j. replayed_in-kept s m w u xs k o j)
  where
    at : (o : Option Parts) → step_in s m t x ≡ o → option_and_then (λ w. replayed_in s m w xs) o ≡ Some u
        → ((w : Parts) → Valid s w → replayed_in s m w xs ≡ Some u → KeptIn s m w u) → KeptIn s m t u
    at None e j go = cc
    at (Some w) e j go =
        let one = step_in-kept s m t w x k v e in
        let rest = go w (valid_in s m t w one) j in
        record { fits = rest.fits; scheme = rest.scheme; form = rest.form ∙ one.form }

-- ---- to the normal form
one-step : (s : Tests) (m : CanonMode) (t u : Parts) (x : Step) → step_in s m t x ≡ Some u → replayed_in s m t (x ∷ []) ≡ Some u
unfolding replayed_in
one-step s m t u x h = ap (λ o. option_and_then (λ v. Some v) o) h

no-step : (s : Tests) (m : CanonMode) (t : Parts) → replayed_in s m t [] ≡ Some t
unfolding replayed_in
no-step s m t = refl

-- a default port isn't empty
port-some : (x : List ℕ) → default_port x ≢ Some []
unfolding default_port
port-some x h = at (is_either x (codes "http") (codes "ws")) (is_either x (codes "https") (codes "wss"))
    (str_eq_ignore_ascii_case x (codes "ftp")) h
  where
    at : (a b c : Bool) → cond a (Some (codes "80")) (cond b (Some (codes "443")) (cond c (Some (codes "21")) None)) ≡ Some [] → ⊥
    at true b c j = cc
    at false true c j = cc
    at false false true j = cc
    at false false false j = cc

dropped-some : (m : CanonMode) (o : Option (List ℕ)) → dropped_port m o ≢ Some []
dropped-some Default o h = cc
dropped-some Scheme None h = cc
dropped-some Scheme (Some x) h = port-some x h

port-normal : (d o : Option (List ℕ)) → d ≢ Some [] → is_port_dropped d (normal_port o) ≡ is_port_dropped d o
port-normal d None n = refl
port-normal None (Some []) n = refl
port-normal (Some []) (Some []) n = absurd (n refl)
port-normal (Some (y ∷ ys)) (Some []) n = refl
port-normal d (Some (x ∷ xs)) n = refl

-- an authority has the port that is dropped exactly where its normal form has it
has_port-normal : (s : Tests) (d o : Option (List ℕ)) → IsSpec s → d ≢ Some [] → if_there (is_authority s) o ≡ true
    → has_port d (option_map (normal_authority s) o) ≡ has_port d o
has_port-normal s d None k n h = refl
has_port-normal s d (Some a) k n h =
    ap (λ p. is_port_dropped d p.port) (normal-parts s None a k h) ∙ port-normal d (authority_parts a).port n

port-stays : (d : List ℕ) (o : Option (List ℕ)) → is_port_dropped (Some d) o ≡ false → kept_port d o ≡ o
port-stays d None h = refl
port-stays d (Some p) h = rw h refl

port-goes : (d : List ℕ) (o : Option (List ℕ)) → is_port_dropped (Some d) o ≡ true → kept_port d o ≡ None
port-goes d None h = cc
port-goes d (Some p) h = rw h refl

without-same : (d o : Option (List ℕ)) → has_port d o ≡ false → option_map (without d) o ≡ o
without-same d None h = refl
without-same None (Some a) h = refl
without-same (Some d) (Some a) h =
    let p = authority_parts a in
    ap Some (ap (λ z. recompose_authority (record p { port = z })) (port-stays d p.port h) ∙ authority_recomposed a)

without-other : (d : Option (List ℕ)) (a : List ℕ) → has_port d (Some a) ≡ true
    → without d a ≡ recompose_authority (record (authority_parts a) { port = None })
without-other None a h = absurd (never (authority_parts a).port h)
  where
    never : (o : Option (List ℕ)) → is_port_dropped None o ≡ true → ⊥
    never None k = cc
    never (Some p) k = cc
without-other (Some d) a h =
    let p = authority_parts a in ap (λ z. recompose_authority (record p { port = z })) (port-goes d p.port h)

dropped-is : (d : Option (List ℕ)) (p : AuthorityParts) (o : Option (List ℕ)) → is_port_dropped d o ≡ true
    → without_dropped_port d p o ≡ Some (recompose_authority (record p { port = None }))
dropped-is d p None h = cc
dropped-is d p (Some x) h = rw h refl

abbrev without_port_of : CanonMode → Parts → Parts
without_port_of m t = record t { authority = option_map (without (dropped_port m t.scheme)) t.authority }

port-led : (s : Tests) (m : CanonMode) (t : Parts) (o : Option (List ℕ)) (b : Bool) → t.authority ≡ o → has_port (dropped_port m t.scheme) o ≡ b
    → replayed_in s m t (step_if b DefaultPort) ≡ Some (without_port_of m t)
unfolding step_in
port-led s m t o false e h =
    let d = dropped_port m t.scheme in
    let same : option_map (without d) t.authority ≡ t.authority = without-same d t.authority (ap (has_port d) e ∙ h) in
    no-step s m t ∙ ap (λ z. Some (record t { authority = z })) (sym same)
port-led s m t None true e h = cc
port-led s m t (Some a) true e h =
    let d = dropped_port m t.scheme in
    let p = authority_parts a in
    let change : List ℕ → Option (List ℕ) = λ a. without_dropped_port d (authority_parts a) (authority_parts a).port in
    let put : List ℕ → Parts = λ a. record t { authority = Some a } in
    let new : option_map (without d) t.authority ≡ Some (recompose_authority (record p { port = None })) =
    ap (option_map (without d)) e ∙ ap Some (without-other d a h) in
    one-step s m t (without_port_of m t) DefaultPort
    (ap (λ z. option_map put (option_and_then change z)) e ∙ (ap (option_map put) (dropped-is d p p.port h)
    ∙ ap (λ z. Some (record t { authority = z })) (sym new)))

stands-on : (d a : Option (List ℕ)) (f : List ℕ → List ℕ) (p : List ℕ) → becomes_slash d (option_map f a) p ≡ becomes_slash d a p
stands-on None a f p = refl
stands-on (Some d) None f p = refl
stands-on (Some d) (Some z) f p = refl

slash-led : (s : Tests) (m : CanonMode) (t : Parts) (b : Bool) → becomes_slash (dropped_port m t.scheme) t.authority t.path ≡ b
    → replayed_in s m t (step_if b SlashPath) ≡ Some (record t { path = slash_or b t.path })
unfolding step_in
slash-led s m t false h = no-step s m t
slash-led s m t true h = one-step s m t (record t { path = 47 ∷ [] }) SlashPath
    (ap (λ b. option_map (λ p. record t { path = p }) (cond b (Some (47 ∷ [])) None)) h)

by_mode-led : (s : Tests) (m : CanonMode) (t : Parts) → replayed_in s m t (scheme_rule_steps (dropped_port m t.scheme) t) ≡ Some (by_mode m t)
by_mode-led s m t =
    let d = dropped_port m t.scheme in
    let b = becomes_slash d t.authority t.path in
    replayed_in-append s m t (without_port_of m t) (step_if (has_port d t.authority) DefaultPort) (step_if b SlashPath)
    (port-led s m t t.authority (has_port d t.authority) refl refl)
    ∙ slash-led s m (without_port_of m t) b (stands-on d t.authority (without d) t.path)

-- the steps by the rules of a mode are those of the normal form
steps-normal : (s : Tests) (m : CanonMode) (t : Parts) → IsSpec s → Fits s t
    → scheme_rule_steps (dropped_port m (normal_form s t).scheme) (normal_form s t) ≡ scheme_rule_steps (dropped_port m t.scheme) t
steps-normal s m t k f =
    let d = dropped_port m t.scheme in
    let n = normal_parts s None t in
    let same : scheme_rule_steps (dropped_port m n.scheme) n ≡ scheme_rule_steps d t =
    rw (
      dropped-still m t.scheme,
      has_port-normal s d t.authority k (dropped-some m t.scheme) f.authority,
      slash-normal s (normal_authority s) t.scheme d t.authority t.path f.rules,
    )
    refl in
    ap (λ (p : Parts). scheme_rule_steps (dropped_port m p.scheme) p) (normal-is s Default t) ∙ same

-- the steps to the normal form lead to it
pub normal_in-leads : (s : Tests) (m : CanonMode) (t : Parts) → IsSpec s → Fits s t
    → replayed_in s m t (steps_of s m t) ≡ Some (normal_form_in s m t)
unfolding steps_of
normal_in-leads s m t k f =
    replayed_in-append s m t (normal_form s t) (plain_steps s t) (scheme_rule_steps (dropped_port m t.scheme) t) (plain-led s m t k f)
    ∙ (ap (replayed_in s m (normal_form s t)) (sym (steps-normal s m t k f))
    ∙ (by_mode-led s m (normal_form s t) ∙ ap Some (form-by_mode s m t k f)))

-- ---- steps join what has one normal form
joined_in-form : (s : Tests) (m : CanonMode) (t u : Parts) → IsSpec s → Valid s t → Valid s u → JoinedIn s m t u
    → normal_form_in s m t ≡ normal_form_in s m u
joined_in-form s m t u k v w j = sym (replayed_in-kept s m t j.2 j.0 k v j.3).form ∙ (replayed_in-kept s m u j.2 j.1 k w j.4).form

form_in-joined : (s : Tests) (m : CanonMode) (t u : Parts) → IsSpec s → Fits s t → Fits s u
    → normal_form_in s m t ≡ normal_form_in s m u → JoinedIn s m t u
form_in-joined s m t u k f g e =
    (steps_of s m t, steps_of s m u, normal_form_in s m t, normal_in-leads s m t k f, normal_in-leads s m u k g ∙ ap Some (sym e))

pub joined_in-exactly : (s : Tests) (m : CanonMode) (t u : Parts) → IsSpec s → Fits s t → IsSome t.scheme → Fits s u → IsSome u.scheme
    → JoinedIn s m t u ↔ (normal_form_in s m t ≡ normal_form_in s m u)
joined_in-exactly s m t u k f i g j = (
  λ h. joined_in-form s m t u k (record { fits = f; scheme = i }) (record { fits = g; scheme = j }) h,
  λ e. form_in-joined s m t u k f g e,
)

-- that is where their canonical texts are equal
pub texts_in-exactly : (s : Tests) (m : CanonMode) (t u : Parts) → IsSpec s → Fits s t → IsSome t.scheme → Fits s u → IsSome u.scheme
    → (recompose (normal_form_in s m t) ≡ recompose (normal_form_in s m u)) ↔ (normal_form_in s m t ≡ normal_form_in s m u)
texts_in-exactly s m t u k f i g j = (
  λ e. one_split s k (recompose (normal_form_in s m u)) (normal_form_in s m t) (normal_form_in s m u)
      (record { fits = (normal_in-fits s m t k f i).0; text = e }) (record { fits = (normal_in-fits s m u k g j).0; text = refl }),
  λ e. ap recompose e,
)

-- Each step keeps the parts valid, and their normal form.
use Rattle.iri_resolve.proofs.Common.{option_map, option_and_then, ◌≡◌, ℕ, true, false, cond, List, [], ◌∷◌, ◌++◌, Option, Some, None, refl}
use Rattle.iri_resolve.proofs.Common.{sym, ◌∙◌, ap, IsSome, is_some, take, to_ascii_lowercase, bytes_eq, authority_parts, is_authority}
use Rattle.iri_resolve.proofs.Common.{Tests, IsSpec, path_char, query_char, fragment_char, both, Parts, Fits, path_rules, as_it_is, pct}
use Rattle.iri_resolve.proofs.Common.{path-whole, query-whole, fragment-whole, path_percent, query_percent, fragment_percent, dots, guard}
use Rattle.iri_resolve.proofs.Common.{normal_path, normal_form, form, with_small_letter, at_place, in_userinfo_or_host, with_dots_removed}
use Rattle.iri_resolve.proofs.Common.{Part, Authority, Path, Query, Fragment, in_fragment, in_path, in_query, if_there, is_path, is_query}
use Rattle.iri_resolve.proofs.Common.{is_fragment}
use Rattle.std.specs.List.{list_all}
use Rattle.iri_grammar.specs.Components.{is_scheme, is_scheme_char, is_letter}
use Rattle.iri_normal.proofs.removal.Stability.{guarded_stable}
use Rattle.iri_normal.proofs.triplets.PathTriplets.{dots-pct}
use Rattle.iri_resolve.proofs.ByteLaws.{small_letter}
use Rattle.iri_resolve.proofs.ChangeKeeps.{TripletChange, rules-same}
use Rattle.iri_resolve.proofs.AuthoritySteps.{AuthorityChange, authority-kept, triplets-changed, placed-gives, part-gives, lowered-change}
use Rattle.iri_normal.proofs.normal_forms.PartsFit.{lower-letter, lower-scheme_char}
use Rattle.iri_normal.proofs.normal_forms.Paths.{plain-over, plain-rules}

-- u is valid, has a scheme, and has the normal form of t
pub record Kept (s : Tests) (t u : Parts) : Type 0 where
  pub fits : Fits s u
  pub scheme : IsSome u.scheme
  pub form : normal_form s u ≡ normal_form s t

-- valid parts with a scheme
pub record Valid (s : Tests) (t : Parts) : Type 0 where
  pub fits : Fits s t
  pub scheme : IsSome t.scheme

-- ---- the scheme
all-changed : (a b : List ℕ) (x : ℕ) → list_all is_scheme_char (a ++ x ∷ b) ≡ true
    → list_all is_scheme_char (a ++ to_ascii_lowercase x ∷ b) ≡ true
all-changed [] b x h = let k = both (is_scheme_char x) (list_all is_scheme_char b) h in rw (lower-scheme_char x k.0) k.1
all-changed (y ∷ a) b x h = let k = both (is_scheme_char y) (list_all is_scheme_char (a ++ x ∷ b)) h in rw k.0 (all-changed a b x k.1)

scheme-changed : (a b : List ℕ) (x : ℕ) → is_scheme (a ++ x ∷ b) ≡ true → is_scheme (a ++ to_ascii_lowercase x ∷ b) ≡ true
scheme-changed [] b x h = let k = both (is_letter x) (list_all is_scheme_char b) h in rw (lower-letter x k.0) k.1
scheme-changed (y ∷ a) b x h = let k = both (is_letter y) (list_all is_scheme_char (a ++ x ∷ b)) h in rw k.0 (all-changed a b x k.1)

path_rules-scheme : (o : Option (List ℕ)) (v : List ℕ) (a : Option (List ℕ)) (p : List ℕ) → IsSome o → path_rules o a p ≡ true
    → path_rules (Some v) a p ≡ true
path_rules-scheme None v a p i h = cc
path_rules-scheme (Some w) v (Some a) p i h = h
path_rules-scheme (Some w) v None p i h = h

pub scheme-step : (s : Tests) (t : Parts) (i : ℕ) (w v : List ℕ) → Valid s t → t.scheme ≡ Some w → with_small_letter i w ≡ Some v
    → Kept s t (record t { scheme = Some v })
unfolding normal_form form
scheme-step s t i w v k e h =
    let c = small_letter i w v h in
    let old : is_scheme w ≡ true = ap (if_there is_scheme) (sym e) ∙ k.fits.scheme in
    let new : is_scheme v ≡ true = ap is_scheme c.new ∙ scheme-changed (take i w) c.back c.byte (ap is_scheme (sym c.old) ∙ old) in
    record {
      fits = record {
        scheme = new;
        authority = k.fits.authority;
        path = k.fits.path;
        query = k.fits.query;
        fragment = k.fits.fragment;
        rules = path_rules-scheme t.scheme v t.authority t.path k.scheme k.fits.rules;
      };
      scheme = refl;
      form = rw (e, lowered-change i w v c) refl;
    }

-- ---- the authority
authority-rules : (o : Option (List ℕ)) (a b p : List ℕ) → path_rules o (Some a) p ≡ true → path_rules o (Some b) p ≡ true
authority-rules o a b p h = h

pub authority-fits : (s : Tests) (t : Parts) (a b : List ℕ) → Fits s t → t.authority ≡ Some a → is_authority s b ≡ true
    → Fits s (record t { authority = Some b })
authority-fits s t a b f e h =
    let r = authority-rules t.scheme a b t.path (ap (λ o. path_rules t.scheme o t.path) (sym e) ∙ f.rules) in
    record { scheme = f.scheme; authority = h; path = f.path; query = f.query; fragment = f.fragment; rules = r }

authority-step : (s : Tests) (t : Parts) (a b : List ℕ) → IsSpec s → Valid s t → t.authority ≡ Some a
    → (is_authority s a ≡ true → AuthorityChange s a b) → Kept s t (record t { authority = Some b })
unfolding normal_form form normal_path
authority-step s t a b k v e go =
    let old : is_authority s a ≡ true = ap (if_there (is_authority s)) (sym e) ∙ v.fits.authority in
    let r = authority-kept s a b k (go old) in
    record {
      fits = authority-fits s t a b v.fits e r.0;
      scheme = v.scheme;
      form = rw (e, r.1) refl;
    }

-- ---- the path
pub path-fits : (s : Tests) (t : Parts) (p : List ℕ) → Fits s t → is_path s p ≡ true → path_rules t.scheme t.authority p ≡ true
    → Fits s (record t { path = p })
path-fits s t p f h r = record { scheme = f.scheme; authority = f.authority; path = h; query = f.query; fragment = f.fragment; rules = r }

triplet_rules : (o a : Option (List ℕ)) (t u : List ℕ) → IsSome o → ((sch : List ℕ) → path_rules (Some sch) a u ≡ path_rules (Some sch) a t)
    → path_rules o a t ≡ true → path_rules o a u ≡ true
triplet_rules None a t u i e h = cc
triplet_rules (Some x) a t u i e h = e x ∙ h

pub path-triplets : (s : Tests) (change : ℕ → List ℕ → Option (List ℕ)) (t : Parts) (i : ℕ) (u : List ℕ) → IsSpec s → TripletChange s change
    → Valid s t → change i t.path ≡ Some u → Kept s t (record t { path = u })
unfolding normal_form form normal_path
path-triplets s change t i u k c v h =
    let new : is_path s u ≡ true = c.over (path_char s) i t.path u (path_percent s k) (in_path s) h v.fits.path in
    let w = path-whole s t.path k v.fits.path in
    let x = path-whole s u k new in
    let same : pct s (dots u) ≡ pct s (dots t.path) =
    sym (dots-pct s u k x) ∙ ap dots (c.form as_it_is i t.path u h w x) ∙ dots-pct s t.path k w in
    record {
      fits = path-fits s t u v.fits new (triplet_rules t.scheme t.authority t.path u v.scheme
          (λ sch. rules-same sch t.authority t.path u (c.slashes i t.path u h)) v.fits.rules);
      scheme = v.scheme;
      form = rw same refl;
    }

dots-rules : (o a : Option (List ℕ)) (p : List ℕ) → IsSome o → path_rules o a p ≡ true → path_rules o a (guard (dots p) (is_some a)) ≡ true
dots-rules None a p i h = cc
dots-rules (Some x) a p i h = plain-rules x a p h

pub dots-step : (s : Tests) (t : Parts) → IsSpec s → Valid s t → Kept s t (record t { path = guard (dots t.path) (is_some t.authority) })
unfolding normal_form form normal_path
dots-step s t k v = record {
  fits = path-fits s t (guard (dots t.path) (is_some t.authority)) v.fits
      (plain-over s t.authority t.path v.fits.path) (dots-rules t.scheme t.authority t.path v.scheme v.fits.rules);
  scheme = v.scheme;
  form = rw (guarded_stable t.path (is_some t.authority)) refl;
}

pub dots-removed : (t : Parts) (u : List ℕ) → with_dots_removed t ≡ Some u → guard (dots t.path) (is_some t.authority) ≡ u
dots-removed t u h =
    let p = guard (dots t.path) (is_some t.authority) in
    elim (bytes_eq p t.path) as (λ b. cond b None (Some p) ≡ Some u → p ≡ u) [ true ↦ λ k. cc | false ↦ λ k. cc ] h

-- ---- query and fragment
query-triplets : (s : Tests) (change : ℕ → List ℕ → Option (List ℕ)) (t : Parts) (i : ℕ) (q u : List ℕ) → IsSpec s → TripletChange s change
    → Valid s t → t.query ≡ Some q → change i q ≡ Some u → Kept s t (record t { query = Some u })
unfolding normal_form form
query-triplets s change t i q u k c v e h =
    let f = v.fits in
    let old : is_query s q ≡ true = ap (if_there (is_query s)) (sym e) ∙ v.fits.query in
    let new : is_query s u ≡ true = c.over (query_char s) i q u (query_percent s k) (in_query s) h old in
    record {
      fits = record { scheme = f.scheme; authority = f.authority; path = f.path; query = new; fragment = f.fragment; rules = f.rules };
      scheme = v.scheme;
      form = rw (e, c.form as_it_is i q u h (query-whole s q k old) (query-whole s u k new)) refl;
    }

fragment-triplets : (s : Tests) (change : ℕ → List ℕ → Option (List ℕ)) (t : Parts) (i : ℕ) (q u : List ℕ) → IsSpec s
    → TripletChange s change → Valid s t → t.fragment ≡ Some q → change i q ≡ Some u → Kept s t (record t { fragment = Some u })
unfolding normal_form form
fragment-triplets s change t i q u k c v e h =
    let f = v.fits in
    let old : is_fragment s q ≡ true = ap (if_there (is_fragment s)) (sym e) ∙ v.fits.fragment in
    let new : is_fragment s u ≡ true = c.over (fragment_char s) i q u (fragment_percent s k) (in_fragment s) h old in
    record {
      fits = record { scheme = f.scheme; authority = f.authority; path = f.path; query = f.query; fragment = new; rules = f.rules };
      scheme = v.scheme;
      form = rw (e, c.form as_it_is i q u h (fragment-whole s q k old) (fragment-whole s u k new)) refl;
    }

-- ---- each step
pub authority-changed : (s : Tests) (t u : Parts) (change : List ℕ → Option (List ℕ)) → IsSpec s → Valid s t
    → ((a b : List ℕ) → is_authority s a ≡ true → change a ≡ Some b → AuthorityChange s a b)
    → option_map (λ a. record t { authority = Some a }) (option_and_then change t.authority) ≡ Some u → Kept s t u
authority-changed s t u change k v go h = part-gives (Kept s t) (λ a. record t { authority = Some a }) change t.authority u h
    (λ a b e f. authority-step s t a b k v e (λ o. go a b o f))

pub change-kept : (s : Tests) (change : ℕ → List ℕ → Option (List ℕ)) (t u : Parts) (part : Part) (i : ℕ) → IsSpec s
    → TripletChange s change → Valid s t → at_place change t part i ≡ Some u → Kept s t u
change-kept s change t u Authority i k c v h = authority-changed s t u (λ a. in_userinfo_or_host change i (authority_parts a)) k v
    (λ a b o e. triplets-changed s change i a b k c o e) h
change-kept s change t u Path i k c v h = placed-gives (Kept s t) (λ p. record t { path = p }) (change i t.path) u h
    (λ b e. path-triplets s change t i b k c v e)
change-kept s change t u Query i k c v h = part-gives (Kept s t) (λ p. record t { query = Some p }) (change i) t.query u h
    (λ a b e f. query-triplets s change t i a b k c v e f)
change-kept s change t u Fragment i k c v h = part-gives (Kept s t) (λ p. record t { fragment = Some p }) (change i) t.fragment u h
    (λ a b e f. fragment-triplets s change t i a b k c v e f)

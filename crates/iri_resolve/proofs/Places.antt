-- Where the texts of the components stand, and the steps that change them there.
use Rattle.iri_resolve.proofs.Common.{option_map, ◌≡◌, ℕ, ◌+◌, ◌-◌, ◌<◌, Bool, true, false, ◌&&◌, List, [], ◌∷◌, ◌++◌, Option, Some, length}
use Rattle.iri_resolve.proofs.Common.{refl, ◌∙◌, ap, arith, length-append, nat_lt, to_ascii_lowercase, lt-ltb, le-ltb, AuthorityParts}
use Rattle.iri_resolve.proofs.Common.{FitsAuthority, authority_parts, recompose_authority, reading_is, Tests, IsSpec, unreserved}
use Rattle.iri_resolve.proofs.Common.{userinfo_char, path_char, query_char, fragment_char, is_userinfo, is_path, is_query, is_fragment}
use Rattle.iri_resolve.proofs.Common.{both, is_host, text_over, Parts, normal, is_ascii_host, in_userinfo, in_path, in_query, in_fragment}
use Rattle.iri_resolve.proofs.Common.{host-whole, userinfo_percent, path_percent, query_percent, fragment_percent, CanonMode}
use Rattle.iri_resolve.proofs.Common.{with_small_host_letter, host_start, at_place, step_in, Part, Authority, Path, Query, Fragment}
use Rattle.iri_resolve.proofs.Common.{HostLetter}
use Rattle.iri_resolve.proofs.AuthoritySteps.{host-kept, letter-kept, ascii-same}
use Rattle.iri_resolve.proofs.ChangeKeeps.{TripletChange}

-- `put` puts a text in its place, which begins at `start` of the part, where changes of that text are steps; `ok` is what its texts keep
pub record IsPlace (s : Tests) (part : Part) (lower : Bool) (start : ℕ) (ok : List ℕ → Bool) (put : List ℕ → Parts) : Type 0 where
  pub triplets : (change : ℕ → List ℕ → Option (List ℕ)) (i : ℕ) (x y : List ℕ) → TripletChange s change → ok x ≡ true → change i x ≡ Some y
      → (at_place change (put x) part (start + i) ≡ Some (put y)) × (ok y ≡ true)
  pub letter : (m : CanonMode) (i : ℕ) (x y : List ℕ) → lower ≡ true → ok x ≡ true → with_small_host_letter i x ≡ Some y
      → (step_in s m (put x) (HostLetter (start + i)) ≡ Some (put y)) × (ok y ≡ true)

nought : (n : ℕ) → 0 + n ≡ n
nought n = omega arith

-- ---- path, query and fragment
class-place : (s : Tests) (part : Part) (class : ℕ → Bool) (put : List ℕ → Parts) → class 37 ≡ false
    → ((c : ℕ) → unreserved s c ≡ true → class c ≡ true)
    → ((change : ℕ → List ℕ → Option (List ℕ)) (i : ℕ) (x : List ℕ) → at_place change (put x) part i ≡ option_map put (change i x))
    → IsPlace s part false 0 (text_over class) put
class-place s part class put n f at = record {
  triplets = λ change i x y c o h. (
    ap (at_place change (put x) part) (nought i) ∙ at change i x ∙ ap (option_map put) h,
    c.over class i x y n f h o,
  );
  letter = λ m i x y low o h. cc;
}

pub path-place : (s : Tests) (u : Parts) → IsSpec s → IsPlace s Path false 0 (is_path s) (λ p. record u { path = p })
path-place s u k = class-place s Path (path_char s) (λ p. record u { path = p }) (path_percent s k) (in_path s) (λ change i x. refl)

pub query-place : (s : Tests) (u : Parts) → IsSpec s → IsPlace s Query false 0 (is_query s) (λ p. record u { query = Some p })
query-place s u k = class-place s Query (query_char s) (λ p. record u { query = Some p }) (query_percent s k) (in_query s)
    (λ change i x. refl)

pub fragment-place : (s : Tests) (u : Parts) → IsSpec s → IsPlace s Fragment false 0 (is_fragment s) (λ p. record u { fragment = Some p })
fragment-place s u k = class-place s Fragment (fragment_char s) (λ p. record u { fragment = Some p }) (fragment_percent s k) (in_fragment s)
    (λ change i x. refl)

-- ---- the authority
abbrev pub with_authority : Parts → AuthorityParts → Parts
with_authority t p = record t { authority = Some (recompose_authority p) }

in-userinfo : (s : Tests) (change : ℕ → List ℕ → Option (List ℕ)) (t : Parts) (p : AuthorityParts) (i : ℕ) (u v : List ℕ) → IsSpec s
    → FitsAuthority s p → is_userinfo s u ≡ true → i < length u → change i u ≡ Some v
    → at_place change (with_authority t (record p { userinfo = Some u })) Authority i ≡ Some (with_authority t (record p { userinfo = Some v }))
in-userinfo s change t p i u v k f o l h =
    let e : authority_parts (recompose_authority (record p { userinfo = Some u })) ≡ record p { userinfo = Some u } =
    reading_is s k (recompose_authority (record p { userinfo = Some u })) (record p { userinfo = Some u })
    (record { userinfo = o; host = f.host; port = f.port }, refl) in
    let low : nat_lt i (length (u ++ 64 ∷ [])) ≡ true = lt-ltb i (length (u ++ 64 ∷ [])) (omega (arith, l, length-append u (64 ∷ []))) in
    rw (e, low, h) refl

pub userinfo-place : (s : Tests) (t : Parts) (p : AuthorityParts) → IsSpec s → FitsAuthority s p
    → IsPlace s Authority false 0 (is_userinfo s) (λ u. with_authority t (record p { userinfo = Some u }))
userinfo-place s t p k f = record {
  triplets = λ change i x y c o h. (
    ap (at_place change (with_authority t (record p { userinfo = Some x })) Authority) (nought i)
        ∙ in-userinfo s change t p i x y k f o (c.inside i x y h) h,
    c.over (userinfo_char s) i x y (userinfo_percent s k) (in_userinfo s) h o,
  );
  letter = λ m i x y low o h. cc;
}

after-start : (n i : ℕ) → (n + i) - n ≡ i
after-start n i = omega arith

host-reading : (s : Tests) (p : AuthorityParts) (h : List ℕ) → IsSpec s → FitsAuthority s p → is_host s h ≡ true
    → authority_parts (recompose_authority (record p { host = h })) ≡ record p { host = h }
host-reading s p h k f o = reading_is s k (recompose_authority (record p { host = h })) (record p { host = h })
    (record { userinfo = f.userinfo; host = o; port = f.port }, refl)

in-host : (s : Tests) (change : ℕ → List ℕ → Option (List ℕ)) (t : Parts) (p : AuthorityParts) (i : ℕ) (h g : List ℕ) → IsSpec s
    → FitsAuthority s p → is_host s h ≡ true → change i h ≡ Some g
    → at_place change (with_authority t (record p { host = h })) Authority (host_start p + i) ≡ Some (with_authority t (record p { host = g }))
in-host s change t p i h g k f o e =
    let far : nat_lt (host_start p + i) (host_start p) ≡ false = le-ltb (host_start p + i) (host_start p) (omega arith) in
    rw (host-reading s p h k f o, far, after-start (host_start p) i, e) refl

letter-in-host : (s : Tests) (m : CanonMode) (t : Parts) (p : AuthorityParts) (i : ℕ) (h g : List ℕ) → IsSpec s → FitsAuthority s p → is_host s h ≡ true
    → is_ascii_host h ≡ true → with_small_host_letter i h ≡ Some g
    → step_in s m (with_authority t (record p { host = h })) (HostLetter (host_start p + i)) ≡ Some (with_authority t (record p { host = g }))
unfolding step_in
letter-in-host s m t p i h g k f o a e =
    let far : nat_lt (host_start p + i) (host_start p) ≡ false = le-ltb (host_start p + i) (host_start p) (omega arith) in
    rw (host-reading s p h k f o, a, far, after-start (host_start p) i, e) refl

pub host-place : (s : Tests) (t : Parts) (p : AuthorityParts) → IsSpec s → FitsAuthority s p
    → IsPlace s Authority false (host_start p) (is_host s) (λ h. with_authority t (record p { host = h }))
host-place s t p k f = record {
  triplets = λ change i x y c o h. (in-host s change t p i x y k f o h, (host-kept s change i x y k c h o).0);
  letter = λ m i x y low o h. cc;
}

-- an ASCII host
abbrev pub is_host_in_ascii : Tests → List ℕ → Bool
is_host_in_ascii s h = is_host s h && is_ascii_host h

ascii-kept : (s : Tests) (h g : List ℕ) → IsSpec s → is_host s h ≡ true → is_host s g ≡ true
    → normal s to_ascii_lowercase g ≡ normal s to_ascii_lowercase h → is_ascii_host h ≡ true → is_host_in_ascii s g ≡ true
ascii-kept s h g k o q e a = rw (q, ascii-same s h g k (host-whole s h k o) (host-whole s g k q) e, a) refl

pub ascii-place : (s : Tests) (t : Parts) (p : AuthorityParts) → IsSpec s → FitsAuthority s p
    → IsPlace s Authority true (host_start p) (is_host_in_ascii s) (λ h. with_authority t (record p { host = h }))
ascii-place s t p k f = record {
  triplets = λ change i x y c o h.
      let b = both (is_host s x) (is_ascii_host x) o in
      let q = (host-place s t p k f).triplets change i x y c b.0 h in (
        q.0,
        ascii-kept s x y k b.0 q.1 (c.form to_ascii_lowercase i x y h (host-whole s x k b.0) (host-whole s y k q.1)) b.1,
      );
  letter = λ m i x y low o h.
      let b = both (is_host s x) (is_ascii_host x) o in
      let q = letter-kept s i x y k h b.0 in (letter-in-host s m t p i x y k f b.0 b.1 h, ascii-kept s x y k b.0 q.0 q.1 b.1);
}

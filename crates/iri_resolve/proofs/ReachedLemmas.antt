-- What a step does to what a replay has reached.
use Rattle.iri_resolve.proofs.Common.{◌≡◌, ℕ, ◌-◌, Bool, true, false, cond, List, [], ◌∷◌, Option, Some, None, refl, sym, ◌∙◌, ap, is_some}
use Rattle.iri_resolve.proofs.Common.{nat_lt, string_bytes, to_ascii_lowercase, AuthorityParts, authority_parts, recompose_authority, Tests}
use Rattle.iri_resolve.proofs.Common.{IsSpec, unreserved, userinfo_char, if_there, is_host, text_over, Parts, reading_is, is_ascii_host}
use Rattle.iri_resolve.proofs.Common.{dropped_port, dots, guard, normal, CanonMode, in_userinfo, host-whole, userinfo_percent, bytes_of}
use Rattle.iri_resolve.proofs.Common.{with_small_host_letter, with_small_letter, in_host, in_userinfo_or_host, host_start, step_in}
use Rattle.iri_resolve.proofs.Common.{with_small_letter_in_host, at_place, with_dots_removed, with_slash, without_dropped_port}
use Rattle.iri_resolve.proofs.Common.{without_empty_port, change_of, is_port_dropped, Holds, WentThere, ReadOnThere, Reaches, authority_of}
use Rattle.iri_resolve.proofs.Common.{is_port_empty, other_than, parts_of, went, Part, Authority, Path, Query, Fragment, Step, SchemeLetter}
use Rattle.iri_resolve.proofs.Common.{HostLetter, HexDigit, Decode, EmptyPort, Dots, DefaultPort, SlashPath, option_map, option_and_then}
use Rattle.std.specs.Prelude.{String}
use Rattle.std.specs.declared.alloc.Global.{Global}
use Rattle.iri_normal.specs.NormalForm.{becomes_slash}
use Rattle.iri_resolve.specs.inside.Reached.{IsRead, ReadOn, authority_text}
use Rattle.iri_resolve.proofs.AuthoritySteps.{ascii-same, host-kept, letter-kept}
use Rattle.iri_resolve.proofs.ChangeKeeps.{TripletChange}
use Rattle.iri_resolve.proofs.SchemeSteps.{step_in-kept}
use Rattle.iri_resolve.specs.declared.reached.Reached.{Reached}
use Rattle.iri_resolve.specs.declared.reached.ReachedAuthority.{ReachedAuthority}
use Rattle.iri_resolve.specs.declared.change.Change.TheVariants.{CapitalDigit, Decoded}

-- ---- a text in its place
pub placed-went : {X : Type 0} (f : List ℕ → X) (b : Bool) (x : List ℕ) → option_map f (went b x) ≡ went b (f x)
placed-went f true x = refl
placed-went f false x = refl

pub part-went : (f : List ℕ → Option (List ℕ)) (b : Bool) (x y : List ℕ) → went b y ≡ f x → WentThere f b (Some x) (Some y)
part-went f true x y h = (sym h, refl)
part-went f false x y h = sym h

pub put-went : {X : Type 0} (put : Option (List ℕ) → X) (f : List ℕ → Option (List ℕ)) (b : Bool) (o p : Option (List ℕ))
    → WentThere f b o p → went b (put p) ≡ option_map (λ x. put (Some x)) (option_and_then f o)
put-went put f true o None h = cc
put-went put f true o (Some y) h = ap (option_map (λ x. put (Some x))) (sym h.0)
put-went put f false o p h = ap (option_map (λ x. put (Some x))) (sym h)

part-over : (s : Tests) (change : ℕ → List ℕ → Option (List ℕ)) (i : ℕ) (p : ℕ → Bool) (b : Bool) (o q : Option (List ℕ))
    → TripletChange s change → p 37 ≡ false → ((c : ℕ) → unreserved s c ≡ true → p c ≡ true) → b ≡ true → WentThere (change i) b o q
    → if_there (text_over p) o ≡ true → if_there (text_over p) q ≡ true
part-over s change i p false o q c n f e h g = cc
part-over s change i p true o None c n f e h g = refl
part-over s change i p true None (Some y) c n f e h g = cc
part-over s change i p true (Some x) (Some y) c n f e h g = c.over p i x y n f h.0 g

-- ---- the parts of an authority
pub userinfo-on : (s : Tests) (change : ℕ → List ℕ → Option (List ℕ)) (i : ℕ) (a : ReachedAuthority) (u : Option (String Global)) (b : Bool)
    → IsSpec s → TripletChange s change → IsRead s a → nat_lt i (host_start (authority_of a)) ≡ true
    → WentThere (change i) b (bytes_of a.userinfo) (bytes_of u) → ReadOn s (in_userinfo_or_host change i) b a (record a { userinfo = u })
userinfo-on s change i a u b k c r low h =
    let p = authority_of a in
    let put : Option (List ℕ) → List ℕ = λ o. recompose_authority (record p { userinfo = o }) in
    record {
      text = put-went put (change i) b (bytes_of a.userinfo) (bytes_of u) h
          ∙ sym (ap (λ v. cond v (option_map (λ x. put (Some x)) (option_and_then (change i) p.userinfo)) (in_host change i p)) low);
      read = λ e. record {
        fits = record {
          userinfo = part-over s change i (userinfo_char s) b (bytes_of a.userinfo) (bytes_of u) c (userinfo_percent s k) (in_userinfo s) e h
              r.fits.userinfo;
          host = r.fits.host;
          port = r.fits.port;
        };
        in_ascii = r.in_ascii;
      };
    }

in-host : (change : ℕ → List ℕ → Option (List ℕ)) (i : ℕ) (p : AuthorityParts) (h : List ℕ) (b : Bool)
    → nat_lt i (host_start p) ≡ false → went b h ≡ change (i - host_start p) p.host
    → went b (recompose_authority (record p { host = h })) ≡ in_host change i p
in-host change i p h b far e =
    let put : List ℕ → List ℕ = λ z. recompose_authority (record p { host = z }) in
    sym (placed-went put b h) ∙ (ap (option_map put) e ∙ sym (ap (λ v. cond v None (option_map put (change (i - host_start p) p.host))) far))

-- another host of the same normal form in lower case
other-host : (s : Tests) (a : ReachedAuthority) (h : String Global) → IsSpec s → IsRead s a → is_host s (string_bytes h) ≡ true
    → normal s to_ascii_lowercase (string_bytes h) ≡ normal s to_ascii_lowercase (string_bytes a.host) → IsRead s (record a { host = h })
other-host s a h k r g e = record {
  fits = record { userinfo = r.fits.userinfo; host = g; port = r.fits.port };
  in_ascii = r.in_ascii ∙ sym (ascii-same s (string_bytes a.host) (string_bytes h) k (host-whole s (string_bytes a.host) k r.fits.host)
      (host-whole s (string_bytes h) k g) e);
}

host-read : (s : Tests) (change : ℕ → List ℕ → Option (List ℕ)) (j : ℕ) (a : ReachedAuthority) (h : String Global) (b : Bool)
    → IsSpec s → TripletChange s change → IsRead s a → went b (string_bytes h) ≡ change j (string_bytes a.host) → b ≡ true
    → IsRead s (record a { host = h })
host-read s change j a h false k c r e y = cc
host-read s change j a h true k c r e y =
    let g = host-kept s change j (string_bytes a.host) (string_bytes h) k c (sym e) r.fits.host in
    other-host s a h k r g.0 (c.form to_ascii_lowercase j (string_bytes a.host) (string_bytes h) (sym e)
    (host-whole s (string_bytes a.host) k r.fits.host) (host-whole s (string_bytes h) k g.0))

pub host-on : (s : Tests) (change : ℕ → List ℕ → Option (List ℕ)) (i : ℕ) (a : ReachedAuthority) (h : String Global) (b : Bool)
    → IsSpec s → TripletChange s change → IsRead s a → nat_lt i (host_start (authority_of a)) ≡ false
    → went b (string_bytes h) ≡ change (i - host_start (authority_of a)) (string_bytes a.host)
    → ReadOn s (in_userinfo_or_host change i) b a (record a { host = h })
host-on s change i a h b k c r far e =
    let p = authority_of a in
    record {
      text = in-host change i p (string_bytes h) b far e
          ∙ sym (ap (λ v. cond v (option_map (λ u. recompose_authority (record p { userinfo = Some u })) (option_and_then (change i) p.userinfo))
          (in_host change i p)) far);
      read = λ y. host-read s change (i - host_start p) a h b k c r e y;
    }

letter-read : (s : Tests) (j : ℕ) (a : ReachedAuthority) (h : String Global) (b : Bool) → IsSpec s → IsRead s a
    → went b (string_bytes h) ≡ with_small_host_letter j (string_bytes a.host) → b ≡ true → IsRead s (record a { host = h })
letter-read s j a h false k r e y = cc
letter-read s j a h true k r e y =
    let g = letter-kept s j (string_bytes a.host) (string_bytes h) k (sym e) r.fits.host in other-host s a h k r g.0 g.1

pub letter-on : (s : Tests) (i : ℕ) (a : ReachedAuthority) (h : String Global) (b : Bool) → IsSpec s → IsRead s a
    → nat_lt i (host_start (authority_of a)) ≡ false → a.in_ascii ≡ true
    → went b (string_bytes h) ≡ with_small_host_letter (i - host_start (authority_of a)) (string_bytes a.host)
    → ReadOn s (with_small_letter_in_host i) b a (record a { host = h })
letter-on s i a h b k r far y e = record {
  text = in-host with_small_host_letter i (authority_of a) (string_bytes h) b far e
      ∙ sym (ap (λ v. cond v (in_host with_small_host_letter i (authority_of a)) None) (sym r.in_ascii ∙ y));
  read = λ z. letter-read s (i - host_start (authority_of a)) a h b k r e z;
}

none-either : {X : Type 0} (b : Bool) (o : Option X) → o ≡ None → cond b o None ≡ None
none-either true o h = h
none-either false o h = refl

pub letter-before : (s : Tests) (i : ℕ) (a : ReachedAuthority) → nat_lt i (host_start (authority_of a)) ≡ true
    → ReadOn s (with_small_letter_in_host i) false a a
letter-before s i a low =
    let p = authority_of a in
    record {
      text = sym (none-either (is_ascii_host p.host) (in_host with_small_host_letter i p) (ap (λ v. cond v None
          (option_map (λ h. recompose_authority (record p { host = h })) (with_small_host_letter (i - host_start p) p.host))) low));
      read = λ e. cc;
    }

pub letter-past : (s : Tests) (i : ℕ) (a : ReachedAuthority) → IsRead s a → a.in_ascii ≡ false
    → ReadOn s (with_small_letter_in_host i) false a a
letter-past s i a r h = record {
  text = sym (ap (λ v. cond v (in_host with_small_host_letter i (authority_of a)) None) (sym r.in_ascii ∙ h));
  read = λ e. cc;
}

-- ---- the port
without-port : (s : Tests) (a : ReachedAuthority) → IsRead s a → IsRead s (record a { port = None })
without-port s a r = record { fits = record { userinfo = r.fits.userinfo; host = r.fits.host; port = refl }; in_ascii = r.in_ascii }

empty-text : (p : AuthorityParts) (o : Option (List ℕ)) (b : Bool) → is_port_empty o ≡ b
    → went b (recompose_authority (record p { port = None })) ≡ without_empty_port p o
empty-text p None b h = ap (λ v. went v (recompose_authority (record p { port = None }))) (sym h)
empty-text p (Some []) b h = ap (λ v. went v (recompose_authority (record p { port = None }))) (sym h)
empty-text p (Some (x ∷ xs)) b h = ap (λ v. went v (recompose_authority (record p { port = None }))) (sym h)

dropped-text : (d : Option (List ℕ)) (p : AuthorityParts) (o : Option (List ℕ)) (b : Bool) → is_port_dropped d o ≡ b
    → went b (recompose_authority (record p { port = None })) ≡ without_dropped_port d p o
dropped-text d p None b h = ap (λ v. went v (recompose_authority (record p { port = None }))) (sym h)
dropped-text d p (Some x) b h = ap (λ v. went v (recompose_authority (record p { port = None }))) (sym h)

-- ---- an authority that may stand
pub on-there : (s : Tests) (f : AuthorityParts → Option (List ℕ)) (b : Bool) (a c : ReachedAuthority) → IsSpec s → IsRead s a
    → ReadOn s f b a c → ReadOnThere s f b (Some a) (Some c)
on-there s f b a c k r o =
    let p = authority_of a in
    record {
      text = part-went (λ z. f (authority_parts z)) b (recompose_authority p) (recompose_authority (authority_of c))
          (o.text ∙ ap f (sym (reading_is s k (recompose_authority p) p (r.fits, refl))));
      read = o.read;
    }

pub nothing-there : (s : Tests) (f : AuthorityParts → Option (List ℕ)) → ReadOnThere s f false None None
nothing-there s f = record { text = refl; read = λ e. cc }

pub stays-there : (s : Tests) (f : AuthorityParts → Option (List ℕ)) (a : ReachedAuthority) → IsSpec s → IsRead s a
    → f (authority_of a) ≡ None → ReadOnThere s f false (Some a) (Some a)
stays-there s f a k r h = on-there s f false a a k r (record { text = sym h; read = λ e. cc })

pub empty-on : (s : Tests) (a : ReachedAuthority) → IsSpec s → IsRead s a → is_port_empty (bytes_of a.port) ≡ true
    → ReadOnThere s (λ p. without_empty_port p p.port) true (Some a) (Some (record a { port = None }))
empty-on s a k r h = on-there s (λ p. without_empty_port p p.port) true a (record a { port = None }) k r
    (record { text = empty-text (authority_of a) (bytes_of a.port) true h; read = λ _. without-port s a r })

pub empty-stays : (s : Tests) (a : ReachedAuthority) → IsSpec s → IsRead s a → is_port_empty (bytes_of a.port) ≡ false
    → ReadOnThere s (λ p. without_empty_port p p.port) false (Some a) (Some a)
empty-stays s a k r h = stays-there s (λ p. without_empty_port p p.port) a k r (sym (empty-text (authority_of a) (bytes_of a.port) false h))

pub dropped-on : (s : Tests) (d : Option (List ℕ)) (a : ReachedAuthority) → IsSpec s → IsRead s a → is_port_dropped d (bytes_of a.port) ≡ true
    → ReadOnThere s (λ p. without_dropped_port d p p.port) true (Some a) (Some (record a { port = None }))
dropped-on s d a k r h = on-there s (λ p. without_dropped_port d p p.port) true a (record a { port = None }) k r
    (record { text = dropped-text d (authority_of a) (bytes_of a.port) true h; read = λ _. without-port s a r })

pub dropped-stays : (s : Tests) (d : Option (List ℕ)) (a : ReachedAuthority) → IsSpec s → IsRead s a
    → is_port_dropped d (bytes_of a.port) ≡ false → ReadOnThere s (λ p. without_dropped_port d p p.port) false (Some a) (Some a)
dropped-stays s d a k r h = stays-there s (λ p. without_dropped_port d p p.port) a k r
    (sym (dropped-text d (authority_of a) (bytes_of a.port) false h))

-- ---- the parts of a target
abbrev pub with_authority : Reached → Option (List ℕ) → Parts
with_authority r o = record (parts_of r) { authority = o }

pub authority-reached : (s : Tests) (f : AuthorityParts → Option (List ℕ)) (b : Bool) (r : Reached) (a : Option ReachedAuthority)
    (o : Option Parts) → ReadOnThere s f b r.authority a
    → o ≡ option_map (λ z. with_authority r (Some z)) (option_and_then (λ z. f (authority_parts z)) (authority_text r.authority))
    → Reaches s o b (record r { authority = a })
authority-reached s f b r a o h e = record {
  parts = put-went (with_authority r) (λ z. f (authority_parts z)) b (authority_text r.authority) (authority_text a) h.text ∙ sym e;
  read = h.read;
}

pub scheme-reached : (s : Tests) (b : Bool) (r : Reached) (x : String Global) (w : Option (List ℕ)) → Holds s r
    → went b (string_bytes x) ≡ w
    → Reaches s (option_map (λ z. record (parts_of r) { scheme = Some z }) w) b (record r { scheme = x })
scheme-reached s b r x w h e = record {
  parts = sym (placed-went (λ z. record (parts_of r) { scheme = Some z }) b (string_bytes x)) ∙ ap (option_map (λ z. record (parts_of r) { scheme = Some z })) e;
  read = λ _. h.read;
}

pub path-reached : (s : Tests) (b : Bool) (r : Reached) (x : String Global) (w : Option (List ℕ)) → Holds s r
    → went b (string_bytes x) ≡ w → Reaches s (option_map (λ z. record (parts_of r) { path = z }) w) b (record r { path = x })
path-reached s b r x w h e = record {
  parts = sym (placed-went (λ z. record (parts_of r) { path = z }) b (string_bytes x)) ∙ ap (option_map (λ z. record (parts_of r) { path = z })) e;
  read = λ _. h.read;
}

pub query-reached : (s : Tests) (f : List ℕ → Option (List ℕ)) (b : Bool) (r : Reached) (x : Option (String Global)) → Holds s r
    → WentThere f b (bytes_of r.query) (bytes_of x)
    → Reaches s (option_map (λ z. record (parts_of r) { query = Some z }) (option_and_then f (bytes_of r.query))) b (record r { query = x })
query-reached s f b r x h e = record {
  parts = put-went (λ z. record (parts_of r) { query = z }) f b (bytes_of r.query) (bytes_of x) e;
  read = λ _. h.read;
}

pub fragment-reached : (s : Tests) (f : List ℕ → Option (List ℕ)) (b : Bool) (r : Reached) (x : Option (String Global)) → Holds s r
    → WentThere f b (bytes_of r.fragment) (bytes_of x)
    → Reaches s (option_map (λ z. record (parts_of r) { fragment = Some z }) (option_and_then f (bytes_of r.fragment))) b (record r { fragment = x })
fragment-reached s f b r x h e = record {
  parts = put-went (λ z. record (parts_of r) { fragment = z }) f b (bytes_of r.fragment) (bytes_of x) e;
  read = λ _. h.read;
}

pub is_some-authority : (a : Option ReachedAuthority) → is_some (authority_text a) ≡ is_some a
is_some-authority None = refl
is_some-authority (Some a) = refl

-- ---- each step
module _ (s : Tests) (m : CanonMode) (b : Bool) (r : Reached) where
  pub letter-reached : (i : ℕ) (x : String Global) → Holds s r → went b (string_bytes x) ≡ with_small_letter i (string_bytes r.scheme)
      → Reaches s (step_in s m (parts_of r) (SchemeLetter i)) b (record r { scheme = x })
  unfolding step_in
  letter-reached i x h e = scheme-reached s b r x (with_small_letter i (string_bytes r.scheme)) h e

  pub host-reached : (i : ℕ) (a : Option ReachedAuthority) → ReadOnThere s (with_small_letter_in_host i) b r.authority a
      → Reaches s (step_in s m (parts_of r) (HostLetter i)) b (record r { authority = a })
  unfolding step_in
  host-reached i a h = authority-reached s (with_small_letter_in_host i) b r a _ h refl

  pub empty-reached : (a : Option ReachedAuthority) → ReadOnThere s (λ p. without_empty_port p p.port) b r.authority a
      → Reaches s (step_in s m (parts_of r) EmptyPort) b (record r { authority = a })
  unfolding step_in
  empty-reached a h = authority-reached s (λ p. without_empty_port p p.port) b r a _ h refl

  pub dropped-reached : (d : Option (List ℕ)) (a : Option ReachedAuthority) → d ≡ dropped_port m (Some (string_bytes r.scheme))
      → ReadOnThere s (λ p. without_dropped_port d p p.port) b r.authority a
      → Reaches s (step_in s m (parts_of r) DefaultPort) b (record r { authority = a })
  unfolding step_in
  dropped-reached d a e h = authority-reached s (λ p. without_dropped_port d p p.port) b r a _ h
      (ap (λ z. option_map (λ a. with_authority r (Some a)) (option_and_then (λ a. without_dropped_port z (authority_parts a) (authority_parts a).port)
      (authority_text r.authority))) (sym e))

  pub dots-reached : (x : String Global) → Holds s r
      → went b (string_bytes x) ≡ other_than (string_bytes r.path) (guard (dots (string_bytes r.path)) (is_some r.authority))
      → Reaches s (step_in s m (parts_of r) Dots) b (record r { path = x })
  unfolding step_in
  dots-reached x h e = path-reached s b r x (with_dots_removed (parts_of r)) h
      (e ∙ ap (λ v. other_than (string_bytes r.path) (guard (dots (string_bytes r.path)) v)) (sym (is_some-authority r.authority)))

  pub slash-reached : (x : String Global) (go : Bool) → Holds s r → go ≡ becomes_slash (dropped_port m (parts_of r).scheme)
      (parts_of r).authority (parts_of r).path → went b (string_bytes x) ≡ went go (47 ∷ [])
      → Reaches s (step_in s m (parts_of r) SlashPath) b (record r { path = x })
  unfolding step_in
  slash-reached x go h e f = path-reached s b r x (with_slash (dropped_port m (parts_of r).scheme) (parts_of r)) h
      (f ∙ ap (λ v. went v (47 ∷ [])) e)

pub digit-placed : (s : Tests) (m : CanonMode) (t : Parts) (part : Part) (i : ℕ)
    → at_place (change_of s CapitalDigit) t part i ≡ step_in s m t (HexDigit part i)
unfolding step_in
digit-placed s m t Authority i = refl
digit-placed s m t Path i = refl
digit-placed s m t Query i = refl
digit-placed s m t Fragment i = refl

pub decode-placed : (s : Tests) (m : CanonMode) (t : Parts) (part : Part) (i : ℕ)
    → at_place (change_of s Decoded) t part i ≡ step_in s m t (Decode part i)
unfolding step_in
decode-placed s m t Authority i = refl
decode-placed s m t Path i = refl
decode-placed s m t Query i = refl
decode-placed s m t Fragment i = refl

pub authority-same : (a : ReachedAuthority) (p : AuthorityParts) → bytes_of a.userinfo ≡ p.userinfo → string_bytes a.host ≡ p.host
    → bytes_of a.port ≡ p.port → authority_of a ≡ p
authority-same a p u h o = rw (u, h, o) refl

-- ---- one step more
pub stepped : (s : Tests) (m : CanonMode) (r n : Reached) (x : Step) → IsSpec s → Holds s r → Reaches s (step_in s m (parts_of r) x) true n
    → (step_in s m (parts_of r) x ≡ Some (parts_of n)) × Holds s n
stepped s m r n x k h o =
    let e = sym o.parts in (
      e,
      record {
        fits = (step_in-kept s m (parts_of r) (parts_of n) x k (record { fits = h.fits; scheme = refl }) e).fits;
        read = o.read refl;
      },
    )

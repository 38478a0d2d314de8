-- A text has no fault exactly where it is in its production.
use Rattle.iri_grammar.proofs.Common.{◌≡◌, ◌↔◌, ℕ, Bool, true, false, cond, not, ◌&&◌, ◌||◌, List, [], ◌∷◌, ◌++◌, Option, Some, None, refl}
use Rattle.iri_grammar.proofs.Common.{sym, ◌∙◌, ap, subst, append_assoc, ◌==◌, is_some, IsSome, IsNone, IsUtf8, is_utf8}
use Rattle.iri_grammar.proofs.Common.{is_utf8-from_IsUtf8, Tests, IsSpec, if_there, is_scheme, is_userinfo, is_query, is_fragment, is_host}
use Rattle.iri_grammar.proofs.Common.{authority_parts, is_authority, before, from, after, lacks, Parts, Fits, Splits, IsReference, IsIri}
use Rattle.iri_grammar.proofs.Common.{IsAbsolute, IsRelative, recompose, path_rules, is_empty, starts_with_slash, starts_with_slashes}
use Rattle.iri_grammar.proofs.Common.{split_of, relative_split_of, parts_of, hier_of, scheme_of, after_scheme, authority_of, path_of}
use Rattle.iri_grammar.proofs.Common.{ErrorKind, InvalidPath, InvalidQuery, InvalidFragment, UnexpectedFragment, InvalidUtf8, first, unless}
use Rattle.iri_grammar.proofs.Common.{part_fault, authority_fault, query_fault, fragment_fault, bytes_fault, colon_allowed}
use Rattle.iri_grammar.proofs.Common.{fault_before_fragment, parts_fault, reference_fault, iri_fault}
use Rattle.iri_grammar.specs.Components.{is_path}
use Rattle.iri_grammar.proofs.splits.CutLaws.{both, before-delimited}
use Rattle.iri_grammar.specs.Split.{after_slashes}
use Rattle.iri_grammar.proofs.splits.SplitLaws.{recompose_split, recompose_relative_split, relative_split_is, scheme-lacks, colon_ends}
use Rattle.iri_grammar.proofs.splits.SplitUnique.{split_is, splits-utf8}
use Rattle.iri_grammar.proofs.authorities.AuthorityTexts.{authority-utf8}
use Rattle.iri_grammar.specs.declared.error.ErrorKind.TheVariants.{InvalidUserInfo, InvalidHost}
use Rattle.iri_grammar.specs.Fault.{scheme_fault, userinfo_fault, host_fault}
use Rattle.iri_grammar.specs.WholeFault.{missing_scheme_fault, absolute_fault, relative_fault}
use Rattle.iri_grammar.specs.inside.Scans.{absolute_kind}

-- ---- faults that are none
pub neither : (a b : Option ErrorKind) → first a b ≡ None → (a ≡ None) × (b ≡ None)
neither None b h = (refl, h)
neither (Some e) b h = cc

pub passed : (b : Bool) (k : ErrorKind) → unless b k ≡ None → b ≡ true
passed true k h = refl
passed false k h = cc

pub no_fault : (b : Bool) (k : ErrorKind) → b ≡ true → unless b k ≡ None
no_fault b k h = rw h refl

pub part-passed : (f : List ℕ → Bool) (k : ErrorKind) (o : Option (List ℕ)) → part_fault (λ x. unless (f x) k) o ≡ None
    → if_there f o ≡ true
part-passed f k None h = refl
part-passed f k (Some x) h = passed (f x) k h

pub part-no_fault : (f : List ℕ → Bool) (k : ErrorKind) (o : Option (List ℕ)) → if_there f o ≡ true
    → part_fault (λ x. unless (f x) k) o ≡ None
part-no_fault f k None h = refl
part-no_fault f k (Some x) h = no_fault (f x) k h

-- ---- authorities
pub authority-passed : (s : Tests) (x : List ℕ) → authority_fault s x ≡ None → is_authority s x ≡ true
unfolding is_authority
authority-passed s x h =
    let p = authority_parts x in
    let k = neither (part_fault (userinfo_fault s) p.userinfo) (host_fault s p.host) h in
    rw (part-passed (is_userinfo s) InvalidUserInfo p.userinfo k.0) (passed (is_host s p.host) InvalidHost k.1)

pub authority-no_fault : (s : Tests) (x : List ℕ) → is_authority s x ≡ true → authority_fault s x ≡ None
unfolding is_authority
authority-no_fault s x h =
    let p = authority_parts x in
    let k = both (if_there (is_userinfo s) p.userinfo) (is_host s p.host) h in
    rw (part-no_fault (is_userinfo s) InvalidUserInfo p.userinfo k.0) (no_fault (is_host s p.host) InvalidHost k.1)

authorities-passed : (s : Tests) (o : Option (List ℕ)) → part_fault (authority_fault s) o ≡ None → if_there (is_authority s) o ≡ true
authorities-passed s None h = refl
authorities-passed s (Some x) h = authority-passed s x h

pub authorities-no_fault : (s : Tests) (o : Option (List ℕ)) → if_there (is_authority s) o ≡ true → part_fault (authority_fault s) o ≡ None
authorities-no_fault s None h = refl
authorities-no_fault s (Some x) h = authority-no_fault s x h

-- ---- the rules of paths
edge : (r : List ℕ) → (is_empty (from 47 r) || starts_with_slash (from 47 r)) ≡ true
edge [] = refl
edge (x ∷ xs) =
    elim (x == 47) as (λ b. (x == 47) ≡ b → (is_empty (cond b (x ∷ xs) (from 47 xs))
    || starts_with_slash (cond b (x ∷ xs) (from 47 xs))) ≡ true) [
      | true ↦ λ e. e
      | false ↦ λ _. edge xs
    ] refl

rules-kept : (sch : Option (List ℕ)) (h : List ℕ) → (is_some sch || is_some (authority_of h) || lacks 58 (before 47 (path_of h))) ≡ true
    → path_rules sch (authority_of h) (path_of h) ≡ true
rules-kept sch h =
    elim (starts_with_slashes h) as (λ b. starts_with_slashes h ≡ b
    → (is_some sch || is_some (cond b (Some (before 47 (after_slashes h))) None)
    || lacks 58 (before 47 (cond b (from 47 (after_slashes h)) h))) ≡ true
    → path_rules sch (cond b (Some (before 47 (after_slashes h))) None) (cond b (from 47 (after_slashes h)) h) ≡ true) [
      | true ↦ λ _ _. edge (after_slashes h)
      | false ↦ λ e k. at_rest sch e k
    ] refl
  where
    at_rest : (o : Option (List ℕ)) → starts_with_slashes h ≡ false → (is_some o || false || lacks 58 (before 47 h)) ≡ true
        → path_rules o None h ≡ true
    at_rest None e k = rw e k
    at_rest (Some x) e k = rw e refl

colon-allowed : (sch a : Option (List ℕ)) (p : List ℕ) → path_rules sch a p ≡ true
    → (is_some sch || is_some a || lacks 58 (before 47 p)) ≡ true
colon-allowed None (Some a) p h = refl
colon-allowed (Some x) (Some a) p h = refl
colon-allowed (Some x) None p h = refl
colon-allowed None None p h = (both (not (starts_with_slashes p)) (lacks 58 (before 47 p)) h).1

-- ---- parts
-- what is said of the fragment, and the rest
pub record NoFault (s : Tests) (g : List ℕ → Option ErrorKind) (p : Parts) : Type 0 where
  pub authority : if_there (is_authority s) p.authority ≡ true
  pub path : is_path s p.path ≡ true
  pub colon : colon_allowed p ≡ true
  pub query : if_there (is_query s) p.query ≡ true
  pub fragment : part_fault g p.fragment ≡ None

no_fault-parts : (s : Tests) (g : List ℕ → Option ErrorKind) (p : Parts) → parts_fault s g p ≡ None → NoFault s g p
unfolding parts_fault fault_before_fragment
no_fault-parts s g p h =
    let tail = first (unless (is_path s p.path && colon_allowed p) InvalidPath) (part_fault (query_fault s) p.query) in
    let all = neither (first (part_fault (authority_fault s) p.authority) tail) (part_fault g p.fragment) h in
    let one = neither (part_fault (authority_fault s) p.authority) tail all.0 in
    let two = neither (unless (is_path s p.path && colon_allowed p) InvalidPath) (part_fault (query_fault s) p.query) one.1 in
    let path = both (is_path s p.path) (colon_allowed p) (passed (is_path s p.path && colon_allowed p) InvalidPath two.0) in
    record {
      authority = authorities-passed s p.authority one.0;
      path = path.0;
      colon = path.1;
      query = part-passed (is_query s) InvalidQuery p.query two.1;
      fragment = all.1;
    }

parts-no_fault : (s : Tests) (g : List ℕ → Option ErrorKind) (p : Parts) → NoFault s g p → parts_fault s g p ≡ None
unfolding parts_fault fault_before_fragment
parts-no_fault s g p h = rw (
  authorities-no_fault s p.authority h.authority,
  h.path,
  h.colon,
  part-no_fault (is_query s) InvalidQuery p.query h.query,
) h.fragment

-- parts read from a text fit where they have no fault
fits-from : (s : Tests) (sch : Option (List ℕ)) (r : List ℕ) → if_there is_scheme sch ≡ true → NoFault s (fragment_fault s) (parts_of sch r)
    → Fits s (parts_of sch r)
fits-from s sch r k n =
    record {
      scheme = k;
      authority = n.authority;
      path = n.path;
      query = n.query;
      fragment = part-passed (is_fragment s) InvalidFragment (after 35 r) n.fragment;
      rules = rules-kept sch (hier_of r) n.colon;
    }

fits-to : (s : Tests) (p : Parts) → Fits s p → NoFault s (fragment_fault s) p
fits-to s p f =
    record {
      authority = f.authority;
      path = f.path;
      colon = colon-allowed p.scheme p.authority p.path f.rules;
      query = f.query;
      fragment = part-no_fault (is_fragment s) InvalidFragment p.fragment f.fragment;
    }

-- ---- `URI-reference`
scheme_of-scheme : (x : List ℕ) (b : Bool) → if_there is_scheme (cond (is_scheme x && b) (Some x) None) ≡ true
scheme_of-scheme x b =
    elim (is_scheme x) as (λ v. is_scheme x ≡ v → if_there is_scheme (cond (v && b) (Some x) None) ≡ true) [
      | true ↦ λ e. elim b as (λ w. if_there is_scheme (cond w (Some x) None) ≡ true) [ true ↦ e | false ↦ refl ]
      | false ↦ λ _. refl
    ] refl

split-fits : (s : Tests) (t : List ℕ) → NoFault s (fragment_fault s) (split_of t) → Fits s (split_of t)
unfolding split_of
split-fits s t n = fits-from s (scheme_of t) (after_scheme t) (scheme_of-scheme (before 58 t) (is_some (after 58 t))) n

pub splits_where_no_fault : (s : Tests) (t : List ℕ) → reference_fault s t ≡ None → Splits s t (split_of t)
splits_where_no_fault s t h = record {
  fits = split-fits s t (no_fault-parts s (fragment_fault s) (split_of t) h);
  text = recompose_split t;
}

pub no_fault_where_splits : (s : Tests) → IsSpec s → (t : List ℕ) (p : Parts) → Splits s t p → reference_fault s t ≡ None
no_fault_where_splits s k t p h = ap (parts_fault s (fragment_fault s)) (split_is s t p k h)
    ∙ parts-no_fault s (fragment_fault s) p (fits-to s p h.fits)

pub reference-law : (s : Tests) → IsSpec s → (t : List ℕ) → (reference_fault s t ≡ None) ↔ IsReference s t
reference-law s k t = (λ h. (split_of t, splits_where_no_fault s t h), λ r. no_fault_where_splits s k t r.0 r.1)

-- ---- texts with a scheme
some-after : (t : List ℕ) → lacks 58 t ≡ false → is_some (after 58 t) ≡ true
some-after [] h = cc
some-after (x ∷ xs) h =
    elim (x == 58) as (λ b. (not b && lacks 58 xs) ≡ false
    → is_some (cond b (Some xs) (after 58 xs)) ≡ true) [ true ↦ λ _. refl | false ↦ λ k. some-after xs k ] h

pub colon-there : (b : Bool) (k : ErrorKind) (o : Option ErrorKind) → cond b (Some k) o ≡ None → (b ≡ false) × (o ≡ None)
colon-there true k o h = cc
colon-there false k o h = (refl, h)

scheme-there : (t : List ℕ) → missing_scheme_fault t ≡ None → IsSome (split_of t).scheme
unfolding split_of
scheme-there t h =
    let m = colon-there (lacks 58 t) _ (scheme_fault (before 58 t)) h in
    rw (passed (is_scheme (before 58 t)) _ m.1, some-after t m.0) refl

pub lacks-joined : (xs ys : List ℕ) → lacks 58 (xs ++ 58 ∷ ys) ≡ false
lacks-joined [] ys = refl
lacks-joined (x ∷ xs) ys = elim (x == 58) as (λ b. (not b && lacks 58 (xs ++ 58 ∷ ys)) ≡ false) [ true ↦ refl | false ↦ lacks-joined xs ys ]

scheme-before : (x rest t : List ℕ) → is_scheme x ≡ true → (x ++ 58 ∷ []) ++ rest ≡ t → missing_scheme_fault t ≡ None
scheme-before x rest t h e =
    let f : x ++ 58 ∷ rest ≡ t = sym (append_assoc x (58 ∷ []) rest) ∙ e in
    subst (λ z. missing_scheme_fault z ≡ None) f (rw
    (lacks-joined x rest, before-delimited 58 x (Some rest) (scheme-lacks 58 x colon_ends h), h) refl)

scheme-given : (s : Tests) (t : List ℕ) (o a : Option (List ℕ)) (p : List ℕ) (q f : Option (List ℕ))
    → if_there is_scheme o ≡ true → IsSome o → recompose (record { scheme = o; authority = a; path = p; query = q; fragment = f }) ≡ t
    → missing_scheme_fault t ≡ None
unfolding recompose
scheme-given s t None a p q f h i e = cc
scheme-given s t (Some x) a p q f h i e = scheme-before x _ t h e

pub no_missing_scheme : (s : Tests) (t : List ℕ) (p : Parts) → Splits s t p → IsSome p.scheme → missing_scheme_fault t ≡ None
no_missing_scheme s t p h i = scheme-given s t p.scheme p.authority p.path p.query p.fragment h.fits.scheme i h.text

-- ---- `URI`
both_none : (a b : Option ErrorKind) → a ≡ None → b ≡ None → first a b ≡ None
both_none None b h k = k
both_none (Some e) b h k = cc

pub iri-law : (s : Tests) → IsSpec s → (t : List ℕ) → (iri_fault s t ≡ None) ↔ IsIri s t
iri-law s k t = (
  λ h. let n = neither (missing_scheme_fault t) (reference_fault s t) h in (split_of t, splits_where_no_fault s t n.1, scheme-there t n.0),
  λ r. both_none (missing_scheme_fault t) (reference_fault s t) (no_missing_scheme s t r.0 r.1 r.2) (no_fault_where_splits s k t r.0 r.1),
)

-- ---- `absolute-URI`
refused : (o : Option (List ℕ)) → part_fault (λ _. Some UnexpectedFragment) o ≡ None → IsNone o
refused None h = refl
refused (Some x) h = cc

absent : (g : List ℕ → Option ErrorKind) (o : Option (List ℕ)) → IsNone o → part_fault g o ≡ None
absent g None h = refl
absent g (Some x) h = cc

other_fragment : (s : Tests) (g k : List ℕ → Option ErrorKind) (p : Parts) → IsNone p.fragment → NoFault s g p → NoFault s k p
other_fragment s g k p i n = record {
  authority = n.authority;
  path = n.path;
  colon = n.colon;
  query = n.query;
  fragment = absent k p.fragment i;
}

absolute-splits : (s : Tests) (t : List ℕ) → parts_fault s (λ _. Some UnexpectedFragment) (split_of t) ≡ None
    → Splits s t (split_of t) × IsNone (split_of t).fragment
absolute-splits s t h =
    let n = no_fault-parts s (λ _. Some UnexpectedFragment) (split_of t) h in
    let i = refused (split_of t).fragment n.fragment in (
      record {
        fits = split-fits s t (other_fragment s (λ _. Some UnexpectedFragment) (fragment_fault s) (split_of t) i n);
        text = recompose_split t;
      },
      i,
    )

absolute-no_fault : (s : Tests) → IsSpec s → (t : List ℕ) (p : Parts) → Splits s t p → IsNone p.fragment
    → parts_fault s (λ _. Some UnexpectedFragment) (split_of t) ≡ None
absolute-no_fault s k t p h i =
    ap (parts_fault s (λ _. Some UnexpectedFragment)) (split_is s t p k h)
    ∙ parts-no_fault s (λ _. Some UnexpectedFragment) p
    (other_fragment s (fragment_fault s) (λ _. Some UnexpectedFragment) p i (fits-to s p h.fits))

pub absolute-law : (s : Tests) → IsSpec s → (t : List ℕ) → (absolute_fault s t ≡ None) ↔ IsAbsolute s t
absolute-law s k t = (
  λ h.
      let n = neither (missing_scheme_fault t) (parts_fault s (λ _. Some UnexpectedFragment) (split_of t)) h in
      let r = absolute-splits s t n.1 in
      (split_of t, r.0, scheme-there t n.0, r.1),
  λ r. both_none (missing_scheme_fault t) (parts_fault s (λ _. Some UnexpectedFragment) (split_of t)) (no_missing_scheme s t r.0 r.1 r.2)
      (absolute-no_fault s k t r.0 r.1 r.3),
)

-- a fault of another part than the fragment
abbrev Kept : Option ErrorKind → Type 0
Kept o = (k : ErrorKind) → o ≡ Some k → absolute_kind k ≡ k

kept-unless : (b : Bool) (e : ErrorKind) → absolute_kind e ≡ e → Kept (unless b e)
kept-unless true e h k n = cc
kept-unless false e h k n = subst Kept-at (cc) h
  where
    Kept-at : ErrorKind → Type 0
    Kept-at k = absolute_kind k ≡ k

kept-first : (a b : Option ErrorKind) → Kept a → Kept b → Kept (first a b)
kept-first None b h k = k
kept-first (Some e) b h k = h

kept-part : (f : List ℕ → Option ErrorKind) (o : Option (List ℕ)) → ((x : List ℕ) → Kept (f x)) → Kept (part_fault f o)
kept-part f None h k n = cc
kept-part f (Some x) h k n = h x k n

kept-before : (s : Tests) (p : Parts) → Kept (fault_before_fragment s p)
unfolding fault_before_fragment
kept-before s p =
    kept-first (part_fault (authority_fault s) p.authority) _ (kept-part (authority_fault s) p.authority
    (λ x. kept-first (part_fault (userinfo_fault s) (authority_parts x).userinfo) _
    (kept-part (userinfo_fault s) (authority_parts x).userinfo (λ u. kept-unless (is_userinfo s u) InvalidUserInfo refl))
    (kept-unless (is_host s (authority_parts x).host) InvalidHost refl)))
    (kept-first (unless (is_path s p.path && colon_allowed p) InvalidPath) _ (kept-unless (is_path s p.path && colon_allowed p) InvalidPath refl)
    (kept-part (query_fault s) p.query (λ q. kept-unless (is_query s q) InvalidQuery refl)))

-- the fault of a reference tells that of an `absolute-URI`
pub absolute-from : (s : Tests) (p : Parts) (k : ErrorKind) → parts_fault s (fragment_fault s) p ≡ Some k
    → parts_fault s (λ _. Some UnexpectedFragment) p ≡ Some (absolute_kind k)
unfolding parts_fault
absolute-from s p k = at (fault_before_fragment s p) p.fragment (kept-before s p)
  where
    unexpected : (b : Bool) → unless b InvalidFragment ≡ Some k → Some UnexpectedFragment ≡ Some (absolute_kind k)
    unexpected true n = cc
    unexpected false n = ap (λ o. Some (kind-of o)) n
      where
        kind-of : Option ErrorKind → ErrorKind
        kind-of None = UnexpectedFragment
        kind-of (Some k) = absolute_kind k

    at : (o : Option ErrorKind) (f : Option (List ℕ)) → Kept o → first o (part_fault (fragment_fault s) f) ≡ Some k
        → first o (part_fault (λ _. Some UnexpectedFragment) f) ≡ Some (absolute_kind k)
    at (Some e) f h n = n ∙ ap Some (sym (h k n))
    at None None h n = cc
    at None (Some x) h n = unexpected (is_fragment s x) n

-- and where there is none, a fragment alone is left to be one
pub absolute-beside : (s : Tests) (p : Parts) → parts_fault s (fragment_fault s) p ≡ None
    → parts_fault s (λ _. Some UnexpectedFragment) p ≡ part_fault (λ _. Some UnexpectedFragment) p.fragment
unfolding parts_fault
absolute-beside s p h = rw (neither (fault_before_fragment s p) (part_fault (fragment_fault s) p.fragment) h).0 refl

-- ---- `relative-ref`
relative-fits : (s : Tests) (t : List ℕ) → NoFault s (fragment_fault s) (relative_split_of t) → Fits s (relative_split_of t)
unfolding relative_split_of
relative-fits s t n = fits-from s None t refl n

relative-none : (t : List ℕ) → IsNone (relative_split_of t).scheme
unfolding relative_split_of
relative-none t = refl

pub none-is : (o : Option (List ℕ)) → IsNone o → o ≡ None
none-is None h = refl
none-is (Some x) h = cc

pub relative-law : (s : Tests) → IsSpec s → (t : List ℕ) → (relative_fault s t ≡ None) ↔ IsRelative s t
relative-law s k t = (
  λ h. (
    relative_split_of t,
    record {
      fits = relative-fits s t (no_fault-parts s (fragment_fault s) (relative_split_of t) h);
      text = recompose_relative_split t;
    },
    relative-none t,
  ),
  λ r.
      let e = split_is s t r.0 k r.1 in
      let same = relative_split_is t (ap (λ p. p.scheme) e ∙ none-is r.0.scheme r.2) in
      ap (parts_fault s (fragment_fault s)) same ∙ no_fault_where_splits s k t r.0 r.1,
)

-- ---- bytes
pub of_bytes : (f : List ℕ → Option ErrorKind) (P : Type 0) (bs : List ℕ) → (P → IsUtf8 bs) → (f bs ≡ None) ↔ P
    → (bytes_fault f bs ≡ None) ↔ P
of_bytes f P bs u h = (λ e. h.0 (text (is_utf8 bs) e), λ p. rw (is_utf8-from_IsUtf8 bs (u p)) (h.1 p))
  where
    text : (b : Bool) → cond b (f bs) (Some InvalidUtf8) ≡ None → f bs ≡ None
    text true e = e
    text false e = cc

pub component-law : (f : List ℕ → Bool) (k : ErrorKind) (bs : List ℕ) → (f bs ≡ true → IsUtf8 bs)
    → (bytes_fault (λ x. unless (f x) k) bs ≡ None) ↔ (f bs ≡ true)
component-law f k bs u = of_bytes (λ x. unless (f x) k) (f bs ≡ true) bs u (passed (f bs) k, no_fault (f bs) k)

pub authority-law : (s : Tests) (bs : List ℕ) → (bytes_fault (authority_fault s) bs ≡ None) ↔ (is_authority s bs ≡ true)
authority-law s bs = of_bytes (authority_fault s) (is_authority s bs ≡ true) bs (authority-utf8 s bs)
    (authority-passed s bs, authority-no_fault s bs)

pub reference-utf8 : (s : Tests) (bs : List ℕ) → IsReference s bs → IsUtf8 bs
reference-utf8 s bs r = splits-utf8 s bs r.0 r.1

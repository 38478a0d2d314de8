-- The mapping and normal forms, targets and canonical texts: they may be done in either order.
use Rattle.iri_normal.proofs.Common.{◌≡◌, ℕ, Bool, true, false, cond, ◌&&◌, ◌||◌, List, [], ◌∷◌, ◌++◌, Option, Some, None, refl, sym, ◌∙◌}
use Rattle.iri_normal.proofs.Common.{ap, subst, arith, ltb-true, nat_lt, is_some, IsSome, option_map, to_ascii_lowercase, list_all, encode}
use Rattle.iri_normal.proofs.Common.{encode_ascii, low_scalar, Tests, IsSpec, reg_name_char, path_char, is_ascii_userinfo}
use Rattle.iri_normal.proofs.Common.{is_ascii_reg_name, is_ascii_unreserved, is_sub_delim, if_there, is_scheme, is_scheme_char, is_port}
use Rattle.iri_normal.proofs.Common.{is_userinfo, is_path, is_query, is_fragment, both, test_apart, is_host, is_reg_name, is_ip_literal}
use Rattle.iri_normal.proofs.Common.{Parts, Fits, IsReference, IsAbsolute, recompose, is_empty, starts_with_slash, split_of, scheme-chars}
use Rattle.iri_normal.proofs.Common.{split_is, IsText, ended, letter, is_ascii_host, is_dropped, normal_host, normal_userinfo}
use Rattle.iri_normal.proofs.Common.{normal_port_in, normal_authority_parts_in, normal_authority_in, default_port, dropped_port, CanonMode}
use Rattle.iri_normal.proofs.Common.{Default, Scheme, authority_in, as_it_is-case, lower-case, as_it_is, normal, pct, reg_name_percent}
use Rattle.iri_normal.proofs.Common.{path_percent, dots, lowered, becomes_slash, canonical_in, normal_form_in, normal_path, slash_or}
use Rattle.iri_normal.proofs.Common.{target, target_under, target_path, merge_prefix, to_last_slash, AuthorityParts, authority_parts}
use Rattle.iri_normal.proofs.Common.{recompose_authority, is_authority}
use Rattle.iri_grammar.proofs.hosts.LiteralChars.{is_literal_char, ip_literal-chars}
use Rattle.iri_grammar.specs.Authority.{FitsAuthority}
use Rattle.iri_grammar.specs.Classes.{uri_tests, userinfo_char, query_char, fragment_char}
use Rattle.iri_normal.proofs.canonical_texts.CanonicalTexts.{canonical_in-text}
use Rattle.iri_normal.proofs.normal_forms.PartsFit.{lowered-chars}
use Rattle.iri_normal.proofs.normal_forms.Authorities.{ascii-plains, ascii-spelled, ascii-triplet}
use Rattle.iri_normal.proofs.mapping.MappedPaths.{mapped-last_slash, mapped-dots, mapped-guard}
use Rattle.iri_normal.proofs.normal_forms.Paths.{dots-over}
use Rattle.iri_normal.proofs.normal_forms.SchemeRules.{normal-is, there-both, normal_parts}
use Rattle.iri_normal.proofs.targets.Targets.{target-fits, slash_in_path}
use Rattle.iri_normal.specs.Target.{or_base, target_query, merged}
use Rattle.iri_percent.proofs.forms.Classes.{escape, text-from_over}
use Rattle.iri_percent.proofs.forms.Stability.{encode_percent}
use Rattle.iri_percent.proofs.mapping.Delimiters.{mapped-empty, mapped-slash}
use Rattle.iri_percent.proofs.mapping.NormalForms.{mapped-normal, mapped-normal_text}
use Rattle.iri_percent.proofs.mapping.Productions.{mapped_authority, mapped-recomposed_authority, mapped-recomposed, mapped-authority}
use Rattle.iri_percent.proofs.mapping.Productions.{authority-reads, each-low, scheme_low, literal_low, mapped-scheme, mapped-port}
use Rattle.iri_percent.proofs.mapping.Productions.{mapped-split}
use Rattle.iri_percent.proofs.mapping.Texts.{mapped-low, mapped-append, mapped-triplet, mapped-spells, encode-high}
use Rattle.iri_percent.proofs.units.OfParts.{userinfo_percent, query_percent, fragment_percent}
use Rattle.iri_percent.specs.Mapping.{mapped, mapped_parts}

-- ---- schemes
mapped-lowered : (x : List ℕ) → is_scheme x ≡ true → mapped (lowered x) ≡ lowered (mapped x)
mapped-lowered x h = each-low is_scheme_char scheme_low (lowered x) (lowered-chars x (scheme-chars x h))
    ∙ ap lowered (sym (mapped-scheme x h))

-- ---- hosts
literal_percent : is_literal_char 37 ≡ false
unfolding is_literal_char is_ascii_userinfo is_ascii_reg_name is_ascii_unreserved is_sub_delim
literal_percent = refl

-- a host is a text over some class without `%`
record HostText (x : List ℕ) : Type 0 where
  class : ℕ → Bool
  text : IsText class x

literal-text : (xs : List ℕ) → list_all is_literal_char xs ≡ true → IsText is_literal_char xs
literal-text [] h = ended
literal-text (x ∷ xs) h =
    let k = both (is_literal_char x) (list_all is_literal_char xs) h in
    let l = literal_low x k.0 in
    subst (λ z. IsText is_literal_char (z ++ xs)) (encode_ascii x (ltb-true x 128 l))
    (letter x xs (low_scalar x (omega (arith, ltb-true x 128 l))) k.0 (test_apart is_literal_char 37 x literal_percent k.0) (literal-text xs k.1))

host-text : (s : Tests) (x : List ℕ) → IsSpec s → is_host s x ≡ true → HostText x
host-text s x k h =
    elim (is_ip_literal x) as (λ b. is_ip_literal x ≡ b → (b || is_reg_name s x) ≡ true → HostText x) [
      | true ↦ λ e _. record { class = is_literal_char; text = literal-text x (ip_literal-chars x e) }
      | false ↦ λ _ r. record { class = reg_name_char s; text = text-from_over (reg_name_char s) x (reg_name_percent s k) r }
    ] refl h

-- whether a host is ASCII
mapped-ascii_host : (p : ℕ → Bool) (t : List ℕ) → IsText p t → is_ascii_host (mapped t) ≡ is_ascii_host t
mapped-ascii_host p t ended = refl
mapped-ascii_host p t (escape a b t' ha hb r) = ap is_ascii_host (mapped-triplet a b t' ha hb) ∙ ascii-triplet a b (mapped t') ha hb
    ∙ (rw (mapped-ascii_host p t' r) (sym (ascii-triplet a b t' ha hb)))
mapped-ascii_host p t (letter c t' h q n r) =
    let rest = mapped-ascii_host p t' r in
    elim (nat_lt c 128) as (λ b. nat_lt c 128 ≡ b → is_ascii_host (mapped (encode c ++ t')) ≡ is_ascii_host (encode c ++ t')) [
      | true ↦ λ e.
          let one : mapped (encode c) ≡ encode c =
          ap mapped (encode_ascii c (ltb-true c 128 e)) ∙ mapped-low c [] e ∙ sym (encode_ascii c (ltb-true c 128 e)) in
          ap is_ascii_host (mapped-append (encode c) t' ∙ ap (λ z. z ++ mapped t') one)
          ∙ ascii-plains (encode c) (mapped t') (encode_percent c n) ∙ (rw rest (sym (ascii-plains (encode c) t' (encode_percent c n))))
      | false ↦ λ e.
          let spell = mapped-spells (encode c) (encode-high c h e) in
          ap is_ascii_host (mapped-append (encode c) t') ∙ ascii-spelled (mapped (encode c)) (encode c) (mapped t') spell
          ∙ (rw rest (sym (ascii-plains (encode c) t' (encode_percent c n))))
    ] refl

mapped-normal_host : (s : Tests) (x : List ℕ) → IsSpec s → is_host s x ≡ true → mapped (normal_host s x) ≡ normal_host uri_tests (mapped x)
unfolding normal_host
mapped-normal_host s x k h =
    let t = host-text s x k h in
    rw (mapped-ascii_host t.class x t.text)
    (elim (is_ascii_host x) as (λ b. mapped (cond b (normal s to_ascii_lowercase x) (pct s x))
    ≡ cond b (normal uri_tests to_ascii_lowercase (mapped x)) (pct uri_tests (mapped x))) [
      | true ↦ mapped-normal_text s to_ascii_lowercase t.class x k lower-case t.text
      | false ↦ mapped-normal_text s as_it_is t.class x k as_it_is-case t.text
    ])

-- ---- authorities
userinfo-there : (s : Tests) (o : Option (List ℕ)) → IsSpec s → if_there (is_userinfo s) o ≡ true
    → option_map mapped (normal_userinfo s o) ≡ normal_userinfo uri_tests (option_map mapped o)
userinfo-there s None k h = refl
userinfo-there s (Some u) k h = ap Some (mapped-normal s as_it_is (userinfo_char s) u k as_it_is-case (userinfo_percent s k) h)

port-there : (d o : Option (List ℕ)) → if_there is_port o ≡ true
    → option_map mapped (normal_port_in d o) ≡ normal_port_in d (option_map mapped o)
port-there d None h = refl
port-there d (Some []) h = refl
port-there d (Some (x ∷ xs)) h =
    rw (mapped-port (x ∷ xs) h) (elim (is_dropped d (x ∷ xs)) as (λ b. option_map mapped (cond b None (Some (x ∷ xs)))
    ≡ cond b None (Some (x ∷ xs))) [ true ↦ refl | false ↦ ap Some (mapped-port (x ∷ xs) h) ])

mapped-normal_parts : (s : Tests) (d : Option (List ℕ)) (a : AuthorityParts) → IsSpec s → FitsAuthority s a
    → mapped_authority (normal_authority_parts_in s d a) ≡ normal_authority_parts_in uri_tests d (mapped_authority a)
mapped-normal_parts s d a k f = rw (
  userinfo-there s a.userinfo k f.userinfo,
  mapped-normal_host s a.host k f.host,
  port-there d a.port f.port,
) refl

mapped-normal_authority : (s : Tests) (d : Option (List ℕ)) (t : List ℕ) → IsSpec s → is_authority s t ≡ true
    → mapped (normal_authority_in s d t) ≡ normal_authority_in uri_tests d (mapped t)
mapped-normal_authority s d t k h =
    let a = authority_parts t in
    ap mapped (sym (authority_in s d t a refl))
    ∙ mapped-recomposed_authority (normal_authority_parts_in s d a)
    ∙ ap recompose_authority (mapped-normal_parts s d a k (authority-reads s t k h))
    ∙ authority_in uri_tests d (mapped t) (mapped_authority a) (sym (mapped-authority s t k h).parts)

-- ---- paths
mapped-stands : (o : Option (List ℕ)) → is_some (option_map mapped o) ≡ is_some o
mapped-stands None = refl
mapped-stands (Some x) = refl

mapped-normal_path : (s : Tests) (a : Option (List ℕ)) (p : List ℕ) → IsSpec s → is_path s p ≡ true
    → mapped (normal_path s a p) ≡ normal_path uri_tests (option_map mapped a) (mapped p)
unfolding normal_path
mapped-normal_path s a p k h =
    let inner : is_path s (dots p) ≡ true = dots-over (path_char s) p (slash_in_path s) h in
    let e : mapped (pct s (dots p)) ≡ pct uri_tests (dots (mapped p)) =
    mapped-normal s as_it_is (path_char s) (dots p) k as_it_is-case (path_percent s k) inner
    ∙ ap (pct uri_tests) (sym (mapped-dots p)) in
    sym (mapped-guard (pct s (dots p)) (is_some a)) ∙ rw (e, mapped-stands a) refl

-- ---- parts
mapped-default : (m : CanonMode) (o : Option (List ℕ)) → if_there is_scheme o ≡ true → dropped_port m (option_map mapped o) ≡ dropped_port m o
mapped-default Default o h = refl
mapped-default Scheme None h = refl
mapped-default Scheme (Some x) h = ap default_port (mapped-scheme x h)

mapped-becomes : (d a : Option (List ℕ)) (p : List ℕ) → becomes_slash d (option_map mapped a) (mapped p) ≡ becomes_slash d a p
mapped-becomes None a p = refl
mapped-becomes (Some d) a p = rw (mapped-stands a, mapped-empty p) refl

mapped-slashed : (s : Tests) (b : Bool) (a : Option (List ℕ)) (p : List ℕ) → IsSpec s → is_path s p ≡ true
    → mapped (slash_or b (normal_path s a p)) ≡ slash_or b (normal_path uri_tests (option_map mapped a) (mapped p))
mapped-slashed s true a p k h = refl
mapped-slashed s false a p k h = mapped-normal_path s a p k h

mapped-parts : (s : Tests) (d : Option (List ℕ)) (t : Parts) → IsSpec s → Fits s t
    → mapped_parts (normal_parts s d t) ≡ normal_parts uri_tests d (mapped_parts t)
mapped-parts s d t k f =
    rw (
      mapped-becomes d t.authority t.path,
      there-both is_scheme mapped lowered lowered mapped t.scheme mapped-lowered f.scheme,
      there-both (is_authority s) mapped (normal_authority_in s d) (normal_authority_in uri_tests d) mapped t.authority
          (λ x h. mapped-normal_authority s d x k h) f.authority,
      mapped-slashed s (becomes_slash d t.authority t.path) t.authority t.path k f.path,
      there-both (is_query s) mapped (pct s) (pct uri_tests) mapped t.query
          (λ x h. mapped-normal s as_it_is (query_char s) x k as_it_is-case (query_percent s k) h) f.query,
      there-both (is_fragment s) mapped (pct s) (pct uri_tests) mapped t.fragment
          (λ x h. mapped-normal s as_it_is (fragment_char s) x k as_it_is-case (fragment_percent s k) h) f.fragment,
    )
    refl

pub mapped-normal_in : (s : Tests) (m : CanonMode) (t : Parts) → IsSpec s → Fits s t
    → mapped_parts (normal_form_in s m t) ≡ normal_form_in uri_tests m (mapped_parts t)
mapped-normal_in s m t k f =
    ap mapped_parts (normal-is s m t) ∙ mapped-parts s (dropped_port m t.scheme) t k f
    ∙ ap (λ d. normal_parts uri_tests d (mapped_parts t)) (sym (mapped-default m t.scheme f.scheme))
    ∙ sym (normal-is uri_tests m (mapped_parts t))

-- ---- targets
target_path-some : (base : Parts) (p : List ℕ) → is_empty p ≡ false → target_path base p ≡ merged base p
target_path-some base [] h = cc
target_path-some base (x ∷ xs) h = refl

mapped-prefix : (base : Parts) → merge_prefix (mapped_parts base) ≡ mapped (merge_prefix base)
mapped-prefix base =
    rw (mapped-stands base.authority, mapped-empty base.path, mapped-last_slash base.path)
    (elim (is_some base.authority && is_empty base.path) as (λ b. cond b (47 ∷ []) (mapped (to_last_slash base.path))
    ≡ mapped (cond b (47 ∷ []) (to_last_slash base.path))) [ true ↦ refl | false ↦ refl ])

mapped-merged : (base : Parts) (p : List ℕ) → merged (mapped_parts base) (mapped p) ≡ mapped (merged base p)
mapped-merged base p =
    ap (λ b. cond b (mapped p) (merge_prefix (mapped_parts base) ++ mapped p)) (mapped-slash p)
    ∙ ap (λ z. cond (starts_with_slash p) (mapped p) (z ++ mapped p)) (mapped-prefix base)
    ∙ (elim (starts_with_slash p) as (λ b. cond b (mapped p) (mapped (merge_prefix base) ++ mapped p)
    ≡ mapped (cond b p (merge_prefix base ++ p))) [ true ↦ refl | false ↦ sym (mapped-append (merge_prefix base) p) ])

mapped-target_path : (base : Parts) (p : List ℕ) → target_path (mapped_parts base) (mapped p) ≡ mapped (target_path base p)
mapped-target_path base [] = refl
mapped-target_path base (x ∷ xs) = target_path-some (mapped_parts base) (mapped (x ∷ xs)) (mapped-empty (x ∷ xs))
    ∙ mapped-merged base (x ∷ xs)

mapped-or_base : (o b : Option (List ℕ)) → or_base (option_map mapped o) (option_map mapped b) ≡ option_map mapped (or_base o b)
mapped-or_base None b = refl
mapped-or_base (Some x) b = refl

mapped-target_query : (base r : Parts) → target_query (mapped_parts base) (mapped_parts r) ≡ option_map mapped (target_query base r)
mapped-target_query base r =
    rw (mapped-empty r.path, mapped-or_base r.query base.query)
    (elim (is_empty r.path) as (λ b. cond b (option_map mapped (or_base r.query base.query)) (option_map mapped r.query)
    ≡ option_map mapped (cond b (or_base r.query base.query) r.query)) [ true ↦ refl | false ↦ refl ])

mapped-under : (base r : Parts) (o a : Option (List ℕ))
    → target_under (mapped_parts base) (mapped_parts r) (option_map mapped o) (option_map mapped a) ≡ mapped_parts (target_under base r o a)
mapped-under base r (Some x) a = refl
mapped-under base r None (Some a) = refl
mapped-under base r None None = rw (mapped-target_path base r.path, mapped-target_query base r) refl

pub mapped-target : (base r : Parts) → target (mapped_parts base) (mapped_parts r) ≡ mapped_parts (target base r)
unfolding target
mapped-target base r = mapped-under base r r.scheme r.authority

-- ---- whole texts
-- mapping commutes with canonical texts
pub mapped-canonical : (s : Tests) (m : CanonMode) (base reference : List ℕ) → IsSpec s → IsAbsolute s base → IsReference s reference
    → mapped (canonical_in s m base reference) ≡ canonical_in uri_tests m (mapped base) (mapped reference)
mapped-canonical s m base reference k b r =
    let B = split_of base in
    let R = split_of reference in
    let eb = split_is s base b.0 k b.1 in
    let er = split_is s reference r.0 k r.1 in
    let fb : Fits s B = subst (λ z. Fits s z) (sym eb) b.1.fits in
    let ib : IsSome B.scheme = subst (λ z. IsSome z.scheme) (sym eb) b.2 in
    let fr : Fits s R = subst (λ z. Fits s z) (sym er) r.1.fits in
    let fits = (target-fits s B R fb ib fr).0 in
    ap mapped (sym (canonical_in-text s m base reference))
    ∙ mapped-recomposed (normal_form_in s m (target B R))
    ∙ ap recompose (mapped-normal_in s m (target B R) k fits)
    ∙ ap (λ z. recompose (normal_form_in uri_tests m z)) (sym (mapped-target B R))
    ∙ ap (λ z. recompose (normal_form_in uri_tests m (target z (mapped_parts R)))) (sym (mapped-split s base k (b.0, b.1)))
    ∙ ap (λ z. recompose (normal_form_in uri_tests m (target (split_of (mapped base)) z))) (sym (mapped-split s reference k r))
    ∙ canonical_in-text uri_tests m (mapped base) (mapped reference)

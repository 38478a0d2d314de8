-- What is in a production is, mapped, in the same production of URIs.
use Rattle.iri_percent.proofs.Common.{◌≡◌, ℕ, Bool, true, false, not, ◌||◌, List, [], ◌∷◌, ◌++◌, Option, Some, None, refl, sym, ◌∙◌, ap}
use Rattle.iri_percent.proofs.Common.{subst, arith, nat_lt, option_map, is_ascii_digit, list_all, nat_tests, AuthorityParts, FitsAuthority}
use Rattle.iri_percent.proofs.Common.{authority_parts, recompose_authority, userinfo_text, Tests, IsSpec, uri_tests, is_ascii_userinfo}
use Rattle.iri_percent.proofs.Common.{is_ascii_reg_name, is_ascii_unreserved, is_sub_delim, if_there, is_port, is_userinfo, is_path}
use Rattle.iri_percent.proofs.Common.{is_query, is_fragment, before, delimited, both, is_host, is_reg_name, mapped, class_test, text_over}
use Rattle.std.specs.Prelude.{IsSome, IsNone}
use Rattle.std.proofs.Math.Bool.{or-true}
use Rattle.iri_grammar.specs.Authority.{is_authority}
use Rattle.iri_grammar.proofs.authorities.AuthorityLaws.{authority_law, reading_is, passes, authority_recomposed}
use Rattle.iri_grammar.specs.Components.{is_scheme, is_scheme_char}
use Rattle.iri_grammar.specs.Fault.{query_fault, fragment_fault}
use Rattle.iri_grammar.proofs.faults.FaultLaws.{passed, no_fault, reference-law, iri-law, absolute-law, relative-law}
use Rattle.iri_grammar.specs.IpLiteral.{is_ip_literal}
use Rattle.iri_grammar.proofs.units.ClassLaws.{class_at_ascii, class_has_no_percent}
use Rattle.iri_grammar.specs.declared.class.Class.{Class}
use Rattle.iri_grammar.specs.declared.class.Class.TheVariants.{RegName, Userinfo, Path, Query, Fragment}
use Rattle.iri_grammar.proofs.hosts.LiteralChars.{is_literal_char, ip_literal-chars}
use Rattle.iri_grammar.specs.Parts.{Parts, Fits, Splits, IsReference, IsIri, IsAbsolute, IsRelative, path_rules, recompose, scheme_text}
use Rattle.iri_grammar.specs.Parts.{authority_text}
use Rattle.iri_grammar.specs.Split.{split_of}
use Rattle.iri_grammar.proofs.splits.SplitLaws.{scheme-chars}
use Rattle.iri_grammar.proofs.splits.SplitUnique.{split_is}
use Rattle.iri_grammar.specs.WholeFault.{reference_fault, iri_fault, absolute_fault, relative_fault}
use Rattle.iri_grammar.specs.declared.error.ErrorKind.TheVariants.{InvalidQuery, InvalidFragment}
use Rattle.iri_percent.specs.Mapping.{mapped_parts}
use Rattle.iri_percent.proofs.mapping.Delimiters.{slash-apart, colon-apart, mapped-lacks, mapped-before, mapped-empty, mapped-slash}
use Rattle.iri_percent.proofs.mapping.Delimiters.{mapped-slashes}
use Rattle.iri_percent.proofs.mapping.Texts.{mapped-low, mapped-append, mapped-over, uri-spec}

abbrev pub mapped_authority : AuthorityParts → AuthorityParts
mapped_authority a = record { userinfo = option_map mapped a.userinfo; host = mapped a.host; port = option_map mapped a.port }

-- ---- put together
mapped-scheme_text : (o : Option (List ℕ)) → mapped (scheme_text o) ≡ scheme_text (option_map mapped o)
mapped-scheme_text None = refl
mapped-scheme_text (Some x) = mapped-append x (58 ∷ [])

mapped-authority_text : (o : Option (List ℕ)) → mapped (authority_text o) ≡ authority_text (option_map mapped o)
mapped-authority_text None = refl
mapped-authority_text (Some x) = refl

mapped-delimited : (c : ℕ) (o : Option (List ℕ)) → nat_lt c 128 ≡ true → mapped (delimited c o) ≡ delimited c (option_map mapped o)
mapped-delimited c None h = refl
mapped-delimited c (Some x) h = mapped-low c x h

mapped-userinfo_text : (o : Option (List ℕ)) → mapped (userinfo_text o) ≡ userinfo_text (option_map mapped o)
mapped-userinfo_text None = refl
mapped-userinfo_text (Some x) = mapped-append x (64 ∷ [])

pub mapped-recomposed : (t : Parts) → mapped (recompose t) ≡ recompose (mapped_parts t)
unfolding recompose
mapped-recomposed t =
    mapped-append (scheme_text t.scheme) _
    ∙ rw (
      mapped-scheme_text t.scheme,
      mapped-append (authority_text t.authority) (t.path ++ (delimited 63 t.query ++ delimited 35 t.fragment)),
      mapped-authority_text t.authority,
      mapped-append t.path (delimited 63 t.query ++ delimited 35 t.fragment),
      mapped-append (delimited 63 t.query) (delimited 35 t.fragment),
      mapped-delimited 63 t.query refl,
      mapped-delimited 35 t.fragment refl,
    ) refl

pub mapped-recomposed_authority : (a : AuthorityParts) → mapped (recompose_authority a) ≡ recompose_authority (mapped_authority a)
unfolding recompose_authority
mapped-recomposed_authority a =
    mapped-append (userinfo_text a.userinfo) (a.host ++ delimited 58 a.port)
    ∙ rw (mapped-userinfo_text a.userinfo, mapped-append a.host (delimited 58 a.port), mapped-delimited 58 a.port refl) refl

-- ---- classes
mapped-class : (s : Tests) (c : Class) (x : List ℕ) → IsSpec s → text_over (class_test s c) x ≡ true → text_over (class_test uri_tests c) (mapped x) ≡ true
mapped-class s c x k h = mapped-over (class_test s c) (class_test uri_tests c) x (class_has_no_percent s k c) (class_has_no_percent uri_tests uri-spec c)
    (λ b l p. class_at_ascii uri_tests uri-spec c b l ∙ sym (class_at_ascii s k c b l) ∙ p) h

pub mapped-userinfo : (s : Tests) (x : List ℕ) → IsSpec s → is_userinfo s x ≡ true → is_userinfo uri_tests (mapped x) ≡ true
mapped-userinfo s x k h = mapped-class s Userinfo x k h

mapped-reg_name : (s : Tests) (x : List ℕ) → IsSpec s → is_reg_name s x ≡ true → is_reg_name uri_tests (mapped x) ≡ true
mapped-reg_name s x k h = mapped-class s RegName x k h

pub mapped-path : (s : Tests) (x : List ℕ) → IsSpec s → is_path s x ≡ true → is_path uri_tests (mapped x) ≡ true
mapped-path s x k h = mapped-class s Path x k h

pub mapped-query : (s : Tests) (x : List ℕ) → IsSpec s → is_query s x ≡ true → is_query uri_tests (mapped x) ≡ true
mapped-query s x k h = mapped-class s Query x k h

pub mapped-fragment : (s : Tests) (x : List ℕ) → IsSpec s → is_fragment s x ≡ true → is_fragment uri_tests (mapped x) ≡ true
mapped-fragment s x k h = mapped-class s Fragment x k h

-- ---- texts in ASCII stay
pub each-low : (p : ℕ → Bool) → ((c : ℕ) → p c ≡ true → nat_lt c 128 ≡ true) → (xs : List ℕ) → list_all p xs ≡ true → mapped xs ≡ xs
each-low p l [] h = refl
each-low p l (x ∷ xs) h = let k = both (p x) (list_all p xs) h in mapped-low x xs (l x k.0) ∙ ap (λ z. x ∷ z) (each-low p l xs k.1)

pub scheme_low : (c : ℕ) → is_scheme_char c ≡ true → nat_lt c 128 ≡ true
unfolding is_scheme_char
scheme_low c h = grind (arith, nat_tests)

digit_low : (c : ℕ) → is_ascii_digit c ≡ true → nat_lt c 128 ≡ true
digit_low c h = grind (arith, nat_tests)

pub literal_low : (c : ℕ) → is_literal_char c ≡ true → nat_lt c 128 ≡ true
unfolding is_literal_char is_ascii_userinfo is_ascii_reg_name is_ascii_unreserved is_sub_delim
literal_low c h = grind (arith, nat_tests)

pub mapped-scheme : (x : List ℕ) → is_scheme x ≡ true → mapped x ≡ x
mapped-scheme x h = each-low is_scheme_char scheme_low x (scheme-chars x h)

pub mapped-port : (x : List ℕ) → is_port x ≡ true → mapped x ≡ x
mapped-port x h = each-low is_ascii_digit digit_low x h

pub mapped-literal : (x : List ℕ) → is_ip_literal x ≡ true → mapped x ≡ x
mapped-literal x h = each-low is_literal_char literal_low x (ip_literal-chars x h)

-- ---- hosts
pub mapped-host : (s : Tests) (x : List ℕ) → IsSpec s → is_host s x ≡ true → is_host uri_tests (mapped x) ≡ true
mapped-host s x k h =
    elim (is_ip_literal x) as (λ b. is_ip_literal x ≡ b → (b || is_reg_name s x) ≡ true → is_host uri_tests (mapped x) ≡ true) [
      | true ↦ λ e _. rw (mapped-literal x e, e) refl
      | false ↦ λ _ r. rw (mapped-reg_name s x k r) (or-true (is_ip_literal (mapped x)))
    ] refl h

-- ---- authorities
part-there : (p q : List ℕ → Bool) → ((x : List ℕ) → p x ≡ true → q (mapped x) ≡ true) → (o : Option (List ℕ)) → if_there p o ≡ true
    → if_there q (option_map mapped o) ≡ true
part-there p q k None h = refl
part-there p q k (Some x) h = k x h

pub authority-reads : (s : Tests) (t : List ℕ) → IsSpec s → is_authority s t ≡ true → FitsAuthority s (authority_parts t)
authority-reads s t k h = let r = (authority_law s k t).0 h in subst (λ a. FitsAuthority s a) (sym (reading_is s k t r.0 r.1)) r.1.0

authority-fits : (s : Tests) (a : AuthorityParts) → IsSpec s → FitsAuthority s a → FitsAuthority uri_tests (mapped_authority a)
authority-fits s a k f = record {
  userinfo = part-there (is_userinfo s) (is_userinfo uri_tests) (λ x. mapped-userinfo s x k) a.userinfo f.userinfo;
  host = mapped-host s a.host k f.host;
  port = part-there is_port is_port (λ x h. ap is_port (mapped-port x h) ∙ h) a.port f.port;
}

-- the mapped authority, and how it is read
pub record MapsAuthority (t : List ℕ) : Type 0 where
  pub whole : is_authority uri_tests (mapped t) ≡ true
  pub parts : authority_parts (mapped t) ≡ mapped_authority (authority_parts t)

pub mapped-authority : (s : Tests) (t : List ℕ) → IsSpec s → is_authority s t ≡ true → MapsAuthority t
mapped-authority s t k h =
    let a = authority_parts t in
    let g = authority-fits s a k (authority-reads s t k h) in
    let text : recompose_authority (mapped_authority a) ≡ mapped t =
    sym (mapped-recomposed_authority a) ∙ ap mapped (authority_recomposed t) in
    record {
      whole = passes uri_tests uri-spec (mapped t) (mapped_authority a) (g, text);
      parts = reading_is uri_tests uri-spec (mapped t) (mapped_authority a) (g, text);
    }

-- ---- all parts
mapped-rules : (o a : Option (List ℕ)) (p : List ℕ) → path_rules (option_map mapped o) (option_map mapped a) (mapped p) ≡ path_rules o a p
mapped-rules None (Some a) p = rw (mapped-empty p, mapped-slash p) refl
mapped-rules (Some x) (Some a) p = rw (mapped-empty p, mapped-slash p) refl
mapped-rules (Some x) None p = ap not (mapped-slashes p)
mapped-rules None None p = rw (mapped-slashes p, mapped-before 47 p slash-apart, mapped-lacks 58 (before 47 p) colon-apart) refl

pub mapped-fits : (s : Tests) (t : Parts) → IsSpec s → Fits s t → Fits uri_tests (mapped_parts t)
mapped-fits s t k f = record {
  scheme = part-there is_scheme is_scheme (λ x h. ap is_scheme (mapped-scheme x h) ∙ h) t.scheme f.scheme;
  authority = part-there (is_authority s) (is_authority uri_tests) (λ x h. (mapped-authority s x k h).whole) t.authority f.authority;
  path = mapped-path s t.path k f.path;
  query = part-there (is_query s) (is_query uri_tests) (λ x. mapped-query s x k) t.query f.query;
  fragment = part-there (is_fragment s) (is_fragment uri_tests) (λ x. mapped-fragment s x k) t.fragment f.fragment;
  rules = mapped-rules t.scheme t.authority t.path ∙ f.rules;
}

-- ---- whole texts
pub mapped-splits : (s : Tests) (t : List ℕ) (p : Parts) → IsSpec s → Splits s t p → Splits uri_tests (mapped t) (mapped_parts p)
mapped-splits s t p k h = record { fits = mapped-fits s p k h.fits; text = sym (mapped-recomposed p) ∙ ap mapped h.text }

still-some : (o : Option (List ℕ)) → IsSome o → IsSome (option_map mapped o)
still-some None h = h
still-some (Some x) h = refl

still-none : (o : Option (List ℕ)) → IsNone o → IsNone (option_map mapped o)
still-none None h = h
still-none (Some x) h = cc

pub mapped-reference : (s : Tests) (t : List ℕ) → IsSpec s → IsReference s t → IsReference uri_tests (mapped t)
mapped-reference s t k h = (mapped_parts h.0, mapped-splits s t h.0 k h.1)

pub mapped-iri : (s : Tests) (t : List ℕ) → IsSpec s → IsIri s t → IsIri uri_tests (mapped t)
mapped-iri s t k h = (mapped_parts h.0, mapped-splits s t h.0 k h.1, still-some h.0.scheme h.2)

pub mapped-absolute : (s : Tests) (t : List ℕ) → IsSpec s → IsAbsolute s t → IsAbsolute uri_tests (mapped t)
mapped-absolute s t k h = (mapped_parts h.0, mapped-splits s t h.0 k h.1, still-some h.0.scheme h.2, still-none h.0.fragment h.3)

pub mapped-relative : (s : Tests) (t : List ℕ) → IsSpec s → IsRelative s t → IsRelative uri_tests (mapped t)
mapped-relative s t k h = (mapped_parts h.0, mapped-splits s t h.0 k h.1, still-none h.0.scheme h.2)

-- the split of the mapped text
pub mapped-split : (s : Tests) (t : List ℕ) → IsSpec s → IsReference s t → split_of (mapped t) ≡ mapped_parts (split_of t)
mapped-split s t k h = split_is uri_tests (mapped t) (mapped_parts h.0) uri-spec (mapped-splits s t h.0 k h.1)
    ∙ ap mapped_parts (sym (split_is s t h.0 k h.1))

-- ---- what has no fault has none, mapped
pub reference_maps : (s : Tests) → IsSpec s → (t : List ℕ) → reference_fault s t ≡ None → reference_fault uri_tests (mapped t) ≡ None
reference_maps s k t h = (reference-law uri_tests uri-spec (mapped t)).1 (mapped-reference s t k ((reference-law s k t).0 h))

pub iri_maps : (s : Tests) → IsSpec s → (t : List ℕ) → iri_fault s t ≡ None → iri_fault uri_tests (mapped t) ≡ None
iri_maps s k t h = (iri-law uri_tests uri-spec (mapped t)).1 (mapped-iri s t k ((iri-law s k t).0 h))

pub absolute_maps : (s : Tests) → IsSpec s → (t : List ℕ) → absolute_fault s t ≡ None → absolute_fault uri_tests (mapped t) ≡ None
absolute_maps s k t h = (absolute-law uri_tests uri-spec (mapped t)).1 (mapped-absolute s t k ((absolute-law s k t).0 h))

pub relative_maps : (s : Tests) → IsSpec s → (t : List ℕ) → relative_fault s t ≡ None → relative_fault uri_tests (mapped t) ≡ None
relative_maps s k t h = (relative-law uri_tests uri-spec (mapped t)).1 (mapped-relative s t k ((relative-law s k t).0 h))

pub query_maps : (s : Tests) → IsSpec s → (t : List ℕ) → query_fault s t ≡ None → query_fault uri_tests (mapped t) ≡ None
query_maps s k t h = no_fault (is_query uri_tests (mapped t)) InvalidQuery (mapped-query s t k (passed (is_query s t) InvalidQuery h))

pub fragment_maps : (s : Tests) → IsSpec s → (t : List ℕ) → fragment_fault s t ≡ None → fragment_fault uri_tests (mapped t) ≡ None
fragment_maps s k t h = no_fault (is_fragment uri_tests (mapped t)) InvalidFragment
    (mapped-fragment s t k (passed (is_fragment s t) InvalidFragment h))

-- What is in a production of URIs is in the same production of every spec, so of IRIs.
use Rattle.iri_grammar.proofs.Common.{◌≡◌, ℕ, zero, suc, Bool, true, false, cond, ◌&&◌, ◌||◌, List, [], ◌∷◌, Option, Some, None, refl, ◌==◌}
use Rattle.iri_grammar.proofs.Common.{is_ascii_hexdigit, chars, is_utf8, over_from, over, text_over, is_ip_literal, is_host, is_reg_name}
use Rattle.iri_grammar.proofs.Common.{authority_parts, is_authority, Parts, Fits, Splits, IsReference, IsIri, IsAbsolute, IsRelative}
use Rattle.iri_grammar.specs.Classes.{Tests, uri_tests, userinfo_char, reg_name_char, pchar, path_char, query_char, fragment_char}
use Rattle.iri_grammar.specs.Classes.{is_ascii_userinfo, is_ascii_reg_name, is_ascii_pchar, is_ascii_path, is_ascii_query}
use Rattle.iri_grammar.specs.Components.{if_there, is_userinfo, is_path, is_path_segment, is_query, is_fragment}
use Rattle.iri_grammar.proofs.splits.CutLaws.{both}

-- ---- texts over a larger class
over_from-weaken : (p q : ℕ → Bool) → ((c : ℕ) → p c ≡ true → q c ≡ true) → (due : ℕ) (cs : List ℕ) → over_from p due cs ≡ true
    → over_from q due cs ≡ true
unfolding over_from
over_from-weaken p q w zero [] h = refl
over_from-weaken p q w (suc due) [] h = cc
over_from-weaken p q w zero (c ∷ cs) h =
    elim (c == 37) as (λ b. cond b (over_from p 2 cs) (p c && over_from p 0 cs) ≡ true
    → cond b (over_from q 2 cs) (q c && over_from q 0 cs) ≡ true) [
      | true ↦ λ k. over_from-weaken p q w 2 cs k
      | false ↦ λ k. let m = both (p c) (over_from p 0 cs) k in rw (w c m.0) (over_from-weaken p q w 0 cs m.1)
    ] h
over_from-weaken p q w (suc due) (c ∷ cs) h = let m = both (is_ascii_hexdigit c) (over_from p due cs) h in
    rw m.0 (over_from-weaken p q w due cs m.1)

pub text_over-weaken : (p q : ℕ → Bool) → ((c : ℕ) → p c ≡ true → q c ≡ true) → (x : List ℕ) → text_over p x ≡ true → text_over q x ≡ true
text_over-weaken p q w x h = let m = both (is_utf8 x) (over p (chars x)) h in rw m.0 (over_from-weaken p q w 0 (chars x) m.1)

-- ---- classes
wider : (a b : Bool) → (a || false) ≡ true → (a || b) ≡ true
wider true b h = refl
wider false b h = cc

wider_two : (a b c : Bool) → (a || false || false) ≡ true → (a || b || c) ≡ true
wider_two true b c h = refl
wider_two false b c h = cc

-- ---- single components
pub userinfo-wider : (s : Tests) (x : List ℕ) → is_userinfo uri_tests x ≡ true → is_userinfo s x ≡ true
unfolding userinfo_char
userinfo-wider s x h = text_over-weaken (userinfo_char uri_tests) (userinfo_char s) (λ c k. wider (is_ascii_userinfo c) (s.ucs c) k) x h

pub reg_name-wider : (s : Tests) (x : List ℕ) → is_reg_name uri_tests x ≡ true → is_reg_name s x ≡ true
unfolding reg_name_char
reg_name-wider s x h = text_over-weaken (reg_name_char uri_tests) (reg_name_char s) (λ c k. wider (is_ascii_reg_name c) (s.ucs c) k) x h

pub path-wider : (s : Tests) (x : List ℕ) → is_path uri_tests x ≡ true → is_path s x ≡ true
unfolding path_char
path-wider s x h = text_over-weaken (path_char uri_tests) (path_char s) (λ c k. wider (is_ascii_path c) (s.ucs c) k) x h

pub path_segment-wider : (s : Tests) (x : List ℕ) → is_path_segment uri_tests x ≡ true → is_path_segment s x ≡ true
unfolding pchar
path_segment-wider s x h = text_over-weaken (pchar uri_tests) (pchar s) (λ c k. wider (is_ascii_pchar c) (s.ucs c) k) x h

pub query-wider : (s : Tests) (x : List ℕ) → is_query uri_tests x ≡ true → is_query s x ≡ true
unfolding query_char
query-wider s x h = text_over-weaken (query_char uri_tests) (query_char s) (λ c k. wider_two (is_ascii_query c) (s.ucs c) (s.priv c) k) x h

pub fragment-wider : (s : Tests) (x : List ℕ) → is_fragment uri_tests x ≡ true → is_fragment s x ≡ true
unfolding fragment_char
fragment-wider s x h = text_over-weaken (fragment_char uri_tests) (fragment_char s) (λ c k. wider (is_ascii_query c) (s.ucs c) k) x h

pub host-wider : (s : Tests) (x : List ℕ) → is_host uri_tests x ≡ true → is_host s x ≡ true
host-wider s x h =
    elim (is_ip_literal x) as (λ b. (b || is_reg_name uri_tests x) ≡ true
    → (b || is_reg_name s x) ≡ true) [ true ↦ λ _. refl | false ↦ λ k. reg_name-wider s x k ] h

there-wider : (f g : List ℕ → Bool) → ((x : List ℕ) → f x ≡ true → g x ≡ true) → (o : Option (List ℕ)) → if_there f o ≡ true
    → if_there g o ≡ true
there-wider f g w None h = refl
there-wider f g w (Some x) h = w x h

pub authority-wider : (s : Tests) (x : List ℕ) → is_authority uri_tests x ≡ true → is_authority s x ≡ true
unfolding is_authority
authority-wider s x h =
    let p = authority_parts x in
    let k = both (if_there (is_userinfo uri_tests) p.userinfo) (is_host uri_tests p.host) h in
    rw (there-wider (is_userinfo uri_tests) (is_userinfo s) (userinfo-wider s) p.userinfo k.0) (host-wider s p.host k.1)

-- ---- whole texts
pub fits-wider : (s : Tests) (p : Parts) → Fits uri_tests p → Fits s p
fits-wider s p f =
    record {
      scheme = f.scheme;
      authority = there-wider (is_authority uri_tests) (is_authority s) (authority-wider s) p.authority f.authority;
      path = path-wider s p.path f.path;
      query = there-wider (is_query uri_tests) (is_query s) (query-wider s) p.query f.query;
      fragment = there-wider (is_fragment uri_tests) (is_fragment s) (fragment-wider s) p.fragment f.fragment;
      rules = f.rules;
    }

splits-wider : (s : Tests) (t : List ℕ) (p : Parts) → Splits uri_tests t p → Splits s t p
splits-wider s t p h = record { fits = fits-wider s p h.fits; text = h.text }

pub reference-wider : (s : Tests) (t : List ℕ) → IsReference uri_tests t → IsReference s t
reference-wider s t r = (r.0, splits-wider s t r.0 r.1)

pub iri-wider : (s : Tests) (t : List ℕ) → IsIri uri_tests t → IsIri s t
iri-wider s t r = (r.0, splits-wider s t r.0 r.1, r.2)

pub absolute-wider : (s : Tests) (t : List ℕ) → IsAbsolute uri_tests t → IsAbsolute s t
absolute-wider s t r = (r.0, splits-wider s t r.0 r.1, r.2, r.3)

pub relative-wider : (s : Tests) (t : List ℕ) → IsRelative uri_tests t → IsRelative s t
relative-wider s t r = (r.0, splits-wider s t r.0 r.1, r.2)

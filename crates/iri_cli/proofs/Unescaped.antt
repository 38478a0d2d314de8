-- No byte of a reference is one that JSON escapes.
use Rattle.iri_cli.proofs.Common.{◌≡◌, ◌<◌, ℕ, true, false, not, ◌&&◌, ◌||◌, ◌==◌, List, [], ◌∷◌, Option, Some, None, refl, sym, subst, arith}
use Rattle.iri_cli.proofs.Common.{both, nat_lt, nat_tests, list_all, lacks, Tests, IsSpec, Parts, recompose}
use Rattle.std.specs.Char.{is_ascii_digit, is_ascii_hexdigit}
use Rattle.iri_grammar.specs.Authority.{is_authority}
use Rattle.iri_grammar.specs.Classes.{userinfo_char, reg_name_char, path_char, query_char, fragment_char, is_ascii_userinfo}
use Rattle.iri_grammar.specs.Classes.{is_ascii_reg_name, is_ascii_unreserved, is_sub_delim, is_ascii_path, is_ascii_pchar, is_ascii_query}
use Rattle.iri_grammar.specs.Components.{if_there, is_fragment, is_query, is_scheme, is_scheme_char}
use Rattle.iri_grammar.specs.Cut.{delimited}
use Rattle.iri_grammar.specs.Parts.{IsReference, Splits, scheme_text, authority_text}
use Rattle.iri_grammar.proofs.authorities.AuthorityTexts.{IsForeign, authority-lacks, over_text-lacks}
use Rattle.iri_grammar.proofs.hosts.LiteralChars.{is_literal_char}
use Rattle.iri_grammar.proofs.splits.CutLaws.{by_test, lacks-append}
use Rattle.iri_grammar.proofs.splits.SplitLaws.{scheme-lacks, authority_text-lacks, delimited-lacks}
use Rattle.iri_cli.specs.parts.Object.{is_unescaped}

-- what is said of a byte that stands in no text
record IsUnused (c : ℕ) : Type 0 where
  low : c < 128
  percent : (37 == c) ≡ false
  hex : is_ascii_hexdigit c ≡ false
  digit : is_ascii_digit c ≡ false
  at : (64 == c) ≡ false
  colon : (58 == c) ≡ false
  slash : (47 == c) ≡ false
  mark : (63 == c) ≡ false
  number : (35 == c) ≡ false
  scheme : is_scheme_char c ≡ false
  userinfo : is_ascii_userinfo c ≡ false
  reg_name : is_ascii_reg_name c ≡ false
  path : is_ascii_path c ≡ false
  tail : is_ascii_query c ≡ false
  literal : is_literal_char c ≡ false

quote_unused : IsUnused 34
unfolding is_scheme_char is_ascii_userinfo is_ascii_reg_name is_ascii_unreserved is_sub_delim is_ascii_path is_ascii_pchar is_ascii_query is_literal_char
quote_unused = record {
  low = omega arith;
  percent = refl;
  hex = refl;
  digit = refl;
  at = refl;
  colon = refl;
  slash = refl;
  mark = refl;
  number = refl;
  scheme = refl;
  userinfo = refl;
  reg_name = refl;
  path = refl;
  tail = refl;
  literal = refl;
}

backslash_unused : IsUnused 92
unfolding is_scheme_char is_ascii_userinfo is_ascii_reg_name is_ascii_unreserved is_sub_delim is_ascii_path is_ascii_pchar is_ascii_query is_literal_char
backslash_unused = record {
  low = omega arith;
  percent = refl;
  hex = refl;
  digit = refl;
  at = refl;
  colon = refl;
  slash = refl;
  mark = refl;
  number = refl;
  scheme = refl;
  userinfo = refl;
  reg_name = refl;
  path = refl;
  tail = refl;
  literal = refl;
}

control_unused : (c : ℕ) → c < 32 → IsUnused c
unfolding is_scheme_char is_ascii_userinfo is_ascii_reg_name is_ascii_unreserved is_sub_delim is_ascii_path is_ascii_pchar is_ascii_query is_literal_char
control_unused c h = record {
  low = omega (arith, h);
  percent = grind (arith, nat_tests);
  hex = grind (arith, nat_tests);
  digit = grind (arith, nat_tests);
  at = grind (arith, nat_tests);
  colon = grind (arith, nat_tests);
  slash = grind (arith, nat_tests);
  mark = grind (arith, nat_tests);
  number = grind (arith, nat_tests);
  scheme = grind (arith, nat_tests);
  userinfo = grind (arith, nat_tests);
  reg_name = grind (arith, nat_tests);
  path = grind (arith, nat_tests);
  tail = grind (arith, nat_tests);
  literal = grind (arith, nat_tests);
}

unused : (c : ℕ) → is_unescaped c ≡ false → IsUnused c
unused c e =
    by_test c 34 (λ b. not (b || (c == 92 || nat_lt c 32)) ≡ false → IsUnused c) (λ q _. subst IsUnused (sym q) quote_unused)
    (λ _ f. by_test c 92 (λ b. not (b || nat_lt c 32) ≡ false → IsUnused c) (λ q _. subst IsUnused (sym q) backslash_unused)
    (λ _ k. control_unused c (grind (arith, nat_tests))) f) e

module _ (s : Tests) (k : IsSpec s) (c : ℕ) (e : is_unescaped c ≡ false) where
  is : IsUnused c
  is = unused c e

  foreign : IsForeign s c
  unfolding userinfo_char reg_name_char
  foreign = record {
    ascii = is.low;
    percent = is.percent;
    hex = is.hex;
    digit = is.digit;
    at = is.at;
    colon = is.colon;
    userinfo = rw (k.ucs_ascii c is.low, is.userinfo) refl;
    reg_name = rw (k.ucs_ascii c is.low, is.reg_name) refl;
    literal = is.literal;
  }

  no_path : path_char s c ≡ false
  unfolding path_char
  no_path = rw (k.ucs_ascii c is.low, is.path) refl

  no_query : query_char s c ≡ false
  unfolding query_char
  no_query = rw (k.ucs_ascii c is.low, k.priv_ascii c is.low, is.tail) refl

  no_fragment : fragment_char s c ≡ false
  unfolding fragment_char
  no_fragment = rw (k.ucs_ascii c is.low, is.tail) refl

  scheme-none : (o : Option (List ℕ)) → if_there is_scheme o ≡ true → lacks c (scheme_text o) ≡ true
  scheme-none None h = refl
  scheme-none (Some x) h =
      lacks-append c x (58 ∷ []) (scheme-lacks c x is.scheme h) (rw is.colon refl)

  authority-none : (o : Option (List ℕ)) → if_there (is_authority s) o ≡ true → if_there (lacks c) o ≡ true
  authority-none None h = refl
  authority-none (Some x) h = authority-lacks s c x foreign h

  query-none : (o : Option (List ℕ)) → if_there (is_query s) o ≡ true → if_there (lacks c) o ≡ true
  query-none None h = refl
  query-none (Some x) h = over_text-lacks (query_char s) c x is.low no_query foreign.percent foreign.hex h

  fragment-none : (o : Option (List ℕ)) → if_there (is_fragment s) o ≡ true → if_there (lacks c) o ≡ true
  fragment-none None h = refl
  fragment-none (Some x) h = over_text-lacks (fragment_char s) c x is.low no_fragment foreign.percent foreign.hex h

  split-none : (t : List ℕ) (p : Parts) → Splits s t p → lacks c t ≡ true
  unfolding recompose
  split-none t p h =
      let f = h.fits in
      subst (λ z. lacks c z ≡ true) h.text
      (lacks-append c (scheme_text p.scheme) _ (scheme-none p.scheme f.scheme)
      (lacks-append c (authority_text p.authority) _ (authority_text-lacks c p.authority is.slash (authority-none p.authority f.authority))
      (lacks-append c p.path _ (over_text-lacks (path_char s) c p.path is.low no_path foreign.percent foreign.hex f.path)
      (lacks-append c (delimited 63 p.query) (delimited 35 p.fragment) (delimited-lacks c 63 p.query is.mark (query-none p.query f.query))
      (delimited-lacks c 35 p.fragment is.number (fragment-none p.fragment f.fragment))))))

-- a text that lacks each byte that is escaped
all_unescaped : (t : List ℕ) → ((c : ℕ) → is_unescaped c ≡ false → lacks c t ≡ true) → list_all is_unescaped t ≡ true
all_unescaped [] h = refl
all_unescaped (x ∷ xs) h =
    elim (is_unescaped x) as (λ b. is_unescaped x ≡ b → (b && list_all is_unescaped xs) ≡ true) [
      | true ↦ λ _. all_unescaped xs (λ c e. (both (not (x == c)) (lacks c xs) (h c e)).1)
      | false ↦ λ e. let p = (both (not (x == x)) (lacks x xs) (h x e)).0 in absurd (grind (arith, nat_tests))
    ] refl

pub reference_unescaped : (s : Tests) → IsSpec s → (t : List ℕ) → IsReference s t → list_all is_unescaped t ≡ true
reference_unescaped s k t r = all_unescaped t (λ c e. split-none s k c e t r.0 r.1)

-- A URI-reference is a text, and has no `>`.
use Rattle.iri_link.proofs.Common.{◌≡◌, ℕ, true, false, List, [], ◌∷◌, Option, Some, None, refl, subst, arith, Tests, IsSpec, lacks}
use Rattle.iri_link.proofs.Common.{delimited, reference_fault}
use Rattle.iri_grammar.specs.Classes.{userinfo_char, reg_name_char, path_char, query_char, fragment_char, is_ascii_userinfo}
use Rattle.iri_grammar.specs.Classes.{is_ascii_reg_name, is_ascii_unreserved, is_sub_delim, is_ascii_path, is_ascii_pchar, is_ascii_query}
use Rattle.iri_grammar.specs.Authority.{is_authority}
use Rattle.iri_grammar.specs.Components.{if_there, is_fragment, is_query, is_scheme, is_scheme_char}
use Rattle.iri_grammar.specs.Parts.{Parts, Splits, recompose, scheme_text, authority_text}
use Rattle.iri_grammar.proofs.authorities.AuthorityTexts.{IsForeign, authority-lacks, over_text-lacks}
use Rattle.iri_grammar.proofs.splits.CutLaws.{lacks-append}
use Rattle.iri_grammar.proofs.faults.FaultLaws.{reference-law}
use Rattle.iri_grammar.proofs.hosts.LiteralChars.{is_literal_char}
use Rattle.iri_grammar.proofs.splits.SplitLaws.{scheme-lacks, authority_text-lacks, delimited-lacks}

greater_foreign : (s : Tests) → IsSpec s → IsForeign s 62
unfolding userinfo_char reg_name_char is_ascii_userinfo is_ascii_reg_name is_ascii_unreserved is_sub_delim is_literal_char
greater_foreign s k = record {
  ascii = omega arith;
  percent = refl;
  hex = refl;
  digit = refl;
  at = refl;
  colon = refl;
  userinfo = rw (k.ucs_ascii 62 (omega arith)) refl;
  reg_name = rw (k.ucs_ascii 62 (omega arith)) refl;
  literal = refl;
}

no_class : (s : Tests) → IsSpec s → (path_char s 62 ≡ false) × (query_char s 62 ≡ false) × (fragment_char s 62 ≡ false)
unfolding path_char query_char fragment_char is_ascii_path is_ascii_pchar is_ascii_query is_ascii_reg_name is_ascii_unreserved is_sub_delim
no_class s k = (rw (k.ucs_ascii 62 (omega arith)) refl, rw (k.ucs_ascii 62 (omega arith), k.priv_ascii 62 (omega arith)) refl, rw (k.ucs_ascii 62 (omega arith)) refl)

no_scheme_char : is_scheme_char 62 ≡ false
unfolding is_scheme_char
no_scheme_char = refl

scheme-none : (o : Option (List ℕ)) → if_there is_scheme o ≡ true → lacks 62 (scheme_text o) ≡ true
scheme-none None h = refl
scheme-none (Some x) h = lacks-append 62 x (58 ∷ []) (scheme-lacks 62 x no_scheme_char h) refl

authority-none : (s : Tests) → IsSpec s → (o : Option (List ℕ)) → if_there (is_authority s) o ≡ true → if_there (lacks 62) o ≡ true
authority-none s k None h = refl
authority-none s k (Some x) h = authority-lacks s 62 x (greater_foreign s k) h

query-none : (s : Tests) → IsSpec s → (o : Option (List ℕ)) → if_there (is_query s) o ≡ true → if_there (lacks 62) o ≡ true
query-none s k None h = refl
query-none s k (Some x) h = over_text-lacks (query_char s) 62 x (omega arith) (no_class s k).1 refl refl h

fragment-none : (s : Tests) → IsSpec s → (o : Option (List ℕ)) → if_there (is_fragment s) o ≡ true → if_there (lacks 62) o ≡ true
fragment-none s k None h = refl
fragment-none s k (Some x) h = over_text-lacks (fragment_char s) 62 x (omega arith) (no_class s k).2 refl refl h

split-none : (s : Tests) → IsSpec s → (t : List ℕ) (p : Parts) → Splits s t p → lacks 62 t ≡ true
unfolding recompose
split-none s k t p h =
    let f = h.fits in
    subst (λ z. lacks 62 z ≡ true) h.text
    (lacks-append 62 (scheme_text p.scheme) _ (scheme-none p.scheme f.scheme)
    (lacks-append 62 (authority_text p.authority) _ (authority_text-lacks 62 p.authority refl (authority-none s k p.authority f.authority))
    (lacks-append 62 p.path _ (over_text-lacks (path_char s) 62 p.path (omega arith) (no_class s k).0 refl refl f.path)
    (lacks-append 62 (delimited 63 p.query) (delimited 35 p.fragment) (delimited-lacks 62 63 p.query refl (query-none s k p.query f.query))
    (delimited-lacks 62 35 p.fragment refl (fragment-none s k p.fragment f.fragment))))))

pub reference-closed : (s : Tests) → IsSpec s → (t : List ℕ) → reference_fault s t ≡ None → lacks 62 t ≡ true
reference-closed s k t h = let r = (reference-law s k t).0 h in split-none s k t r.0 r.1

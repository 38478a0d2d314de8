-- What is matched of a text that a scheme, an authority and a path begin.
use Rattle.iri_robots.proofs.Common.{◌≡◌, ℕ, true, false, List, [], ◌∷◌, ◌++◌, Option, Some, None, length, refl, sym}
use Rattle.iri_robots.proofs.Common.{◌∙◌, ap, subst, arith, append_assoc, ◌==◌, nat_tests, before, after, compared, query_text, cond, drop, suc, run_of}
use Rattle.std.proofs.Common.{slice_index}
use Rattle.iri_grammar.specs.Classes.{is_ascii_unreserved, is_ascii_query, is_ascii_pchar, is_ascii_reg_name, is_sub_delim}
use Rattle.iri_grammar.specs.ClassTests.{ascii_test}
use Rattle.iri_grammar.specs.declared.class.Class.TheVariants.{Query}
use Rattle.std.specs.Prelude.{not}
use Rattle.iri_grammar.specs.Components.{if_there, is_scheme}
use Rattle.iri_grammar.specs.Cut.{delimited, lacks}
use Rattle.iri_grammar.specs.Parts.{Parts, authority_text, recompose, scheme_text, starts_with_slash}
use Rattle.iri_grammar.specs.Split.{split_of}
use Rattle.iri_grammar.proofs.faults.Scans.{before-lacks}
use Rattle.iri_grammar.proofs.splits.CutLaws.{both, joined, test_apart}
use Rattle.iri_grammar.proofs.splits.SplitLaws.{split_parts}
use Rattle.iri_robots.specs.Compared.{subject}

pub begins_slash : (t : List ℕ) → (length t == 0) ≡ false → slice_index t 0 ≡ 47 → starts_with_slash t ≡ true
begins_slash [] n e = cc
begins_slash (x ∷ t) n e = rw e refl

-- ---- up to a `#`

no_hash : ascii_test Query 35 ≡ false
unfolding is_ascii_query is_ascii_pchar is_ascii_reg_name is_ascii_unreserved is_sub_delim
no_hash = refl

pub plain_before : (t : List ℕ) → drop (run_of (ascii_test Query) t) t ≡ [] → before 35 t ≡ t
plain_before [] h = refl
plain_before (x ∷ t) h =
    elim (ascii_test Query x) as (λ b. ascii_test Query x ≡ b → drop (cond b (suc (run_of (ascii_test Query) t)) 0) (x ∷ t) ≡ []
    → before 35 (x ∷ t) ≡ x ∷ t) [
      | true ↦ λ e k. ap (λ b. cond b [] (x ∷ before 35 t)) (test_apart (ascii_test Query) 35 x no_hash e) ∙ ap (λ l. x ∷ l) (plain_before t k)
      | false ↦ λ e k. cc
    ] refl h

pub plain_until : (t : List ℕ) → slice_index (drop (run_of (ascii_test Query) t) t) 0 ≡ 35
    → drop (run_of (ascii_test Query) (before 35 t)) (before 35 t) ≡ []
plain_until [] h = refl
plain_until (x ∷ t) h =
    elim (x == 35) as (λ a. (x == 35) ≡ a → drop (run_of (ascii_test Query) (cond a [] (x ∷ before 35 t))) (cond a [] (x ∷ before 35 t)) ≡ []) [
      | true ↦ λ n. refl
      | false ↦ λ n. elim (ascii_test Query x) as (λ b. ascii_test Query x ≡ b
          → slice_index (drop (cond b (suc (run_of (ascii_test Query) t)) 0) (x ∷ t)) 0 ≡ 35
          → drop (cond b (suc (run_of (ascii_test Query) (before 35 t))) 0) (x ∷ before 35 t) ≡ []) [
            | true ↦ λ e k. plain_until t k
            | false ↦ λ e k. cc (subst (λ z. (z == 35) ≡ false) k n)
          ] refl h
    ] refl

-- ---- the parts

lacks_parts : (c : ℕ) (xs ys : List ℕ) → lacks c (xs ++ ys) ≡ true → (lacks c xs ≡ true) × (lacks c ys ≡ true)
lacks_parts c [] ys h = (refl, h)
lacks_parts c (x ∷ xs) ys h =
    let k = both (not (x == c)) (lacks c (xs ++ ys)) h in
    let l = lacks_parts c xs ys k.1 in
    (rw (k.0, l.0) refl, l.1)

after_delimiter : (c d : ℕ) (o : Option (List ℕ)) → lacks c (delimited d o) ≡ true → if_there (lacks c) o ≡ true
after_delimiter c d None h = refl
after_delimiter c d (Some x) h = (both (not (d == c)) (lacks c x) h).1

same_query : (q : Option (List ℕ)) → query_text q ≡ delimited 63 q
same_query None = refl
same_query (Some q) = refl

-- the parts of such a text
pub record HasParts (t : List ℕ) (scheme : Option (List ℕ)) (authority text : List ℕ) : Type 0 where
  pub scheme_is : (split_of t).scheme ≡ scheme
  pub authority_is : (split_of t).authority ≡ Some authority
  pub subject_is : subject (split_of t) ≡ compared (before 35 text)

pub parts_at : (scheme : Option (List ℕ)) (authority text : List ℕ) → if_there is_scheme scheme ≡ true → lacks 35 authority ≡ true
    → lacks 63 authority ≡ true → lacks 47 authority ≡ true → starts_with_slash text ≡ true
    → HasParts (scheme_text scheme ++ (authority_text (Some authority) ++ text)) scheme authority text
unfolding recompose
parts_at scheme a [] s h m l e = cc
parts_at scheme a (c ∷ r) s h m l e =
    let slash : c ≡ 47 = grind (arith, nat_tests) in
    subst (λ c. HasParts (scheme_text scheme ++ (authority_text (Some a) ++ c ∷ r)) scheme a (c ∷ r)) (sym slash) at
  where
    at : HasParts (scheme_text scheme ++ (authority_text (Some a) ++ 47 ∷ r)) scheme a (47 ∷ r)
    at =
        let text = 47 ∷ r in
        let x = before 35 text in
        let p = before 63 x in
        let q = after 63 x in
        let f = after 35 text in
        let parts : Parts = record { scheme = scheme; authority = Some a; path = p; query = q; fragment = f } in
        let k = lacks_parts 35 p (delimited 63 q) (ap (lacks 35) (joined 63 x) ∙ before-lacks 35 text) in
        let whole : p ++ (delimited 63 q ++ delimited 35 f) ≡ text =
        sym (append_assoc p (delimited 63 q) (delimited 35 f)) ∙ ap (λ z. z ++ delimited 35 f) (joined 63 x) ∙ joined 35 text in
        let is : split_of (scheme_text scheme ++ (authority_text (Some a) ++ text)) ≡ parts =
        ap (λ z. split_of (scheme_text scheme ++ (authority_text (Some a) ++ z))) (sym whole)
        ∙ split_parts scheme (Some a) p q f (record {
          scheme = s;
          authority_hash = h;
          authority_delimiter = m;
          authority_slash = l;
          path_hash = k.0;
          path_delimiter = before-lacks 63 x;
          query_hash = after_delimiter 35 63 q k.1;
          rules = refl;
        }) in
        record {
          scheme_is = ap (λ (z : Parts). z.scheme) is;
          authority_is = ap (λ (z : Parts). z.authority) is;
          subject_is = ap subject is ∙ ap (λ z. compared (p ++ z)) (same_query q) ∙ ap compared (joined 63 x);
        }

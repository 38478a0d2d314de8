-- Parts that are made of ASCII characters of their classes alone.
use Rattle.iri_grammar.proofs.Common.{◌≡◌, ℕ, suc, Bool, true, false, cond, List, [], ◌∷◌, ◌++◌, Option, Some, None, length, take, drop}
use Rattle.iri_grammar.proofs.Common.{refl, sym, ◌∙◌, ap, append-nil, list_all, chars, IsUtf8-from_ascii, eqb-true, or-true}
use Rattle.iri_grammar.proofs.Common.{recompose_authority, Tests, IsSpec, is_ascii_reg_name, is_ascii_userinfo, is_ascii_unreserved}
use Rattle.iri_grammar.proofs.Common.{is_sub_delim, before_any, from_any, ends_at_start, ends_authority, ascii_test, class_test}
use Rattle.iri_grammar.proofs.Common.{is_fragment, is_query, authority_fault, first, fragment_fault, part_fault, unless, is_ip_literal}
use Rattle.iri_grammar.proofs.Common.{over, text_over, Parts, run_of, colon_allowed, fault_before_fragment, parts_fault, ErrorKind}
use Rattle.iri_grammar.proofs.Common.{InvalidFragment, InvalidPath, InvalidQuery, AreOver, Class, RegName, Userinfo}
use Rattle.std.proofs.Math.Seq.{drop-length}
use Rattle.iri_grammar.proofs.authorities.AuthorityTexts.{all_below}
use Rattle.iri_grammar.proofs.units.ClassLaws.{ascii_test_below, class_has_ascii, class_has_no_percent}
use Rattle.iri_grammar.proofs.authorities.AuthorityLaws.{passes}
use Rattle.iri_grammar.proofs.faults.FaultLaws.{authority-no_fault, part-no_fault}
use Rattle.iri_grammar.proofs.splits.CutLaws.{both, test_apart}
use Rattle.iri_grammar.proofs.splits.PartEnds.{run_of_all}
use Rattle.iri_grammar.proofs.units.FirstUnits.{nothing_more, of_text, run_past}

-- ---- runs
pub run-all : (p : ℕ → Bool) (bs : List ℕ) → list_all p (take (run_of p bs) bs) ≡ true
run-all p [] = refl
run-all p (x ∷ xs) =
    elim (p x) as (λ b. p x ≡ b → list_all p (take (cond b (suc (run_of p xs)) 0) (x ∷ xs)) ≡ true) [
      | true ↦ λ e. rw e (run-all p xs)
      | false ↦ λ _. refl
    ] refl

-- ---- such a part is in its production
pub plain-over : (s : Tests) → IsSpec s → (k : Class) (t : List ℕ) → list_all (ascii_test k) t ≡ true → text_over (class_test s k) t ≡ true
plain-over s l k t h =
    let q = ascii_test k in
    let u = IsUtf8-from_ascii t (all_below q (ascii_test_below k) t h) in
    let whole : run_of q t ≡ length t = eqb-true (run_of q t) (length t) (run_of_all q t ∙ h) in
    let rest : drop (run_of q t) t ≡ [] = ap (λ n. drop n t) whole ∙ drop-length t in
    of_text (class_test s k) t u ∙ sym (run_past (class_test s k) q t (class_has_ascii s l k) (class_has_no_percent s l k) u)
    ∙ ap (λ x. over (class_test s k) (chars x)) rest ∙ nothing_more (class_test s k)

-- the fault of parts that are each in their production is that of the authority, or a colon out of its place
pub over-fault : (s : Tests) (p : Parts) → AreOver s p.path p.query p.fragment
    → first (part_fault (authority_fault s) p.authority) (unless (colon_allowed p) InvalidPath) ≡ parts_fault s (fragment_fault s) p
unfolding parts_fault fault_before_fragment
over-fault s p h =
    rw (
      h.0,
      part-no_fault (is_query s) InvalidQuery p.query h.1,
      part-no_fault (is_fragment s) InvalidFragment p.fragment h.2,
    )
    (alone (part_fault (authority_fault s) p.authority) (unless (colon_allowed p) InvalidPath))
  where
    alone : (a b : Option ErrorKind) → first a b ≡ first (first a (first b None)) None
    alone None None = refl
    alone None (Some e) = refl
    alone (Some e) b = refl

-- a plain name is an authority
name-text : (a : List ℕ) → recompose_authority (record { userinfo = None; host = a; port = None }) ≡ a
unfolding recompose_authority
name-text a = append-nil a

pub plain_name : (s : Tests) → IsSpec s → (a : List ℕ) → list_all (ascii_test RegName) a ≡ true → authority_fault s a ≡ None
plain_name s l a h = authority-no_fault s a (passes s l a (record { userinfo = None; host = a; port = None })
    (record { userinfo = refl; host = rw (plain-over s l RegName a h) (or-true (is_ip_literal a)); port = refl }, name-text a))

-- what ends a name and a port: none of their characters
name-goes_on : (x : ℕ) → ascii_test Userinfo x ≡ true → ends_authority x ≡ false
unfolding is_ascii_userinfo is_ascii_reg_name is_ascii_unreserved is_sub_delim
name-goes_on x h = rw (
  test_apart (ascii_test Userinfo) 47 x refl h,
  test_apart (ascii_test Userinfo) 63 x refl h,
  test_apart (ascii_test Userinfo) 35 x refl h,
) refl

pub name-ends : (a r : List ℕ) → list_all (ascii_test Userinfo) a ≡ true → ends_at_start r ≡ true
    → (a ≡ before_any ends_authority (a ++ r)) × (r ≡ from_any ends_authority (a ++ r))
name-ends [] [] h e = (refl, refl)
name-ends [] (x ∷ xs) h e = rw e (refl, refl)
name-ends (x ∷ xs) r h e =
    let k = both (ascii_test Userinfo x) (list_all (ascii_test Userinfo) xs) h in
    let n = name-ends xs r k.1 e in
    rw (name-goes_on x k.0) (ap (λ l. x ∷ l) n.0, n.1)

-- Plain authorities: a name in ASCII, and perhaps a port.
use Rattle.iri_grammar.proofs.Common.{◌≡◌, ℕ, suc, ◌+◌, ◌≤◌, Bool, true, false, cond, not, ◌&&◌, List, [], ◌∷◌, ◌++◌, Option, Some, None}
use Rattle.iri_grammar.proofs.Common.{length, take, drop, refl, sym, ◌∙◌, ap, arith, add-one, ◌==◌, is_some, is_ascii_digit, list_all}
use Rattle.iri_grammar.proofs.Common.{IsUtf8, eqb-true, ne_eqb, IsUtf8-from_ascii, nat_tests, take-add, or-true, authority_parts}
use Rattle.iri_grammar.proofs.Common.{is_authority, Tests, IsSpec, is_ascii_userinfo, is_ascii_reg_name, is_ascii_unreserved, is_sub_delim}
use Rattle.iri_grammar.proofs.Common.{ascii_test, if_there, is_port, is_userinfo, lacks, delimited, authority_fault, part_fault}
use Rattle.iri_grammar.proofs.Common.{is_ip_literal, run_of, is_plain_authority, is_small, RegName, Userinfo, is_small_name, name_len}
use Rattle.std.proofs.lemmas.List.{length-drop, length-take-le}
use Rattle.std.proofs.lemmas.List.Folds.{list_all-append}
use Rattle.iri_grammar.proofs.hosts.LiteralChars.{all-weaken}
use Rattle.iri_grammar.specs.Seen.{is_kept_port}
use Rattle.iri_grammar.specs.inside.PlainAuthority.{is_small_name_char, plain_len, port_len}
use Rattle.iri_grammar.proofs.authorities.AuthorityLaws.{name_parts}
use Rattle.iri_grammar.proofs.authorities.AuthorityTexts.{all_below}
use Rattle.iri_grammar.proofs.units.ClassLaws.{ascii_test_below}
use Rattle.iri_grammar.proofs.splits.CutLaws.{all-lacks, both}
use Rattle.iri_grammar.proofs.faults.FaultLaws.{authority-no_fault}
use Rattle.iri_grammar.proofs.faults.PlainTails.{plain-over, run-all}
use Rattle.iri_grammar.proofs.units.FirstUnits.{run_of_le}

-- ---- a port at the start
port_le : (r : List ℕ) → port_len r ≤ length r
port_le [] = omega arith
port_le (x ∷ xs) =
    let n = run_of is_ascii_digit xs in
    elim (x == 58) as (λ b. cond b (cond (n == 0) 0 (n + 1)) 0 ≤ length (x ∷ xs)) [
      | true ↦ elim (n == 0) as (λ b. cond b 0 (n + 1) ≤ length (x ∷ xs)) [ true ↦ omega arith | false ↦ omega (arith, run_of_le is_ascii_digit xs) ]
      | false ↦ omega arith
    ]

-- what stands there is a port that isn't empty, with its colon, or nothing
record PortPiece (t : List ℕ) : Type 0 where
  port : Option (List ℕ)
  is : t ≡ delimited 58 port
  digits : if_there is_port port ≡ true
  kept : is_kept_port port ≡ true

some_kept : (n : ℕ) (xs : List ℕ) → n ≡ length xs → (n == 0) ≡ false → is_kept_port (Some xs) ≡ true
some_kept n [] e h = sym (rw e at h)
some_kept n (x ∷ xs) e h = refl

port_piece : (r : List ℕ) → PortPiece (take (port_len r) r)
port_piece [] = record { port = None; is = refl; digits = refl; kept = refl }
port_piece (x ∷ xs) =
    let n = run_of is_ascii_digit xs in
    elim (x == 58) as (λ b. (x == 58) ≡ b → PortPiece (take (cond b (cond (n == 0) 0 (n + 1)) 0) (x ∷ xs))) [
      | true ↦ λ e. elim (n == 0) as (λ b. (n == 0) ≡ b → PortPiece (take (cond b 0 (n + 1)) (x ∷ xs))) [
        | true ↦ λ _. record { port = None; is = refl; digits = refl; kept = refl }
        | false ↦ λ some. rw add-one (record {
          port = Some (take n xs);
          is = ap (λ y. y ∷ take n xs) (eqb-true x 58 e);
          digits = run-all is_ascii_digit xs;
          kept = some_kept n (take n xs) (sym (length-take-le n xs (run_of_le is_ascii_digit xs))) some;
        })
      ] refl
      | false ↦ λ _. record { port = None; is = refl; digits = refl; kept = refl }
    ] refl

-- ---- a name and a port
record Plain (a : List ℕ) : Type 0 where
  chars : list_all (ascii_test Userinfo) a ≡ true
  plain : is_plain_authority a ≡ true

name_char : (x : ℕ) → ascii_test RegName x ≡ true → ascii_test Userinfo x ≡ true
unfolding is_ascii_userinfo is_ascii_reg_name
name_char x h = rw h refl

digit_char : (x : ℕ) → is_ascii_digit x ≡ true → ascii_test Userinfo x ≡ true
unfolding is_ascii_userinfo is_ascii_reg_name is_ascii_unreserved is_sub_delim
digit_char x h = grind (arith, nat_tests)

port_chars : (p : Option (List ℕ)) → if_there is_port p ≡ true → list_all (ascii_test Userinfo) (delimited 58 p) ≡ true
unfolding is_ascii_userinfo is_ascii_reg_name is_ascii_unreserved is_sub_delim
port_chars None h = refl
port_chars (Some d) h = all-weaken is_ascii_digit (ascii_test Userinfo) digit_char d h

no_at : (h : List ℕ) → list_all (ascii_test RegName) h ≡ true → lacks 64 h ≡ true
unfolding is_ascii_reg_name is_ascii_unreserved is_sub_delim
no_at h n = all-lacks (ascii_test RegName) 64 h refl n

no_colon : (h : List ℕ) → list_all (ascii_test RegName) h ≡ true → lacks 58 h ≡ true
unfolding is_ascii_reg_name is_ascii_unreserved is_sub_delim
no_colon h n = all-lacks (ascii_test RegName) 58 h refl n

plain_of : (h : List ℕ) (p : Option (List ℕ)) → list_all (ascii_test RegName) h ≡ true → if_there is_port p ≡ true → is_kept_port p ≡ true
    → Plain (h ++ delimited 58 p)
unfolding is_plain_authority
plain_of h p n d k = record {
  chars = list_all-append (ascii_test Userinfo) h (delimited 58 p)
      ∙ rw (all-weaken (ascii_test RegName) (ascii_test Userinfo) name_char h n) (port_chars p d);
  plain = rw (name_parts h p (no_at h n) (no_colon h n) d, n, k) refl;
}

-- ---- capital letters
small_name : (t : List ℕ) → is_small_name t ≡ true → list_all is_small (take (name_len t) t) ≡ true
small_name [] h = refl
small_name (x ∷ xs) h =
    elim (ascii_test RegName x) as (λ b. cond b (is_small x && is_small_name xs) true ≡ true
    → list_all is_small (take (cond b (suc (name_len xs)) 0) (x ∷ xs)) ≡ true) [
      | true ↦ λ k. let r = both (is_small x) (is_small_name xs) k in rw r.0 (small_name xs r.1)
      | false ↦ λ _. refl
    ] h

digit_small : (x : ℕ) → is_ascii_digit x ≡ true → is_small x ≡ true
digit_small x h = grind (arith, nat_tests)

pub port_small : (p : Option (List ℕ)) → if_there is_port p ≡ true → list_all is_small (delimited 58 p) ≡ true
port_small None h = refl
port_small (Some d) h = all-weaken is_ascii_digit is_small digit_small d h

-- a name goes on after its characters in lower case exactly with a capital letter
pub record SmallRun (t : List ℕ) (n : ℕ) : Type 0 where
  pub whole : name_len t ≡ n + name_len (drop n t)
  pub small : is_small_name t ≡ (name_len (drop n t) == 0)

pub small_run : (t : List ℕ) → SmallRun t (run_of is_small_name_char t)
small_run [] = record { whole = refl; small = refl }
small_run (x ∷ xs) =
    elim (ascii_test RegName x) as (λ b. ascii_test RegName x ≡ b → SmallRun (x ∷ xs) (run_of is_small_name_char (x ∷ xs))) [
      | true ↦ λ e. elim (is_small x) as (λ b. is_small x ≡ b → SmallRun (x ∷ xs) (run_of is_small_name_char (x ∷ xs))) [
        | true ↦ λ f. let r = small_run xs in rw (e, f) (record { whole = rw e (omega (arith, r.whole)); small = rw (e, f) r.small })
        | false ↦ λ f. rw (e, f) (record {
          whole = omega arith;
          small = rw (e, f) (sym (ne_eqb (suc (name_len xs)) 0 (λ n. absurd (omega (arith, n)))));
        })
      ] refl
      | false ↦ λ e. rw e (record { whole = rw e (omega arith); small = rw e refl })
    ] refl

-- ---- what is cut
pub record PlainCut (t : List ℕ) : Type 0 where
  pub within : plain_len t ≤ length t
  pub text : IsUtf8 (take (plain_len t) t)
  pub chars : list_all (ascii_test Userinfo) (take (plain_len t) t) ≡ true
  pub plain : is_plain_authority (take (plain_len t) t) ≡ true
  pub small : is_small_name t ≡ true → list_all is_small (take (plain_len t) t) ≡ true

pub plain_within : (t : List ℕ) → plain_len t ≤ length t
plain_within t = omega (arith, run_of_le (ascii_test RegName) t, port_le (drop (name_len t) t), length-drop (name_len t) t)

pub plain_cut : (t : List ℕ) → PlainCut t
plain_cut t =
    let n = name_len t in
    let r = drop n t in
    let p = port_piece r in
    let whole : take (plain_len t) t ≡ take n t ++ delimited 58 p.port = take-add n (port_len r) t ∙ ap (λ x. take n t ++ x) p.is in
    let k = plain_of (take n t) p.port (run-all (ascii_test RegName) t) p.digits p.kept in
    let chars = ap (list_all (ascii_test Userinfo)) whole ∙ k.chars in
    record {
      within = plain_within t;
      text = IsUtf8-from_ascii (take (plain_len t) t) (all_below (ascii_test Userinfo) (ascii_test_below Userinfo) (take (plain_len t) t) chars);
      chars = chars;
      plain = ap is_plain_authority whole ∙ k.plain;
      small = λ h. ap (list_all is_small) whole ∙ list_all-append is_small (take n t) (delimited 58 p.port) ∙ rw (small_name t h) (port_small p.port p.digits);
    }

-- ---- such an authority has no fault
three : (a b c : Bool) → (not a && (b && c)) ≡ true → (a ≡ false) × (b ≡ true)
three true b c h = cc
three false b c h = (refl, (both b c h).0)

none_there : (o : Option (List ℕ)) (f : List ℕ → Bool) → is_some o ≡ false → if_there f o ≡ true
none_there None f h = refl
none_there (Some x) f h = cc

pub plain_no_fault : (s : Tests) → IsSpec s → (a : List ℕ) → is_plain_authority a ≡ true → authority_fault s a ≡ None
unfolding is_plain_authority is_authority
plain_no_fault s l a h =
    let p = authority_parts a in
    let k = three (is_some p.userinfo) (list_all (ascii_test RegName) p.host) (is_kept_port p.port) h in
    authority-no_fault s a (rw (none_there p.userinfo (is_userinfo s) k.0, plain-over s l RegName p.host k.1, or-true (is_ip_literal p.host)) refl)

pub plain-authorities : (s : Tests) → IsSpec s → (o : Option (List ℕ)) → if_there is_plain_authority o ≡ true → part_fault (authority_fault s) o ≡ None
plain-authorities s l None h = refl
plain-authorities s l (Some a) h = plain_no_fault s l a h

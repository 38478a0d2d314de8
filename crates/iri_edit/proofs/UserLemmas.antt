-- A userinfo whose password is changed stays a userinfo.
use Rattle.std.specs.Prelude.{option_map}
use Rattle.iri_edit.proofs.Common.{◌≡◌, ℕ, Bool, true, false, cond, List, [], ◌∷◌, ◌++◌, Option, Some, None, refl, sym, ◌∙◌, subst, arith}
use Rattle.iri_edit.proofs.Common.{chars, is_utf8, append-nil, AuthorityParts, FitsAuthority, Tests, IsSpec, if_there, is_userinfo, before}
use Rattle.iri_edit.proofs.Common.{after, lacks, delimited, joined, over_from, ErrorKind, masked, user_with, user_alone, with_userinfo}
use Rattle.iri_edit.proofs.Common.{without_password}
use Rattle.iri_grammar.proofs.authorities.AuthorityTexts.{one_byte-utf8}
use Rattle.iri_grammar.specs.Classes.{userinfo_char, is_ascii_userinfo, is_ascii_reg_name, is_ascii_unreserved, is_sub_delim}
use Rattle.iri_grammar.proofs.splits.CutLaws.{before-delimited}
use Rattle.iri_grammar.proofs.units.UnitRuns.{text_over-append}
use Rattle.iri_normal.proofs.targets.CutTexts.{is_utf8-of, text_over-sides}
use Rattle.iri_edit.proofs.KindLemmas.{IsWhole, edited-valid}
use Rattle.iri_grammar.proofs.faults.FaultLaws.{lacks-joined}
use Rattle.iri_grammar.proofs.faults.Scans.{before-lacks}

colon_over : (s : Tests) → is_userinfo s (58 ∷ []) ≡ true
unfolding over_from chars userinfo_char is_ascii_userinfo is_ascii_reg_name is_ascii_unreserved is_sub_delim
colon_over s = is_utf8-of (userinfo_char s) (58 ∷ []) (one_byte-utf8 58 (omega arith)) refl

alone-at : (s : Tests) (u : List ℕ) (o : Option (List ℕ)) → before 58 u ++ delimited 58 o ≡ u → is_userinfo s u ≡ true
    → is_userinfo s (before 58 u) ≡ true
alone-at s u None e h = subst (λ z. is_userinfo s z ≡ true) (sym e ∙ append-nil (before 58 u)) h
alone-at s u (Some p) e h = (text_over-sides (userinfo_char s) 58 (before 58 u) p (omega arith) refl
    (subst (λ z. is_userinfo s z ≡ true) (sym e) h)).0

pub user_alone-fits : (s : Tests) (u : List ℕ) → is_userinfo s u ≡ true → is_userinfo s (user_alone u) ≡ true
user_alone-fits s u h = alone-at s u (after 58 u) (joined 58 u) h

pub user_with-fits : (s : Tests) (w : List ℕ) → is_userinfo s w ≡ true → (u : List ℕ) → is_userinfo s u ≡ true
    → is_userinfo s (user_with w u) ≡ true
user_with-fits s w v u h =
    elim (lacks 58 u) as (λ b. is_userinfo s (cond b u (before 58 u ++ 58 ∷ w)) ≡ true) [
      | true ↦ h
      | false ↦ text_over-append (userinfo_char s) (before 58 u) (58 ∷ w) (user_alone-fits s u h)
          (text_over-append (userinfo_char s) (58 ∷ []) w (colon_over s) v)
    ]

pub nothing-fits : (s : Tests) → is_userinfo s [] ≡ true
unfolding over_from chars is_utf8
nothing-fits s = refl

-- ---- the parts of an authority
where-fits : (s : Tests) (f : List ℕ → List ℕ) → ((u : List ℕ) → is_userinfo s u ≡ true → is_userinfo s (f u) ≡ true)
    → (o : Option (List ℕ)) → if_there (is_userinfo s) o ≡ true → if_there (is_userinfo s) (option_map f o) ≡ true
where-fits s f keeps None h = refl
where-fits s f keeps (Some u) h = keeps u h

pub with_userinfo-fits : (s : Tests) (f : List ℕ → List ℕ) → ((u : List ℕ) → is_userinfo s u ≡ true → is_userinfo s (f u) ≡ true)
    → (a : AuthorityParts) → FitsAuthority s a → FitsAuthority s (with_userinfo f a)
with_userinfo-fits s f keeps a h = record { userinfo = where-fits s f keeps a.userinfo h.userinfo; host = h.host; port = h.port }

-- ---- texts of a kind
module _ (s : Tests) (fault : Tests → List ℕ → Option ErrorKind) (allows : Bool → Bool → Bool) (k : IsSpec s)
    (kind : IsWhole s fault allows) (t : List ℕ) (h : fault s t ≡ None) where
  pub masked-valid : fault s (masked t) ≡ None
  masked-valid = edited-valid s fault allows k kind (with_userinfo (user_with []))
      (with_userinfo-fits s (user_with []) (user_with-fits s [] (nothing-fits s))) t h

  pub without-valid : fault s (without_password t) ≡ None
  without-valid = edited-valid s fault allows k kind (with_userinfo user_alone) (with_userinfo-fits s user_alone (user_alone-fits s)) t h

-- ---- changed twice
-- what stands in place of a password is replaced in its turn
pub user_with-twice : (w u : List ℕ) → user_with w (user_with w u) ≡ user_with w u
user_with-twice w u =
    elim (lacks 58 u) as (λ b. lacks 58 u ≡ b → user_with w (cond b u (before 58 u ++ 58 ∷ w)) ≡ cond b u (before 58 u ++ 58 ∷ w)) [
      | true ↦ λ e. rw e refl
      | false ↦ λ _. rw (lacks-joined (before 58 u) w, before-delimited 58 (before 58 u) (Some w) (before-lacks 58 u)) refl
    ] refl

-- How the first fault of a text goes on past each part of it.
use Rattle.iri_link.proofs.Common.{◌≡◌, ℕ, ◌==◌, true, false, List, [], ◌∷◌, ◌++◌, Some, None, length, refl, sym, ap, ◌∙◌, arith, Bool, Option, cond, by_test}
use Rattle.iri_link.proofs.Common.{eqb-true, IsValue, token, Tests, before, after, delimited, lacks, reference_fault, is_blank, is_token_char, drop, suc}
use Rattle.iri_link.proofs.Common.{before_link, in_target, after_param, after_semicolon, in_name, after_equals, in_quoted, fault_from, target_fault, earlier, first_passes, IsRun, closes_from}
use Rattle.iri_link.proofs.Common.{quoted_len}
use Rattle.std.proofs.Common.{length-append}
use Rattle.std.proofs.lemmas.List.{nil_from_length}
use Rattle.iri_grammar.proofs.splits.CutLaws.{joined}
use Rattle.iri_grammar.proofs.faults.Scans.{before-lacks}
use Rattle.iri_grammar.specs.declared.error.ErrorKind.{ErrorKind}
use Rattle.iri_link.specs.Fault.{Fault, told_target}
use Rattle.iri_link.specs.Phases.{in_pair}
use Rattle.iri_link.specs.declared.error.LinkKind.TheVariants.{NoTarget, BadTarget, NoParam, OpenString}
use Rattle.iri_link.specs.inside.Faults.{GoesOn, Passes}
use Rattle.iri_link.specs.inside.ReadParams.{LacksEquals, ReadsEquals}
use Rattle.iri_link.specs.inside.ReadQuoted.{IsPastQuoted}
use Rattle.iri_link.proofs.ParamLemmas.{name_goes, no_equals, no_param, semicolon_begun, semicolon_ready, token-from_run}
use Rattle.iri_link.proofs.PhaseLemmas.{comma-same, end-same, equals-quoted, fault-blanks, semicolon-same, value-given}
use Rattle.iri_link.proofs.QuotedLemmas.{after-shorter}
use Rattle.iri_link.proofs.TargetLemmas.{closed_goes, some-lacks, open_goes, no_target}

-- ---- a target
module _ (s : Tests) (whole inner u rest : List ℕ) (e : whole ≡ 60 ∷ inner) (is : u ≡ before 62 inner) (r : Some rest ≡ after 62 inner) where
  pub past_reference : reference_fault s u ≡ None → Passes s before_link whole true rest
  past_reference valid =
      let cut : inner ≡ u ++ 62 ∷ rest =
      sym (joined 62 inner) ∙ (ap (λ o. before 62 inner ++ delimited 62 o) (sym r) ∙ ap (λ l. l ++ 62 ∷ rest) (sym is)) in
      record {
        same = ap (fault_from s before_link) (e ∙ ap (λ l. 60 ∷ l) cut) ∙ closed_goes s u rest (ap (lacks 62) is ∙ before-lacks 62 inner) valid;
        shorter = omega (arith, ap length e, after-shorter 62 inner rest r);
      }

  pub bad_target : (k : ErrorKind) → reference_fault s u ≡ Some k → fault_from s before_link whole ≡ Some (record { kind = BadTarget (record { kind = k }); rest = inner })
  bad_target k bad =
      let has = some-lacks 62 inner rest r in
      let told : target_fault s inner ≡ told_target (reference_fault s (before 62 inner)) inner = rw has refl in
      ap (fault_from s before_link) e ∙ (open_goes s inner
      ∙ ap (λ o. earlier o (fault_from s in_target inner)) (told ∙ ap (λ o. told_target o inner) (ap (reference_fault s) (sym is) ∙ bad)))

-- ---- before a link-value, over blanks
module _ (s : Tests) (t a next : List ℕ) (h : IsRun is_blank t a next) where
  pub over_before : fault_from s before_link t ≡ fault_from s before_link next
  over_before = ap (fault_from s before_link) h.whole ∙ fault-blanks s before_link refl a next h.all

  pub comma_before : (rest : List ℕ) → next ≡ 44 ∷ rest → Passes s before_link t false rest
  comma_before rest e = record {
    same = over_before ∙ (ap (fault_from s before_link) e ∙ ap (λ o. o.0) (comma-same s rest).3);
    shorter = omega (arith, ap length h.whole, length-append a next, ap length e);
  }

  pub end_before : (length next == 0) ≡ true → fault_from s before_link t ≡ None
  end_before e =
      over_before ∙ (ap (fault_from s before_link) (nil_from_length next (eqb-true (length next) 0 e)) ∙ ap (λ o. o.0) (end-same s).3)

  pub no_target_before : first_passes (λ c. c == 60) next ≡ false → first_passes (λ c. c == 44) next ≡ false → (length next == 0) ≡ false
      → fault_from s before_link t ≡ Some (record { kind = NoTarget; rest = next })
  no_target_before lt comma some = over_before ∙ no_target s next h.ends lt comma some

  pub target_before : (rest : List ℕ) → Passes s before_link next true rest → Passes s before_link t true rest
  target_before rest k = record { same = over_before ∙ k.same; shorter = omega (arith, k.shorter, ap length h.whole, length-append a next) }

-- ---- after a target or a parameter, over blanks
module _ (s : Tests) (t a next : List ℕ) (h : IsRun is_blank t a next) where
  over_inside : fault_from s after_param t ≡ fault_from s after_param next
  over_inside = ap (fault_from s after_param) h.whole ∙ fault-blanks s after_param refl a next h.all

  pub over_semicolon : (following : List ℕ) → next ≡ 59 ∷ following → fault_from s after_param t ≡ fault_from s after_semicolon following
  over_semicolon following e = over_inside ∙ (ap (fault_from s after_param) e ∙ ap (λ o. o.0) (semicolon-same s following).1)

  pub semicolon_inside : (following rest : List ℕ) → next ≡ 59 ∷ following → GoesOn s after_semicolon following after_param rest → Passes s after_param t true rest
  semicolon_inside following rest e k = record {
    same = over_semicolon following e ∙ k.same;
    shorter = omega (arith, k.short, ap length h.whole, length-append a next, ap length e);
  }

  pub comma_inside : (rest : List ℕ) → next ≡ 44 ∷ rest → Passes s after_param t false rest
  comma_inside rest e = record {
    same = over_inside ∙ (ap (fault_from s after_param) e ∙ ap (λ o. o.0) (comma-same s rest).1);
    shorter = omega (arith, ap length h.whole, length-append a next, ap length e);
  }

  pub end_inside : (length next == 0) ≡ true → fault_from s after_param t ≡ None
  end_inside e =
      over_inside ∙ (ap (fault_from s after_param) (nil_from_length next (eqb-true (length next) 0 e)) ∙ ap (λ o. o.0) (end-same s).1)

  pub no_param_inside : first_passes (λ c. c == 59) next ≡ false → first_passes (λ c. c == 44) next ≡ false → (length next == 0) ≡ false
      → fault_from s after_param t ≡ Some (record { kind = NoParam; rest = next })
  no_param_inside semi comma some = over_inside ∙ no_param s next h.ends semi comma some

-- ---- after a semicolon, over blanks
module _ (s : Tests) (t b next : List ℕ) (h : IsRun is_blank t b next) where
  over_after : fault_from s after_semicolon t ≡ fault_from s after_semicolon next
  over_after = ap (fault_from s after_semicolon) h.whole ∙ fault-blanks s after_semicolon refl b next h.all

  pub none_after : first_passes is_token_char next ≡ false → GoesOn s after_semicolon t after_param next
  none_after none = record { same = over_after ∙ semicolon_ready s next h.ends none; short = omega (arith, ap length h.whole, length-append b next) }

  pub name_after : first_passes is_token_char next ≡ true → fault_from s after_semicolon t ≡ fault_from s in_name next
  name_after begun = over_after ∙ semicolon_begun s next begun

  pub param_after : (rest : List ℕ) → first_passes is_token_char next ≡ true → GoesOn s in_name next after_param rest → GoesOn s after_semicolon t after_param rest
  param_after rest begun k = record { same = name_after begun ∙ k.same; short = omega (arith, k.short, ap length h.whole, length-append b next) }

-- ---- a parameter
module _ (s : Tests) (t run mid : List ℕ) (h : IsRun is_token_char t run mid) where
  pub bare_goes : LacksEquals mid → GoesOn s in_name t after_param mid
  bare_goes k = record { same = name_goes s t run mid h ∙ no_equals s mid k.a k.rest k.run k.none; short = omega (arith, ap length h.whole, length-append run mid) }

  pub equals_goes : (start : List ℕ) → ReadsEquals mid start → fault_from s in_name t ≡ fault_from s after_equals start
  equals_goes start k = name_goes s t run mid h ∙ k.goes s

  pub valued_goes : (start rest : List ℕ) → ReadsEquals mid start → GoesOn s after_equals start after_param rest → GoesOn s in_name t after_param rest
  valued_goes start rest k v = record {
    same = equals_goes start k ∙ v.same;
    short = omega (arith, v.short, ap length h.whole, length-append run mid, ap length k.whole, length-append k.a (61 ∷ (k.b ++ start)), length-append k.b start);
  }

-- ---- a value
pub token_goes : (s : Tests) (t run rest : List ℕ) → IsRun is_token_char t run rest → first_passes is_token_char t ≡ true → GoesOn s after_equals t after_param rest
token_goes s t run rest h b =
    let is : IsValue run run = token run (token-from_run t run rest h b) in
    record {
      same = ap (fault_from s after_equals) h.whole ∙ ap (λ o. o.0) (value-given s run run rest is h.ends);
      short = omega (arith, ap length h.whole, length-append run rest);
    }

-- within a quoted string, or after a `\` there, nothing is wrong
quoted-goes : (s : Tests) (t : List ℕ) → (fault_from s in_quoted t ≡ fault_from s after_param (drop (suc (quoted_len false t)) t))
    × (fault_from s in_pair t ≡ fault_from s after_param (drop (suc (quoted_len true t)) t))
unfolding fault_from quoted_len
quoted-goes s [] = (refl, refl)
quoted-goes s (c ∷ cs) =
    let i = quoted-goes s cs in
    let left : Bool → Bool → Option Fault = λ a b. fault_from s (cond a after_param (cond b in_pair in_quoted)) cs in (
      by_test c 34 (λ a. left a (c == 92) ≡ fault_from s after_param (drop (suc (cond a 0 (suc (quoted_len (c == 92) cs)))) (c ∷ cs))) (λ _. refl)
          (λ _. by_test c 92 (λ b. left false b ≡ fault_from s after_param (drop (suc (quoted_len b cs)) cs)) (λ _. i.1) (λ _. i.0)),
      i.0,
    )

pub string_goes : (s : Tests) (t inner rest : List ℕ) → t ≡ 34 ∷ inner → IsPastQuoted inner rest → GoesOn s after_equals t after_param rest
string_goes s t inner rest e k = record {
  same = ap (fault_from s after_equals) e ∙ (ap (λ o. o.0) (equals-quoted s inner k.closes) ∙ ((quoted-goes s inner).0 ∙ ap (fault_from s after_param) (sym k.suffix)));
  short = omega (arith, ap length e, k.short);
}

pub open_string : (s : Tests) (t inner : List ℕ) → t ≡ 34 ∷ inner → closes_from false inner ≡ false → fault_from s after_equals t ≡ Some (record { kind = OpenString; rest = t })
unfolding fault_from
open_string s t inner e h = rw (e, h) refl

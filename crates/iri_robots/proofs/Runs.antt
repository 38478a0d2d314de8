-- The groups of a file, read from the start.
use Rattle.iri_robots.proofs.Common.{◌≡◌, ℕ, Bool, true, false, cond, ◌||◌, List, [], ◌∷◌, ◌++◌, Option, None, refl, sym, ◌∙◌, ap, subst}
use Rattle.iri_robots.proofs.Common.{append_assoc, append-nil, str_eq_ignore_ascii_case, IsBestOf, FileRule, FileRecord}
use Rattle.std.proofs.Math.Bool.{or-false}
use Rattle.iri_robots.specs.declared.rule.Best.{Best}
use Rattle.iri_robots.specs.Allowed.{IsAmong, first, later}
use Rattle.iri_robots.specs.inside.Groups.{rules_from}
use Rattle.iri_robots.specs.Records.{UserAgent, Judged, Group, leading_rules, with_agent, groups, has_agent, rules_of}

-- the same of groups, where the first one has the name already
abbrev pub rules_with : Bool → List ℕ → List Group → List FileRule
rules_with b name [] = []
rules_with b name (g ∷ gs) = cond (has_agent name g.agents || b) g.rules [] ++ rules_of name gs

both_empty : (b : Bool) → ◌≡◌ {A = List FileRule} (cond b [] []) []
both_empty true = refl
both_empty false = refl

empty_either : (b : Bool) → ◌≡◌ {A = List FileRule} [] (cond b [] [] ++ [])
empty_either true = refl
empty_either false = refl

or_moved : (h a b : Bool) → h || (a || b) ≡ (a || h) || b
or_moved true true b = refl
or_moved true false b = refl
or_moved false true b = refl
or_moved false false b = refl

with_none : (name : List ℕ) (gs : List Group) → rules_with false name gs ≡ rules_of name gs
with_none name [] = refl
with_none name (g ∷ gs) = ap (λ b. cond b g.rules [] ++ rules_of name gs) (or-false (has_agent name g.agents))

with_more : (name a : List ℕ) (b : Bool) (gs : List Group) → rules_with (str_eq_ignore_ascii_case a name || b) name gs ≡ rules_with b name
    (with_agent a gs)
with_more name a b [] = refl
with_more name a b (g ∷ gs) = ap (λ x. cond x g.rules [] ++ rules_of name gs) (or_moved (has_agent name g.agents) (str_eq_ignore_ascii_case
    a name) b)

record Reads (name : List ℕ) (rs : List FileRecord) : Type 0 where
  after : (b : Bool) → rules_from name b false rs ≡ cond b (leading_rules rs) [] ++ rules_of name (groups rs)
  run : (b : Bool) (a : List ℕ) → rules_from name b true (UserAgent a ∷ rs) ≡ rules_with b name (groups (UserAgent a ∷ rs))

rule_after : (name : List ℕ) (r : FileRule) (rs : List FileRecord) → Reads name rs → (b : Bool)
    → rules_from name b false (Judged r ∷ rs) ≡ cond b (r ∷ leading_rules rs) [] ++ rules_of name (groups rs)
rule_after name r rs h true = ap (λ l. r ∷ l) (h.after true)
rule_after name r rs h false = h.after false

reads : (name : List ℕ) (rs : List FileRecord) → Reads name rs
reads name [] = record { after = λ b. empty_either b; run = λ b a. empty_either ((str_eq_ignore_ascii_case a name || false) || b) }
reads name (Judged r ∷ rs) =
    let h = reads name rs in
    record {
      after = λ b. rule_after name r rs h b;
      run = λ b a. let s = str_eq_ignore_ascii_case a name in rule_after name r rs h (s || b)
          ∙ ap (λ x. cond x (r ∷ leading_rules rs) [] ++ rules_of name (groups rs)) (ap (λ x. x || b) (sym (or-false s)));
    }
reads name (UserAgent u ∷ rs) =
    let h = reads name rs in
    let gs = groups (UserAgent u ∷ rs) in
    record {
      after = λ b. h.run false u ∙ with_none name gs ∙ ap (λ l. l ++ rules_of name gs) (sym (both_empty b));
      run = λ b a. h.run (str_eq_ignore_ascii_case a name || b) u ∙ with_more name a b gs;
    }

pub at_start : (name : List ℕ) (rs : List FileRecord) → rules_from name false false rs ≡ rules_of name (groups rs)
at_start name rs = (reads name rs).after false

-- ---- what is decided of the rules read so far

-- of all rules these were read, and those are left
pub record IsJudged (all : List FileRule) (s : List ℕ) (best : Option Best) (left : List FileRule) : Type 0 where
  pub done : List FileRule
  pub decided : IsBestOf done s best
  pub split : all ≡ done ++ left

nothing_read : (s : List ℕ) (rules : List FileRule) → rules ≡ [] → (r : FileRule) → IsAmong r rules → ⊥
nothing_read s rules e r (first rs) = cc
nothing_read s rules e r (later o rs k) = cc

pub none_best : (s : List ℕ) → IsBestOf [] s None
none_best s = record { none = λ r k m. nothing_read s [] refl r k }

pub judged_more : (all : List FileRule) (s : List ℕ) (best best' : Option Best) (left some after : List FileRule) → left ≡ some ++ after
    → ((rules : List FileRule) → IsBestOf rules s best → IsBestOf (rules ++ some) s best') → IsJudged all s best left
    → IsJudged all s best' after
judged_more all s best best' left some after e judge j = record {
  done = j.done ++ some;
  decided = judge j.done j.decided;
  split = j.split ∙ ap (λ l. j.done ++ l) e ∙ sym (append_assoc j.done some after);
}

pub judged_all : (all left : List FileRule) (s : List ℕ) (best : Option Best) → left ≡ [] → IsJudged all s best left → IsBestOf all s best
judged_all all left s best e j =
    subst (λ l. IsBestOf l s best) (sym (j.split ∙ ap (λ l. j.done ++ l) e ∙ append-nil j.done)) j.decided

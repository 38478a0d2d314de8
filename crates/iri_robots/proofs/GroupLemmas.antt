-- The rules of groups, read record by record.
use Rattle.iri_robots.proofs.Common.{◌≡◌, ◌↔◌, ℕ, Bool, true, false, cond, ◌||◌, List, [], ◌∷◌, ◌++◌, Option, refl, sym, ◌∙◌, ap, subst, append_assoc}
use Rattle.iri_robots.proofs.Common.{append-nil, codes, str_eq_ignore_ascii_case, string_bytes, record_texts, FileRule, FileRecord}
use Rattle.iri_robots.proofs.Common.{IsAllowed, IsBestOf}
use Rattle.std.proofs.Math.Bool.{or-false}
use Rattle.iri_robots.specs.Records.{UserAgent, Judged, groups, is_named, rules_of, rules_for}
use Rattle.iri_robots.specs.Stored.{record_text, rule_text}
use Rattle.iri_robots.specs.declared.groups.Reading.{Reading}
use Rattle.iri_robots.specs.declared.record.Record.{Record}
use Rattle.iri_robots.specs.declared.record.Record.TheVariants.{UserAgent as agent, Judged as judged}
use Rattle.iri_robots.specs.inside.Groups.{rules_from, has, name_of, rules_in_groups, IsOf, past, IsRead}
use Rattle.iri_robots.specs.Decided.{is_allowed}
use Rattle.iri_robots.specs.RuleLines.{rule_lines}
use Rattle.std.proofs.Props.{props}
use Rattle.std.proofs.Math.Logic.{∥∥₁_elim}
use Rattle.iri_robots.specs.declared.rule.Best.{Best}
use Rattle.iri_robots.specs.declared.rule.Rule.{Rule}
use Rattle.iri_robots.specs.inside.SecondBytes.{IsApart, second_of}
use Rattle.iri_robots.proofs.Decisions.{allowed_is}
use Rattle.iri_robots.proofs.Runs.{IsJudged, at_start, judged_more}
use Rattle.iri_robots.proofs.Verdicts.{kept}

or_assoc : (a b c : Bool) → a || (b || c) ≡ (a || b) || c
or_assoc true b c = refl
or_assoc false b c = refl

named_agent : (name a : List ℕ) (rs : List FileRecord)
    → is_named name rs || str_eq_ignore_ascii_case a name ≡ is_named name (rs ++ UserAgent a ∷ [])
named_agent name a [] = sym (or-false (str_eq_ignore_ascii_case a name))
named_agent name a (UserAgent b ∷ rs) =
    sym (or_assoc (str_eq_ignore_ascii_case b name) (is_named name rs) (str_eq_ignore_ascii_case a name))
    ∙ ap (λ x. str_eq_ignore_ascii_case b name || x) (named_agent name a rs)
named_agent name a (Judged r ∷ rs) = named_agent name a rs

named_rule : (name : List ℕ) (r : FileRule) (rs : List FileRecord) → is_named name rs ≡ is_named name (rs ++ Judged r ∷ [])
named_rule name r [] = refl
named_rule name r (UserAgent b ∷ rs) = ap (λ x. str_eq_ignore_ascii_case b name || x) (named_rule name r rs)
named_rule name r (Judged o ∷ rs) = named_rule name r rs

texts_more : (rs : List Record) (x : Record) → record_texts rs ++ record_text x ∷ [] ≡ record_texts (rs ++ x ∷ [])
texts_more [] x = refl
texts_more (o ∷ rs) x = ap (λ l. record_text o ∷ l) (texts_more rs x)

rules_more : (own : Bool) (rs : List Record) (x : Record)
    → rules_in_groups own rs ++ rules_in_groups own (x ∷ []) ≡ rules_in_groups own (rs ++ x ∷ [])
rules_more own [] x = refl
rules_more own (agent a ∷ rs) x = rules_more own rs x
rules_more own (judged r ∷ rs) x =
    elim (has own r.groups) as (λ b. cond b (rule_text r ∷ rules_in_groups own rs) (rules_in_groups own rs) ++ rules_in_groups own (x ∷ [])
    ≡ cond b (rule_text r ∷ rules_in_groups own (rs ++ x ∷ [])) (rules_in_groups own (rs ++ x ∷ []))) [
      | true ↦ ap (λ l. rule_text r ∷ l) (rules_more own rs x)
      | false ↦ rules_more own rs x
    ]

-- what one record adds
adds : (own : Bool) (token : List ℕ) (x : Record) (r : Reading) (more : List FileRecord) → IsOf r.groups x
    → rules_from (name_of own token) (has own r.groups) r.in_run (record_text x ∷ more)
    ≡ rules_in_groups own (x ∷ []) ++ rules_from (name_of own token) (has own (past token x r).groups) (past token x r).in_run more
adds true token (agent a) r more k = refl
adds false token (agent a) r more k = refl
adds own token (judged rule) r more k =
    elim (has own r.groups) as (λ b. cond b (rule_text rule ∷ rules_from (name_of own token) b false more) (rules_from (name_of own token) b false more)
    ≡ cond b (rule_text rule ∷ []) [] ++ rules_from (name_of own token) b false more) [ true ↦ refl | false ↦ refl ]
    ∙ ap (λ g. cond (has own g) (rule_text rule ∷ []) [] ++ rules_from (name_of own token) (has own r.groups) false more) (sym k)

named_more : (token : List ℕ) (rs : List Record) (x : Record) (r : Reading) → r.named ≡ is_named token (record_texts rs)
    → (past token x r).named ≡ is_named token (record_texts rs ++ record_text x ∷ [])
named_more token rs (agent a) r h =
    ap (λ b. b || str_eq_ignore_ascii_case (string_bytes a) token) h ∙ named_agent token (string_bytes a) (record_texts rs)
named_more token rs (judged rule) r h = h ∙ named_rule token (rule_text rule) (record_texts rs)

pub read_more : (token : List ℕ) (rs : List Record) (x : Record) (r : Reading) → IsOf r.groups x → IsRead token rs r
    → IsRead token (rs ++ x ∷ []) (past token x r)
read_more token rs x r k h = record {
  named = named_more token rs x r h.named ∙ ap (is_named token) (texts_more rs x);
  goes_on = λ own more.
      let n = name_of own token in
      let after = rules_from n (has own (past token x r).groups) (past token x r).in_run more in
      ap (λ l. rules_from n false false (l ++ more)) (sym (texts_more rs x))
      ∙ ap (rules_from n false false) (append_assoc (record_texts rs) (record_text x ∷ []) more)
      ∙ h.goes_on own (record_text x ∷ more)
      ∙ ap (λ l. rules_in_groups own rs ++ l) (adds own token x r more k)
      ∙ sym (append_assoc (rules_in_groups own rs) (rules_in_groups own (x ∷ [])) after)
      ∙ ap (λ l. l ++ after) (rules_more own rs x);
}

-- before the first record
pub read_none : (token : List ℕ) (r : Reading) → r.named ≡ false → r.in_run ≡ false → ((own : Bool) → has own r.groups ≡ false)
    → IsRead token [] r
read_none token r n i g = record {
  named = n;
  goes_on = λ own more. ap (λ b. rules_from (name_of own token) false b more) (sym i)
      ∙ ap (λ b. rules_from (name_of own token) b r.in_run more) (sym (g own));
}

-- the rules of the crawler's groups are the rules for it
rules_named : (token : List ℕ) (rs : List Record) (r : Reading) → IsRead token rs r → (own : Bool)
    → rules_in_groups own rs ≡ rules_of (name_of own token) (groups (record_texts rs))
rules_named token rs r h own =
    let n = name_of own token in
    sym (append-nil (rules_in_groups own rs)) ∙ sym (h.goes_on own [])
    ∙ ap (rules_from n false false) (append-nil (record_texts rs)) ∙ at_start n (record_texts rs)

either_name : (own : Bool) (token : List ℕ) (rs : List FileRecord)
    → rules_of (name_of own token) (groups rs) ≡ cond own (rules_of token (groups rs)) (rules_of (codes "*") (groups rs))
either_name true token rs = refl
either_name false token rs = refl

pub rules_read : (token : List ℕ) (rs : List Record) (r : Reading) → IsRead token rs r
    → rules_in_groups r.named rs ≡ rules_for token (record_texts rs)
rules_read token rs r h =
    rules_named token rs r h r.named ∙ either_name r.named token (record_texts rs)
    ∙ ap (λ b. cond b (rules_of token (groups (record_texts rs))) (rules_of (codes "*") (groups (record_texts rs)))) h.named

-- a record was stored
pub read_stored : (token : List ℕ) (old new : List Record) (x : Record) (r r' : Reading) → new ≡ old ++ x ∷ [] → r' ≡ past token x r
    → IsOf r.groups x → ∥ IsRead token old r ∥₁ → ∥ IsRead token new r' ∥₁
read_stored token old new x r r' e d k h =
    ∥∥₁_elim h (hlevel props) (λ read. ∣ subst (λ l. IsRead token l r') (sym e) (subst (λ y. IsRead token (old ++ x ∷ []) y) (sym d)
    (read_more token old x r k read)) ∣₁)

-- what the crawler's groups allow is what the rules for it allow
allowed_read : (token : List ℕ) (rs : List Record) (r : Reading) (s : List ℕ) → ∥ IsRead token rs r ∥₁
    → is_allowed (rules_in_groups r.named rs) s ≡ is_allowed (rules_for token (record_texts rs)) s
allowed_read token rs r s h = ∥∥₁_elim h (hlevel props) (λ read. ap (λ rules. is_allowed rules s) (rules_read token rs r read))

pub decided_read : (token : List ℕ) (rs rs' : List Record) (r : Reading) (s s' : List ℕ) (b : Bool) → ∥ IsRead token rs r ∥₁ → rs' ≡ rs
    → s' ≡ s → (b ≡ true) ↔ IsAllowed (rules_in_groups r.named rs') s' → (b ≡ true) ↔ IsAllowed (rules_for token (record_texts rs)) s
decided_read token rs rs' r s s' b h e d k =
    let some = allowed_is (rules_in_groups r.named rs') s' in
    let all = allowed_is (rules_for token (record_texts rs)) s in
    let same : is_allowed (rules_in_groups r.named rs') s' ≡ is_allowed (rules_for token (record_texts rs)) s =
    ap (λ l. is_allowed (rules_in_groups r.named l) s') e ∙ ap (is_allowed (rules_in_groups r.named rs)) d ∙ allowed_read token rs r s h in
    (λ t. all.0 (sym same ∙ some.1 (k.0 t)), λ a. k.1 (some.0 (same ∙ all.1 a)))

pub lines_read : (token : List ℕ) (rs : List Record) (r : Reading) → ∥ IsRead token rs r ∥₁
    → rule_lines (rules_in_groups r.named rs) ≡ rule_lines (rules_for token (record_texts rs))
lines_read token rs r h = ∥∥₁_elim h (hlevel props) (λ read. ap rule_lines (rules_read token rs r read))

-- ---- what decides with one record more

first_rules : (own : Bool) (rs after : List Record) (rule : Rule) → rs ≡ judged rule ∷ after → rules_in_groups own rs
    ≡ cond (has own rule.groups) (rule_text rule ∷ []) [] ++ rules_in_groups own after
first_rules own rs after rule e =
    ap (rules_in_groups own) e ∙ elim (has own rule.groups) as (λ b. cond b (rule_text rule ∷ rules_in_groups own after) (rules_in_groups own after)
    ≡ cond b (rule_text rule ∷ []) [] ++ rules_in_groups own after) [ true ↦ refl | false ↦ refl ]

pub judged_rule : (own : Bool) (all : List FileRule) (s : List ℕ) (best best' : Option Best) (rs after : List Record) (rule : Rule)
    → rs ≡ judged rule ∷ after → has own rule.groups ≡ true
    → ((rules : List FileRule) → IsBestOf rules s best → IsBestOf (rules ++ rule_text rule ∷ []) s best')
    → IsJudged all s best (rules_in_groups own rs) → IsJudged all s best' (rules_in_groups own after)
judged_rule own all s best best' rs after rule e h judge j =
    judged_more all s best best' (rules_in_groups own rs) (rule_text rule ∷ []) (rules_in_groups own after)
    (first_rules own rs after rule e ∙ ap (λ b. cond b (rule_text rule ∷ []) [] ++ rules_in_groups own after) h) judge j

pub passed_rule : (own : Bool) (all : List FileRule) (s : List ℕ) (second : ℕ) (best : Option Best) (rs after : List Record) (rule : Rule)
    → rs ≡ judged rule ∷ after → second ≡ second_of s → (has own rule.groups ≡ true → IsApart (string_bytes rule.pattern) second)
    → IsJudged all s best (rules_in_groups own rs) → IsJudged all s best (rules_in_groups own after)
passed_rule own all s second best rs after rule e d apart j =
    judged_more all s best best (rules_in_groups own rs) (cond (has own rule.groups) (rule_text rule ∷ []) []) (rules_in_groups own after)
    (first_rules own rs after rule e) (elim (has own rule.groups) as (λ b. (b ≡ true → IsApart (string_bytes rule.pattern) second)
    → (rules : List FileRule) → IsBestOf rules s best → IsBestOf (rules ++ cond b (rule_text rule ∷ []) []) s best) [
      | true ↦ λ k rules h. kept rules s (rule_text rule) best (k refl s d) h
      | false ↦ λ k rules h. subst (λ l. IsBestOf l s best) (sym (append-nil rules)) h
    ] apart) j

-- Of which groups the records of a robots file are, read one after the other.
use Rattle.std.specs.Prelude.{◌≡◌, ℕ, Bool, true, false, cond, ◌||◌, ◌&&◌, List, [], ◌∷◌, ◌++◌, codes}
use Rattle.std.specs.Str.{str_eq_ignore_ascii_case}
use Rattle.std.specs.String.{string_bytes}
use Rattle.iri_robots.specs.Records.{FileRule, FileRecord, UserAgent, Judged, is_named}
use Rattle.iri_robots.specs.Stored.{record_texts, rule_text}
use Rattle.iri_robots.specs.declared.groups.Groups.{Groups}
use Rattle.iri_robots.specs.declared.groups.Reading.{Reading}
use Rattle.iri_robots.specs.declared.record.Record.{Record}
use Rattle.iri_robots.specs.declared.record.Record.TheVariants.{UserAgent as agent, Judged as judged}

-- the rules from here on: `belongs` says that the last run has the name, `in_run` that its last record came last
abbrev pub rules_from : List ℕ → Bool → Bool → List FileRecord → List FileRule
rules_from name belongs in_run [] = []
rules_from name belongs in_run (UserAgent a ∷ rs) = rules_from name (str_eq_ignore_ascii_case a name || (in_run && belongs)) true rs
rules_from name belongs in_run (Judged r ∷ rs) = cond belongs (r ∷ rules_from name belongs false rs) (rules_from name belongs false rs)

-- of the crawler's own groups, or of those that have `*`
abbrev pub has : Bool → Groups → Bool
has true g = g.own
has false g = g.any

-- the name that these have
abbrev pub name_of : Bool → List ℕ → List ℕ
name_of true token = token
name_of false token = codes "*"

-- the rules of these
abbrev pub rules_in_groups : Bool → List Record → List FileRule
rules_in_groups own [] = []
rules_in_groups own (agent a ∷ rs) = rules_in_groups own rs
rules_in_groups own (judged r ∷ rs) = cond (has own r.groups) (rule_text r ∷ rules_in_groups own rs) (rules_in_groups own rs)

-- a rule is of these groups
abbrev pub IsOf : Groups → Record → Type 0
IsOf g (agent a) = Unit {0}
IsOf g (judged r) = r.groups ≡ g

-- what is said after an agent
abbrev pub past_agent : List ℕ → List ℕ → Reading → Reading
past_agent token a r = record {
  named = r.named || str_eq_ignore_ascii_case a token;
  in_run = true;
  groups = record {
    own = str_eq_ignore_ascii_case a token || (r.in_run && r.groups.own);
    any = str_eq_ignore_ascii_case a (codes "*") || (r.in_run && r.groups.any);
  };
}

-- what is said after one record more
abbrev pub past : List ℕ → Record → Reading → Reading
past token (agent a) r = past_agent token (string_bytes a) r
past token (judged rule) r = record { named = r.named; in_run = false; groups = r.groups }

-- what these records say: the rules of each of the groups so far, and how more are read on
pub record IsRead (token : List ℕ) (records : List Record) (r : Reading) : Type 0 where
  pub named : r.named ≡ is_named token (record_texts records)
  pub goes_on : (own : Bool) (more : List FileRecord) → rules_from (name_of own token) false false (record_texts records ++ more)
      ≡ rules_in_groups own records ++ rules_from (name_of own token) (has own r.groups) r.in_run more

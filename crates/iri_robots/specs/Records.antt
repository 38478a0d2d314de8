-- Groups of a robots file, and the rules for a product token (RFC 9309 section 2.2.1).
use Rattle.std.specs.Prelude.{ℕ, ◌+◌, Bool, false, cond, ◌||◌, List, [], ◌∷◌, ◌++◌, codes}
use Rattle.std.specs.Str.{str_eq_ignore_ascii_case}
use Rattle.iri_robots.specs.Compared.{compared}
use Rattle.iri_robots.specs.Patterns.{escapes}
use Rattle.iri_robots.specs.FileLines.{FileLine, AgentLine, RuleLine, OtherLine}

-- a rule: it allows or disallows what its pattern matches
pub record FileRule : Type 0 where
  pub allows : Bool
  pub pattern : List ℕ

-- a record of a file: the agent of a user-agent line, or the rule of an allow or disallow line
pub data FileRecord : Type 0 where
  UserAgent : (agent : List ℕ) → FileRecord
  Judged : (rule : FileRule) → FileRecord

-- the record of a line, where it has one; a pattern is compared in its form
abbrev pub line_records : FileLine → List FileRecord
line_records (AgentLine agent) = UserAgent agent ∷ []
line_records (RuleLine allows pattern) = Judged (record { allows = allows; pattern = compared pattern }) ∷ []
line_records OtherLine = []

-- how many escapes the patterns of records have
abbrev pub records_escapes : List FileRecord → ℕ
records_escapes [] = 0
records_escapes (UserAgent agent ∷ rs) = records_escapes rs
records_escapes (Judged rule ∷ rs) = escapes rule.pattern + records_escapes rs

-- a group: an agent run, that is a longest row of user-agent records with no rule between them, and the rules after it
pub record Group : Type 0 where
  pub agents : List (List ℕ)
  pub rules : List FileRule

-- the rules up to the next user-agent record
abbrev pub leading_rules : List FileRecord → List FileRule
leading_rules [] = []
leading_rules (UserAgent a ∷ rs) = []
leading_rules (Judged r ∷ rs) = r ∷ leading_rules rs

-- a user-agent record right before another one is of its run
abbrev pub with_agent : List ℕ → List Group → List Group
with_agent a [] = []
with_agent a (g ∷ gs) = record { agents = a ∷ g.agents; rules = g.rules } ∷ gs

-- the groups of a file; rules before the first user-agent record belong to none
abbrev pub groups : List FileRecord → List Group
groups [] = []
groups (Judged r ∷ rs) = groups rs
groups (UserAgent a ∷ []) = record { agents = a ∷ []; rules = [] } ∷ []
groups (UserAgent a ∷ Judged r ∷ rs) = record { agents = a ∷ []; rules = r ∷ leading_rules rs } ∷ groups rs
groups (UserAgent a ∷ UserAgent b ∷ rs) = with_agent a (groups (UserAgent b ∷ rs))

-- some agent is equal to this name without case
abbrev pub has_agent : List ℕ → List (List ℕ) → Bool
has_agent name [] = false
has_agent name (a ∷ agents) = str_eq_ignore_ascii_case a name || has_agent name agents

-- some record of the file has this agent
abbrev pub is_named : List ℕ → List FileRecord → Bool
is_named name [] = false
is_named name (UserAgent a ∷ rs) = str_eq_ignore_ascii_case a name || is_named name rs
is_named name (Judged r ∷ rs) = is_named name rs

-- the rules of the groups that have this agent
abbrev pub rules_of : List ℕ → List Group → List FileRule
rules_of name [] = []
rules_of name (g ∷ gs) = cond (has_agent name g.agents) g.rules [] ++ rules_of name gs

-- the rules for a token: those of the groups with its agent, or where no record has it, those of the groups of `*`
abbrev pub rules_for : List ℕ → List FileRecord → List FileRule
rules_for token rs = cond (is_named token rs) (rules_of token (groups rs)) (rules_of (codes "*") (groups rs))

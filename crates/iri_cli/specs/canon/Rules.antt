-- The command `canon`: its rules.
use Rattle.std.specs.Prelude.{ℕ, codes, nat_eq, Bool, false, List, [], None}
use Rattle.std.specs.List.{starts_with}
use Rattle.iri_grammar.specs.Classes.{Tests}
use Rattle.iri_percent.specs.declared.canon_mode.CanonMode.{CanonMode}
use Rattle.iri_percent.specs.declared.canon_mode.CanonMode.TheVariants.{Default}
use Rattle.iri_cli.specs.canon.Answers.{refusal}
use Rattle.iri_normal.specs.Answers.{answer_in}
use Rattle.iri_cli.specs.run.Ending.{Rules}
use Rattle.iri_cli.specs.run.Limits.{longest_line, longest_input}

-- an answer is good where it begins with "ok "
abbrev pub is_ok : List ℕ → Bool
is_ok answer = starts_with nat_eq answer (codes "ok ")

-- `canon` in a mode over the lines of an input: each answer depends on the base and the line alone, nothing is written after the last
-- one, and no line takes memory
abbrev pub canon_rules_in : Tests → CanonMode → Rules
canon_rules_in s mode = record {
  line_limit = longest_line;
  input_limit = longest_input;
  fixed_base = None;
  refusal = refusal s;
  answer = λ base between line. answer_in s mode base line;
  is_good = is_ok;
  closing = λ base between. [];
  base_wants_memory = false;
  wants_memory = λ base between line. false;
}

-- the same by the rules of every scheme
abbrev pub canon_rules : Tests → Rules
canon_rules s = canon_rules_in s Default

-- a command that answers each line by the base and that line alone: base, limits and good answers are those of `canon`, but the base line
-- may take memory, and so may lines
abbrev pub stateless_rules : (answer_to : Tests → CanonMode → List ℕ → List ℕ → List ℕ) (base_takes_memory : Bool) (takes_memory : Tests → List ℕ → Bool) → Tests → CanonMode → Rules
stateless_rules answer_to base_takes_memory takes_memory s mode = record (canon_rules_in s mode) {
  answer = λ base between line. answer_to s mode base line;
  base_wants_memory = base_takes_memory;
  wants_memory = λ base between line. takes_memory s line;
}

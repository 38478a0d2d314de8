-- What the calls for robots files come to.
use Rattle.std.specs.Prelude.{◌≡◌, ◌⊎◌, ℕ, Bool, true, false, cond, List, [], None, Some}
use Rattle.iri_grammar.specs.Classes.{Tests}
use Rattle.iri_grammar.specs.Fault.{bytes_fault}
use Rattle.iri_grammar.specs.Split.{split_of}
use Rattle.iri_grammar.specs.WholeFault.{iri_fault}
use Rattle.iri_calls.specs.Numbers.{grammar_of}
use Rattle.iri_calls.specs.declared.status.TheConstants.{OK}
use Rattle.iri_calls.specs.Outcome.{Outcome, Answered}
use Rattle.iri_calls.specs.Outcome.Outcome.{text, plain}
use Rattle.iri_calls.specs.Outcomes.{in_grammar, of_uri}
use Rattle.iri_robots.specs.Compared.{subject}
use Rattle.iri_robots.specs.Decided.{is_allowed}
use Rattle.iri_robots.specs.FileLines.{is_token}
use Rattle.iri_robots.specs.Files.{file_records}
use Rattle.iri_robots.specs.Records.{FileRule, rules_for}
use Rattle.iri_robots.specs.RuleLines.{rule_lines, rules_in}
use Rattle.iri_robots_calls.specs.declared.status.TheConstants.{MEMORY, BAD_TOKEN, DISALLOWED}

-- Allocation failed: nothing is written, and the detail is 0. Otherwise the call comes to this.
abbrev pub AnsweredOrMemory : Outcome → List ℕ → List ℕ → ℕ → ℕ → Type 0
AnsweredOrMemory outcome old new detail status = Answered outcome old new detail status ⊎ Answered (plain MEMORY) old new detail status

-- the same of a call that writes no text
abbrev pub ReturnedOrMemory : Outcome → ℕ → ℕ → Type 0
ReturnedOrMemory outcome detail status = AnsweredOrMemory outcome [] [] detail status

-- the rules of a file for the crawler of a token, as lines
abbrev pub rules_outcome : List ℕ → List ℕ → Outcome
rules_outcome token file = cond (is_token token) (text (rule_lines (rules_for token (file_records file)))) (plain BAD_TOKEN)

-- the status of what is allowed, and of what isn't
abbrev pub allowed_status : Bool → ℕ
allowed_status true = OK
allowed_status false = DISALLOWED

-- what rules say of a target, where it is a `URI` of the grammar
abbrev pub judged_in : List FileRule → List ℕ → Tests → Outcome
judged_in rules target s =
    of_uri target s (plain (allowed_status (is_allowed rules (subject (split_of target)))))

-- what the rules of lines say
abbrev pub allowed_outcome : ℕ → List ℕ → List ℕ → Outcome
allowed_outcome grammar lines target = in_grammar grammar (judged_in (rules_in lines) target)

-- the number is that of a grammar, and the target is a `URI` of it
abbrev pub IsTarget : ℕ → List ℕ → Type 0
IsTarget grammar target = (s : Tests) × ((grammar_of grammar ≡ Some s) × (bytes_fault (iri_fault s) target ≡ None))

-- what a file says to the crawler of a token
abbrev pub file_outcome : ℕ → List ℕ → List ℕ → List ℕ → Outcome
file_outcome grammar token file target = in_grammar grammar (judged_in (rules_for token (file_records file)) target)

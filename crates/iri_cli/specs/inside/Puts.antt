-- What answers that have canonical texts do to a sink.
use Rattle.std.specs.Prelude.{◌≡◌, ◌≤◌, ℕ, Bool, List, length, None, Result, Ok, Err}
use Rattle.iri_grammar.specs.Classes.{Tests}
use Rattle.iri_text.specs.declared.Failed.{Failed}
use Rattle.iri_cli.specs.run.Limits.{longest_line, answer_room}
use Rattle.iri_cli.specs.canon.Answers.{refusal}
use Rattle.iri_cli.specs.inside.Answering.{Answering}
use Rattle.iri_cli.specs.run.Ending.{Rules}
use Rattle.iri_cli.specs.run.Prepared.{IsAlike}
use Rattle.iri_cli.specs.declared.run.answers.AnswerError.{AnswerError}
use Rattle.iri_cli.specs.declared.run.answers.AnswerError.TheVariants.{SinkFailed}

-- what is said of an answer that is good or not, where its pieces were put or the sink failed
abbrev pub said_good : Bool → Result (Unit {0}) Failed → Result Bool AnswerError
said_good good (Ok x) = Ok good
said_good good (Err failed) = Err SinkFailed

-- A command with these rules, whose answers have canonical texts, stands at a base that has the answers of the base line. Its buffer has
-- the capacity for each text.
pub record IsWriterAt (said : Rules) (s : Tests) (base : List ℕ) (output : ℕ) (at : Answering) : Type 0 where
  pub rules : at.rules ≡ said
  pub alike : IsAlike said base at.base
  pub taken : refusal s base ≡ None
  pub short : length base ≤ longest_line
  pub room : answer_room ≤ output

-- What the code replies to a line of `register`, in the terms of the definitions.
use Rattle.std.specs.Prelude.{◌≡◌, ℕ, codes, fold, List, Option, Some}
use Rattle.iri_grammar.specs.declared.error.ErrorKind.{ErrorKind}
use Rattle.iri_register.specs.Commands.{Command, obeyed}
use Rattle.iri_register.specs.Entries.{Entry}
use Rattle.iri_normal.specs.Answers.{bad_answer}
use Rattle.iri_cli.specs.run.Refused.{bad_line}
use Rattle.iri_cli.specs.register.Answers.{numbered, none_line}
use Rattle.iri_cli.specs.declared.register.Reply.{Reply}
use Rattle.iri_cli.specs.declared.register.Reply.TheVariants.{New, Old, Gone, At, NoEntry, BadReference, BadLine}

abbrev pub reply_text : Reply → List ℕ
reply_text (New k) = numbered (codes "new ") k
reply_text (Old k) = numbered (codes "old ") k
reply_text (Gone count) = numbered (codes "gone ") count
reply_text (At k) = numbered (codes "at ") k
reply_text NoEntry = none_line
reply_text (BadReference kind) = bad_answer kind
reply_text BadLine = bad_line

-- the reply tells this fault
pub record IsRefusal (fault : Option ErrorKind) (reply : Reply) : Type 0 where
  pub kind : ErrorKind
  pub fault_is : fault ≡ Some kind
  pub text : reply_text reply ≡ bad_answer kind

-- the entries after commands
abbrev pub obeyed_by : List Entry → List Command → List Entry
obeyed_by es commands = fold obeyed es commands

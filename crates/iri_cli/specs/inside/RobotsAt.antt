-- Where `robots` stands after lines, and what its answers do to a sink.
use Rattle.std.specs.Prelude.{◌≡◌, ◌≢◌, ℕ, Bool, true, List, Option, Result, Err}
use Rattle.iri_grammar.specs.Classes.{Tests}
use Rattle.iri_grammar.specs.Split.{split_of}
use Rattle.iri_percent.specs.declared.canon_mode.CanonMode.{CanonMode}
use Rattle.iri_robots.specs.Records.{FileRecord}
use Rattle.iri_text.specs.Sink.{KeepsRoom, SinkState}
use Rattle.iri_cli.specs.inside.Answering.{Answering, PutsAnswer}
use Rattle.iri_cli.specs.run.Refused.{is_not_bad}
use Rattle.iri_cli.specs.robots.Answers.{normal_base}
use Rattle.iri_cli.specs.robots.Lines.{records_after}
use Rattle.iri_cli.specs.robots.Rules.{robots_rules}
use Rattle.iri_cli.specs.run.Prepared.{IsAlike}
use Rattle.iri_cli.specs.inside.Sites.{IsSiteOf}
use Rattle.iri_cli.specs.declared.run.answers.AnswerError.{AnswerError}
use Rattle.iri_cli.specs.declared.run.answers.AnswerError.TheVariants.{SinkFailed}

-- Its base has the answers of the base line. It has the token, the scheme and the authority of the base's normal form, and the records after
-- the lines that were answered.
pub record IsRobotsAt (s : Tests) (mode : CanonMode) (token base : List ℕ) (scheme authority : Option (List ℕ)) (records : List FileRecord) (at : Answering)
    : Type 0 where
  pub rules : at.rules ≡ robots_rules s mode token
  pub alike : IsAlike (robots_rules s mode token) base at.base
  pub site_is : IsSiteOf scheme authority (split_of (normal_base s mode base))
  pub records_are : records ≡ records_after at.between

-- The whole answer was put, and it is said whether it is refused; or the sink failed within it; or allocation failed, and nothing was put. A
-- sink that is known to have room for the answer didn't fail.
pub record PutsReply (old new : SinkState) (answer : List ℕ) (result : Result Bool AnswerError) : Type 0 where
  pub puts : PutsAnswer is_not_bad old new true answer result
  pub room : KeepsRoom old.room_left new.room_left answer (result ≢ Err SinkFailed)

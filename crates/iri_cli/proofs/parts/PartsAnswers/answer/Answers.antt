use Rattle.iri_cli.proofs.CanonLemmas.{answers_line}
use Rattle.iri_cli.specs.parts.Rules.{parts_rules}
use Rattle.iri_cli.proofs.parts.PartsAnswers.answer.Goals as goal

pub returns : goal.returns
returns g c = λ at is.
    answers_line (parts_rules g.S.Spec.tests c.args.self.now.mode) _ _ _ _ _ _ _ _ _ is c.put_answer.ensures.capacity c.put_answer.ensures.puts c.put_answer.ensures.room

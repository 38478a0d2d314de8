use Rattle.iri_cli.proofs.Common.{refl}
use Rattle.iri_cli.proofs.AlikeLaws.{alike}
use Rattle.iri_cli.proofs.PreparedLaws.{prepared_absolute, prepared_short, same_canonical, same_answer}
use Rattle.iri_cli.proofs.laws.prepared_base_has_the_same_answers.Goals as goal

pub returns-clause-valid : goal.returns-clause-valid
returns-clause-valid g c base b = prepared_absolute g.S.Spec.tests base g.met.S.Spec.lawful b

pub returns-clause-len : goal.returns-clause-len
returns-clause-len g c base b = prepared_short g.S.Spec.tests base g.met.S.Spec.lawful b

pub returns-clause-texts : goal.returns-clause-texts
returns-clause-texts g c mode base reference b = same_canonical g.S.Spec.tests mode base reference g.met.S.Spec.lawful b

pub returns-clause-answers : goal.returns-clause-answers
returns-clause-answers g c mode base line taken = same_answer g.S.Spec.tests mode base line g.met.S.Spec.lawful taken

pub returns-clause-commands : goal.returns-clause-commands
returns-clause-commands g c command mode base taken =
    alike g.S.Spec.tests base _ g.met.S.Spec.lawful (record { taken = taken; text_is = refl }) mode command

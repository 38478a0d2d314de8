use Rattle.iri_edit.proofs.LawLemmas.{masked-split, with-split, without-split}
use Rattle.iri_edit.proofs.laws.passwords_change_nothing_else.Goals as goal

pub returns : goal.returns
returns g c =
    let s = g.S.Spec.tests in
    let k = g.met.S.Spec.lawful in
    record { replaced = with-split s k; masked = masked-split s k; without = without-split s k }

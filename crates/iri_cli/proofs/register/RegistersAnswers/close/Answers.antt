use Rattle.iri_cli.proofs.Common.{◌∙◌, ap, sym, entry_lines, Rules}
use Rattle.iri_cli.proofs.PutLemmas.{puts_so}
use Rattle.iri_cli.proofs.register.RegistersAnswers.close.Goals as goal

pub returns : goal.returns
returns g c = λ text at is.
    puts_so (ap (entry_lines 1) is.entries_are ∙ is.alike.closing at.between ∙ sym (ap (λ (r : Rules). r.closing at.base at.between) is.rules)) c.put_entries.ensures

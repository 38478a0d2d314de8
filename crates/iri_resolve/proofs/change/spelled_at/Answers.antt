use Rattle.iri_resolve.proofs.Common.{sym, ap, ◌∙◌, octets, decoded}
use Rattle.std.proofs.lemmas.List.{take_rest}
use Rattle.iri_resolve.proofs.Edits.{after_end}
use Rattle.iri_resolve.proofs.change.spelled_at.Goals as goal

pub returns-then-text-i : goal.returns-then-text-i
returns-then-text-i g c = sym (after_end g.S.Spec.tests c.args.i c.args.text.now c.if-text-i.true)

pub returns : goal.returns
returns g c = c.decoded_char.ensures ∙ ap (λ t. decoded g.S.Spec.tests (octets t))
    (take_rest c.args.text.now c.args.i)

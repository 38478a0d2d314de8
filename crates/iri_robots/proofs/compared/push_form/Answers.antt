use Rattle.std.proofs.Common.{rules, string_bytes}
use Rattle.iri_robots.proofs.Forms.{form_ends}
use Rattle.iri_robots.proofs.compared.push_form.Goals as goal

pub returns : goal.returns
returns c =
    form_ends (string_bytes c.args.form.now) (string_bytes c.loop-rest.form) c.args.text.now c.loop-rest.rest.now c.loop-rest.invariant (search
    rules)

use Rattle.iri_robots.proofs.Common.{◌≡◌, ◌++◌, sym, ◌∙◌, subst, string_bytes}
use Rattle.std.proofs.Common.{rules}
use Rattle.std.specs.Prelude.{OnOk}
use Rattle.iri_robots.proofs.Forms.{compared_plain}
use Rattle.iri_robots.proofs.Parts.{none_left}
use Rattle.iri_robots.proofs.subject.push_part.Goals as goal

pub returns-then-is_empty : goal.returns-then-is_empty
returns-then-is_empty c =
    let form = string_bytes c.args.form.now in
    let none = none_left c.past_run.result.now (sym c.is_empty.ensures ∙ c.if-is_empty.true) in
    let pushed : OnOk c.push_str.result (string_bytes c.push_str.new.self ≡ form ++ c.args.part.now) = search rules in
    subst (λ z. OnOk c.push_str.result (string_bytes c.push_str.new.self ≡ form ++ z))
    (sym (compared_plain c.args.part.now (sym c.past_run.ensures ∙ none))) pushed

use Rattle.iri_docs.proofs.Common.{◌≡◌, ◌∙◌, [], ◌∷◌, ◌++◌, if◌then◌else◌, bytes_eq, string_bytes, Ok, sym, ap, view, members_view}
use Rattle.iri_docs.proofs.Common.{followed, variable, variables}
use Rattle.iri_template.specs.HeldValues.{shown_value}
use Rattle.iri_template.specs.ShownValues.{undefined}
use Rattle.iri_docs.specs.inside.Entries.{entry_of}
use Rattle.iri_docs.proofs.NameLemmas.{value_among-append}
use Rattle.iri_docs.proofs.StepLemmas.{after, after-followed}
use Rattle.iri_docs.proofs.variables.copy_variables.Goals as goal

pub loop-key-preserved : goal.loop-key-preserved
loop-key-preserved c =
    let old = c.loop-key.invariant in
    let done = old.2 in
    let name = c.in_ok-name.name in
    let value = c.in_ok-name.value in
    let entry = entry_of (name, value) in
    let rest = variables (members_view c.next.new.self) in
    let is : variable c.in-Some.key.now.bytes.items (view c.in-Some.value.now) ≡ Ok entry =
    ap (λ k. variable k (view c.in-Some.value.now)) (sym c.as_str.ensures.value) ∙ c.in_ok-name.ensures in
    let so_far = old.3 ∙ ap (λ es. after done (variables (members_view es))) c.in-Some.ensures.steps
    ∙ ap (λ r. after done (followed r rest)) is ∙ after-followed done entry rest in (
      tt,
      tt,
      done ++ entry ∷ [],
      so_far,
      λ n. c.in_ok-insert.ensures.set n ∙ ap (λ z. if bytes_eq n (string_bytes name) then shown_value value else z) (old.4 n)
          ∙ sym (value_among-append undefined done entry n),
    )

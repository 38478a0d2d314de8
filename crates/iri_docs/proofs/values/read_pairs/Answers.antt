use Rattle.iri_docs.proofs.Common.{◌∙◌, ℕ, List, string_bytes, view, members_view, inner_pairs}
use Rattle.iri_docs.specs.Documents.{inner_text}
use Rattle.iri_docs.proofs.StepLemmas.{one_more, is_pair}
use Rattle.iri_docs.proofs.values.read_pairs.Goals as goal

pub loop-key-preserved : goal.loop-key-preserved
loop-key-preserved c =
    let same = c.in_ok-key.ensures.ok ∙ c.as_str.ensures.value in
    let is = is_pair _ c.in_ok-key.key c.in_ok-text.text (inner_text (view c.in-Some.value.now)) c.in_ok-text.ensures same in
    let pair : List ℕ × List ℕ = (string_bytes c.in_ok-key.key, string_bytes c.in_ok-text.text) in
    let more = one_more c.loop-key.pairs pair _ (inner_pairs (members_view c.next.new.self)) is in
    (tt, tt, c.loop-key.invariant.2 ∙ rw (c.in-Some.ensures.steps, c.in_ok-push_pair.ensures.pushed) more)

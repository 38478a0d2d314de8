use Rattle.iri_resolve.proofs.Common.{sym, ◌∙◌, ap, slice_index, string_bytes, is_ascii_uppercase, is_in_triplet}
use Rattle.iri_resolve.proofs.Edits.{no_host_letter, letter_inside, letter_outside}
use Rattle.iri_resolve.proofs.change.small_host_letter.Goals as goal

pub returns-then-not-is_capital_at : goal.returns-then-not-is_capital_at
returns-then-not-is_capital_at c = sym (no_host_letter c.args.i (string_bytes c.args.text.now)
    (ap (λ t. is_ascii_uppercase (slice_index t c.args.i)) (sym c.as_bytes.ensures.value) ∙ sym c.is_capital_at.ensures
    ∙ c.if-not-is_capital_at.true))

pub returns-then-is_in_triplet : goal.returns-then-is_in_triplet
returns-then-is_in_triplet c = sym (letter_inside c.args.i (string_bytes c.args.text.now)
    (ap (is_in_triplet c.args.i) (sym c.as_bytes-2.ensures.value) ∙ sym c.is_in_triplet.ensures ∙ c.if-is_in_triplet.true))

pub returns : goal.returns
returns c = c.small_letter.ensures ∙ sym (letter_outside c.args.i (string_bytes c.args.text.now)
    (ap (is_in_triplet c.args.i) (sym c.as_bytes-2.ensures.value) ∙ sym c.is_in_triplet.ensures ∙ c.if-is_in_triplet.false))

use Rattle.iri_resolve.proofs.Common.{◌≡◌, sym, ◌∙◌, ap, true, slice_index, slice_set, string_bytes, is_ascii_uppercase, to_ascii_lowercase}
use Rattle.iri_resolve.proofs.Edits.{no_letter, letter}
use Rattle.iri_resolve.proofs.ByteLaws.{capital_some, in_text, capital_low}
use Rattle.iri_resolve.proofs.change.small_letter.Goals as goal

pub returns-then-not-is_capital_at : goal.returns-then-not-is_capital_at
returns-then-not-is_capital_at c = sym (no_letter c.args.i (string_bytes c.args.text.now)
    (ap (λ t. is_ascii_uppercase (slice_index t c.args.i)) (sym c.as_bytes.ensures.value) ∙ sym c.is_capital_at.ensures
    ∙ c.if-not-is_capital_at.true))

pub put-requires-clause-inside : goal.put-requires-clause-inside
put-requires-clause-inside c =
    let h : is_ascii_uppercase (slice_index (string_bytes c.args.text.now) c.args.i) ≡ true =
    ap (λ t. is_ascii_uppercase (slice_index t c.args.i)) (sym c.as_bytes.ensures.value) ∙ sym c.is_capital_at.ensures
    ∙ c.if-not-is_capital_at.false in
    in_text c.args.i (string_bytes c.args.text.now) (capital_some (slice_index (string_bytes c.args.text.now) c.args.i) h)

pub put-requires-clause-ascii : goal.put-requires-clause-ascii
put-requires-clause-ascii c = (capital_low (slice_index (string_bytes c.args.text.now) c.args.i)
    (ap (λ t. is_ascii_uppercase (slice_index t c.args.i)) (sym c.as_bytes.ensures.value) ∙ sym c.is_capital_at.ensures
    ∙ c.if-not-is_capital_at.false)).0

pub returns : goal.returns
returns c =
    let i = c.args.i in
    sym (letter i (string_bytes c.args.text.now) (string_bytes c.put.new.text)
    (ap (λ u. is_ascii_uppercase (slice_index u i)) (sym c.as_bytes.ensures.value) ∙ sym c.is_capital_at.ensures
    ∙ c.if-not-is_capital_at.false)
    (c.put.ensures ∙ ap (slice_set (string_bytes c.args.text.now) i)
    (c.to_ascii_lowercase-letter.ensures.value ∙ ap (λ u. to_ascii_lowercase (slice_index u i)) c.as_bytes-2.ensures.value)))

use Rattle.iri_resolve.proofs.Common.{◌≡◌, sym, ◌∙◌, ap, true, slice_index, slice_set, string_bytes, to_ascii_uppercase, is_in_triplet}
use Rattle.iri_resolve.proofs.Common.{is_small_digit}
use Rattle.iri_resolve.proofs.Edits.{no_digit, digit_outside, digit}
use Rattle.iri_resolve.proofs.ByteLaws.{digit_some, in_text, digit_low}
use Rattle.iri_resolve.proofs.change.capital_digit.Goals as goal

pub returns-then-not-is_small_digit_at : goal.returns-then-not-is_small_digit_at
returns-then-not-is_small_digit_at c = sym (no_digit c.args.i (string_bytes c.args.text.now)
    (ap (λ t. is_small_digit (slice_index t c.args.i)) (sym c.as_bytes.ensures.value) ∙ sym c.is_small_digit_at.ensures
    ∙ c.if-not-is_small_digit_at.true))

pub returns-then-not-is_in_triplet : goal.returns-then-not-is_in_triplet
returns-then-not-is_in_triplet c = sym (digit_outside c.args.i (string_bytes c.args.text.now)
    (ap (is_in_triplet c.args.i) (sym c.as_bytes-2.ensures.value) ∙ sym c.is_in_triplet.ensures ∙ c.if-not-is_in_triplet.true))

pub put-requires-clause-inside : goal.put-requires-clause-inside
put-requires-clause-inside c =
    let h : is_small_digit (slice_index (string_bytes c.args.text.now) c.args.i) ≡ true =
    ap (λ t. is_small_digit (slice_index t c.args.i)) (sym c.as_bytes.ensures.value) ∙ sym c.is_small_digit_at.ensures
    ∙ c.if-not-is_small_digit_at.false in
    in_text c.args.i (string_bytes c.args.text.now) (digit_some (slice_index (string_bytes c.args.text.now) c.args.i) h)

pub put-requires-clause-ascii : goal.put-requires-clause-ascii
put-requires-clause-ascii c = (digit_low (slice_index (string_bytes c.args.text.now) c.args.i)
    (ap (λ t. is_small_digit (slice_index t c.args.i)) (sym c.as_bytes.ensures.value) ∙ sym c.is_small_digit_at.ensures
    ∙ c.if-not-is_small_digit_at.false)).0

pub returns : goal.returns
returns c =
    let i = c.args.i in
    sym (digit i (string_bytes c.args.text.now) (string_bytes c.put.new.text)
    (ap (λ u. is_small_digit (slice_index u i)) (sym c.as_bytes.ensures.value) ∙ sym c.is_small_digit_at.ensures
    ∙ c.if-not-is_small_digit_at.false)
    (ap (is_in_triplet i) (sym c.as_bytes-2.ensures.value) ∙ sym c.is_in_triplet.ensures ∙ c.if-not-is_in_triplet.false)
    (c.put.ensures ∙ ap (slice_set (string_bytes c.args.text.now) i)
    (c.to_ascii_uppercase-digit.ensures.value ∙ ap (λ u. to_ascii_uppercase (slice_index u i)) c.as_bytes-3.ensures.value)))

use Rattle.iri_link.proofs.Common.{◌≡◌, ℕ, ◌<◌, List, false, ◌∙◌, ap, arith, length, slice_index, IsCharBoundary-after_ascii, quoted_len}
use Rattle.std.proofs.lemmas.Str.{IsCharBoundary-before_ascii}
use Rattle.iri_link.proofs.QuotedLemmas.{at_end}
use Rattle.iri_link.proofs.quoted.cut_open.Goals as goal

delimiter_low : (t : List ℕ) (n : ℕ) → n ≡ quoted_len false t → n < length t → slice_index t n < 128
delimiter_low t n e h = rw e (omega (arith, (at_end false t).1 (omega (arith, e, h))))

pub range-requires-clause-end_boundary : goal.range-requires-clause-end_boundary
range-requires-clause-end_boundary c =
    let t = c.args.s.now in
    let n = c.quoted_len-n.result in
    IsCharBoundary-before_ascii t n c.if-n-s.true (delimiter_low t n (c.quoted_len-n.ensures ∙ ap (quoted_len false) c.as_bytes.ensures.value) c.if-n-s.true)

pub range_from-requires : goal.range_from-requires
range_from-requires c _ =
    let t = c.args.s.now in
    let n = c.quoted_len-n.result in
    IsCharBoundary-after_ascii t n c.utf8.s c.if-n-s.true (delimiter_low t n (c.quoted_len-n.ensures ∙ ap (quoted_len false) c.as_bytes.ensures.value) c.if-n-s.true)

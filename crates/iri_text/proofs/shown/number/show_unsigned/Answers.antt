use Rattle.iri_text.proofs.Common.{arith, sym, subst, IsUtf8, IsUtf8-from_ascii}
use Rattle.std.proofs.lemmas.Fmt.{IsAscii-decimal_wide}
use Rattle.iri_text.proofs.Digits.{digits_shown}
use Rattle.iri_text.proofs.shown.number.show_unsigned.Goals as goal

pub from_utf8_unchecked-requires : goal.from_utf8_unchecked-requires
from_utf8_unchecked-requires g c =
    let w = c.write_digits-at in
    subst IsUtf8 (sym (digits_shown c.args.number w.result w.new.buf w.array_long w.ensures.digits))
    (IsUtf8-from_ascii _ (IsAscii-decimal_wide c.args.number (omega (arith, c.ranges.number.fits))))

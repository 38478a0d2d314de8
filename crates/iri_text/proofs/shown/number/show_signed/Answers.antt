use Rattle.iri_text.proofs.Common.{arith, sym, subst, IsUtf8, IsUtf8-from_ascii}
use Rattle.std.proofs.Common.{decimal}
use Rattle.std.proofs.lemmas.Str.Ascii.{IsAscii-cons}
use Rattle.std.proofs.lemmas.Fmt.{IsAscii-decimal_wide}
use Rattle.iri_text.proofs.Digits.{minus_shown}
use Rattle.iri_text.proofs.shown.number.show_signed.Goals as goal

pub from_utf8_unchecked-requires : goal.from_utf8_unchecked-requires
from_utf8_unchecked-requires g c =
    let w = c.write_digits-at in
    subst IsUtf8 (sym
    (minus_shown c.unsigned_abs-2.result w.result w.new.buf w.array_long w.ensures.within.0 w.ensures.within.1 w.ensures.digits))
    (IsUtf8-from_ascii _ (IsAscii-cons 45 (decimal c.unsigned_abs-2.result) (omega arith)
    (IsAscii-decimal_wide c.unsigned_abs-2.result (omega (arith, c.unsigned_abs-2.ensures.bound)))))

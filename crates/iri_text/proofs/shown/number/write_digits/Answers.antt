use Rattle.std.proofs.Common.{◌+◌, ◌-◌, ◌<◌, ◌^◌, arith, sym, subst, ap, ◌++◌, ◌∙◌, decimal, drop, slice_set}
use Rattle.std.proofs.lemmas.List.{append-nil, drop_all, length-set}
use Rattle.iri_text.proofs.Digits.{one_place_fewer, digit_more, digit_first}
use Rattle.iri_text.proofs.shown.number.write_digits.Goals as goal

pub loop-rest-init : goal.loop-rest-init
loop-rest-init c = record {
  room = c.told-buf;
  above = omega arith;
  within = omega arith;
  small = omega (arith, c.ranges.number.fits);
  digits = sym (append-nil (decimal c.args.number))
      ∙ ap (λ l. decimal c.args.number ++ l) (sym (drop_all 40 c.args.buf.now (omega (arith, c.told-buf))));
}

pub loop-rest-preserved : goal.loop-rest-preserved
loop-rest-preserved c =
    let i = c.loop-rest.invariant in
    let at = c.loop-rest.at in
    let e = c.last_digit-tenth.ensures in
    let fewer = one_place_fewer at c.loop-rest.rest c.loop-rest-test.true i.small in
    record {
      room = omega (arith, i.room, length-set c.loop-rest.buf at (48 + c.last_digit-tenth.result.1));
      above = omega (arith, fewer.0);
      within = omega (arith, i.within);
      small = subst (λ n. n < 10 ^ (at - 1)) (sym e.0) fewer.1;
      digits = digit_more c.args.number c.loop-rest.rest at c.loop-rest.buf c.loop-rest-test.true
          (omega (arith, c.loop-rest.auto.rest-fits)) i.above (omega (arith, i.within, i.room)) i.digits
          ∙ (λ j. decimal (sym e.0 j) ++ drop (at - 1 + 1) (slice_set c.loop-rest.buf at (48 + sym e.1 j)));
    }

pub returns-clause-digits : goal.returns-clause-digits
returns-clause-digits c =
    let i = c.loop-rest.invariant in
    digit_first c.args.number c.loop-rest.rest c.loop-rest.at c.loop-rest.buf c.loop-rest-test.false
    (omega (arith, i.within, i.room)) i.digits

use Rattle.iri_normal.proofs.Common.{◌≡◌, true, false, length, arith, nat_tests, nat_lt, refl}
use lib.Dec.{leb}
unfoldable use Rattle.iri_normal.specs.inside.SchemeRules.{colon_before_end}
use Rattle.iri_normal.proofs.scheme_rules.has_colon_before_end.Goals as goal

pub returns-then-len-count : goal.returns-then-len-count
unfolding colon_before_end
returns-then-len-count c =
    let long : nat_lt (length c.args.text.now) c.args.count ≡ false = grind (arith, nat_tests) in
    rw long refl

pub returns-else-len-count : goal.returns-else-len-count
unfolding colon_before_end
returns-else-len-count c =
    let short : nat_lt (length c.args.text.now) c.args.count ≡ true = grind (arith, nat_tests) in
    let none : leb c.args.count (length c.args.text.now) ≡ false = grind (arith, nat_tests) in
    rw (none, short) refl

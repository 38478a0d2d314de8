use Rattle.iri_grammar.proofs.Common.{◌+◌, ℕ, Bool, true, sym, ap, ◌∙◌, drop, arith, take_rest, begins_with_triplet, AreUnits}
use Rattle.iri_grammar.proofs.units.UnitRuns.{no_units, triplet_units, units_onward}
use Rattle.iri_grammar.proofs.unit.triplets_len.Goals as goal

pub triplets-init : goal.triplets-init
triplets-init c = record { within = omega arith; units = λ p. no_units p c.args.bytes.now }

pub triplets-preserved : goal.triplets-preserved
triplets-preserved c =
    let t = c.args.bytes.now in
    let i = c.triplets.i in
    let is = ap begins_with_triplet (sym (take_rest t i)) ∙ (sym c.begins_with_triplet.ensures ∙ c.triplets-test.true) in
    let next : (p : ℕ → Bool) → AreUnits p t (i + 3) = λ p. units_onward p t i 3 (c.triplets.invariant.units p) (triplet_units p (drop i t) is) in
    record { within = (next (λ _. true)).within; units = next }

use Rattle.iri_normal.proofs.Common.{◌≡◌, ◌+◌, drop, take, sym, subst, arith, common_steps, lead_after_ascii}
use Rattle.iri_normal.specs.inside.NextDots.{IsCut}
use Rattle.iri_normal.proofs.removal.LongPaths.{cut-there}
use Rattle.iri_normal.proofs.remove_dot_segments.segments.cut_eighth.Goals as goal

pub range-requires-clause-end_boundary : goal.range-requires-clause-end_boundary
range-requires-clause-end_boundary c =
    let h = rw c.as_bytes.ensures.value at c.in-Some.ensures in
    (omega (arith, h.0), λ l k. lead_after_ascii c.args.text.now c.in-Some.i c.utf8.text (omega (arith, h.1)) l k)

pub range_from-requires : goal.range_from-requires
range_from-requires c _ =
    let h = rw c.as_bytes.ensures.value at c.in-Some.ensures in
    (omega (arith, h.0), λ l k. lead_after_ascii c.args.text.now c.in-Some.i c.utf8.text (omega (arith, h.1)) l k)

pub returns-in-Some : goal.returns-in-Some
returns-in-Some c =
    let t = c.args.text.now in
    let i = c.in-Some.i in
    let h = rw c.as_bytes.ensures.value at c.in-Some.ensures in
    let first : c.range.result.now ≡ take (i + 1) t = grind (arith, common_steps) in
    let rest : c.range_from.result.now ≡ drop (i + 1) t = grind (arith, common_steps) in
    subst (λ a. IsCut t a c.range_from.result.now) (sym first) (subst (λ b. IsCut t (take (i + 1) t) b) (sym rest) (cut-there t i h.0 h.1))

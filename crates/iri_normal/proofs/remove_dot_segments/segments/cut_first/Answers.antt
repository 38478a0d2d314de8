use Rattle.iri_normal.proofs.Common.{◌≡◌, ◌+◌, ◌++◌, ◌∷◌, [], Some, ◌∙◌, sym, ap, take, drop, arith, common_steps, lead_after_ascii}
use Rattle.std.proofs.lemmas.List.{take_more}
use Rattle.iri_normal.proofs.remove_dot_segments.segments.cut_first.Goals as goal

pub range-requires-clause-end_boundary : goal.range-requires-clause-end_boundary
range-requires-clause-end_boundary c =
    let at = c.in-Some.ensures in
    (omega (arith, at.inside), λ l h. lead_after_ascii c.args.text.now c.in-Some.i c.utf8.text (omega (arith, at.byte)) l h)

pub range_from-requires : goal.range_from-requires
range_from-requires c _ =
    let at = c.in-Some.ensures in
    (omega (arith, at.inside), λ l h. lead_after_ascii c.args.text.now c.in-Some.i c.utf8.text (omega (arith, at.byte)) l h)

pub returns-in-Some : goal.returns-in-Some
returns-in-Some c =
    let t = c.args.text.now in
    let i = c.in-Some.i in
    let at = c.in-Some.ensures in
    let first : c.range.result.now ≡ take (i + 1) t = grind (arith, common_steps) in
    let rest : c.range_from.result.now ≡ drop (i + 1) t = grind (arith, common_steps) in (
      sym at.tail ∙ ap Some (sym rest),
      first ∙ (take_more t i 0 at.inside ∙ (ap (λ b. take i t ++ b ∷ []) at.byte ∙ ap (λ l. l ++ 47 ∷ []) at.prefix)),
    )

pub returns-in-None : goal.returns-in-None
returns-in-None c = sym c.in-None.ensures.tail

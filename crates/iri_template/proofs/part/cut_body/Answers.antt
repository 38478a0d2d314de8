use Rattle.iri_template.proofs.Common.{◌≡◌, ◌<◌, ℕ, List, [], ◌∷◌, length, sym, ◌∙◌, ap, arith, IsCharBoundary-after_ascii, before, after}
use Rattle.iri_template.proofs.Common.{first_of}
use Rattle.iri_template.proofs.Prefixes.{first_get, tail_drop}
use Rattle.iri_template.proofs.part.cut_body.Goals as goal

some : (t : List ℕ) → first_of t ≡ 123 → 0 < length t
some [] h = absurd (omega arith)
some (x ∷ xs) h = omega arith

pub range_from-requires : goal.range_from-requires
range_from-requires c _ =
    let t = c.args.s.now in
    let e = first_get t in
    IsCharBoundary-after_ascii t 0 c.utf8.s (some t c.requires) (omega (arith, e, c.requires))

pub returns-clause-body : goal.returns-clause-body
returns-clause-body c = c.cut.ensures.before ∙ ap (before 125) (c.range_from.ensures.value ∙ sym (tail_drop c.args.s.now))

pub returns-clause-rest : goal.returns-clause-rest
returns-clause-rest c = c.cut.ensures.after ∙ ap (after 125) (c.range_from.ensures.value ∙ sym (tail_drop c.args.s.now))

use Rattle.iri_link.proofs.Common.{◌≡◌, ℕ, ◌<◌, List, [], ◌∷◌, true, sym, ap, ◌∙◌, arith, ◌==◌, IsUtf8, IsCharBoundary, eqb-true}
use Rattle.iri_link.proofs.Common.{IsCharBoundary-after_ascii, first_passes}
use Rattle.iri_link.proofs.runs.past.Goals as goal

boundary : (m : ℕ) (t : List ℕ) → m < 128 → IsUtf8 t → first_passes (λ c. c == m) t ≡ true → IsCharBoundary t 1
boundary m [] l u h = cc
boundary m (c ∷ cs) l u h = IsCharBoundary-after_ascii (c ∷ cs) 0 u (omega arith) (omega (arith, l, eqb-true c m h))

pub range_from-requires : goal.range_from-requires
range_from-requires c _ =
    let m = c.args.delimiter in
    boundary m c.args.s.now c.requires c.utf8.s (ap (first_passes (λ d. d == m)) (sym c.as_bytes.ensures.value) ∙ (sym c.begins_with.ensures ∙ c.if-begins_with.true))

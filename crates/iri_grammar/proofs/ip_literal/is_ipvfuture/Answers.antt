use Rattle.iri_grammar.proofs.Common.{◌≡◌, ◌<◌, ℕ, true, ◌||◌, sym, ap, ◌∙◌, length, arith, ◌==◌, slice_index, nat_tests}
use Rattle.std.proofs.lemmas.Str.{IsCharBoundary-after_ascii}
use Rattle.iri_grammar.proofs.ip_literal.is_ipvfuture.Goals as goal

v_is_ascii : (v : ℕ) → (v == 118 || v == 86) ≡ true → v < 128
v_is_ascii v h = grind (arith, nat_tests)

pub range_from-requires : goal.range_from-requires
range_from-requires c _ =
    let t = c.args.s.now in
    let prefix = ap (λ bs. slice_index bs 0) c.as_bytes.ensures.value in
    let some = ap length c.as_bytes.ensures.value in
    let low = v_is_ascii (slice_index c.as_bytes.result.now 0) (sym c.is_v.ensures ∙ c.if-is_v.true) in
    IsCharBoundary-after_ascii t 0 c.utf8.s (omega (arith, some, c.in-len1-up.len_at_least)) (omega (arith, prefix, low))

use Rattle.iri_template.proofs.Common.{◌==◌, nat_tests, IsCharBoundary-after_ascii, operator_at, Simple}
use Rattle.std.proofs.Common.{◌≡◌, ◌<◌, ℕ, length, get_or, inl, inr, false, sym, ◌∙◌, ap, arith}
use Rattle.std.proofs.lemmas.Bool.{cases_lt}
use Rattle.iri_template.proofs.Grammar.{no_operator}
use Rattle.iri_template.proofs.part.cut_operator.Goals as goal

-- an operator is ASCII
operator_ascii : (x : ℕ) → (operator_at x ≡ Simple → ⊥) → x < 128
operator_ascii x h = elim (cases_lt x 128) [
  | inl lt ↦ lt
  | inr ge ↦ absurd (h (no_operator x (omega arith) (omega arith) (omega arith) (omega arith) (omega arith) (omega arith) (omega arith)))
]

pub range_from-requires : goal.range_from-requires
range_from-requires c _ =
    let t = c.args.body.now in
    let byte = ap (λ l. operator_at (get_or l 0 0)) c.as_bytes.ensures.value in
    let ascii : get_or t 0 0 < 128 = operator_ascii (get_or t 0 0) (λ k. c.in_default.not-Simple (c.at.ensures ∙ (byte ∙ k))) in
    let some : (length t == 0) ≡ false = sym c.is_empty.ensures ∙ c.if-is_empty.false in
    let long : 0 < length t = grind (arith, nat_tests) in
    IsCharBoundary-after_ascii t 0 c.utf8.body long ascii

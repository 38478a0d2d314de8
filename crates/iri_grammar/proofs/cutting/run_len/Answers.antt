use Rattle.iri_grammar.proofs.Common.{◌≡◌, ◌+◌, ◌<◌, ◌≤◌, ◌∙◌, drop, ℕ, Bool, true, false, List, sym, length, arith, run_of, refl, get_or, ap, suc}
use Rattle.std.proofs.Common.{drop-cons}
use Rattle.std.proofs.lemmas.List.{drop_all}
use Rattle.iri_grammar.proofs.cutting.run_len.Goals as goal

ends : (p : ℕ → Bool) (xs : List ℕ) (i n : ℕ) → length xs ≤ i → i ≤ length xs → i + run_of p (drop i xs) ≡ n → length xs ≡ n
ends p xs i n l m h = let e : run_of p (drop i xs) ≡ 0 = rw (drop_all i xs l) refl in omega (arith, h, e)

stops : (p : ℕ → Bool) (xs : List ℕ) (i n : ℕ) → i < length xs → i + run_of p (drop i xs) ≡ n → false ≡ p (get_or xs i 0) → i ≡ n
stops p xs i n l h f = let e : run_of p (drop i xs) ≡ 0 = rw (drop-cons xs i 0 l, sym f) refl in omega (arith, h, e)

goes_on : (p : ℕ → Bool) (xs : List ℕ) (i n : ℕ) → i < length xs → i + run_of p (drop i xs) ≡ n → true ≡ p (get_or xs i 0)
    → i + 1 + run_of p (drop (i + 1) xs) ≡ n
goes_on p xs i n l h f =
    let s : suc i ≡ i + 1 = omega arith in
    let e : run_of p (drop i xs) ≡ suc (run_of p (drop (i + 1) xs)) = rw (drop-cons xs i 0 l, sym f) (ap (λ k. suc (run_of p (drop k xs))) s) in
    omega (arith, h, e)

pub loop-i-init : goal.loop-i-init
loop-i-init g c = λ p h. omega arith

pub returns-then-not-passes : goal.returns-then-not-passes
returns-then-not-passes g c = record {
  run = λ p h. stops p c.args.bytes.now c.loop-i.i _ c.loop-i-test.true (c.loop-i.invariant p h)
      (sym c.if-not-passes.true ∙ h _ _ (omega (arith, c.type_inv.bytes c.loop-i.i)) c.passes.ensures);
  within = omega (arith, c.loop-i-test.true);
}

pub loop-i-preserved : goal.loop-i-preserved
loop-i-preserved g c = λ p h. goes_on p c.args.bytes.now c.loop-i.i _ c.loop-i-test.true (c.loop-i.invariant p h)
    (sym c.if-not-passes.false ∙ h _ _ (omega (arith, c.type_inv.bytes c.loop-i.i)) c.passes.ensures)

pub returns-clause-run : goal.returns-clause-run
returns-clause-run g c = λ p h. ends p c.args.bytes.now c.loop-i.i _ (omega (arith, c.loop-i-test.false)) c.loop-i.auto.i-end (c.loop-i.invariant p h)

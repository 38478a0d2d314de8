use Rattle.iri_grammar.proofs.Common.{◌≡◌, ◌+◌, drop, ℕ, Bool, run_of}
use Rattle.iri_grammar.specs.Runs.{AreAnswers}
use Rattle.iri_grammar.proofs.cutting.run_len.Given as goal

-- what is left counts on
abbrev pub invariant-loop-i : goal.invariant-loop-i
invariant-loop-i g l = (p : ℕ → Bool) → AreAnswers (goal.F-post g l.passes) p → l.i + run_of p (drop l.i l.bytes) ≡ run_of p l.bytes

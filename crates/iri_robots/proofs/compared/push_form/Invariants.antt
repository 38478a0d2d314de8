use Rattle.iri_robots.proofs.Common.{◌≡◌, ◌++◌, length, string_bytes, compared}
use Rattle.iri_robots.proofs.compared.push_form.Given as goal

-- what is written, and what is left
abbrev pub invariant-loop-rest : goal.invariant-loop-rest
invariant-loop-rest l = string_bytes l.initial.form ++ compared l.text ≡ string_bytes l.form ++ compared l.rest

abbrev pub decreases-loop-rest : goal.decreases-loop-rest
decreases-loop-rest l = length l.rest

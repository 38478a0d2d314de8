use Rattle.std.proofs.Common.{◌≡◌, Some, refl, subst, sym}
use Rattle.iri_grammar.specs.Classes.{iri_tests, uri_tests}
use Rattle.iri_calls.specs.Numbers.{grammar_of}
use Rattle.iri_robots_calls.specs.Outcomes.{ReturnedOrMemory, allowed_outcome}
use Rattle.iri_robots_calls.proofs.RobotsLemmas.{by_file}
use Rattle.iri_robots_calls.proofs.robots.irikit_robots_allows.Goals as goal

pub returns-in-100-clause-file : goal.returns-in-100-clause-file
returns-in-100-clause-file c token file b e =
    by_file c.args.grammar c.args.rules.now c.args.target.now token file c.allows_in.new.detail c.allows_in.result
    (subst (λ n. ReturnedOrMemory (allowed_outcome n c.args.rules.now c.args.target.now) c.allows_in.new.detail c.allows_in.result) (sym c.in-100.is)
    c.allows_in.ensures.allows) b e

pub returns-in-101-clause-file : goal.returns-in-101-clause-file
returns-in-101-clause-file c token file b e =
    by_file c.args.grammar c.args.rules.now c.args.target.now token file c.allows_in-in-101.new.detail c.allows_in-in-101.result
    (subst (λ n. ReturnedOrMemory (allowed_outcome n c.args.rules.now c.args.target.now) c.allows_in-in-101.new.detail c.allows_in-in-101.result)
    (sym c.in-101.is) c.allows_in-in-101.ensures.allows) b e

pub returns-in-100-clause-memory : goal.returns-in-100-clause-memory
returns-in-100-clause-memory c m =
    (uri_tests, (subst (λ n. grammar_of n ≡ Some uri_tests) (sym c.in-100.is) refl, c.allows_in.ensures.memory m))

pub returns-in-101-clause-memory : goal.returns-in-101-clause-memory
returns-in-101-clause-memory c m =
    (iri_tests, (subst (λ n. grammar_of n ≡ Some iri_tests) (sym c.in-101.is) refl, c.allows_in-in-101.ensures.memory m))

use Rattle.iri_grammar.proofs.Common.{◌≡◌, ℕ, ◌+◌, Bool, true, false, cond, ◌==◌, nat_lt, sym, ◌∙◌, arith, nat_tests, is_group}
use Rattle.iri_grammar.proofs.hosts.Ipv6Laws.{group_is_no_ipv4}
use Rattle.iri_grammar.proofs.ipv6.is_last.Goals as goal

one_more : (sh : Bool) (n : ℕ) → cond sh (nat_lt n 7) (n == 7) ≡ cond sh (nat_lt (n + 1) 8) (n + 1 == 8)
one_more true n = grind (arith, nat_tests)
one_more false n = grind (arith, nat_tests)

pub returns-then-is_group : goal.returns-then-is_group
returns-then-is_group c =
    let g : is_group c.args.part.now ≡ true = sym c.is_group.ensures ∙ c.if-is_group.true in
    c.is_count.ensures ∙ rw (g, group_is_no_ipv4 c.args.part.now g) (one_more c.args.shortened c.args.n)

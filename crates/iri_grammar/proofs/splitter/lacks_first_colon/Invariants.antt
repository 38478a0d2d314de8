use Rattle.iri_grammar.proofs.Common.{◌≡◌, length, before_any, lacks, ends_authority}
use Rattle.iri_grammar.proofs.splitter.lacks_first_colon.Given as goal

-- what is left decides as the whole does
abbrev pub invariant-prefix : goal.invariant-prefix
invariant-prefix l = lacks 58 (before_any ends_authority l.rest) ≡ lacks 58 (before_any ends_authority l.s)

abbrev pub decreases-prefix : goal.decreases-prefix
decreases-prefix l = length l.rest

use Rattle.iri_grammar.proofs.Common.{◌≡◌, ◌+◌, cond, drop, take, list_all, is_small, is_scheme_char, run_of}
use Rattle.iri_grammar.proofs.splitter.scheme_run.Given as goal

-- what is left counts on, and a capital letter before it was seen
abbrev pub invariant-loop-i : goal.invariant-loop-i
invariant-loop-i l = (l.i + run_of is_scheme_char (drop l.i l.bytes) ≡ run_of is_scheme_char l.bytes)
    × (l.seen ≡ cond (list_all is_small (take l.i l.bytes)) 48 49)

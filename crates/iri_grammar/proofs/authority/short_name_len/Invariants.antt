use Rattle.iri_grammar.proofs.Common.{◌≡◌, ◌+◌, ◌&&◌, not, drop, is_small_name, name_len}
use Rattle.iri_grammar.proofs.authority.short_name_len.Given as goal

-- what is left counts on
abbrev pub invariant-loop-i : goal.invariant-loop-i
invariant-loop-i l = (l.i + name_len (drop l.i l.bytes) ≡ name_len l.bytes)
    × ((not l.capitals && is_small_name (drop l.i l.bytes)) ≡ is_small_name l.bytes)

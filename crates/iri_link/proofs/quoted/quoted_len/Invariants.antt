use Rattle.iri_link.proofs.Common.{◌≡◌, false, ◌+◌, drop, quoted_len}
use Rattle.iri_link.proofs.quoted.quoted_len.Given as goal

-- what is left counts on
abbrev pub invariant-loop-i : goal.invariant-loop-i
invariant-loop-i l = l.i + quoted_len l.escaped (drop l.i l.bytes) ≡ quoted_len false l.bytes

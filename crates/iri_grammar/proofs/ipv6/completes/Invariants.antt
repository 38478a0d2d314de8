use Rattle.iri_grammar.proofs.Common.{◌≡◌, ◌+◌, ◌≤◌, length, completes}
use denote.Text.{Utf8}
use denote.Shadow.{shadow}
use Rattle.iri_grammar.proofs.ipv6.completes.Given as goal

abbrev pub invariant-groups : goal.invariant-groups
invariant-groups l = record {
  utf8 : shadow (Utf8 l.rest);
  same : completes l.shortened l.n l.rest ≡ completes l.fn.shortened 0 l.s;
  small : l.n + length l.rest ≤ length l.s;
}

abbrev pub decreases-groups : goal.decreases-groups
decreases-groups l = length l.rest

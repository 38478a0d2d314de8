use Rattle.iri_grammar.proofs.Common.{◌≡◌, length, pieces, is_ipv4}
use denote.Text.{Utf8}
use denote.Shadow.{shadow}
use Rattle.iri_grammar.proofs.hosts.Ipv4Octets.{octets_left}
use Rattle.iri_grammar.proofs.ipv4.is_ipv4.Given as goal

abbrev pub invariant-octets : goal.invariant-octets
invariant-octets l = record {
  utf8 : shadow (Utf8 l.rest);
  same : octets_left l.left (pieces 46 l.rest) ≡ is_ipv4 l.s;
}

abbrev pub decreases-octets : goal.decreases-octets
decreases-octets l = length l.rest

use Rattle.iri_percent.proofs.Common.{◌≡◌, ◌*◌, take, length, triplets}
use Rattle.iri_percent.proofs.spelling.spell.Given as goal

-- the triplets of the octets so far stand at the start
abbrev pub invariant-loop-octet : goal.invariant-loop-octet
invariant-loop-octet l = record {
  count : l.n ≡ 3 * l.octet-index;
  room : length l.buf ≡ 24;
  text : take l.n l.buf ≡ triplets (take l.octet-index l.octets);
}

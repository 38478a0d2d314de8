use Rattle.iri_template.proofs.Common.{◌≡◌, ◌++◌, take, drop, before_any, from_any, ends_name}
use Rattle.iri_template.proofs.varspec.name_len.Given as goal

-- what is left is cut where the whole is
abbrev pub invariant-loop-i : goal.invariant-loop-i
invariant-loop-i l = record {
  name : take l.i l.bytes ++ before_any ends_name (drop l.i l.bytes) ≡ before_any ends_name l.bytes;
  rest : from_any ends_name (drop l.i l.bytes) ≡ from_any ends_name l.bytes;
}

use Rattle.iri_template.proofs.Common.{◌≡◌, ◌≤◌, ◌-◌, length, Utf8, shadow, text_fault, fault_from}
use Rattle.iri_template.proofs.fault.check_template.Given as goal

-- what is left has the fault of all
abbrev pub invariant-parts : goal.invariant-parts
invariant-parts l = record {
  utf8 : shadow (Utf8 l.rest);
  len : length l.rest ≤ length l.template;
  fault : fault_from 0 (length l.template - length l.rest) l.rest ≡ text_fault l.template;
}

abbrev pub decreases-parts : goal.decreases-parts
decreases-parts l = length l.rest

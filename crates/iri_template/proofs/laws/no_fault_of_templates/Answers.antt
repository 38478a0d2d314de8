use Rattle.iri_template.specs.Reading.{pieces_of}
use Rattle.iri_template.proofs.Grammar.{no_fault_is_template, template_has_no_fault, one_reading, template_is_text}
use Rattle.iri_template.proofs.laws.no_fault_of_templates.Goals as goal

pub returns : goal.returns
returns c = record {
  template = λ bs. (λ h. (pieces_of bs, no_fault_is_template bs h), λ s. template_has_no_fault s.0 bs s.1);
  pieces = no_fault_is_template;
  one = λ bs ps s. one_reading ps bs s;
  utf8 = template_is_text;
}

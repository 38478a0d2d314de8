use Rattle.iri_robots.proofs.FormLaws.{compared_delimiter}
use Rattle.iri_robots.proofs.laws.question_marks_part_forms.Goals as goal

pub returns : goal.returns
returns c = compared_delimiter

-- What a document holds.
use Rattle.std.specs.Prelude.{ℕ, List, string_bytes}
use Rattle.iri_template.specs.Contexts.{value_in}
use Rattle.iri_template.specs.ShownValues.{ShownValue}
use Rattle.iri_docs.specs.declared.document.Document.{Document}

-- the text of a template, and the value of each name
pub record Held : Type 0 where
  pub template : List ℕ
  pub value_of : List ℕ → ShownValue

abbrev pub held : Document → Held
held d = record { template = string_bytes d.template; value_of = value_in d.context }

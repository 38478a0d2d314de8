-- The stored records, as records of a file.
use Rattle.std.specs.Prelude.{List, [], ◌∷◌, Option, Some, None, map, string_bytes}
use Rattle.iri_robots.specs.declared.rule.Rule.{Rule}
use Rattle.iri_robots.specs.declared.record.Record.{Record}
use Rattle.iri_robots.specs.Records.{FileRule, FileRecord, UserAgent, Judged}

abbrev pub rule_text : Rule → FileRule
rule_text r = record { allows = r.allows; pattern = string_bytes r.pattern }

abbrev pub record_text : Record → FileRecord
record_text (Rattle.iri_robots.specs.declared.record.Record.TheVariants.UserAgent a) = UserAgent (string_bytes a)
record_text (Rattle.iri_robots.specs.declared.record.Record.TheVariants.Judged r) = Judged (rule_text r)

abbrev pub record_texts : List Record → List FileRecord
record_texts rs = map record_text rs

-- a record that a line may have
abbrev pub optional_record : Option Record → List FileRecord
optional_record None = []
optional_record (Some r) = record_text r ∷ []

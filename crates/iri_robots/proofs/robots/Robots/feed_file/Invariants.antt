use Rattle.iri_robots.proofs.Common.{◌≡◌, ◌++◌, length, string_bytes, record_texts}
use Rattle.iri_robots.specs.Files.{file_records}
use Rattle.iri_robots.proofs.robots.Robots.feed_file.Given as goal

-- what is stored, and what is left
abbrev pub invariant-lines : goal.invariant-lines
invariant-lines l = record {
  token : string_bytes l.self.token ≡ string_bytes l.initial.self.token;
  records : record_texts l.initial.self.records.items ++ file_records l.file ≡ record_texts l.self.records.items ++ file_records l.rest;
}

abbrev pub decreases-lines : goal.decreases-lines
decreases-lines l = length l.rest

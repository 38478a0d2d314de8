use Rattle.iri_normal.proofs.Common.{◌≡◌, drop}
use Rattle.iri_normal.specs.inside.Beginning.{begun_by}
use Rattle.iri_normal.proofs.beginning.after_text.Given as goal

abbrev pub invariant-loop-b : goal.invariant-loop-b
invariant-loop-b l = begun_by l.now (drop l.b-index l.text) ≡ begun_by l.fn.begun l.text

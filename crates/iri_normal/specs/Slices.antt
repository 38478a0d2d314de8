-- The parts that the slices of a target hold.
use Rattle.std.specs.Prelude.{ℕ, List, ◌++◌}
use Rattle.iri_grammar.specs.Parts.{Parts}
use Rattle.iri_grammar.specs.OptionalSlices.{now_of}
use Rattle.iri_normal.specs.declared.merged_path.MergedPath.{MergedPath}
use Rattle.iri_normal.specs.declared.target.TargetSlices.{TargetSlices}

-- a path that is merged is the base's piece, and what follows it
abbrev pub merged : MergedPath → List ℕ
merged p = p.base.now ++ p.reference.now

abbrev pub slices : TargetSlices → Parts
slices t = record {
  scheme = now_of t.scheme;
  authority = now_of t.authority;
  path = merged t.path;
  query = now_of t.query;
  fragment = now_of t.fragment;
}

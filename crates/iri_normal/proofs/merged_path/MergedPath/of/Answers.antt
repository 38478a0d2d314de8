use Rattle.iri_normal.proofs.Common.{refl}
use Rattle.iri_normal.proofs.segments.CutPaths.{nothing-plain}
use Rattle.iri_normal.proofs.merged_path.MergedPath.of.Goals as goal

pub invariant_of-result-clause-noted : goal.invariant_of-result-clause-noted
invariant_of-result-clause-noted c = λ _. nothing-plain

pub invariant_of-result-clause-bared : goal.invariant_of-result-clause-bared
invariant_of-result-clause-bared c = λ _. refl

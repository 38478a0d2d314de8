-- Texts that are written in a mode.
use Rattle.std.specs.Prelude.{◌≡◌, ℕ, Bool, List, Option, None}
use Rattle.iri_grammar.specs.Classes.{Tests}
use Rattle.iri_grammar.specs.Parts.{Parts, Fits, recompose}
use Rattle.iri_grammar.specs.declared.error.ErrorKind.{ErrorKind}
use Rattle.iri_normal.specs.NormalForm.{form, is_unresolvable}
use Rattle.iri_normal.specs.Slices.{slices}
use Rattle.iri_normal.specs.declared.mode.Mode.{Mode}
use Rattle.iri_normal.specs.declared.target.TargetSlices.{TargetSlices}

-- the parts that are written, whether their path is a base's, taken whole, and the mode
pub record Written : Type 0 where
  pub parts : Parts
  pub whole : Bool
  pub mode : Mode

-- the text of the parts in their mode
abbrev pub written_text : Tests → Written → List ℕ
written_text s w = recompose (form s w.mode w.whole w.parts)

-- RFC 3986 has no normal form of them
abbrev pub has_no_normal_form : Written → Bool
has_no_normal_form w = is_unresolvable w.whole w.parts

-- slices of parts that fit and recompose to a text without a fault
pub record AreSound (s : Tests) (fault : Tests → List ℕ → Option ErrorKind) (t : TargetSlices) : Type 0 where
  pub fits : Fits s (slices t)
  pub valid : fault s (recompose (slices t)) ≡ None

-- What a text that is written in a mode holds.
use Rattle.iri_normal.specs.Normalized.{Written}
use Rattle.iri_normal.specs.Slices.{slices}
use Rattle.iri_normal.specs.declared.normalized.NormalizedText.{NormalizedText}

abbrev pub written : {S K : Type 0} {g : _} {h : _} {i : _} → NormalizedText S K g h i → Written
written n = record { parts = slices n.target; whole = n.whole; mode = n.mode }

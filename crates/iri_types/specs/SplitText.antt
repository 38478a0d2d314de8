-- What views with their split hold.
use Rattle.std.specs.Prelude.{ℕ, List}
use Rattle.iri_types.specs.declared.split.SplitView.{SplitView}

-- the bytes of the view's text
abbrev pub split_text : {S K : Type 0} {g : _} {h : _} {w : _} → SplitView S K g h w → List ℕ
split_text v = v.view.text.now

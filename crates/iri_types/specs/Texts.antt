-- What views hold.
use Rattle.std.specs.Prelude.{ℕ, List, Option, Some, None}
use Rattle.iri_types.specs.declared.view.View.{View}

-- the bytes of a view's text
abbrev pub text : {S K : Type 0} {g : _} {h : _} → View S K g h → List ℕ
text v = v.text.now

-- the same, of a view that may be there
abbrev pub text_of : {S K : Type 0} {g : _} {h : _} → Option (View S K g h) → Option (List ℕ)
text_of None = None
text_of (Some v) = Some v.text.now

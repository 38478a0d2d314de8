-- What stands at the start of the bytes that are held.
use Rattle.std.specs.Prelude.{◌≡◌, ◌<◌, ◌≤◌, ◌+◌, ℕ, List, length, take, get_or}
use Rattle.iri_text.specs.Lines.{NoLf}
use Rattle.iri_text.specs.declared.streams.reader.Look.{Look}
use Rattle.iri_text.specs.declared.streams.reader.Look.TheVariants.{Line, TooLong, Over, More}

-- of these bytes so many count
abbrev pub Looks : List ℕ → ℕ → ℕ → Look → Type 0
Looks held usable limit (Line i) = (i < usable) × (i ≤ limit) × (get_or held i 0 ≡ 10) × NoLf (take i held)
Looks held usable limit TooLong = (limit < usable) × NoLf (take (limit + 1) held)
Looks held usable limit Over = (usable < length held) × (usable ≤ limit) × NoLf (take usable held)
Looks held usable limit More = (usable ≡ length held) × (usable ≤ limit) × NoLf held

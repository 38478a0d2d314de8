-- What a string sink keeps, and what a text does to it.
use Rattle.std.specs.Prelude.{◌≡◌, ◌≤◌, ℕ, List, string_bytes, string_len, string_capacity}
use Rattle.iri_text.specs.Appending.{Appended, StopsWithin}
use Rattle.iri_text.specs.declared.shown.string_sink.StringSink.{StringSink}

-- the text of the string, with what was taken at its end
abbrev pub string_taken : StringSink → List ℕ
string_taken s = string_bytes s.dest.now

-- how many bytes that are, and for how many there is room
abbrev pub string_count : StringSink → ℕ
string_count s = string_len s.dest.now

abbrev pub string_room : StringSink → ℕ
string_room s = string_capacity s.dest.now

-- the same string with no less room
pub record SameString (a b : StringSink) : Type 0 where
  pub same : b.dest.ghost_name ≡ a.dest.ghost_name
  pub room : string_room a ≤ string_room b

-- one text more
abbrev pub StringPuts : StringSink → List ℕ → StringSink → Type 0
StringPuts = Appended string_taken string_count SameString

-- a prefix of a text for which it had no room
abbrev pub StringHalts : StringSink → List ℕ → StringSink → Type 0
StringHalts = StopsWithin StringPuts string_count string_room

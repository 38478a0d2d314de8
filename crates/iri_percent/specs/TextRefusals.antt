-- Why decoded bytes are no string.
use Rattle.std.specs.Prelude.{◌≡◌, ℕ, ◌<◌, false, List, length}
use Rattle.std.specs.Str.{is_utf8}
use Rattle.iri_percent.specs.Decoding.{decoding}
use Rattle.iri_percent.specs.declared.decode.DecodeTextError.{DecodeTextError}
use Rattle.iri_percent.specs.declared.decode.DecodeTextError.TheVariants.{NotUtf8, Memory}

-- what the source decodes to isn't UTF-8, and is handed out; allocation failure says no more than that there is something to decode
abbrev pub IsNoText : DecodeTextError → List ℕ → Type 0
IsNoText (NotUtf8 held) source = (held ≡ decoding source) × (is_utf8 (decoding source) ≡ false)
IsNoText (Memory e) source = 0 < length source

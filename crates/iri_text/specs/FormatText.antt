-- What a text does to a sink over a formatter.
use Rattle.std.specs.Prelude.{◌≡◌, ℕ, List}
use Rattle.std.specs.Fmt.{HasWritten, HasWrittenStyled, IsFlush, IsPlainFormatter}
use Rattle.iri_text.specs.declared.shown.format_sink.FormatSink.{FormatSink}

-- The same formatter, and the text was written to it: where it is plain, and whatever options it has (std's clause of `write_str`).
pub record FormatPuts {W : Type 0} (took : W → List ℕ → W → Type 0) (a : FormatSink W) (t : List ℕ) (b : FormatSink W) : Type 0 where
  pub same : b.to.ghost_name ≡ a.to.ghost_name
  pub wrote : IsPlainFormatter a.to.now → HasWritten took a.to.now t b.to.now
  pub styled : IsFlush a.to.now → HasWrittenStyled took a.to.now t b.to.now

-- the same formatter
pub record FormatHalts {W : Type 0} (a : FormatSink W) (t : List ℕ) (b : FormatSink W) : Type 0 where
  pub same : b.to.ghost_name ≡ a.to.ghost_name

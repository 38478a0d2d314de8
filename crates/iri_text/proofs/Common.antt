-- The names that several proofs of this crate cite, passed on from one place. Declares nothing.
pub use Rattle.std.proofs.Common.{◌≡◌, ℕ, ◌+◌, ◌-◌, ◌≤◌, List, [], ◌∷◌, ◌++◌, length, Option, None, Some, Result, Ok, Err, sym, ◌∙◌, ap}
pub use Rattle.std.proofs.Common.{arith, append_assoc, length-append, subst, ◌<◌, zero, suc, get_or, take, drop, IsErr, slice_range, refl}
pub use Rattle.std.proofs.Common.{inl, inr, rules}
pub use Rattle.std.proofs.lemmas.Bool.Decides.{nat_tests}
pub use Rattle.std.proofs.lemmas.List.{append-nil, take_all}
pub use Rattle.std.proofs.lemmas.Str.{IsUtf8-append, chars-nil, IsUtf8-from_ascii, IsUtf8-had}
pub use Rattle.std.specs.Str.{chars, IsUtf8}
pub use Rattle.iri_text.specs.Line.{LineState}
pub use Rattle.iri_text.specs.Lines.{NoLf, no_cr}
pub use Rattle.iri_text.specs.Shown.{AreSinkLaws, Shows}
pub use Rattle.iri_text.specs.Source.{Consumes}
pub use Rattle.iri_text.specs.declared.streams.reader.LineFault.TheVariants.{Source, LineTooLong, InputTooLong}

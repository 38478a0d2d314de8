-- The names that several proofs of this crate cite, passed on from one place. Declares nothing.
pub use Rattle.std.proofs.Common.{◌≡◌, ℕ, List, [], ◌∷◌, ◌++◌, true, false, bytes_eq, refl, sym, ◌∙◌, ap, map, filter, subst, zero, suc}
pub use Rattle.std.proofs.Common.{◌+◌, ◌-◌, ◌<◌, length, Some, None, is_some, option_map, position, string_bytes, arith}
pub use Rattle.std.proofs.Common.{get_or, ◌≤◌, rules}
pub use Rattle.std.specs.List.{AllByRecursion}
unfoldable pub use Rattle.std.specs.List.{IsDistinct}
pub use Rattle.std.specs.Map.{keys_of, lookup}
pub use Rattle.std.specs.Prelude.{Ok}
pub use Rattle.iri_normal.specs.Resolver.{base_text}
pub use Rattle.iri_register.specs.Entries.{added, removed, Entry, place, entry_at, line_count}
pub use Rattle.iri_register.specs.Listed.{entry_of, entries_of, is_live, has_lines, numbers_in}
pub use Rattle.iri_register.specs.declared.lines.Lines.{Lines}
pub use Rattle.iri_register.specs.declared.moves.Moves.{Moves}
pub use Rattle.iri_register.specs.declared.key.Key.{Key}
pub use Rattle.iri_register.specs.inside.Keys.{AreHashed, IsHashed, key_eq}
pub use Rattle.iri_register.specs.inside.Moved.{moved, IsBlocked}
pub use Rattle.iri_register.specs.inside.Places.{is_text, IsAt}
pub use Rattle.iri_register.specs.inside.Slots.{flag_at, gaps, IsKept}

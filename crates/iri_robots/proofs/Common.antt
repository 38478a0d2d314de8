-- The names that several proofs of this crate cite, passed on from one place. Declares nothing.
pub use Rattle.std.proofs.Common.{◌≡◌, ℕ, suc, ◌+◌, ◌<◌, Bool, true, false, cond, ◌∷◌, List, [], Option, Some, None, take, refl, subst, sym}
pub use Rattle.std.proofs.Common.{arith, ◌≢◌, ◌↔◌, ◌++◌, ◌∙◌, ap, append_assoc, inl, inr, ◌≤◌, ◌||◌, ◌&&◌, ◌⊎◌, length, ◌-◌, drop}
pub use Rattle.std.proofs.Common.{append-nil, string_bytes}
pub use Rattle.std.proofs.lemmas.Bool.Decides.{nat_tests, eqb_tells}
pub use Rattle.std.proofs.lemmas.List.{take_rest}
pub use Rattle.std.proofs.lemmas.Str.{encode_ascii}
pub use Rattle.std.specs.Char.{to_ascii_uppercase}
pub use Rattle.std.specs.Prelude.{codes, ◌==◌, nat_lt}
pub use Rattle.std.specs.Str.{is_utf8, bytes_eq, str_eq_ignore_ascii_case, IsUtf8}
pub use Rattle.iri_grammar.specs.Cut.{before, after}
pub use Rattle.iri_grammar.specs.OptionalSlices.{now_of}
pub use Rattle.iri_grammar.specs.Runs.{run_of}
pub use Rattle.iri_robots.specs.Allowed.{IsAllowed}
pub use Rattle.iri_robots.specs.Compared.{query_text}
unfoldable pub use Rattle.iri_robots.specs.Compared.{compared}
pub use Rattle.iri_robots.specs.FileLines.{OtherLine, is_token_char, line_of, line_of_text, without_byte_order_mark}
pub use Rattle.iri_robots.specs.Patterns.{is_anchored, without_anchor, IsFilledBy, Matches}
unfoldable pub use Rattle.iri_robots.specs.Patterns.{escapes}
pub use Rattle.iri_robots.specs.Records.{FileRule, FileRecord}
pub use Rattle.iri_robots.specs.RuleLines.{line_rules, rules_in}
pub use Rattle.iri_robots.specs.Stored.{record_texts}
pub use Rattle.iri_robots.specs.inside.BestRule.{IsBestOf}
pub use Rattle.iri_robots.specs.inside.Fits.{Fits}
pub use Rattle.iri_robots.specs.inside.Prefixes.{IsPrefix, stays}
pub use Rattle.iri_robots.specs.inside.Groups.{rules_in_groups}

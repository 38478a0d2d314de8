use Rattle.iri_normal.proofs.Common.{◌≡◌, ◌<◌, ℕ, true, length, ends_at_slash, popped_times}
use Rattle.std.specs.Prelude.{slice_get}
use Rattle.std.specs.Option.{ForSome}
use Rattle.iri_normal.specs.inside.Parents.{IsParent}
use denote.Text.{Utf8}
use denote.Shadow.{shadow}
use Rattle.iri_normal.proofs.directory.every_parent.Given as goal

abbrev pub invariant-parents : goal.invariant-parents
invariant-parents l = record {
  utf8 : shadow (Utf8 l.rest);
  ends : ends_at_slash l.rest ≡ true;
  rest : l.rest ≡ popped_times l.i l.fn.directory;
  len : length l.parents ≡ 8;
  each : (k : ℕ) → k < l.i → ForSome (slice_get l.parents k) (λ len. IsParent len k l.fn.directory);
}

-- What decides of the rules read so far.
use Rattle.std.specs.Prelude.{◌≡◌, ℕ, Bool, false, List, Option, Some, None, length}
use Rattle.iri_robots.specs.declared.rule.Best.{Best}
use Rattle.iri_robots.specs.Patterns.{Matches}
use Rattle.iri_robots.specs.Records.{FileRule}
use Rattle.iri_robots.specs.Allowed.{IsAmong, NoneMatches, IsLongest}

-- the length of the longest patterns that match, and that an allow rule is among them
pub record IsBest (rules : List FileRule) (s : List ℕ) (n : ℕ) (allows : Bool) : Type 0 where
  pub rule : FileRule
  pub longest : IsLongest rules s rule
  pub bytes : length rule.pattern ≡ n
  pub same : rule.allows ≡ allows
  pub tie : allows ≡ false → (o : FileRule) → IsAmong o rules → Matches o.pattern s → length o.pattern ≡ n → o.allows ≡ false

abbrev pub IsBestOf : List FileRule → List ℕ → Option Best → Type 0
IsBestOf rules s None = NoneMatches rules s
IsBestOf rules s (Some b) = IsBest rules s b.bytes b.allows

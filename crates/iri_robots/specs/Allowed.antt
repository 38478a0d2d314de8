-- What the rules say of a text (RFC 9309 section 2.2.2).
use Rattle.std.specs.Prelude.{◌≡◌, ℕ, ◌≤◌, true, List, ◌∷◌, length, codes}
use Rattle.iri_robots.specs.Records.{FileRule}
use Rattle.iri_robots.specs.Patterns.{Matches}

-- r is one of the rules
pub data IsAmong (r : FileRule) : List FileRule → Type 0 where
  first : (rules : List FileRule) → IsAmong r (r ∷ rules)
  later : (o : FileRule) (rules : List FileRule) → IsAmong r rules → IsAmong r (o ∷ rules)

-- no rule matches
pub record NoneMatches (rules : List FileRule) (s : List ℕ) : Type 0 where
  pub none : (r : FileRule) → IsAmong r rules → Matches r.pattern s → ⊥

-- r matches, and no rule that matches has a pattern with more bytes
pub record IsLongest (rules : List FileRule) (s : List ℕ) (r : FileRule) : Type 0 where
  pub among : IsAmong r rules
  pub matching : Matches r.pattern s
  pub longest : (o : FileRule) → IsAmong o rules → Matches o.pattern s → length o.pattern ≤ length r.pattern

-- A text is allowed where it is that of the robots file, where no rule matches, or where an allow rule is among those
-- with the longest patterns that match
pub data IsAllowed (rules : List FileRule) (s : List ℕ) : Type 0 where
  robots_file : s ≡ codes "/robots.txt" → IsAllowed rules s
  no_rule : NoneMatches rules s → IsAllowed rules s
  by_rule : (r : FileRule) → IsLongest rules s r → r.allows ≡ true → IsAllowed rules s

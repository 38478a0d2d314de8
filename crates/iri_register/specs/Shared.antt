-- Lines that share an entry.
use Rattle.iri_percent.specs.declared.canon_mode.CanonMode.{CanonMode}
use Rattle.std.specs.Prelude.{◌≡◌, ◌↔◌, ℕ, List, Option, Some, None, slice_get}
use Rattle.iri_grammar.specs.Classes.{Tests}
use Rattle.iri_grammar.specs.Parts.{IsReference}
use Rattle.iri_grammar.specs.Split.{split_of}
use Rattle.iri_normal.specs.NormalForm.{canonical_in}
use Rattle.iri_resolve.specs.Steps.{JoinedIn}
use Rattle.iri_normal.specs.Target.{target}
use Rattle.iri_register.specs.Entries.{Entry, place}
use Rattle.iri_register.specs.Commands.{Command, Line, live}
use Rattle.iri_register.specs.declared.added.Added.{Added}
use Rattle.iri_register.specs.declared.added.Added.TheVariants.{New, Old}

-- one entry has the targets of both lines
abbrev pub Share : List Entry → Line → Line → Type 0
Share es l m = (k : ℕ) × (place es l.target ≡ Some k) × (place es m.target ≡ Some k)

-- the line is live after the commands
abbrev pub IsLive : List Command → Line → Type 0
IsLive cs l = (i : ℕ) × (slice_get (live cs) i ≡ Some l)

-- the line that adds a reference against a base, by the rules of a mode
abbrev pub line_of : Tests → CanonMode → List ℕ → List ℕ → ℕ → Line
line_of s mode base reference number = record { target = canonical_in s mode base reference; number = number }

-- steps of the mode lead the targets of two references against a base to the same parts
abbrev pub TargetsJoin : Tests → CanonMode → List ℕ → List ℕ → List ℕ → Type 0
TargetsJoin s mode base q r = JoinedIn s mode (target (split_of base) (split_of q)) (target (split_of base) (split_of r))

module _ (s : Tests) (mode : CanonMode) (base : List ℕ) (es : List Entry) (q : List ℕ) where
  -- of all references, this place is that of exactly those whose targets steps join with the target of q
  unfoldable pub IsJoinedPlace : ℕ → Type 0
  IsJoinedPlace k = (r : List ℕ) → IsReference s r → (place es (canonical_in s mode base r) ≡ Some k) ↔ TargetsJoin s mode base q r

  -- what is told of q: that place, or that no such reference has one
  unfoldable pub FindsJoined : Option ℕ → Type 0
  FindsJoined (Some k) = IsJoinedPlace k
  FindsJoined None = (r : List ℕ) → IsReference s r → TargetsJoin s mode base q r → place es (canonical_in s mode base r) ≡ None

  -- what is told where a line of q was put: that place
  unfoldable pub AddsJoined : Added → Type 0
  AddsJoined (New k) = IsJoinedPlace k
  AddsJoined (Old k) = IsJoinedPlace k

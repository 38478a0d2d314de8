-- Whether a value is a list or a list of pairs that isn't empty.
use Rattle.std.specs.Prelude.{◌≡◌, ℕ, Bool, true, false, List, [], ◌∷◌, refl, map, not, length, ◌==◌}
use Rattle.std.specs.List.{list_any}
use Rattle.std.proofs.Common.{arith}
use Rattle.std.proofs.lemmas.Bool.Decides.{nat_tests}
use Rattle.iri_template.specs.ShownValues.{ShownValue, undefined, string, list, pairs, has_members}
use Rattle.iri_template.specs.Events.{Event, Item, Entry, telling}

abbrev pub is_member : Event → Bool
is_member (Item text) = true
is_member (Entry key value) = true
is_member event = false

-- one of these events has a member
abbrev pub has_member : List Event → Bool
has_member events = list_any is_member events

some_members : {X : Type 0} (x : X) (xs : List X) → true ≡ not (length (x ∷ xs) == 0)
some_members x xs = grind (arith, nat_tests)

-- a list is told with members exactly where it has some
pub list_members : {X : Type 0} (f : X → List ℕ) (xs : List X) → has_member (telling (list (map f xs))) ≡ not (length xs == 0)
list_members f [] = refl
list_members f (x ∷ xs) = some_members x xs

pub pairs_members : {X : Type 0} (f : X → List ℕ × List ℕ) (xs : List X) → has_member (telling (pairs (map f xs))) ≡ not (length xs == 0)
pairs_members f [] = refl
pairs_members f (x ∷ xs) = some_members x xs

-- what is told of a value has a member exactly where the value has some
pub told_members : (v : ShownValue) → has_member (telling v) ≡ has_members v
told_members undefined = refl
told_members (string text) = refl
told_members (list []) = refl
told_members (list (x ∷ xs)) = refl
told_members (pairs []) = refl
told_members (pairs (x ∷ xs)) = refl

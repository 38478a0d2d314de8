-- Worked examples, computed.
use Rattle.std.specs.Prelude.{◌≡◌, [], ◌∷◌, Some, None, codes, refl}
use Rattle.iri_register.specs.Entries.{added, entry_at, line_count, place, removed}
use Rattle.iri_register.specs.Commands.{Add, Remove, entries_of_commands}

-- two lines share an entry, and a target that is taken out is gone
shared : entries_of_commands (Add (codes "b") 2 ∷ Add (codes "b") 3 ∷ Add (codes "c") 4 ∷ Remove (codes "c") ∷ [])
    ≡ record { target = codes "b"; lines = 2 ∷ 3 ∷ [] } ∷ []
shared = refl

-- a target that comes back after it was taken out is last, without its old lines
back : entries_of_commands (Add (codes "b") 2 ∷ Add (codes "c") 3 ∷ Remove (codes "b") ∷ Add (codes "b") 5 ∷ [])
    ≡ record { target = codes "c"; lines = 3 ∷ [] } ∷ record { target = codes "b"; lines = 5 ∷ [] } ∷ []
back = refl

-- an entry keeps its place where a line comes to it, and the later ones move up where it goes
kept : added (record { target = codes "b"; lines = 2 ∷ [] } ∷ record { target = codes "c"; lines = 3 ∷ [] } ∷ []) (codes "b") 9
    ≡ record { target = codes "b"; lines = 2 ∷ 9 ∷ [] } ∷ record { target = codes "c"; lines = 3 ∷ [] } ∷ []
kept = refl

moved : removed (record { target = codes "b"; lines = 2 ∷ [] } ∷ record { target = codes "c"; lines = 3 ∷ [] } ∷ []) (codes "b")
    ≡ record { target = codes "c"; lines = 3 ∷ [] } ∷ []
moved = refl

-- places count from 1
places :
    (place (record { target = codes "b"; lines = 2 ∷ [] } ∷ record { target = codes "c"; lines = 3 ∷ 4 ∷ [] } ∷ []) (codes "c") ≡ Some 2)
    × (place (record { target = codes "b"; lines = 2 ∷ [] } ∷ []) (codes "c") ≡ None)
    × (line_count (record { target = codes "b"; lines = 2 ∷ [] } ∷ record { target = codes "c"; lines = 3 ∷ 4 ∷ [] } ∷ []) (codes "c")
    ≡ Some 2)
    × (entry_at (record { target = codes "b"; lines = 2 ∷ [] } ∷ []) 0 ≡ None)
    × (entry_at (record { target = codes "b"; lines = 2 ∷ [] } ∷ []) 1 ≡ Some (record { target = codes "b"; lines = 2 ∷ [] }))
    × (entry_at (record { target = codes "b"; lines = 2 ∷ [] } ∷ []) 2 ≡ None)
places = (refl, refl, refl, refl, refl, refl)

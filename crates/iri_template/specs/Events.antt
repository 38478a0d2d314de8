-- What a visitor is told.
use Rattle.std.specs.Prelude.{ℕ, List, [], ◌∷◌, ◌++◌, map}
use Rattle.iri_template.specs.ShownValues.{ShownValue, undefined, string, list, pairs}

pub data Event : Type 0 where
  Undefined : Event
  StringTold : (text : List ℕ) → Event
  ListBegun : Event
  Item : (text : List ℕ) → Event
  PairsBegun : Event
  Entry : (key value : List ℕ) → Event
  Finished : Event

-- the texts of a pair
abbrev pub pair_text : {K T : Type 0} → (K → List ℕ) → (T → List ℕ) → K × T → List ℕ × List ℕ
pair_text key value p = (key p.0, value p.1)

abbrev pub entry_of : List ℕ × List ℕ → Event
entry_of p = Entry p.0 p.1

-- the events by which a value is told
abbrev pub telling : ShownValue → List Event
telling undefined = Undefined ∷ []
telling (string text) = StringTold text ∷ []
telling (list items) = ListBegun ∷ (map Item items ++ (Finished ∷ []))
telling (pairs entries) = PairsBegun ∷ (map entry_of entries ++ (Finished ∷ []))

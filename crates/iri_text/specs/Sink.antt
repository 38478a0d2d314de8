-- What a call does to a sink.
use Rattle.std.specs.Prelude.{◌≡◌, ◌≤◌, ℕ, ◌+◌, List, [], ◌++◌, length, ⊤, Option, None, Some, Result, IsOk, OnOk, OnErr}
use Rattle.iri_text.specs.Count.{Rose}
use Rattle.iri_text.specs.declared.Failed.{Failed}

-- what a sink tells: the bytes that were written, how often it failed, and how many more bytes it is known to take
pub record SinkState : Type 0 where
  pub written : Option (List ℕ)
  pub faults : ℕ
  pub room_left : Option ℕ

-- the state of a sink, by the three members of its trait
abbrev pub sink_state : {X : Type 0} → (X → Option (List ℕ)) → (X → ℕ) → (X → Option ℕ) → X → SinkState
sink_state written faults room_left sink =
    record { written = written sink; faults = faults sink; room_left = room_left sink }

-- what is written grew by these bytes, where that is told. A sink tells it always or never.
abbrev pub Appends : Option (List ℕ) → Option (List ℕ) → List ℕ → Type 0
Appends None None bs = ⊤
Appends None (Some ys) bs = ⊥
Appends (Some xs) None bs = ⊥
Appends (Some xs) (Some ys) bs = ys ≡ xs ++ bs

-- what is written grew by a prefix of these bytes
pub record AppendsPrefix (old new : Option (List ℕ)) (bytes : List ℕ) : Type 0 where
  pub prefix : List ℕ
  pub rest : List ℕ
  pub split : prefix ++ rest ≡ bytes
  pub appended : Appends old new prefix

-- room for so many bytes is known
abbrev pub HasRoom : Option ℕ → ℕ → Type 0
HasRoom None count = ⊥
HasRoom (Some room) count = count ≤ room

-- Where room for these bytes is known, this holds, and room that was known for more is left.
pub record KeepsRoom (room_old room_new : Option ℕ) (bytes : List ℕ) (Holds : Type 0) : Type 0 where
  pub holds : HasRoom room_old (length bytes) → Holds
  pub left : (more : ℕ) → HasRoom room_old (length bytes + more) → HasRoom room_new more

-- It appended the whole piece. It failed only where the count of faults rose, and then it appended a prefix of the piece. Where it is
-- known to have room for the piece, it didn't fail.
pub record PutsAll (old new : SinkState) (result : Result (Unit {0}) Failed) (piece : List ℕ) : Type 0 where
  pub whole : OnOk result (Appends old.written new.written piece)
  pub same : OnOk result (new.faults ≡ old.faults)
  pub later : old.faults ≤ new.faults
  pub cause : OnErr result (Rose old.faults new.faults)
  pub prefix : OnErr result (AppendsPrefix old.written new.written piece)
  pub room : KeepsRoom old.room_left new.room_left piece (IsOk result)

-- What is written stays as it was. It failed only where the count of faults rose. Where any room is known, it didn't fail.
pub record Flushes (old new : SinkState) (result : Result (Unit {0}) Failed) : Type 0 where
  pub kept : new.written ≡ old.written
  pub same : OnOk result (new.faults ≡ old.faults)
  pub later : old.faults ≤ new.faults
  pub cause : OnErr result (Rose old.faults new.faults)
  pub room : KeepsRoom old.room_left new.room_left [] (IsOk result)

-- What a call comes to, and how it returns that.
use Rattle.std.specs.Prelude.{◌≡◌, ◌^◌, ◌-◌, ℕ, cond, nat_lt, min, length, List, []}
use Rattle.iri_grammar.specs.declared.error.ErrorKind.{ErrorKind}
use Rattle.iri_calls.specs.Buffers.{over}
use Rattle.iri_calls.specs.Numbers.{fault_number}
use Rattle.iri_calls.specs.declared.status.TheConstants.{OK, SHORT}

-- a text, the first fault under a status that says whose it is, or no more than a status
pub data Outcome : Type 0 where
  text : (t : List ℕ) → Outcome
  fault : (status : ℕ) (kind : ErrorKind) → Outcome
  plain : (status : ℕ) → Outcome

-- A text is written over the start of the buffer as far as there is room, and the detail is its length in bytes, up to 2^64 - 1; that
-- of a fault is its number. Where there is no text the buffer stays as it was.
abbrev pub Answered : Outcome → List ℕ → List ℕ → ℕ → ℕ → Type 0
Answered (text t) old new detail status =
    (new ≡ over t old) × (detail ≡ min (length t) (2 ^ 64 - 1)) × (status ≡ cond (nat_lt (length old) (length t)) SHORT OK)
Answered (fault whose kind) old new detail status = (new ≡ old) × (detail ≡ fault_number kind) × (status ≡ whose)
Answered (plain what) old new detail status = (new ≡ old) × (detail ≡ 0) × (status ≡ what)

-- the same of a call that writes no text
abbrev pub Returned : Outcome → ℕ → ℕ → Type 0
Returned outcome detail status = Answered outcome [] [] detail status

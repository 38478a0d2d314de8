-- How the writing of a template's portions ends.
use Rattle.std.specs.Prelude.{◌≡◌, ℕ, ◌+◌, List, [], ◌∷◌, ◌++◌, ⊤, Option, None, Some, Result, Ok, Err}
use Rattle.std.specs.String.{string_bytes}
use Rattle.std.specs.declared.alloc.Global.{Global}
use Rattle.std.specs.declared.string.String.{String}
use Rattle.iri_text.specs.Count.{Rose}
use Rattle.iri_template.specs.Portions.{Portion, portions_fault, portions_text, calls_in}
use Rattle.iri_template.specs.Tells.{Telling, MovesBy}
use Rattle.iri_template.specs.declared.error.Error.{Error}
use Rattle.iri_template.specs.declared.error.ErrorKind.{ErrorKind}
use Rattle.iri_template.specs.declared.error.ErrorKind.TheVariants.{WriteFailed, UnexpectedValueType, Memory}

-- the portion at this place; none up to it is mistyped
pub record IsReached (ps : List Portion) (at : ℕ) : Type 0 where
  pub prefix : List Portion
  pub here : Portion
  pub rest : List Portion
  pub split : ps ≡ prefix ++ here ∷ rest
  pub fine : portions_fault (prefix ++ here ∷ []) ≡ None
  pub location : here.location ≡ at

-- the texts before this place went in, and the sink stopped within the text that begins there
pub record StopsAt {W : Type 0} (puts halts : W → List ℕ → W → Type 0) (ps : List Portion) (at : ℕ) (old new : W) : Type 0 where
  pub reached : IsReached ps at
  pub mid : W
  pub put : puts old (portions_text reached.prefix) mid
  pub halt : halts mid reached.here.text new

-- a refusal by its kind: at the first portion that is mistyped, with exactly the texts before it; or where the sink stopped
abbrev pub IsRefused : {W : Type 0} → (W → List ℕ → W → Type 0) → (W → List ℕ → W → Type 0) → List Portion → W → W → Error → ErrorKind → Type 0
IsRefused puts halts ps old new e UnexpectedValueType = (portions_fault ps ≡ Some e) × puts old (portions_text ps) new
IsRefused puts halts ps old new e WriteFailed = StopsAt puts halts ps e.location old new
IsRefused puts halts ps old new e kind = ⊥

-- all texts went in, and no portion is mistyped; or a refusal
abbrev pub EndsAs : {W : Type 0} → (W → List ℕ → W → Type 0) → (W → List ℕ → W → Type 0) → List Portion → W → W → Result (Unit {0}) Error → Type 0
EndsAs puts halts ps old new (Ok x) = (portions_fault ps ≡ None) × puts old (portions_text ps) new
EndsAs puts halts ps old new (Err e) = IsRefused puts halts ps old new e e.kind

-- Where it was refused at this place, none of the portions before it being mistyped, the context was called as often as these and the
-- portion there take, and `more` times.
pub record CallsUpTo (ps : List Portion) (at more : ℕ) (tells_old tells_new : Option Telling) : Type 0 where
  pub prefix : List Portion
  pub here : Portion
  pub rest : List Portion
  pub split : ps ≡ prefix ++ here ∷ rest
  pub fine : portions_fault prefix ≡ None
  pub location : here.location ≡ at
  pub moves : MovesBy (calls_in prefix + here.calls + more) tells_old tells_new

-- the cause of a refusal: the count of stops rose, or a value is mistyped
abbrev pub IsCaused : ℕ → ℕ → ErrorKind → Type 0
IsCaused old new WriteFailed = Rose old new
IsCaused old new UnexpectedValueType = ⊤
IsCaused old new kind = ⊥

abbrev pub HasCause : ℕ → ℕ → Result (Unit {0}) Error → Type 0
HasCause old new (Ok x) = ⊤
HasCause old new (Err e) = IsCaused old new e.kind

-- ---- the same in a string
abbrev pub IsRefusedInMemory : List Portion → Error → ErrorKind → Type 0
IsRefusedInMemory ps e UnexpectedValueType = portions_fault ps ≡ Some e
IsRefusedInMemory ps e Memory = IsReached ps e.location
IsRefusedInMemory ps e kind = ⊥

abbrev pub IsString : List Portion → Result (String Global) Error → Type 0
IsString ps (Ok t) = (portions_fault ps ≡ None) × (string_bytes t ≡ portions_text ps)
IsString ps (Err e) = IsRefusedInMemory ps e e.kind

-- a value is mistyped, or memory was refused
abbrev pub IsOfString : ErrorKind → Type 0
IsOfString UnexpectedValueType = ⊤
IsOfString Memory = ⊤
IsOfString kind = ⊥

-- Contexts that change from call to call: what they tell, and how a call moves it on.
use Rattle.std.specs.Prelude.{◌≡◌, ℕ, ◌+◌, ◌-◌, ◌^◌, cond, nat_lt, List, ⊤, Option, None, Some, Result}
use Rattle.iri_text.specs.declared.shown.show.Stop.{Stop}
use Rattle.iri_template.specs.ShownValues.{ShownValue}
use Rattle.iri_template.specs.Events.{Event, telling}
use Rattle.iri_template.specs.Visits.{Visits}
use Rattle.iri_template.specs.declared.visitor.VisitPurpose.{VisitPurpose}
use Rattle.iri_template.specs.declared.visitor.Phase.{Phase}
use Rattle.iri_template.specs.declared.visitor.Phase.TheVariants.{Done}

-- the value that a visit for a name and a purpose tells, after so many more calls of the context, which may be visits or callbacks
abbrev pub Telling : Type 0
Telling = ℕ → List ℕ → VisitPurpose → ShownValue

-- the same values at every call
abbrev pub always : (List ℕ → ShownValue) → Telling
always value k name purpose = value name

-- what is told once so many more calls were made
abbrev pub later : ℕ → Telling → Telling
later n f k name purpose = f (n + k) name purpose

-- this holds of what is told, where a context tells it
abbrev pub WhereTold : Option Telling → (Telling → Type 0) → Type 0
WhereTold None P = ⊤
WhereTold (Some f) P = P f

-- So many calls were made since. A context tells its values always or never.
abbrev pub MovesBy : ℕ → Option Telling → Option Telling → Type 0
MovesBy n None None = ⊤
MovesBy n None (Some g) = ⊥
MovesBy n (Some f) None = ⊥
MovesBy n (Some f) (Some g) = (k : ℕ) (name : List ℕ) (purpose : VisitPurpose) → g k name purpose ≡ later n f k name purpose

-- A count rose by one. A count that is told may be told no more.
abbrev pub Raises : Option ℕ → Option ℕ → Type 0
Raises None None = ⊤
Raises None (Some m) = ⊥
Raises (Some n) None = ⊤
Raises (Some n) (Some m) = m ≡ n + 1

-- a count that is kept in 64 bits, which is told but at its last value
abbrev pub count_told : ℕ → Option ℕ
count_told n = cond (nat_lt n (2 ^ 64 - 1)) (Some n) None

-- A visit told a value, or stopped at one of its events: where the context tells its values, the next one for this name and purpose.
pub record VisitsNext {V : Type 0} (name : V → List ℕ) (aim : V → VisitPurpose) (phase : V → Phase) (hears halts : V → List Event → V → Type 0)
    (stops : V → ℕ) (tells : Option Telling) (old new : V) (result : Result (Unit {0}) Stop) : Type 0 where
  pub value : ShownValue
  pub visits : Visits name aim phase hears halts stops old (telling value) Done new result
  pub next : WhereTold tells (λ f. value ≡ f 0 (name old) (aim old))

-- so many calls, none of which was a callback
pub record Calls (n : ℕ) (tells_old tells_new : Option Telling) (starts_old starts_new ends_old ends_new : Option ℕ) : Type 0 where
  pub moves : MovesBy n tells_old tells_new
  pub same_starts : starts_new ≡ starts_old
  pub same_ends : ends_new ≡ ends_old

-- the callback at the start of an expansion, and the one at its end
pub record StartsOnce (tells_old tells_new : Option Telling) (starts_old starts_new ends_old ends_new : Option ℕ) : Type 0 where
  pub moves : MovesBy 1 tells_old tells_new
  pub raises : Raises starts_old starts_new
  pub same_ends : ends_new ≡ ends_old

pub record EndsOnce (tells_old tells_new : Option Telling) (starts_old starts_new ends_old ends_new : Option ℕ) : Type 0 where
  pub moves : MovesBy 1 tells_old tells_new
  pub same_starts : starts_new ≡ starts_old
  pub raises : Raises ends_old ends_new

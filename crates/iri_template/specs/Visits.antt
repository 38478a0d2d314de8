-- What a call of a visitor does.
use Rattle.std.specs.Prelude.{◌≡◌, ℕ, List, Result, OnOk, OnErr}
use Rattle.iri_text.specs.Shown.{Shows}
use Rattle.iri_text.specs.declared.shown.show.Stop.{Stop}
use Rattle.iri_template.specs.Events.{Event}
use Rattle.iri_template.specs.declared.visitor.VisitPurpose.{VisitPurpose}
use Rattle.iri_template.specs.declared.visitor.Phase.{Phase}
use Rattle.iri_template.specs.declared.visitor.Phase.TheVariants.{Halted}

-- It was told these events and is in this phase, or it stopped at one of them and is halted. Its name and aim stay.
pub record Visits {V : Type 0} (name : V → List ℕ) (aim : V → VisitPurpose) (phase : V → Phase) (hears halts : V → List Event → V → Type 0)
    (stops : V → ℕ) (old : V) (events : List Event) (after : Phase) (new : V) (result : Result (Unit {0}) Stop) : Type 0 where
  pub tells : Shows hears halts stops old events new result
  pub goes_on : OnOk result (phase new ≡ after)
  pub halted : OnErr result (phase new ≡ Halted)
  pub same_name : name new ≡ name old
  pub same_aim : aim new ≡ aim old

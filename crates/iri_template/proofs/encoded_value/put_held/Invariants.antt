use Rattle.iri_template.proofs.Common.{◌≡◌, ◌++◌, ℕ, List, length, fewer, units, written_units, HasShown, IsHeld, Tests}
use Rattle.iri_template.specs.declared.encoded_value.Reading.{Reading}
use Rattle.iri_template.proofs.encoded_value.put_held.Given as goal

-- a text was written, and what is to be written is it and what is held back then
pub record HasWritten (s : Tests) {W : Type 0} (puts : W → List ℕ → W → Type 0) (stops : W → ℕ) (a : Reading) (old : W) (b : Reading) (new : W)
    : Type 0 where
  pub text : List ℕ
  pub shown : HasShown puts stops old text new
  pub all : written_units s a.left (units a.held) ≡ text ++ written_units s b.left (units b.held)
  pub left : fewer a.left (length (units a.held)) ≡ fewer b.left (length (units b.held))

abbrev pub invariant-units : goal.invariant-units
invariant-units g l = record {
  held : IsHeld l.state;
  far : HasWritten g.S.Spec.tests g.W.TextSink.puts g.W.TextSink.stops l.fn.state l.fn.sink l.state l.sink;
}

abbrev pub decreases-units : goal.decreases-units
decreases-units g l = length l.state.held

-- What is still to be written of a value that is read piece by piece, and what a call that reads a piece has written of it.
use Rattle.std.specs.Prelude.{◌≡◌, ℕ, ◌<◌, Bool, true, false, List, ◌++◌, length, Result, OnOk}
use Rattle.iri_grammar.specs.Classes.{Tests}
use Rattle.iri_percent.specs.Units.{units}
use Rattle.iri_text.specs.Shown.{Shows}
use Rattle.iri_text.specs.declared.shown.show.Stop.{Stop}
use Rattle.iri_template.specs.inside.Held.{is_begun, written_units, written_chars}
use Rattle.iri_template.specs.declared.encoded_value.Reading.{Reading}

-- there is room for one byte more
pub record IsHeld (r : Reading) : Type 0 where
  pub begun : is_begun r.held ≡ true
  pub room : length r.held < 12

-- what is to be written of what is held back and these characters after it
abbrev pub kept_rest : Tests → Reading → List ℕ → List ℕ
kept_rest s r cs = written_units s r.left (units (r.held ++ cs))

-- where reserved characters don't stay nothing is held back
abbrev pub value_rest : Tests → Bool → Reading → List ℕ → List ℕ
value_rest s true r cs = kept_rest s r cs
value_rest s false r cs = written_chars s false r.left cs

-- It wrote a text, or stopped within it, and what is to be written of the characters that it read and any after them is that text and
-- what is to be written of those after it went on.
pub record Reads {V W : Type 0} (rest_of : V → List ℕ → List ℕ) (puts halts : W → List ℕ → W → Type 0) (stops : W → ℕ)
    (a : V) (old : W) (cs : List ℕ) (b : V) (new : W) (result : Result (Unit {0}) Stop) : Type 0 where
  pub text : List ℕ
  pub rest : List ℕ → List ℕ
  pub shows : Shows puts halts stops old text new result
  pub split : (r : List ℕ) → rest_of a (cs ++ r) ≡ text ++ rest r
  pub goes_on : OnOk result ((r : List ℕ) → rest r ≡ rest_of b r)

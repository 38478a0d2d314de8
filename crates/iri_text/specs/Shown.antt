-- What a call does with a text that it puts into a sink.
use Rattle.std.specs.Prelude.{◌≤◌, ℕ, List, [], ◌++◌, Result, OnOk, OnErr}
use Rattle.iri_text.specs.Count.{Rose}
use Rattle.iri_text.specs.declared.shown.show.Stop.{Stop}

-- What binds the two relations of a sink: `puts a t b`, the text t went in, and `halts a t b`, the sink stopped somewhere in the text t.
pub record AreSinkLaws {A W : Type 0} (puts halts : W → List A → W → Type 0) : Type 0 where
  -- the empty text went in with nothing done
  pub none : (a : W) → puts a [] a
  -- texts that went in one after the other went in as one
  pub both : (a b c : W) (t u : List A) → puts a t b → puts b u c → puts a (t ++ u) c
  -- a stop within the second of two texts, after the first went in, is one within both
  pub until : (a b c : W) (t u : List A) → puts a t b → halts b u c → halts a (t ++ u) c
  -- and so is a stop within the first
  pub within : (a b : W) (t u : List A) → halts a t b → halts a (t ++ u) b

-- It appended the whole text, or it stopped within it, and then the count of stops rose.
pub record Shows {A W : Type 0} (puts halts : W → List A → W → Type 0) (stops : W → ℕ) (old : W) (t : List A) (new : W)
    (result : Result (Unit {0}) Stop) : Type 0 where
  pub appends : OnOk result (puts old t new)
  pub stops_within : OnErr result (halts old t new)
  pub rose : OnErr result (Rose (stops old) (stops new))
  pub later : stops old ≤ stops new

-- How a reader of lines takes bytes: call by call, each of them while it holds no LF.
use Rattle.std.specs.Prelude.{ℕ, List, ◌++◌, Option}
use Rattle.iri_text.specs.Source.{Consumes}
use Rattle.iri_text.specs.Lines.{NoLf}

-- `call a b`: one call led from the source a to the source b. These bytes are held once calls led to this source, and held has no LF before each of them.
pub data TakesWhileNoLf {S : Type 0} (call : S → S → Type 0) (left : S → Option (List ℕ)) (held : List ℕ) (source : S) : List ℕ → S
    → Type 0 where
  NoCall : TakesWhileNoLf call left held source held source
  OneMore : (now bytes : List ℕ) (before after : S) → TakesWhileNoLf call left held source now before → NoLf now → call before after
      → Consumes (left before) (left after) bytes
      → TakesWhileNoLf call left held source (now ++ bytes) after

-- Calls led from the old source to the new one, each while no LF was held.
pub record TakesAsNeeded {S : Type 0} (call : S → S → Type 0) (left : S → Option (List ℕ)) (held : List ℕ) (old new : S) : Type 0 where
  pub now : List ℕ
  pub calls : TakesWhileNoLf call left held old now new

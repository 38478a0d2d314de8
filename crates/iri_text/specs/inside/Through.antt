-- What takes things one by one and writes a text for each to a sink: its state after them, and what was written for them.
use Rattle.std.specs.Prelude.{◌≡◌, ℕ, List, [], ◌∷◌, ◌++◌}

module _ {X S : Type 0} (step : S → X → S) (text : S → X → List ℕ) where
  -- the state after these things
  abbrev pub after : S → List X → S
  after s [] = s
  after s (x ∷ xs) = after (step s x) xs

  -- what is written for these things
  abbrev pub texts : S → List X → List ℕ
  texts s [] = []
  texts s (x ∷ xs) = text s x ++ texts (step s x) xs

-- the same sink after it, the state after these things, and their texts went into the sink
pub record ThroughPuts {X S V W N : Type 0} (step : S → X → S) (text : S → X → List ℕ) (state : V → S) (to : V → W) (name : V → N)
    (puts : W → List ℕ → W → Type 0) (a : V) (xs : List X) (b : V) : Type 0 where
  pub same : name b ≡ name a
  pub goes_on : state b ≡ after step text (state a) xs
  pub put : puts (to a) (texts step text (state a) xs) (to b)

-- the same sink after it, which stopped within their texts
pub record ThroughHalts {X S V W N : Type 0} (step : S → X → S) (text : S → X → List ℕ) (state : V → S) (to : V → W) (name : V → N)
    (halts : W → List ℕ → W → Type 0) (a : V) (xs : List X) (b : V) : Type 0 where
  pub same : name b ≡ name a
  pub halt : halts (to a) (texts step text (state a) xs) (to b)

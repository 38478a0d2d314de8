-- What a text does to a sink that puts what it takes at the end of a text.
use Rattle.std.specs.Prelude.{◌≡◌, ◌<◌, ◌+◌, ℕ, List, ◌++◌, length}

-- one text more, and a count of bytes that grew by its length
pub record Appended {W : Type 0} (taken : W → List ℕ) (count : W → ℕ) (Stays : W → W → Type 0) (a : W) (t : List ℕ) (b : W) : Type 0 where
  pub text : taken b ≡ taken a ++ t
  pub len : count b ≡ count a + length t
  pub stays : Stays a b

-- a prefix of a text that is longer than the rest of the room
pub record StopsWithin {W : Type 0} (puts : W → List ℕ → W → Type 0) (count room : W → ℕ) (a : W) (t : List ℕ) (b : W) : Type 0 where
  pub prefix : List ℕ
  pub rest : List ℕ
  pub split : prefix ++ rest ≡ t
  pub appended : puts a prefix b
  pub long : room a < count a + length t

-- Sinks whose relations go by characters, as sinks of bytes.
use Rattle.std.specs.Prelude.{◌≡◌, ℕ, List, ◌++◌}
use Rattle.std.specs.Str.{IsUtf8, chars}

-- the characters of a text went in
pub record CharsPut {V : Type 0} (puts : V → List ℕ → V → Type 0) (a : V) (t : List ℕ) (b : V) : Type 0 where
  pub utf8 : IsUtf8 t
  pub put : puts a (chars t) b

-- the sink stopped within the characters of a prefix
pub record CharsHalt {V : Type 0} (halts : V → List ℕ → V → Type 0) (a : V) (t : List ℕ) (b : V) : Type 0 where
  pub prefix : List ℕ
  pub rest : List ℕ
  pub split : prefix ++ rest ≡ t
  pub utf8 : IsUtf8 prefix
  pub halt : halts a (chars prefix) b

-- How the compared form is written from the left.
use Rattle.std.specs.Prelude.{◌≡◌, ◌==◌, ◌&&◌, ℕ, Bool, not, nat_lt, ◌<◌, ◌≤◌, List, [], ◌∷◌, ◌++◌, length, drop}
use Rattle.std.specs.Char.{encode_utf8}
use Rattle.iri_grammar.specs.Characters.{percent_sign}
use Rattle.iri_robots.specs.Compared.{compared}
use Rattle.iri_robots.specs.declared.compared.Written.{Written}
use Rattle.iri_robots.specs.declared.compared.Written.TheVariants.{Run, Char, Triplet}

-- an ASCII character but `%` stays as it is
abbrev pub stays : ℕ → Bool
stays b = nat_lt b 128 && not (b == percent_sign)

-- what is written
abbrev pub written_text : Written → List ℕ
written_text (Run r) = r.now
written_text (Char c) = encode_utf8 c
written_text (Triplet a b) = percent_sign ∷ a ∷ b ∷ []

abbrev pub HasAsciiDigits : Written → Type 0
HasAsciiDigits (Run r) = Unit {0}
HasAsciiDigits (Char c) = Unit {0}
HasAsciiDigits (Triplet a b) = (a < 128) × (b < 128)

-- so many bytes at the start are written so
pub record IsPrefix (t : List ℕ) (written : Written) (taken : ℕ) : Type 0 where
  pub text : compared t ≡ written_text written ++ compared (drop taken t)
  pub within : taken ≤ length t
  pub some : 0 < taken
  pub digits : HasAsciiDigits written

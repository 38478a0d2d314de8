-- Runs of a text that is encoded.
use Rattle.std.specs.Prelude.{◌≡◌, ℕ, ◌<◌, Bool, cond, not, ◌&&◌, nat_lt, List, ◌++◌, length}
use Rattle.std.specs.Str.{IsUtf8}
use Rattle.iri_grammar.specs.ClassTests.{ascii_test}
use Rattle.iri_grammar.specs.declared.class.Class.{Class}
use Rattle.iri_percent.specs.Mapping.{triplets}
use Rattle.iri_percent.specs.Encoding.{encoded}

-- an ASCII character that isn't in the class
abbrev pub is_other : Class → ℕ → Bool
is_other class b = nat_lt b 128 && not (ascii_test class b)

-- what is written for a run of characters that are kept, or of such that aren't
abbrev pub run_text : Bool → List ℕ → List ℕ
run_text stands t = cond stands t (triplets t)

-- the text is a run and the rest
pub record IsRun (kept : ℕ → Bool) (t : List ℕ) (stands : Bool) (run rest : List ℕ) : Type 0 where
  pub split : t ≡ run ++ rest
  pub utf8 : IsUtf8 rest
  pub same : encoded kept t ≡ run_text stands run ++ encoded kept rest

-- the text is some run and the rest
pub record IsPastRun (kept : ℕ → Bool) (stands : Bool) (t rest : List ℕ) : Type 0 where
  pub run : List ℕ
  pub is_run : IsRun kept t stands run rest

-- the text is a run that isn't empty and the rest
pub record IsNextRun (kept : ℕ → Bool) (t : List ℕ) (stands : Bool) (run rest : List ℕ) : Type 0 where
  pub is_run : IsRun kept t stands run rest
  pub shorter : length rest < length t

-- What follows a name.
use Rattle.std.specs.Prelude.{◌≡◌, ◌==◌, ℕ, true, false, List, ◌∷◌, ◌++◌}
use Rattle.iri_grammar.specs.Characters.{equals_sign}
use Rattle.iri_grammar.specs.Classes.{Tests}
use Rattle.iri_link.specs.Fault.{fault_from}
use Rattle.iri_link.specs.Phases.{after_name, after_equals}
use Rattle.iri_grammar.specs.Blanks.{is_blank}
use Rattle.iri_link.specs.Token.{is_blanks}
use Rattle.iri_grammar.specs.inside.Runs.{first_passes}
use Rattle.iri_link.specs.inside.Runs.{IsRun}

-- t is a `=`, blanks round it, and a rest
pub record ReadsEquals (t rest : List ℕ) : Type 0 where
  pub a : List ℕ
  pub b : List ℕ
  pub whole : t ≡ a ++ equals_sign ∷ (b ++ rest)
  pub before : is_blanks a ≡ true
  pub following : is_blanks b ≡ true
  pub ends : first_passes is_blank rest ≡ false
  pub goes : (s : Tests) → fault_from s after_name t ≡ fault_from s after_equals rest

-- no `=` stands in t after blanks
pub record LacksEquals (t : List ℕ) : Type 0 where
  pub a : List ℕ
  pub rest : List ℕ
  pub run : IsRun is_blank t a rest
  pub none : first_passes (λ c. c == equals_sign) rest ≡ false

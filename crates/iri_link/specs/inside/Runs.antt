-- A text cut after a run of bytes that pass a test.
use Rattle.std.specs.Prelude.{◌≡◌, ℕ, Bool, true, false, List, ◌++◌}
use Rattle.std.specs.Char.{is_ascii_lowercase}
use Rattle.std.specs.List.{list_all}
use Rattle.iri_grammar.specs.inside.Runs.{first_passes}
use Rattle.iri_grammar.specs.Blanks.{is_blank}
use Rattle.iri_link.specs.Token.{is_pair_char, is_plain_char, is_token_char}
use Rattle.iri_link.specs.LaxReadings.{is_name_char, is_value_char}
use Rattle.iri_link.specs.declared.runs.Run.{Run}
use Rattle.iri_link.specs.declared.runs.Run.TheVariants.{Blank, Token, Name, Value, Pair, Plain, Lower}

abbrev pub run_test : Run → ℕ → Bool
run_test Blank = is_blank
run_test Token = is_token_char
run_test Name = is_name_char
run_test Value = is_value_char
run_test Pair = is_pair_char
run_test Plain = is_plain_char
run_test Lower = is_ascii_lowercase

-- t is a run and a rest that doesn't go on with it
pub record IsRun (p : ℕ → Bool) (t run rest : List ℕ) : Type 0 where
  pub whole : t ≡ run ++ rest
  pub all : list_all p run ≡ true
  pub ends : first_passes p rest ≡ false

-- A plain authority at the start of a text, as the splitter looks for it.
use Rattle.std.specs.Prelude.{ℕ, ◌+◌, Bool, true, cond, ◌&&◌, ◌==◌, List, [], ◌∷◌, drop}
use Rattle.std.specs.Char.{is_ascii_digit}
use Rattle.iri_grammar.specs.Characters.{colon}
use Rattle.iri_grammar.specs.ClassTests.{ascii_test}
use Rattle.iri_grammar.specs.Runs.{run_of}
use Rattle.iri_grammar.specs.Seen.{is_small}
use Rattle.iri_grammar.specs.declared.class.Class.TheVariants.{RegName}

-- how many bytes the ASCII characters of a name have at the start
abbrev pub name_len : List ℕ → ℕ
name_len t = run_of (ascii_test RegName) t

-- such a character, and no capital letter
abbrev pub is_small_name_char : ℕ → Bool
is_small_name_char x = ascii_test RegName x && is_small x

-- none of them is a capital letter
abbrev pub is_small_name : List ℕ → Bool
is_small_name [] = true
is_small_name (x ∷ xs) = cond (ascii_test RegName x) (is_small x && is_small_name xs) true

-- how many bytes a colon and digits after it have at the start; 0 where there are none
abbrev pub port_len : List ℕ → ℕ
port_len [] = 0
port_len (x ∷ xs) = cond (x == colon) (cond (run_of is_ascii_digit xs == 0) 0 (run_of is_ascii_digit xs + 1)) 0

-- how many a name has with its port
abbrev pub plain_len : List ℕ → ℕ
plain_len t = name_len t + port_len (drop (name_len t) t)

-- The command `register`, worked on the lines of small inputs.
use Rattle.std.specs.Prelude.{◌≡◌, ℕ, true, false, List, [], ◌∷◌, codes, map, refl}
use Rattle.iri_grammar.specs.Classes.{uri_tests}
use Rattle.iri_percent.specs.declared.canon_mode.CanonMode.TheVariants.{Default, Scheme}
use Rattle.iri_docs.specs.OnLiterals.{on_literals}
use Rattle.iri_cli.specs.run.Ending.{answers}
use Rattle.iri_cli.specs.register.Lines.{line_of, entries_after}
use Rattle.iri_cli.specs.register.Rules.{register_rules}

abbrev base : List ℕ
base = codes "http://a/"

-- links that are added, found and removed, and a line that asks nothing
pub answers_to_some_lines : answers (register_rules uri_tests Default) base
    (codes "a x/../b" ∷ codes "a /%62" ∷ codes "a c" ∷ codes "f HTTP://A/b" ∷ codes "d c" ∷ codes "d c" ∷ codes "q" ∷ [])
    ≡ codes "new 1\n" ∷ codes "old 1\n" ∷ codes "new 2\n" ∷ codes "at 1\n" ∷ codes "gone 1\n" ∷ codes "none\n" ∷ codes "bad line\n" ∷ []
unfolding on_literals line_of entries_after
answers_to_some_lines = refl

-- one link by scheme rules, and two where the port isn't the default one
pub answers_by_scheme : answers (register_rules uri_tests Scheme) (codes "http://h")
    (codes "a http://h/" ∷ codes "a http://h:80/" ∷ codes "a " ∷ codes "a http://h:81" ∷ [])
    ≡ codes "new 1\n" ∷ codes "old 1\n" ∷ codes "old 1\n" ∷ codes "new 2\n" ∷ []
unfolding on_literals line_of entries_after
answers_by_scheme = refl

-- which lines take memory: without entries, and with one
pub memory_without_entries : map ((register_rules uri_tests Default).wants_memory base [])
    (codes "a b" ∷ codes "a %4" ∷ codes "d b" ∷ codes "f b" ∷ codes "q" ∷ [])
    ≡ true ∷ false ∷ false ∷ false ∷ false ∷ []
unfolding on_literals line_of entries_after
memory_without_entries = refl

pub memory_with_an_entry : map ((register_rules uri_tests Default).wants_memory base (codes "a b" ∷ []))
    (codes "d c" ∷ codes "f b" ∷ codes "f %4" ∷ codes "q" ∷ [])
    ≡ true ∷ true ∷ false ∷ false ∷ []
unfolding on_literals line_of entries_after
memory_with_an_entry = refl

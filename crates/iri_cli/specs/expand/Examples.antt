-- The lines of `expand`, worked on an input with one of each.
use Rattle.std.specs.Prelude.{◌≡◌, List, [], ◌∷◌, ◌++◌, ℕ, codes, refl}
use Rattle.iri_grammar.specs.Classes.{uri_tests}
use Rattle.iri_template.specs.ShownValues.{undefined, string, list, pairs}
use Rattle.iri_percent.specs.declared.canon_mode.CanonMode.TheVariants.{Default, Scheme}
use Rattle.iri_docs.specs.OnLiterals.{on_literals}
use Rattle.iri_cli.specs.expand.Answers.{expand_answer, template_answer}
use Rattle.iri_cli.specs.expand.Lines.{line_of, values_after}

abbrev base : List ℕ
base = codes "http://a/b/"

abbrev strings : List (List ℕ)
strings = codes "s v 6" ∷ codes "s who fred" ∷ codes "s empty " ∷ []

abbrev lists : List (List ℕ)
lists = strings ++ codes "l list red" ∷ codes "l list green" ∷ []

pub values : (values_after lists (codes "v") ≡ string (codes "6")) × (values_after lists (codes "empty") ≡ string [])
    × (values_after lists (codes "list") ≡ list (codes "red" ∷ codes "green" ∷ [])) × (values_after lists (codes "undef") ≡ undefined)
unfolding on_literals line_of
values = (refl, refl, refl, refl)

-- a kind of value gives way to another, and a key may be empty
pub changed_values : (values_after (lists ++ codes "a list  blue" ∷ codes "a list k x y" ∷ []) (codes "list")
    ≡ pairs (([], codes "blue") ∷ (codes "k", codes "x y") ∷ [])) × (values_after (lists ++ codes "u v" ∷ []) (codes "v") ≡ undefined)
unfolding on_literals line_of
changed_values = (refl, refl)

pub no_answer : expand_answer uri_tests Default base [] (codes "s v 6") ≡ []
unfolding on_literals line_of
no_answer = refl

pub strings_expanded : expand_answer uri_tests Default base strings (codes "t x{;v,empty,who}") ≡ codes "ok http://a/b/x;v=6;empty;who=fred\n"
unfolding on_literals line_of template_answer
strings_expanded = refl

pub list_exploded : expand_answer uri_tests Default base lists (codes "t {/list*}") ≡ codes "ok http://a/red/green\n"
unfolding on_literals line_of template_answer
list_exploded = refl

-- what is no URI reference, and what has no value
pub others_expanded : (expand_answer uri_tests Default base lists (codes "t 1:{v}") ≡ codes "bad invalid path\n")
    × (expand_answer uri_tests Default base lists (codes "t {?undef}") ≡ codes "ok http://a/b/\n")
unfolding on_literals line_of template_answer
others_expanded = (refl, refl)

-- by scheme rules
pub expanded_by_scheme : expand_answer uri_tests Scheme base lists (codes "t //h:80{?v}") ≡ codes "ok http://h/?v=6\n"
unfolding on_literals line_of template_answer
expanded_by_scheme = refl

pub refused : (expand_answer uri_tests Default base lists (codes "t {/list:3}") ≡ codes "template unexpected value type for the variable at 2\n")
    × (expand_answer uri_tests Default base lists (codes "t {x") ≡ codes "template expression not closed at 0\n")
unfolding on_literals line_of template_answer
refused = (refl, refl)

pub bad_lines : (expand_answer uri_tests Default base lists (codes "s 1-x y") ≡ codes "bad line\n")
    × (expand_answer uri_tests Default base lists (codes "t") ≡ codes "bad line\n")
unfolding on_literals line_of
bad_lines = (refl, refl)

-- Path, query and fragment of a text, as the splitter cuts them.
use Rattle.std.specs.Prelude.{◌≡◌, ℕ, Bool, true, false, List, ◌++◌, Option, Some, None}
use Rattle.std.specs.Str.{IsUtf8}
use Rattle.iri_grammar.specs.Characters.{number_sign, percent_sign, question_mark}
use Rattle.iri_grammar.specs.Classes.{Tests, fragment_char, path_char, query_char}
use Rattle.iri_grammar.specs.Components.{if_there, is_path, is_query, is_fragment}
use Rattle.iri_grammar.specs.Cut.{delimited, lacks, begins}
use Rattle.iri_grammar.specs.OptionalSlices.{now_of}
use Rattle.iri_grammar.specs.declared.tail.Tail.{Tail}
use Rattle.iri_grammar.specs.inside.Runs.{HasNoUnit}

-- what its notes promise
abbrev pub KeepsNotes : Tail → Type 0
KeepsNotes p = (p.path_triplets ≡ false → lacks percent_sign p.path.now ≡ true)
    × (p.query_triplets ≡ false → if_there (lacks percent_sign) (now_of p.query) ≡ true)
    × (p.fragment_triplets ≡ false → if_there (lacks percent_sign) (now_of p.fragment) ≡ true)

-- each is in its production
abbrev pub AreOver : Tests → List ℕ → Option (List ℕ) → Option (List ℕ) → Type 0
AreOver s path query fragment = (is_path s path ≡ true) × (if_there (is_query s) query ≡ true) × (if_there (is_fragment s) fragment ≡ true)

-- a part after the delimiter c goes no further than r: there is no c, or no unit of the part
abbrev pub PartStops : (ℕ → Bool) → ℕ → Option (List ℕ) → List ℕ → Type 0
PartStops p c None r = begins c r ≡ false
PartStops p c (Some x) r = HasNoUnit p r

-- none of the three goes on where r is left over
pub record TailStops (s : Tests) (q f : Option (List ℕ)) (r : List ℕ) : Type 0 where
  pub path : HasNoUnit (path_char s) (delimited question_mark q ++ (delimited number_sign f ++ r))
  pub query : PartStops (query_char s) question_mark q (delimited number_sign f ++ r)
  pub fragment : PartStops (fragment_char s) number_sign f r

-- they are the start of the text t, each as long as its production goes
pub record ScansTail (s : Tests) (t : List ℕ) (p : Tail) : Type 0 where
  pub whole : t ≡ p.path.now ++ (delimited question_mark (now_of p.query) ++ (delimited number_sign (now_of p.fragment) ++ p.rest.now))
  pub over : AreOver s p.path.now (now_of p.query) (now_of p.fragment)
  pub stops : IsUtf8 t → TailStops s (now_of p.query) (now_of p.fragment) p.rest.now

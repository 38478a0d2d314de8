-- The first dot segment of a path, and a path cut between two segments.
use Rattle.std.specs.Prelude.{◌≡◌, ◌<◌, length, ℕ, Bool, true, false, List, [], ◌++◌, unwrap_or}
use Rattle.iri_grammar.specs.Characters.{slash}
use Rattle.iri_grammar.specs.Cut.{before, after}
use Rattle.iri_normal.specs.Dots.{is_two_dots, is_dot_segment, has_dot_segment}
use Rattle.iri_normal.specs.Target.{ends_at_slash}

-- the path begins with a dot segment, which is `..` or not, and this follows its slash
pub record IsBefore (path : List ℕ) (two : Bool) (rest : List ℕ) : Type 0 where
  pub dots : is_dot_segment (before slash path) ≡ true
  pub kind : two ≡ is_two_dots (before slash path)
  pub rest_is : rest ≡ unwrap_or (after slash path) []

-- the first dot segment stands after these segments
pub record IsNext (path run : List ℕ) (two : Bool) (rest : List ℕ) : Type 0 where
  pub more : List ℕ
  pub whole : path ≡ run ++ more
  pub ends : ends_at_slash run ≡ true
  pub plain : has_dot_segment run ≡ false
  pub prefix : IsBefore more two rest

-- neither part is empty, and the first one ends with a slash
pub record IsCut (text first rest : List ℕ) : Type 0 where
  pub whole : text ≡ first ++ rest
  pub ends : ends_at_slash first ≡ true
  pub first_some : 0 < length first
  pub rest_some : 0 < length rest

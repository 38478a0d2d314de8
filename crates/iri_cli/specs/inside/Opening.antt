-- How a command begins: its base.
use Rattle.std.specs.Prelude.{◌≡◌, ◌≤◌, ℕ, true, List, [], ◌∷◌, length, Option, None, Result, Ok, Err}
use Rattle.std.specs.declared.alloc.AllocError.{AllocError}
use Rattle.iri_grammar.specs.Classes.{Tests}
use Rattle.iri_cli.specs.canon.Answers.{refusal}
use Rattle.iri_text.specs.Line.{LineState}
use Rattle.iri_cli.specs.inside.Answering.{Answering}
use Rattle.iri_cli.specs.inside.Read.{HasRead, IsGoing}
use Rattle.iri_cli.specs.run.Ending.{Rules}
use Rattle.iri_cli.specs.run.Limits.{longest_line}
use Rattle.iri_cli.specs.run.Prepared.{prepared}
use Rattle.iri_cli.specs.canon.Rules.{canon_rules}

-- limits and base of a command are those of `canon`
pub record BeginsAsCanon (s : Tests) (rules : Rules) : Type 0 where
  pub line_limit : rules.line_limit ≡ (canon_rules s).line_limit
  pub input_limit : rules.input_limit ≡ (canon_rules s).input_limit
  pub refusal : rules.refusal ≡ refusal s

-- a base line is taken, and no line after it was answered
abbrev pub begun : Rules → List ℕ → Answering
begun rules line = record { rules = rules; base = line; between = [] }

-- a base line is taken, and this is its base as a run prepares it
pub record IsPreparedOf (s : Tests) (line text : List ℕ) : Type 0 where
  pub taken : refusal s line ≡ None
  pub text_is : text ≡ prepared s line

-- A base line was read, and the reader goes on. The base is taken, and this text is how a run prepares it.
pub record StandsAfter (s : Tests) (rules : Rules) (left_old left_new : Option (List ℕ)) (reader : LineState) (base text : List ℕ)
    : Type 0 where
  pub not_fixed : rules.fixed_base ≡ None
  pub read : HasRead rules left_old left_new reader (base ∷ [])
  pub going : IsGoing rules reader
  pub short : length base ≤ longest_line
  pub is_prepared : IsPreparedOf s base text

-- The command stands after each base line of which this is the prepared base; or allocation failed.
abbrev pub Opens : {A : Type 0} → Tests → Rules → List ℕ → (A → List ℕ → Answering → Type 0) → Result A AllocError → Type 0
Opens s rules text stands_at (Ok answers) = (line : List ℕ) → IsPreparedOf s line text → stands_at answers text (begun rules line)
Opens s rules text stands_at (Err error) = rules.base_wants_memory ≡ true

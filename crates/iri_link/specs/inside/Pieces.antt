-- What a walk over a text comes to, piece by piece.
use Rattle.std.specs.Prelude.{◌≡◌, ◌≤◌, ◌<◌, ◌+◌, ℕ, Bool, true, false, cond, not, ◌&&◌, List, [], ◌∷◌, ⊤, None, length, drop, filter, map}
use Rattle.std.specs.Prelude.{slice_index}
use Rattle.std.specs.List.{list_all}
use Rattle.std.specs.Option.{option_map}
use Rattle.std.specs.Str.{str_to_ascii_lowercase}
use Rattle.iri_grammar.specs.Blanks.{is_blank}
use Rattle.iri_grammar.specs.Characters.{comma}
use Rattle.iri_grammar.specs.OptionalSlices.{now_of}
use Rattle.iri_grammar.specs.Parts.{is_empty}
use Rattle.iri_link.specs.Field.{LinkParam, LinkValue}
use Rattle.iri_link.specs.LaxReadings.{LaxPhase, reads, passed, passed_quoted, passed_pair, is_writable, lax_next, lax_reading, with_writable}
use Rattle.iri_link.specs.Phases.{before_link, after_param, after_equals}
use Rattle.iri_link.specs.Token.{is_token_char}
use Rattle.iri_link.specs.declared.param_text.ParamText.{ParamText}
use Rattle.iri_link.specs.declared.piece.Piece.{Piece}
use Rattle.iri_link.specs.declared.piece.Piece.TheVariants.{Target, Param, NoParam, Comma}
use Rattle.iri_link.specs.declared.walk.Passing.{Passing}
use Rattle.iri_link.specs.declared.walk.Passing.TheVariants.{Outer, Quoted, Pair}
use Rattle.iri_link.specs.inside.ReadQuoted.{said}

-- a parameter, from what stands in a text
abbrev pub param_said : ParamText → LinkParam
param_said p = record { name = str_to_ascii_lowercase p.name.now; value = option_map (said p.escapes) (now_of p.value) }

-- whether a walk is after a target or a parameter, past a piece
abbrev pub stands : Piece → Bool
stands Comma = false
stands _ = true

-- what is left of a text: parameters of a link-value that has begun, and link-values
pub record Left : Type 0 where
  pub params : List LinkParam
  pub links : List LinkValue

-- a piece, and what is left after it
abbrev pub with_piece : Piece → Left → Left
with_piece (Target target) l = record { params = []; links = record { target = target.now; params = l.params } ∷ l.links }
with_piece (Param p) l = record { params = param_said p ∷ l.params; links = l.links }
with_piece _ l = l

-- a parameter's name has characters of a token
abbrev pub IsNamed : Piece → Type 0
IsNamed (Param p) = list_all is_token_char p.name.now ≡ true
IsNamed _ = ⊤

-- where what is passed over stands
abbrev pub passing_phase : Passing → LaxPhase
passing_phase Outer = passed
passing_phase Quoted = passed_quoted
passing_phase Pair = passed_pair

-- a byte of what is passed over ends it
abbrev pub EndsPassing : Passing → ℕ → Type 0
EndsPassing place c = (lax_next (passing_phase place) c ≡ reads before_link) × (c ≡ comma)

-- what is passed over in t ends with the comma at n
pub record IsCommaAt (t : List ℕ) (n : ℕ) : Type 0 where
  pub inside : n < length t
  pub comma : slice_index t n ≡ comma
  pub same : lax_reading passed t ≡ lax_reading (reads before_link) (drop (n + 1) t)

-- t without the blanks at its end
abbrev pub without_end : List ℕ → List ℕ
without_end [] = []
without_end (c ∷ cs) = cond (not (is_blank c && is_empty (without_end cs))) (c ∷ without_end cs) (without_end cs)

-- t begins with a value, v, and a rest follows
pub record IsValueAt (t rest v : List ℕ) : Type 0 where
  pub same : lax_reading (reads after_equals) t ≡ record {
    text = v;
    value = None;
    params = (lax_reading (reads after_param) rest).params;
    links = (lax_reading (reads after_param) rest).links;
  }
  pub short : length rest ≤ length t

-- the piece that a parameter with this name and value gives
abbrev pub IsPieceOf : Piece → LinkParam → Type 0
IsPieceOf (Param p) q = (param_said p ≡ q) × (is_writable q ≡ true) × (list_all is_token_char p.name.now ≡ true)
IsPieceOf NoParam q = is_writable q ≡ false
IsPieceOf _ q = ⊥

-- what is left of this text
abbrev pub left_at : Bool → List ℕ → Left
left_at false t = record { params = []; links = map with_writable (lax_reading (reads before_link) t).links }
left_at true t = record {
  params = filter is_writable (lax_reading (reads after_param) t).params;
  links = map with_writable (lax_reading (reads after_param) t).links;
}

-- the piece comes next in t, and then a rest
pub record Comes (inside : Bool) (t : List ℕ) (x : Piece) (rest : List ℕ) : Type 0 where
  pub same : left_at inside t ≡ with_piece x (left_at (stands x) rest)
  pub named : IsNamed x
  pub shorter : length rest < length t

-- nothing comes in t
abbrev pub Ends : Bool → List ℕ → Type 0
Ends inside t = left_at inside t ≡ record { params = []; links = [] }

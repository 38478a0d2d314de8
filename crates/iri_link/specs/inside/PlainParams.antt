-- Parameters that stand as they are written.
use Rattle.std.specs.Prelude.{◌≡◌, ◌≤◌, ◌<◌, ℕ, Bool, true, false, List, [], ◌∷◌, ◌++◌, length}
use Rattle.std.specs.Char.{is_ascii_lowercase}
use Rattle.std.specs.List.{list_all, flat_map}
use Rattle.iri_grammar.specs.Classes.{Tests}
use Rattle.iri_grammar.specs.Blanks.{space}
use Rattle.iri_grammar.specs.Characters.{equals_sign, semicolon}
use Rattle.iri_grammar.specs.Parts.{is_empty}
use Rattle.iri_link.specs.Characters.{quotation_mark}
use Rattle.iri_link.specs.Fault.{fault_from}
use Rattle.iri_link.specs.Field.{LinkParam}
use Rattle.iri_link.specs.Token.{is_plain_char}
use Rattle.iri_link.specs.Written.{written_param}
use Rattle.iri_link.specs.declared.shown_text.Place.{Place}
use Rattle.iri_link.specs.declared.shown_text.Place.TheVariants.{Within}
use Rattle.iri_link.specs.inside.Faults.{phase_at}
use Rattle.iri_link.specs.inside.Pieces.{Left, left_at}

-- t is a parameter in its written form, and a rest
pub record IsPlainParam (t rest : List ℕ) : Type 0 where
  pub name : List ℕ
  pub value : List ℕ
  pub whole : t ≡ semicolon ∷ space ∷ (name ++ equals_sign ∷ quotation_mark ∷ (value ++ quotation_mark ∷ rest))
  pub named : is_empty name ≡ false
  pub lower : list_all is_ascii_lowercase name ≡ true
  pub plain : list_all is_plain_char value ≡ true
  pub shorter : length rest < length t

-- parameters before what is left
abbrev pub with_params : List LinkParam → Left → Left
with_params ps l = record { params = ps ++ l.params; links = l.links }

-- t is parameters in their written form, and a rest
pub record ArePlain (inside : Bool) (t written rest : List ℕ) : Type 0 where
  pub params : List LinkParam
  pub whole : t ≡ written ++ rest
  pub said : flat_map written_param params ≡ written
  pub goes : (s : Tests) → fault_from s (phase_at inside) t ≡ fault_from s (phase_at inside) rest
  pub reads : left_at inside t ≡ with_params params (left_at inside rest)
  pub short : length rest ≤ length t

-- what is shown of them
abbrev pub params_text : Place → List ℕ → List ℕ
params_text Within t = t
params_text _ t = []

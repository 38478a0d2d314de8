-- What is left of a template, and that it has no fault.
use Rattle.std.specs.Prelude.{◌≡◌, ◌≤◌, ◌<◌, ℕ, ◌+◌, ◌^◌, List, [], map, length, Option, Some, None}
use denote.Ref.{Bor}
use Rattle.iri_grammar.specs.Pieces.{pieces}
use Rattle.iri_template.specs.Template.{VarSpec}
use Rattle.iri_template.specs.Reading.{varspec_of}
use Rattle.iri_template.specs.Fault.{varspecs_fault, text_fault}
use Rattle.iri_template.specs.declared.error.Error.{Error}
use Rattle.iri_grammar.specs.Characters.{comma}

-- ---- varspecs parted by commas, where some are left
abbrev pub varspecs_of : Option (Bor (List ℕ)) → List VarSpec
varspecs_of None = []
varspecs_of (Some t) = map varspec_of (pieces comma t.now)

abbrev pub left_fault : Option (Bor (List ℕ)) → Option Error
left_fault None = None
left_fault (Some t) = varspecs_fault 0 (pieces comma t.now)

abbrev pub left_len : Option (Bor (List ℕ)) → ℕ
left_len None = 0
left_len (Some t) = length t.now

-- they have no fault, and end at the brace that stands at this place
pub record AreFine (o : Option (Bor (List ℕ))) (end : ℕ) : Type 0 where
  pub fault : left_fault o ≡ None
  pub within : left_len o ≤ end
  pub fits : end + 1 < 2 ^ 64

-- ---- the rest of a template of so many bytes
pub record IsRest (t : List ℕ) (len : ℕ) : Type 0 where
  pub fault : text_fault t ≡ None
  pub within : length t ≤ len
  pub fits : len < 2 ^ 64

-- What an owned text is seen as.
use Rattle.std.specs.Prelude.{ℕ, Bool, List, Option, Some, None, String, string_bytes, string_capacity, nat_eq}
use Rattle.std.specs.Ordering.{nat_cmp}
use Rattle.std.specs.declared.cmp.Ordering.{Ordering}
use Rattle.std.specs.Cmp.Lexicographic.{pointwise, slice_cmp}

-- an owned text and its memory
pub record OwnedText : Type 0 where
  -- the text in UTF-8 bytes
  pub text : List ℕ
  -- how many bytes the text can have before it needs more memory
  pub capacity : ℕ

-- a string seen as an owned text
abbrev pub owned_text : {Z : Type 0} → String Z → OwnedText
owned_text s = record { text = string_bytes s; capacity = string_capacity s }

-- the text of an owned text that may be there
abbrev pub text_within : Option OwnedText → Option (List ℕ)
text_within None = None
text_within (Some t) = Some t.text

-- `x == y`: the texts are equal
abbrev pub text_eq : OwnedText → OwnedText → Bool
text_eq x y = pointwise nat_eq x.text y.text

-- `x.cmp(y)`: the order of the texts
abbrev pub text_cmp : OwnedText → OwnedText → Ordering
text_cmp x y = slice_cmp nat_cmp x.text y.text

-- What a resolver and a target hold.
use Rattle.std.specs.Prelude.{ℕ, List, Option, Some, None, String, string_bytes}
use Rattle.std.specs.declared.alloc.Global.{Global}
use Rattle.iri_types.specs.SplitText.{split_text}
use Rattle.iri_normal.specs.declared.resolver.FixedBaseResolver.{FixedBaseResolver}

-- the text of the base
abbrev pub base_text : {S : Type 0} {g : _} → FixedBaseResolver S g → List ℕ
base_text r = split_text r.base

-- the bytes of a part that may stand
abbrev pub bytes_of : Option (String Global) → Option (List ℕ)
bytes_of None = None
bytes_of (Some part) = Some (string_bytes part)

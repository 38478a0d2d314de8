-- A part that may stand, borrowed.
use Rattle.iri_normal.proofs.Common.{◌≡◌, ℕ, List, Option, Some, None, refl, string_bytes, option_map, Bor, now_of}
use Rattle.std.specs.Prelude.{String}
use Rattle.std.specs.declared.alloc.Global.{Global}
use Rattle.iri_normal.specs.Resolver.{bytes_of}

pub borrowed : (part : Option (Bor (List ℕ))) (text : Option (String Global))
    → option_map (λ x. x.now) part ≡ option_map string_bytes text → now_of part ≡ bytes_of text
borrowed None None e = refl
borrowed (Some x) (Some y) e = cc
borrowed None (Some y) e = cc
borrowed (Some x) None e = cc

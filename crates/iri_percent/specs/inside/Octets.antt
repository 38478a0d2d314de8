-- Octets that spell a character (RFC 3629 section 3), and those of triplets.
use Rattle.std.specs.Prelude.{ℕ, Bool, true, false, cond, Option, Some, None, nat_lt}
use lib.Utf8.{scalar}
use Rattle.iri_percent.specs.Decoding.{Fragment, Run, Octet, Percent}

-- the character of a code, which isn't below the least that so many octets spell
abbrev pub char_from : ℕ → ℕ → Option ℕ
char_from code least = cond (nat_lt code least) None (cond (scalar code) (Some code) None)

-- a fragment is the octet of a triplet
abbrev pub is_octet : Fragment → Bool
is_octet (Run bytes) = false
is_octet (Octet octet) = true
is_octet Percent = false

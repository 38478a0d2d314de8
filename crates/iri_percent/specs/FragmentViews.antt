-- What decoders and their fragments hold, and what a call for the next fragment does.
use Rattle.std.specs.Prelude.{◌≡◌, ℕ, List, length, drop, Option, None, Some}
use Rattle.std.specs.Iterator.{YieldsFirstBy}
use Rattle.iri_percent.specs.Decoding.{Fragment, Run, Octet, Percent, fragments}
use Rattle.iri_percent.specs.declared.fragments.DecodedFragment.{DecodedFragment}
use Rattle.iri_percent.specs.declared.fragments.DecodedFragment.TheVariants.{Direct, DecodedByte, StrayPercent}
use Rattle.iri_percent.specs.declared.fragments.PercentDecodedBytesFragments.{PercentDecodedBytesFragments}

abbrev pub fragment : DecodedFragment → Fragment
fragment (Direct bytes) = Run bytes.now
fragment (DecodedByte octet) = Octet octet
fragment StrayPercent = Percent

-- what is still to come
abbrev pub fragments_left : PercentDecodedBytesFragments → List Fragment
fragments_left it = fragments it.rest.now

-- how many bytes a fragment is read from: a triplet has three
abbrev pub source_len : Fragment → ℕ
source_len (Run bytes) = length bytes
source_len (Octet octet) = 3
source_len Percent = 1

-- what a call leaves of the source: what follows the bytes that its fragment is read from; all, where none is left
abbrev pub source_after : Option DecodedFragment → List ℕ → List ℕ
source_after None source = source
source_after (Some x) source = drop (source_len (fragment x)) source

-- a call gives the first of the fragments that are left, and takes just its bytes from the source
abbrev pub GivesFirst : PercentDecodedBytesFragments → Option DecodedFragment → PercentDecodedBytesFragments → Type 0
GivesFirst s r t = YieldsFirstBy fragment fragments_left s r t × (t.rest.now ≡ source_after r s.rest.now)

-- Decoding, computed.
use Rattle.std.specs.Prelude.{◌≡◌, true, false, [], ◌∷◌, ◌++◌, codes, refl}
use Rattle.iri_percent.specs.Decoding.{decoding, has_triplet, fragments, Run, Octet, Percent}

-- octets past ASCII, digits in both cases, and a stray `%` before one digit and before none; the examples of the URL Standard, section 1.3;
-- what a triplet gives is not decoded again
decodings : (decoding (codes "a%41%4%zz%ff") ≡ codes "aA%4%zz" ++ 0xFF ∷ []) × (decoding (codes "%25%s%1G") ≡ codes "%%s%1G")
    × (decoding (codes "%2541") ≡ codes "%41")
unfolding decoding
decodings = (refl, refl, refl)

some_stands : (has_triplet (codes "100% of %4") ≡ false) × (has_triplet (codes "100%%41") ≡ true)
unfolding has_triplet
some_stands = (refl, refl)

parted : (fragments (codes "ab%41%%4c") ≡ Run (codes "ab") ∷ Octet 0x41 ∷ Percent ∷ Octet 0x4C ∷ [])
    × (fragments (codes "a%41%") ≡ Run (codes "a") ∷ Octet 0x41 ∷ Percent ∷ [])
unfolding fragments
parted = (refl, refl)

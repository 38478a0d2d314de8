-- Worked examples.
use Rattle.std.proofs.Common.{◌≡◌, [], ◌∷◌, ◌++◌, refl}
use Rattle.std.specs.Prelude.{codes}
use Rattle.std.specs.Str.{chars}
use lib.Utf8.{encode}
use Rattle.iri_grammar.specs.Classes.{uri_tests, iri_tests, unreserved, is_ascii_unreserved, is_ucschar, is_ucschar_plane}
use Rattle.iri_grammar.specs.Authority.{authority_parts, recompose_authority}
use Rattle.iri_percent.specs.Units.{Plain, Char, Lone, Stray, units, read_from, first_char}
use Rattle.iri_percent.specs.CharUnits.{char_units}
use Rattle.iri_percent.specs.Triplets.{pct, normal}
use Rattle.iri_percent.specs.NormalHost.{normal_host, is_ascii_host, normal_authority}

read : units (codes "a%CE%b1%ff%x") ≡ Plain 97 ∷ Char 0x3B1 (codes "%CE%b1") ∷ Lone 102 102 ∷ Stray ∷ Plain 120 ∷ []
unfolding read_from first_char chars encode
read = refl

read_characters : char_units (codes "a%CE%b1" ++ (0xC3 ∷ 0xA9 ∷ []) ++ codes "%c3%x")
    ≡ Plain 97 ∷ Char 0x3B1 (codes "%CE%b1") ∷ Plain 0xE9 ∷ Lone 99 51 ∷ Stray ∷ Plain 120 ∷ []
unfolding read_from first_char chars encode
read_characters = refl

-- RFC 3986 sections 6.2.2.1 and 6.2.2.2: unreserved characters in triplets are decoded, and hex digits of other triplets are capital
of_uri : (pct uri_tests (codes "%7ea") ≡ codes "~a") × (pct uri_tests (codes "%3c%3e") ≡ codes "%3C%3E")
    × (pct uri_tests (codes "%ce%ce%b1%b1") ≡ codes "%CE%CE%B1%B1")
unfolding normal read_from first_char chars encode unreserved is_ascii_unreserved
of_uri = (refl, refl, refl)

-- triplets of no character stay, an overlong form too, and so does private use; `α` stands between two lone triplets (RFC 3987 section 5.3.2.3)
of_iri : (pct iri_tests (codes "%80%cc%cc%cc") ≡ codes "%80%CC%CC%CC") × (pct iri_tests (codes "%e0%80%80") ≡ codes "%E0%80%80")
    × (pct iri_tests (codes "%ce%ce%b1%b1") ≡ codes "%CE" ++ (0xCE ∷ 0xB1 ∷ []) ++ codes "%B1")
    × (pct iri_tests (codes "%ee%80%80") ≡ codes "%EE%80%80")
unfolding normal read_from first_char chars encode unreserved is_ascii_unreserved is_ucschar is_ucschar_plane
of_iri = (refl, refl, refl, refl)

-- a host past ASCII keeps its letters
hosts : (normal_authority uri_tests (codes "u%3a:P@H%2d:") ≡ codes "u%3A:P@h-")
    × (normal_host uri_tests (codes "%C3%89X.COM") ≡ codes "%C3%89X.COM")
unfolding normal_authority authority_parts recompose_authority normal_host is_ascii_host normal read_from first_char chars encode
    unreserved is_ascii_unreserved
hosts = (refl, refl)

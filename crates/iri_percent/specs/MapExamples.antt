-- The mapping, computed.
use Rattle.std.specs.Prelude.{◌≡◌, ◌++◌, codes, refl}
use lib.Utf8.{encode}
use Rattle.iri_percent.specs.Mapping.{mapped}

-- RFC 3987 section 3.1; triplets stay as they are
mappings : (mapped (codes "http://example.org/r" ++ (encode 0xE9 ++ (codes "sum" ++ encode 0xE9)))
    ≡ codes "http://example.org/r%C3%A9sum%C3%A9")
    × (mapped (codes "%c3#" ++ encode 0x10300) ≡ codes "%c3#%F0%90%8C%80")
unfolding encode
mappings = (refl, refl)

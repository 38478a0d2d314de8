-- The mapping of an IRI to a URI (RFC 3987 section 3.1).
use Rattle.std.specs.Prelude.{ℕ, ◌+◌, ◌/◌, ◌%◌, cond, List, [], ◌∷◌, ◌++◌, nat_lt, option_map}
use Rattle.std.specs.Char.{encode_utf8}
use Rattle.iri_grammar.specs.Parts.{Parts}

-- the hex digit of a number below 16, in capital
abbrev pub capital_hex : ℕ → ℕ
capital_hex n = cond (nat_lt n 10) (48 + n) (55 + n)

-- the triplet of an octet
abbrev pub triplet : ℕ → List ℕ
triplet x = 37 ∷ capital_hex (x / 16) ∷ capital_hex (x % 16) ∷ []

-- each character past ASCII becomes the triplets of its UTF-8; the bytes from 128 on are those of such characters
abbrev pub mapped : List ℕ → List ℕ
mapped [] = []
mapped (x ∷ xs) = cond (nat_lt x 128) (x ∷ []) (triplet x) ++ mapped xs

-- ---- the same by characters. That it gives the same is a law
abbrev pub triplets : List ℕ → List ℕ
triplets [] = []
triplets (x ∷ xs) = triplet x ++ triplets xs

abbrev pub mapped_char : ℕ → List ℕ
mapped_char c = cond (nat_lt c 128) (c ∷ []) (triplets (encode_utf8 c))

-- ---- the parts of a mapped text are its parts, mapped. That they are is a law
abbrev pub mapped_parts : Parts → Parts
mapped_parts t = record {
  scheme = option_map mapped t.scheme;
  authority = option_map mapped t.authority;
  path = mapped t.path;
  query = option_map mapped t.query;
  fragment = option_map mapped t.fragment;
}

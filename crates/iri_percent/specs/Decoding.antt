-- Decoding (the URL Standard, section 1.3, "percent-decode"). A text is the list of its bytes, which needn't be UTF-8.
use Rattle.std.specs.Prelude.{ℕ, Bool, false, cond, ◌||◌, ◌==◌, List, [], ◌∷◌}
use Rattle.iri_percent.specs.Units.{is_triplet, octet}
use Rattle.iri_grammar.specs.Characters.{percent_sign}

-- each `%` that two hex digits follow gives, with them, the octet that they spell; every other byte is itself, a `%` too
unfoldable pub decoding : List ℕ → List ℕ
decoding (x ∷ a ∷ b ∷ xs) = cond (is_triplet x a b) (octet a b ∷ decoding xs) (x ∷ decoding (a ∷ b ∷ xs))
decoding xs = xs

-- a `%` stands somewhere that two hex digits follow
unfoldable pub has_triplet : List ℕ → Bool
has_triplet (x ∷ a ∷ b ∷ xs) = is_triplet x a b || has_triplet (a ∷ b ∷ xs)
has_triplet xs = false

-- what the decoding is put together from: a run without `%`; the octet of a triplet; a `%` that begins no triplet
pub data Fragment : Type 0 where
  Run : (bytes : List ℕ) → Fragment
  Octet : (octet : ℕ) → Fragment
  Percent : Fragment

-- a byte without `%` before fragments: a run goes on as long as it can
abbrev pub before_fragments : ℕ → List Fragment → List Fragment
before_fragments x [] = Run (x ∷ []) ∷ []
before_fragments x (Run r ∷ fs) = Run (x ∷ r) ∷ fs
before_fragments x (Octet o ∷ fs) = Run (x ∷ []) ∷ Octet o ∷ fs
before_fragments x (Percent ∷ fs) = Run (x ∷ []) ∷ Percent ∷ fs

-- a byte that begins no triplet, before fragments
abbrev pub byte_before : ℕ → List Fragment → List Fragment
byte_before x fs = cond (x == percent_sign) (Percent ∷ fs) (before_fragments x fs)

-- the fragments of a text, from the left
unfoldable pub fragments : List ℕ → List Fragment
fragments (x ∷ a ∷ b ∷ xs) = cond (is_triplet x a b) (Octet (octet a b) ∷ fragments xs) (byte_before x (fragments (a ∷ b ∷ xs)))
fragments (x ∷ a ∷ []) = byte_before x (byte_before a [])
fragments (x ∷ []) = byte_before x []
fragments [] = []

-- the bytes that a fragment stands for
abbrev pub fragment_bytes : Fragment → List ℕ
fragment_bytes (Run r) = r
fragment_bytes (Octet o) = o ∷ []
fragment_bytes Percent = percent_sign ∷ []

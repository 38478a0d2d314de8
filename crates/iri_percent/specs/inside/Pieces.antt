-- How a text is rewritten, place by place.
use Rattle.std.specs.Prelude.{◌≡◌, ℕ, ◌+◌, ◌-◌, ◌<◌, ◌≤◌, Bool, true, false, cond, not, ◌&&◌, ◌==◌, List, [], ◌∷◌, ◌++◌, length, take, drop}
use Rattle.std.specs.Prelude.{slice_index}
use Rattle.std.specs.Char.{to_ascii_lowercase, is_ascii_uppercase}
use Rattle.std.specs.Str.{IsUtf8}
use Rattle.iri_grammar.specs.Classes.{Tests, is_ascii_unreserved}
use Rattle.iri_percent.specs.Units.{whole_triplets}
use Rattle.iri_percent.specs.Triplets.{normal, as_it_is}
use Rattle.iri_percent.specs.Mapping.{triplet}

-- whether letters outside triplets are lowered
abbrev pub case_of : Bool → ℕ → ℕ
case_of true = to_ascii_lowercase
case_of false = as_it_is

-- what is written for an octet that begins no character past ASCII: it alone where it is unreserved, otherwise its triplet
abbrev pub octet_text : Bool → ℕ → List ℕ
octet_text lower o = cond (is_ascii_unreserved o) (case_of lower o ∷ []) (triplet o)

-- a byte that begins no change
abbrev pub stays : Bool → ℕ → Bool
stays lower x = not (x == 37) && not (lower && is_ascii_uppercase x)

-- the first n bytes stay
abbrev pub NoCandidate : Bool → List ℕ → ℕ → Type 0
NoCandidate lower t n = (k : ℕ) → k < n → stays lower (slice_index t k) ≡ true

-- the first byte that may change
pub record CandidateAt (lower : Bool) (t : List ℕ) (i : ℕ) : Type 0 where
  pub inside : i < length t
  pub before : NoCandidate lower t i
  pub candidate : stays lower (slice_index t i) ≡ false

-- what stands before it stays
pub record FirstCandidate (s : Tests) (lower : Bool) (t : List ℕ) (i : ℕ) : Type 0 where
  pub inside : i < length t
  pub candidate : stays lower (slice_index t i) ≡ false
  pub same : normal s (case_of lower) t ≡ take i t ++ normal s (case_of lower) (drop i t)
  pub whole : whole_triplets (drop i t) ≡ true

-- the bytes from `at` on, `len` of them, become the text l in normal form, after bytes that stay
pub record Becomes (s : Tests) (lower : Bool) (t : List ℕ) (at len : ℕ) (l : List ℕ) : Type 0 where
  pub text : normal s (case_of lower) t ≡ take at t ++ (l ++ normal s (case_of lower) (drop (at + len) t))
  pub within : at + len ≤ length t
  pub some : 0 < len
  pub first : slice_index t at < 128
  pub last : slice_index t (at + len - 1) < 128
  pub whole : whole_triplets (drop (at + len) t) ≡ true

-- so much has been gathered after bytes that stay, perhaps nothing yet
pub record Gathered (s : Tests) (lower : Bool) (t : List ℕ) (at len : ℕ) (l : List ℕ) : Type 0 where
  pub text : normal s (case_of lower) t ≡ take at t ++ (l ++ normal s (case_of lower) (drop (at + len) t))
  pub within : at + len ≤ length t
  pub first : slice_index t at < 128
  pub whole : whole_triplets (drop (at + len) t) ≡ true

-- a change of so many bytes at the start is written to a buffer, from `at` on
pub record Writes (s : Tests) (lower : Bool) (t old new : List ℕ) (at read written : ℕ) : Type 0 where
  pub text : List ℕ
  pub becomes : Becomes s lower t 0 read text
  pub utf8 : IsUtf8 text
  pub put : take written new ≡ take at old ++ text

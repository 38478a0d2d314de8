-- Where the parts of a reference end, as the splitter finds them.
use Rattle.std.specs.Prelude.{◌≡◌, ℕ, ◌+◌, ◌<◌, ◌≤◌, Bool, true, cond, ◌&&◌, ◌||◌, ◌==◌, nat_lt, List, [], ◌∷◌, Some, None, length}
use Rattle.std.specs.Prelude.{take, drop, slice_index}
use Rattle.std.specs.Char.{is_ascii_alphabetic}
use Rattle.std.specs.Str.{IsUtf8}
use Rattle.iri_grammar.specs.Components.{is_scheme_char}
use Rattle.iri_grammar.specs.Cut.{before, after, before_any, from_any}
use Rattle.iri_grammar.specs.Runs.{run_of}
use Rattle.iri_grammar.specs.Seen.{is_small}
use Rattle.iri_grammar.specs.Split.{scheme_of, after_scheme, path_of, hier_of}

-- ---- the scheme
-- what is told of a byte: `.` where it may not be in a scheme, `1` of a capital letter, `0` of another
abbrev pub scheme_kind : ℕ → ℕ
scheme_kind b = cond (is_scheme_char b) (cond (is_small b) 48 49) 46

-- at k stands a colon, and the text begins with a letter
unfoldable pub ends_scheme : List ℕ → ℕ → Bool
ends_scheme bs k = nat_lt k (length bs) && slice_index bs k == 58 && is_ascii_alphabetic (slice_index bs 0)

-- the colon after the scheme stands at k, where the bytes that may be in one end
pub record SchemeAt (bs : List ℕ) (k : ℕ) : Type 0 where
  pub end : k ≡ run_of is_scheme_char bs
  pub inside : k < length bs
  pub byte : slice_index bs k ≡ 58
  pub scheme : Some (take k bs) ≡ scheme_of bs
  pub rest : drop (k + 1) bs ≡ after_scheme bs
  pub text : IsUtf8 (take k bs)

-- the text begins with no scheme and colon
pub record NoScheme (bs : List ℕ) : Type 0 where
  pub scheme : None ≡ scheme_of bs
  pub rest : bs ≡ after_scheme bs

-- ---- the authority
-- the delimiters that end it
abbrev pub ends_authority : ℕ → Bool
ends_authority x = x == 47 || x == 63 || x == 35

-- it ends at the start of the text
abbrev pub ends_at_start : List ℕ → Bool
ends_at_start [] = true
ends_at_start (x ∷ xs) = ends_authority x

-- its first k bytes are what stands before one, or all
pub record EndsAuthority (bs : List ℕ) (k : ℕ) : Type 0 where
  pub within : k ≤ length bs
  pub ascii : k < length bs → slice_index bs k < 128
  pub prefix : take k bs ≡ before_any ends_authority bs
  pub rest : drop k bs ≡ from_any ends_authority bs

-- the text r follows the authority of t: it begins with the path, and query and fragment are those of t
pub record IsPastAuthority (t r : List ℕ) : Type 0 where
  pub path : hier_of r ≡ path_of (hier_of t)
  pub query : after 63 (before 35 r) ≡ after 63 (before 35 t)
  pub fragment : after 35 r ≡ after 35 t

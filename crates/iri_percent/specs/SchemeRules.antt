-- Scheme-based normalization (RFC 3986 section 6.2.3). The five schemes and their ports are this project's choice.
use Rattle.std.specs.Prelude.{ℕ, Bool, cond, ◌||◌, List, Option, Some, None, codes}
use Rattle.std.specs.Str.{str_eq_ignore_ascii_case}
use Rattle.iri_percent.specs.declared.canon_mode.CanonMode.{CanonMode}
use Rattle.iri_percent.specs.declared.canon_mode.CanonMode.TheVariants.{Default, Scheme}

-- the scheme is one of two, in any case of its letters
abbrev pub is_either : List ℕ → List ℕ → List ℕ → Bool
is_either scheme one other = str_eq_ignore_ascii_case scheme one || str_eq_ignore_ascii_case scheme other

-- the default port of a scheme
unfoldable pub default_port : List ℕ → Option (List ℕ)
default_port scheme = cond (is_either scheme (codes "http") (codes "ws")) (Some (codes "80"))
    (cond (is_either scheme (codes "https") (codes "wss")) (Some (codes "443"))
    (cond (str_eq_ignore_ascii_case scheme (codes "ftp")) (Some (codes "21")) None))

-- the port that goes from an authority beside this scheme
abbrev pub dropped_port : CanonMode → Option (List ℕ) → Option (List ℕ)
dropped_port Scheme (Some scheme) = default_port scheme
dropped_port Scheme None = None
dropped_port Default scheme = None

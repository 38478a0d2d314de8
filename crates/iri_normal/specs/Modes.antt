-- The modes in which parts are written.
use Rattle.std.specs.Prelude.{ℕ, Bool, true, false, List, Option, None}
use Rattle.iri_percent.specs.SchemeRules.{dropped_port}
use Rattle.iri_percent.specs.declared.canon_mode.CanonMode.{CanonMode}
use Rattle.iri_percent.specs.declared.canon_mode.CanonMode.TheVariants.{Default, Scheme}
use Rattle.iri_normal.specs.declared.mode.Mode.{Mode}
use Rattle.iri_normal.specs.declared.mode.Mode.TheVariants.{Plain, Normal, ByScheme}

-- whether scheme, authority, query and fragment are put into normal form
abbrev pub is_normalizing : Mode → Bool
is_normalizing Plain = false
is_normalizing _ = true

-- whether scheme rules are followed (RFC 3986 section 6.2.3)
abbrev pub is_by_scheme : Mode → Bool
is_by_scheme ByScheme = true
is_by_scheme _ = false

-- the port that goes from an authority beside this scheme: its default port, by scheme rules
abbrev pub dropped_in : Mode → Option (List ℕ) → Option (List ℕ)
dropped_in ByScheme scheme = dropped_port Scheme scheme
dropped_in _ scheme = None

-- the mode of a normal form
abbrev pub mode_of : CanonMode → Mode
mode_of Default = Normal
mode_of Scheme = ByScheme

-- Blanks: `WSP` (RFC 5234 appendix B.1), of which `OWS` is made (RFC 9110 section 5.6.3).
use Rattle.std.specs.Prelude.{ℕ, Bool, ◌==◌, ◌||◌}

abbrev pub space : ℕ
space = 32

abbrev pub tab : ℕ
tab = 9

-- a space or a tab
abbrev pub is_blank : ℕ → Bool
is_blank c = c == space || c == tab

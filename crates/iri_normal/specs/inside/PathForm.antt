-- A text with its triplets in normal form, or as it stands.
use Rattle.std.specs.Prelude.{ℕ, Bool, cond, List}
use Rattle.iri_grammar.specs.Classes.{Tests}
use Rattle.iri_percent.specs.Triplets.{pct}

abbrev pub in_form : Tests → Bool → List ℕ → List ℕ
in_form s normal t = cond normal (pct s t) t

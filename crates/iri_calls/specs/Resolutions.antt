-- What a resolution, a normal form and the steps to one come to.
use Rattle.std.specs.Prelude.{ℕ, List, false}
use Rattle.iri_grammar.specs.Classes.{Tests}
use Rattle.iri_grammar.specs.Parts.{recompose}
use Rattle.iri_grammar.specs.Split.{split_of}
use Rattle.iri_percent.specs.declared.canon_mode.CanonMode.{CanonMode}
use Rattle.iri_normal.specs.Normalized.{written_text}
use Rattle.iri_normal.specs.Target.{target, takes_base_path}
use Rattle.iri_normal.specs.declared.mode.Mode.{Mode}
use Rattle.iri_normal.specs.declared.mode.Mode.TheVariants.{Plain}
use Rattle.iri_resolve.specs.NormalSteps.{steps_of}
use Rattle.iri_resolve.specs.StepSinks.{step_lines}
use Rattle.iri_calls.specs.Numbers.{form_numbered, mode_numbered}
use Rattle.iri_calls.specs.Outcome.{Outcome}
use Rattle.iri_calls.specs.Outcome.Outcome.{text}
use Rattle.iri_calls.specs.Outcomes.{where_known, in_grammar, of_uri, against_base}

-- the target of a reference, without dot segments (RFC 3986 sections 5.2.2 to 5.3)
abbrev pub resolved : Tests → List ℕ → List ℕ → List ℕ
resolved s base reference =
    let r = split_of reference in
    written_text s (record { parts = target (split_of base) r; whole = takes_base_path r; mode = Plain })

abbrev pub resolved_in : List ℕ → List ℕ → Tests → Outcome
resolved_in base reference s = against_base base reference s (text (resolved s base reference))

-- the target of a reference as it stands, with its dot segments (section 5.2.2)
abbrev pub target_text : List ℕ → List ℕ → List ℕ
target_text base reference = recompose (target (split_of base) (split_of reference))

abbrev pub target_in : List ℕ → List ℕ → Tests → Outcome
target_in base reference s = against_base base reference s (text (target_text base reference))

-- a normal form of a `URI` (sections 6.2.2 and 6.2.3)
abbrev pub normalized_as : Mode → List ℕ → Tests → Outcome
normalized_as form t s = of_uri t s (text (written_text s (record { parts = split_of t; whole = false; mode = form })))

abbrev pub normalized_outcome : ℕ → ℕ → List ℕ → Outcome
normalized_outcome grammar form t = where_known (form_numbered form) (λ m. in_grammar grammar (normalized_as m t))

-- the steps from a `URI` to its normal form in a mode, from left to right, each in words and with an LF
abbrev pub steps_in : CanonMode → List ℕ → Tests → Outcome
steps_in mode t s = of_uri t s (text (step_lines (steps_of s mode (split_of t))))

abbrev pub steps_outcome : ℕ → ℕ → List ℕ → Outcome
steps_outcome grammar mode t = where_known (mode_numbered mode) (λ m. in_grammar grammar (steps_in m t))

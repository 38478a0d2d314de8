-- The command `robots`: what is answered to a line.
use Rattle.std.specs.Prelude.{ℕ, Bool, true, false, ◌&&◌, codes, List, [], ◌∷◌, ◌++◌, Option, None, Some}
use Rattle.std.specs.Str.{bytes_eq}
use Rattle.iri_grammar.specs.Classes.{Tests}
use Rattle.iri_grammar.specs.Fault.{bytes_fault}
use Rattle.iri_grammar.specs.Parts.{Parts, recompose}
use Rattle.iri_grammar.specs.Split.{split_of}
use Rattle.iri_grammar.specs.WholeFault.{reference_fault}
use Rattle.iri_percent.specs.declared.canon_mode.CanonMode.{CanonMode}
use Rattle.iri_normal.specs.NormalForm.{canonical_in, normal_form_in}
use Rattle.iri_robots.specs.Compared.{subject}
use Rattle.iri_robots.specs.Decided.{is_allowed}
use Rattle.iri_robots.specs.Records.{FileRecord, rules_for}
use Rattle.iri_text.specs.LineEnds.{line_feed}
use Rattle.iri_cli.specs.run.Refused.{bad_line, unless_bad}
use Rattle.iri_cli.specs.robots.Lines.{RobotsLine, feeds, asks, bad, line_of, records_after}

abbrev pub same_part : Option (List ℕ) → Option (List ℕ) → Bool
same_part None None = true
same_part None (Some b) = false
same_part (Some a) None = false
same_part (Some a) (Some b) = bytes_eq a b

-- scheme and authority are the same
unfoldable pub same_site : Parts → Parts → Bool
same_site a b = same_part a.scheme b.scheme && same_part a.authority b.authority

-- the word before a target, by whether it is of the base's site and whether the rules allow it
abbrev pub verdict_word : Bool → Bool → List ℕ
verdict_word true true = codes "allow "
verdict_word true false = codes "disallow "
verdict_word false allowed = codes "other "

-- the base in the normal form of a mode
abbrev pub normal_base : Tests → CanonMode → List ℕ → List ℕ
normal_base s mode base = recompose (normal_form_in s mode (split_of base))

-- The answer to a target, by a base in normal form: the target is of its site, and what the rules for the token speak of in it is allowed, or
-- not.
abbrev pub target_answer : List ℕ → List ℕ → List FileRecord → List ℕ → List ℕ
target_answer token normal records target =
    verdict_word (same_site (split_of normal) (split_of target)) (is_allowed (rules_for token records) (subject (split_of target)))
    ++ (target ++ line_feed ∷ [])

-- the answer to what a line says, by the records before it; a line that feeds the robots file has none
abbrev pub answer_to : Tests → CanonMode → List ℕ → List ℕ → List FileRecord → RobotsLine → List ℕ
answer_to s mode token base records (feeds line) = []
answer_to s mode token base records (asks r) =
    unless_bad (bytes_fault (reference_fault s) r) (target_answer token (normal_base s mode base) records (canonical_in s mode base r))
answer_to s mode token base records bad = bad_line

-- the answer to a line after a base and other lines
abbrev pub robots_answer : Tests → CanonMode → List ℕ → List ℕ → List (List ℕ) → List ℕ → List ℕ
robots_answer s mode token base between line = answer_to s mode token base (records_after between) (line_of line)

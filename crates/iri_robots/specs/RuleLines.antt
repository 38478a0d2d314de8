-- Rules as lines, and the rules of lines. The law `rule_lines_are_read_back` ties the two.
use Rattle.std.specs.Prelude.{ℕ, Bool, true, false, cond, List, [], ◌∷◌, ◌++◌, codes, take, drop}
use Rattle.std.specs.List.{flat_map}
use Rattle.std.specs.Str.{bytes_eq}
use Rattle.iri_grammar.specs.Pieces.{pieces}
use Rattle.iri_text.specs.LineEnds.{line_feed}
use Rattle.iri_robots.specs.Records.{FileRule}

-- the word before a pattern
abbrev pub rule_word : Bool → List ℕ
rule_word true = codes "allow "
rule_word false = codes "disallow "

-- a rule as a line: its word, its pattern and an LF
abbrev pub rule_line : FileRule → List ℕ
rule_line rule = rule_word rule.allows ++ (rule.pattern ++ line_feed ∷ [])

-- rules as lines, in their order
abbrev pub rule_lines : List FileRule → List ℕ
rule_lines [] = []
rule_lines (rule ∷ rules) = rule_line rule ++ rule_lines rules

-- the rule of a line, without its LF, where it has one
abbrev pub line_rules : List ℕ → List FileRule
line_rules line =
    cond (bytes_eq (take 6 line) (codes "allow ")) (record { allows = true; pattern = drop 6 line } ∷ [])
    (cond (bytes_eq (take 9 line) (codes "disallow ")) (record { allows = false; pattern = drop 9 line } ∷ []) [])

-- the rules of lines
abbrev pub rules_in : List ℕ → List FileRule
rules_in lines = flat_map line_rules (pieces line_feed lines)

-- Files and rules as lines, cut at the first end of a line.
use Rattle.iri_robots.proofs.Common.{◌≡◌, ℕ, suc, true, false, cond, List, [], ◌∷◌, ◌++◌, Option, None, drop, length, take, refl, sym, ◌∙◌}
use Rattle.iri_robots.proofs.Common.{ap, arith, append_assoc, append-nil, before, after, run_of, line_of, FileRecord, line_rules, rules_in}
use Rattle.std.specs.List.{flat_map}
use Rattle.iri_grammar.specs.Pieces.{onto}
use Rattle.iri_grammar.specs.inside.PiecesLaws.{more_pieces}
use Rattle.iri_grammar.proofs.hosts.PiecesLaws.{pieces_cut}
use Rattle.iri_robots.specs.Files.{file_lines, file_records, is_in_line, more_lines}
use Rattle.iri_robots.specs.Records.{line_records}

pub rules_cut : (t line : List ℕ) (o : Option (List ℕ)) → line ≡ before 10 t → after 10 t ≡ o
    → rules_in t ≡ line_rules line ++ flat_map line_rules (more_pieces 10 o)
rules_cut t line o e f =
    ap (flat_map line_rules) (pieces_cut 10 t)
    ∙ ap (λ l. line_rules l ++ flat_map line_rules (more_pieces 10 (after 10 t))) (sym e)
    ∙ ap (λ p. line_rules line ++ flat_map line_rules (more_pieces 10 p)) f

-- the lines after the end of one
abbrev pub lines_after : List ℕ → List (List ℕ)
lines_after [] = []
lines_after (x ∷ xs) = file_lines xs

pub none_after : (t : List ℕ) → length t ≡ 0 → lines_after t ≡ []
none_after [] h = refl
none_after (x ∷ xs) h = absurd (omega arith)

pub lines_cut : (t : List ℕ) → file_lines t ≡ take (run_of is_in_line t) t ∷ lines_after (drop (run_of is_in_line t) t)
lines_cut [] = refl
lines_cut (x ∷ xs) =
    elim (is_in_line x) as (λ b. cond b (onto x (file_lines xs)) ([] ∷ file_lines xs)
    ≡ take (cond b (suc (run_of is_in_line xs)) 0) (x ∷ xs) ∷ lines_after (drop (cond b (suc (run_of is_in_line xs)) 0) (x ∷ xs))) [
      | true ↦ ap (onto x) (lines_cut xs)
      | false ↦ refl
    ]

pub line_cut : (t line end : List ℕ) (n : ℕ) → n ≡ run_of is_in_line t → line ≡ take n t → end ≡ drop n t
    → file_lines t ≡ line ∷ lines_after end
line_cut t line end n e f g =
    lines_cut t ∙ ap (λ k. take k t ∷ lines_after (drop k t)) (sym e) ∙ ap (λ l. l ∷ lines_after (drop n t)) (sym f)
    ∙ ap (λ l. line ∷ lines_after l) (sym g)

-- the records so far, and those of what is left, are those of the whole
pub stored : (prior now new : List FileRecord) (file rest line : List ℕ) (after : Option (List ℕ))
    → prior ++ file_records file ≡ now ++ file_records rest → file_lines rest ≡ line ∷ more_lines after
    → new ≡ now ++ line_records (line_of line)
    → prior ++ file_records file ≡ new ++ flat_map (λ line. line_records (line_of line)) (more_lines after)
stored prior now new file rest line after h e k =
    let more = flat_map (λ line. line_records (line_of line)) (more_lines after) in
    h ∙ ap (λ ls. now ++ flat_map (λ line. line_records (line_of line)) ls) e
    ∙ sym (append_assoc now (line_records (line_of line)) more) ∙ ap (λ l. l ++ more) (sym k)

pub stored_all : (prior now new : List FileRecord) (file rest line : List ℕ)
    → prior ++ file_records file ≡ now ++ file_records rest → file_lines rest ≡ line ∷ [] → new ≡ now ++ line_records (line_of line)
    → new ≡ prior ++ file_records file
stored_all prior now new file rest line h e k = sym (stored prior now new file rest line None h e k ∙ append-nil new)

-- Words are the words of one command at most.
use Rattle.iri_cli.proofs.Common.{◌≡◌, ◌≢◌, ◌∙◌, ◌++◌, ℕ, List, [], ◌∷◌, drop, length, Option, None, Some, ap, arith, refl, subst, sym, codes, get_or}
use Rattle.iri_cli.proofs.Common.{Tests, CanonMode, gen_text, robots_rules, Rules, Outside, RunsLines, rules_of, tests_of}
use Rattle.std.specs.Prelude.{MatchOption}
use Rattle.std.proofs.lemmas.Fmt.{decimal_injective}
use Rattle.iri_percent.specs.declared.canon_mode.CanonMode.TheVariants.{Default, Scheme}
use Rattle.iri_cli.specs.help.Notices.{MakesText, Tells, notice_text}
use Rattle.iri_cli.specs.inside.Obeyed.{IsSound, Obeys}
use Rattle.iri_cli.specs.run.Words.{IsCommand, mode_words, named, notice_word, word_of}
use Rattle.iri_cli.specs.declared.help.Notice.{Notice}
use Rattle.iri_cli.specs.declared.help.Notice.TheVariants.{Help, Version}
use Rattle.iri_cli.specs.declared.run.words.Command.{Command}
use Rattle.iri_cli.specs.declared.run.words.Command.TheVariants.{Lines, Gen, Tell}
use Rattle.iri_cli.specs.declared.run.words.LineCommand.{LineCommand}
use Rattle.iri_cli.specs.declared.run.words.LineCommand.TheVariants.{Canon, ToUri, Parts, Expand, Register, Links, LaxLinks, Docs, Robots, Pairs, PairsToUri}
use Rattle.iri_cli.specs.declared.run.words.Grammar.{Grammar}
use Rattle.iri_cli.specs.declared.run.words.Grammar.TheVariants.{Uri, Iri}

abbrev letter : ℕ → List ℕ → ℕ
letter i word = get_or word i 0

one_grammar : (a b : Grammar) → word_of a ≡ word_of b → a ≡ b
one_grammar Uri Uri e = refl
one_grammar Iri Iri e = refl
one_grammar a b e = let first = ap (letter 0) e in absurd (omega (arith, first))

one_notice : (a b : Notice) → notice_word a ≡ notice_word b → a ≡ b
one_notice Help Help e = refl
one_notice Version Version e = refl
one_notice a b e = let third = ap (letter 2) e in absurd (omega (arith, third))

one_mode : (m n : CanonMode) → length (mode_words m) ≡ length (mode_words n) → m ≡ n
one_mode Default Default e = refl
one_mode Scheme Scheme e = refl
one_mode m n e = absurd (omega (arith, e))

-- the words of a mode aren't those for answers that are URIs
no_mode : (m n : CanonMode) → mode_words m ≢ codes "to" ∷ codes "uri" ∷ mode_words n
no_mode Default n e = let count = ap (λ (ws : List (List ℕ)). length ws) e in omega (arith, count)
no_mode Scheme n e = let count = ap (λ (ws : List (List ℕ)). length ws) e in omega (arith, count)

-- a name and the words after that of the grammar tell the rules
one_line_command : (s : Tests) (m n : CanonMode) (a b : LineCommand) → (named a).word ≡ (named b).word
    → (named a).after ++ mode_words m ≡ (named b).after ++ mode_words n → rules_of a s m ≡ rules_of b s n
one_line_command s m n Canon Canon e f = ap (rules_of Canon s) (one_mode m n (ap length f))
one_line_command s m n ToUri ToUri e f = ap (rules_of ToUri s) (one_mode m n (ap (λ (ws : List (List ℕ)). length (drop 2 ws)) f))
one_line_command s m n Canon ToUri e f = absurd (no_mode m n f)
one_line_command s m n ToUri Canon e f = absurd (no_mode n m (sym f))
one_line_command s m n Parts Parts e f = ap (rules_of Parts s) (one_mode m n (ap length f))
one_line_command s m n Expand Expand e f = ap (rules_of Expand s) (one_mode m n (ap length f))
one_line_command s m n Register Register e f = ap (rules_of Register s) (one_mode m n (ap length f))
one_line_command s m n Links Links e f = ap (rules_of Links s) (one_mode m n (ap length f))
one_line_command s m n LaxLinks LaxLinks e f = ap (rules_of LaxLinks s) (one_mode m n (ap (λ (ws : List (List ℕ)). length (drop 1 ws)) f))
one_line_command s Default n Links LaxLinks e f = cc f
one_line_command s Scheme n Links LaxLinks e f = let last = ap (λ (ws : List (List ℕ)). letter 0 (get_or ws 0 [])) f in absurd (omega (arith, last))
one_line_command s m Default LaxLinks Links e f = cc f
one_line_command s m Scheme LaxLinks Links e f = let last = ap (λ (ws : List (List ℕ)). letter 0 (get_or ws 0 [])) f in absurd (omega (arith, last))
one_line_command s m n Docs Docs e f = ap (rules_of Docs s) (one_mode m n (ap length f))
one_line_command s m n Pairs Pairs e f = ap (rules_of Pairs s) (one_mode m n (ap length f))
one_line_command s m n PairsToUri PairsToUri e f =
    ap (rules_of PairsToUri s) (one_mode m n (ap (λ (ws : List (List ℕ)). length (drop 2 ws)) f))
one_line_command s m n Pairs PairsToUri e f = absurd (no_mode m n f)
one_line_command s m n PairsToUri Pairs e f = absurd (no_mode n m (sym f))
one_line_command s m n (Robots t) (Robots u) e f =
    ap (λ x. robots_rules s x t.now) (one_mode m n (ap (λ (ws : List (List ℕ)). length (drop 1 ws)) f))
    ∙ ap (λ (ws : List (List ℕ)). robots_rules s n (get_or ws 0 [])) f
one_line_command s m n a b e f =
    let first = ap (letter 0) e in
    let second = ap (letter 1) e in
    let third = ap (letter 2) e in
    absurd (omega (arith, first, second, third))

no_line_command : (a : LineCommand) → (named a).word ≢ codes "gen"
no_line_command Expand e = let first = ap (letter 0) e in omega (arith, first)
no_line_command a e = let first = ap (letter 0) e in omega (arith, first)

module _ (words : List (List ℕ)) where
  one_lines : (a b : LineCommand) (m n : CanonMode) (g h : Grammar) → IsCommand words (Lines a m g) → IsCommand words (Lines b n h)
      → rules_of a (tests_of g) m ≡ rules_of b (tests_of h) n
  one_lines a b m n g h p q =
      let e = sym p.0 ∙ q.0 in
      let name : (named a).word ≡ (named b).word = ap (λ (ws : List (List ℕ)). get_or ws 0 []) e in
      let word : word_of g ≡ word_of h = ap (λ (ws : List (List ℕ)). get_or ws 1 []) e in
      let after : (named a).after ++ mode_words m ≡ (named b).after ++ mode_words n = ap (λ (ws : List (List ℕ)). drop 2 ws) e in
      one_line_command (tests_of g) m n a b name after ∙ ap (λ x. rules_of b (tests_of x) n) (one_grammar g h word)

  one_gen : (a b : Grammar) (m n : ℕ) → IsCommand words (Gen a m) → IsCommand words (Gen b n)
      → gen_text (tests_of a) m ≡ gen_text (tests_of b) n
  one_gen a b m n p q =
      let e = sym p.1 ∙ q.1 in
      let word : word_of a ≡ word_of b = ap (λ (ws : List (List ℕ)). get_or ws 1 []) e in
      let number : p.0 ≡ q.0 = ap (λ (ws : List (List ℕ)). get_or ws 2 []) e in
      let count : m ≡ n = decimal_injective m n (omega (arith, p.2.most)) (omega (arith, q.2.most))
      (sym p.2.spelled ∙ number ∙ q.2.spelled) in
      ap (λ x. gen_text (tests_of x) m) (one_grammar a b word) ∙ ap (gen_text (tests_of b)) count

  module _ (old new : Outside) (status : ℕ) where
    -- words that are two commands have the same done for both
    one_command : (a b : Command) → IsCommand words a → IsCommand words b → Obeys (Some a) old new status
        → Obeys (Some b) old new status
    one_command (Lines a m g) (Lines b n h) p q o =
        subst (λ (r : Rules). RunsLines r old new status) (one_lines a b m n g h p q) o
    one_command (Gen a m) (Gen b n) p q o =
        subst (λ (t : List ℕ). MakesText t old new status) (one_gen a b m n p q) o
    one_command (Tell a) (Tell b) p q o =
        let word : notice_word a ≡ notice_word b = ap (λ (ws : List (List ℕ)). get_or ws 0 []) (sym p ∙ q) in
        subst (λ (n : Notice). Tells (notice_text n) old new status) (one_notice a b word) o
    one_command (Lines a x g) (Gen b n) p q o = absurd (no_line_command a (ap (λ (ws : List (List ℕ)). get_or ws 0 []) (sym p.0 ∙ q.1)))
    one_command (Gen a m) (Lines b x h) p q o = absurd (no_line_command b (ap (λ (ws : List (List ℕ)). get_or ws 0 []) (sym q.0 ∙ p.1)))
    one_command (Lines a x g) (Tell b) p q o = let e = sym p.0 ∙ q in cc e
    one_command (Tell a) (Lines b x h) p q o = let e = sym q.0 ∙ p in cc e
    one_command (Gen a m) (Tell b) p q o = let e = sym p.1 ∙ q in cc e
    one_command (Tell a) (Gen b n) p q o = let e = sym q.1 ∙ p in cc e

    -- what is done for the command of words
    pub obeyed : (command : Option Command) → MatchOption command ((c : Command) → ¬ (IsCommand words c)) (IsCommand words)
        → Obeys command old new status → (c : Command) → IsCommand words c
        → Obeys (Some c) old new status
    obeyed None none o c is = absurd (none c is)
    obeyed (Some a) p o c is = one_command a c p is o

    pub unknown : (command : Option Command) → MatchOption command ((c : Command) → ¬ (IsCommand words c)) (IsCommand words)
        → Obeys command old new status → ((c : Command) → ¬ (IsCommand words c)) → (status ≡ 2) × (new ≡ old)
    unknown None is o none = o
    unknown (Some a) is o none = absurd (none a is)

  pub sound : (command : Option Command) → MatchOption command ((c : Command) → ¬ (IsCommand words c)) (IsCommand words) → IsSound command
  sound None is = tt
  sound (Some (Lines command mode grammar)) is = is.1
  sound (Some (Gen grammar count)) is = is.2.most
  sound (Some (Tell notice)) is = tt

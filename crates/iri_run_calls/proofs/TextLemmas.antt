-- The words of a text, and what words are no command.
use Rattle.std.proofs.Common.{◌≡◌, ◌≢◌, ◌∙◌, ℕ, List, [], ◌∷◌, ◌++◌, Option, ap, drop, sym}
use Rattle.std.specs.Prelude.{get_or}
use Rattle.iri_grammar.specs.Cut.{before, after}
use Rattle.iri_grammar.specs.Pieces.{pieces}
use Rattle.iri_grammar.specs.inside.PiecesLaws.{more_pieces}
use Rattle.iri_grammar.proofs.hosts.PiecesLaws.{pieces_cut}
use Rattle.iri_cli.specs.run.Words.{IsCommand, mode_words, named, word_of}
use Rattle.iri_cli.specs.declared.run.words.Command.{Command}
use Rattle.iri_cli.specs.declared.run.words.Command.TheVariants.{Lines, Gen, Tell}
use Rattle.iri_cli.specs.declared.run.words.LineCommand.{LineCommand}
use Rattle.iri_cli.specs.declared.run.words.LineCommand.TheVariants.{Canon, ToUri, Parts, Expand, Register, Links, LaxLinks, Docs, Robots, Pairs, PairsToUri}
use Rattle.iri_cli.specs.declared.run.words.Grammar.{Grammar}
use Rattle.iri_percent.specs.declared.canon_mode.CanonMode.{CanonMode}
use Rattle.iri_percent.specs.declared.canon_mode.CanonMode.TheVariants.{Default, Scheme}
use Rattle.iri_grammar.specs.Blanks.{space}

-- the first word is cut off
pub words_cut : (text first : List ℕ) (rest : Option (List ℕ)) → first ≡ before space text → rest ≡ after space text
    → pieces space text ≡ first ∷ more_pieces space rest
words_cut text first rest e f =
    pieces_cut space text ∙ ap (λ w. w ∷ more_pieces space (after space text)) (sym e) ∙ ap (λ r. first ∷ more_pieces space r) (sym f)

-- the second word names no grammar
pub no_grammar : (first second : List ℕ) (more : List (List ℕ)) → ((g : Grammar) → second ≢ word_of g)
    → (command : Command) → ¬ (IsCommand (first ∷ second ∷ more) command)
no_grammar first second more none (Lines a m g) is = none g (ap (λ (ws : List (List ℕ)). get_or ws 1 []) is.0)
no_grammar first second more none (Gen g n) is = none g (ap (λ (ws : List (List ℕ)). get_or ws 1 []) is.1)
no_grammar first second more none (Tell notice) is = cc is

few_after : (a : LineCommand) (m : CanonMode) (third fourth fifth sixth : List ℕ) (more : List (List ℕ))
    → third ∷ fourth ∷ fifth ∷ sixth ∷ more ≢ (named a).after ++ mode_words m
few_after Canon Default third fourth fifth sixth more e = cc e
few_after Canon Scheme third fourth fifth sixth more e = cc e
few_after ToUri Default third fourth fifth sixth more e = cc e
few_after ToUri Scheme third fourth fifth sixth more e = cc e
few_after Parts Default third fourth fifth sixth more e = cc e
few_after Parts Scheme third fourth fifth sixth more e = cc e
few_after Expand Default third fourth fifth sixth more e = cc e
few_after Expand Scheme third fourth fifth sixth more e = cc e
few_after Register Default third fourth fifth sixth more e = cc e
few_after Register Scheme third fourth fifth sixth more e = cc e
few_after Links Default third fourth fifth sixth more e = cc e
few_after Links Scheme third fourth fifth sixth more e = cc e
few_after LaxLinks Default third fourth fifth sixth more e = cc e
few_after LaxLinks Scheme third fourth fifth sixth more e = cc e
few_after Docs Default third fourth fifth sixth more e = cc e
few_after Docs Scheme third fourth fifth sixth more e = cc e
few_after (Robots token) Default third fourth fifth sixth more e = cc e
few_after (Robots token) Scheme third fourth fifth sixth more e = cc e
few_after Pairs Default third fourth fifth sixth more e = cc e
few_after Pairs Scheme third fourth fifth sixth more e = cc e
few_after PairsToUri Default third fourth fifth sixth more e = cc e
few_after PairsToUri Scheme third fourth fifth sixth more e = cc e

-- no command has six words
pub six_words : (first second third fourth fifth sixth : List ℕ) (more : List (List ℕ)) (command : Command)
    → ¬ (IsCommand (first ∷ second ∷ third ∷ fourth ∷ fifth ∷ sixth ∷ more) command)
six_words first second third fourth fifth sixth more (Lines a m g) is =
    few_after a m third fourth fifth sixth more (ap (λ (ws : List (List ℕ)). drop 2 ws) is.0)
six_words first second third fourth fifth sixth more (Gen g n) is = let e = is.1 in cc e
six_words first second third fourth fifth sixth more (Tell notice) is = cc is

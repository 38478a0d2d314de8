use Rattle.std.proofs.Common.{◌≡◌, ℕ, List, [], ◌∷◌, ◌++◌, map, string_bytes, Option, Some, None, ap, sym, arith, append_assoc, ◌∙◌, rules}
use Rattle.std.proofs.lemmas.List.{append-nil, map-append}
use Rattle.std.specs.declared.alloc.Global.{Global}
use Rattle.std.specs.declared.string.String.{String}
use Rattle.iri_grammar.specs.Cut.{before, after}
use Rattle.iri_grammar.specs.OptionalSlices.{now_of}
use Rattle.iri_grammar.specs.Pieces.{pieces}
use Rattle.iri_grammar.specs.inside.PiecesLaws.{more_pieces}
use Rattle.iri_grammar.proofs.hosts.PiecesLaws.{pieces_cut, after_shorter}
use Rattle.iri_grammar.specs.Blanks.{space}
use Rattle.iri_run_calls.proofs.words_in.Goals as goal

pushed : (ws all : List (String Global)) (w : String Global) (rest whole : List ℕ) (o : Option (List ℕ)) → all ≡ ws ++ w ∷ []
    → string_bytes w ≡ before space rest → after space rest ≡ o → map string_bytes ws ++ pieces space rest ≡ pieces space whole
    → map string_bytes all ++ more_pieces space o ≡ pieces space whole
pushed ws all w rest whole o e f b h =
    let first : string_bytes w ∷ more_pieces space o ≡ pieces space rest =
    ap (λ x. x ∷ more_pieces space o) f ∙ ap (λ p. before space rest ∷ more_pieces space p) (sym b) ∙ sym (pieces_cut space rest) in
    ap (λ l. map string_bytes l ++ more_pieces space o) e
    ∙ ap (λ l. l ++ more_pieces space o) (map-append string_bytes ws (w ∷ []))
    ∙ append_assoc (map string_bytes ws) (string_bytes w ∷ []) (more_pieces space o)
    ∙ ap (λ l. map string_bytes ws ++ l) first ∙ h

pub words-smaller : goal.words-smaller
words-smaller c =
    omega (arith, after_shorter space c.words.rest.now c.in-Some.after.now (sym c.cut.ensures.after ∙ ap now_of c.in-Some.is))

pub words-preserved : goal.words-preserved
words-preserved c = record {
  utf8 = search rules;
  words = pushed c.words.words.items c.push.new.self.items c.in-Ok.word c.words.rest.now c.args.text.now (Some c.in-Some.after.now)
      c.in-Ok-push.ensures.items (c.in-Ok.ensures.ok ∙ c.cut.ensures.before) (sym c.cut.ensures.after ∙ ap now_of c.in-Some.is) c.words.invariant.words;
}

pub returns-in-None : goal.returns-in-None
returns-in-None c =
    sym (append-nil (map string_bytes c.push.new.self.items))
    ∙ pushed c.words.words.items c.push.new.self.items c.in-Ok.word c.words.rest.now c.args.text.now None c.in-Ok-push.ensures.items (c.in-Ok.ensures.ok ∙ c.cut.ensures.before) (sym c.cut.ensures.after ∙ ap now_of c.in-None.is) c.words.invariant.words

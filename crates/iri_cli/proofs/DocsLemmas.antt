-- The answers of `docs`.
use Rattle.iri_cli.proofs.Common.{◌≡◌, ◌≤◌, ◌∙◌, ℕ, Bool, true, false, List, [], ◌∷◌, ◌++◌, length, Result, refl, sym, ap, arith, Tests, CanonMode}
use Rattle.iri_cli.proofs.Common.{SinkState, docs_answer, read_answer, Answering, AnswersLine, is_ok, AnswerError}
use Rattle.iri_docs.specs.Documents.{line_document}
use Rattle.iri_docs.specs.Held.{Held}
use Rattle.iri_docs.specs.ErrorTexts.{description}
use Rattle.iri_docs.specs.declared.doc_error.DocError.{DocError}
use Rattle.iri_docs.specs.declared.doc_error.DocError.TheVariants.{Json}
use Rattle.iri_cli.specs.inside.DocsAt.{IsDocsAt}
use Rattle.iri_cli.specs.inside.StatelessAt.{IsStatelessAt}
use Rattle.iri_cli.specs.docs.Rules.{takes_memory}
use Rattle.iri_cli.proofs.CanonLemmas.{on_ok}

-- the answer to a line by what was read of it
pub docs_read : (s : Tests) (mode : CanonMode) (base line : List ℕ) (read : Result Held DocError) → line_document line ≡ read
    → read_answer s mode base read ≡ docs_answer s mode base line
unfolding docs_answer
docs_read s mode base line read is = ap (read_answer s mode base) (sym is)

-- the words for a fault are no good answer
pub bad : (e : DocError) → false ≡ is_ok (description e ++ 10 ∷ [])
bad Json = refl
bad e = refl

-- one line more
pub answers_docs : {s : Tests} {mode : CanonMode} {base expansion after : List ℕ} {output grown : ℕ} {at : Answering} {line : List ℕ} {ko kn : SinkState}
    {r : Result Bool AnswerError} → IsDocsAt s mode base expansion output at → length after ≡ length expansion
    → output ≤ grown → AnswersLine (IsStatelessAt docs_answer true takes_memory s mode base) at line ko kn r
    → AnswersLine (IsDocsAt s mode base after grown) at line ko kn r
answers_docs {r = r} is same grows a = record {
  puts = a.puts;
  next = on_ok r (record {
    stands = record { rules = is.stands.rules; alike = is.stands.alike };
    taken = is.taken;
    short = is.short;
    expansion_room = same ∙ is.expansion_room;
    output_room = omega (arith, grows, is.output_room);
  });
  room = a.room;
}

use Rattle.std.proofs.Common.{rules, arith, ◌≡◌, ◌<◌, ℕ, List, [], ◌∷◌, length, Bool, true, false, Some, None, Err, refl, sym, ◌∙◌}
use Rattle.std.specs.Str.{IsUtf8, is_utf8}
use Rattle.std.proofs.lemmas.Str.{is_utf8-from_IsUtf8, IsUtf8-from_is_utf8}
use Rattle.serde_json.specs.Data.{Data}
use Rattle.serde_json.specs.Read.{read}
use Rattle.serde_json.proofs.OnLiterals.{serde_json_on_literals}
use Rattle.iri_docs.specs.Documents.{line_document}
use Rattle.iri_docs.specs.declared.doc_error.DocError.TheVariants.{Json}
use Rattle.iri_docs.proofs.read.read_document.Goals as goal

refused : (line : List ℕ) (b : Bool) → is_utf8 line ≡ b → (IsUtf8 line → read line ≡ None) → line_document line ≡ Err Json
refused line true is none = rw (is, none (IsUtf8-from_is_utf8 line is)) refl
refused line false is none = rw is refl

-- no value is read of no bytes
empty_unread : read [] ≡ None
unfolding serde_json_on_literals
empty_unread = refl

some_bytes : (line : List ℕ) (d : Data) → read line ≡ Some d → 0 < length line
some_bytes [] d is = let never : None ≡ Some d = sym empty_unread ∙ is in cc
some_bytes (x ∷ xs) d is = omega arith

pub returns-in-Ok : goal.returns-in-Ok
returns-in-Ok c = record {
  answer = rw (is_utf8-from_IsUtf8 c.args.line.now c.in-Ok.ensures.ok.0, c.in-Ok.ensures.ok.1) c.document_of.ensures.answer;
  memory = λ _. some_bytes c.args.line.now _ c.in-Ok.ensures.ok.1;
}

pub returns-then-is_memory : goal.returns-then-is_memory
returns-then-is_memory c = record { answer = λ not. absurd (not refl); memory = λ _. c.in-Err.ensures.memory (search rules) }

pub returns-else-is_memory : goal.returns-else-is_memory
returns-else-is_memory c = record {
  answer = λ _. refused c.args.line.now _ refl (c.in-Err.ensures.err (search rules));
  memory = λ is. cc;
}

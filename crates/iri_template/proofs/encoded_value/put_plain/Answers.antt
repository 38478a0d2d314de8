use Rattle.iri_template.proofs.Common.{◌≡◌, ℕ, List, true, [], ◌∷◌, ◌∙◌, ap, sym, subst, append-nil, length, Shows, IsUtf8, chars}
use Rattle.iri_template.proofs.Common.{chars-nil, encode_utf8}
use Rattle.iri_template.proofs.Common.{first_char, fewer, written_chars}
use Rattle.iri_template.proofs.encoded_value.put_plain.Goals as goal

one_char : (t : List ℕ) (c : ℕ) → IsUtf8 t → t ≡ encode_utf8 c → chars t ≡ c ∷ []
one_char t c u e = (first_char t [] c u (e ∙ sym (append-nil (encode_utf8 c)))).first ∙ ap (λ l. c ∷ l) chars-nil

pub returns-clause-shows : goal.returns-clause-shows
returns-clause-shows g c =
    let w = g.W.TextSink in
    subst (λ cs. Shows w.puts w.halts w.stops c.args.sink.now (written_chars g.S.Spec.tests true c.args.left.now cs) c.put_chars.new.sink
    c.put_chars.result) (one_char c.encode_utf8.result.now c.args.c c.encode_utf8.utf8 c.encode_utf8.ensures.value) c.put_chars.ensures.shows

pub returns-clause-left : goal.returns-clause-left
returns-clause-left g c = c.put_chars.ensures.left ∙ ap (λ cs. fewer c.args.left.now (length cs))
    (one_char c.encode_utf8.result.now c.args.c c.encode_utf8.utf8 c.encode_utf8.ensures.value)

use Rattle.iri_link.proofs.Common.{◌++◌, ◌∷◌, sym, ap, ◌∙◌, append_assoc, rules, escaped}
use Rattle.iri_text.proofs.Compose.{shown_more}
use Rattle.iri_link.proofs.written.show_escaped.Goals as goal

pub delimiters-preserved : goal.delimiters-preserved
delimiters-preserved g c =
    let i = c.delimiters.invariant in
    let piece = c.in-Some.prefix.now ++ (92 ∷ c.in-Some.delimiter.now) in
    record {
      utf8 = search rules;
      done = i.done ++ piece;
      shown = shown_more g.met.W.TextSink.rules i.shown c.in_ok-show_three-in-Some.ensures;
      same = i.same ∙ (ap (λ l. i.done ++ l) c.in-Some.ensures.written ∙ sym (append_assoc i.done piece (escaped c.in-Some.after.now)));
    }

use Rattle.iri_grammar.proofs.Common.{◌++◌, ◌∙◌, ap, subst, arith, IsUtf8, path_char, query_char, delimited, now_of, HasNoUnit}
use Rattle.iri_grammar.specs.inside.Tails.{PartStops}
use Rattle.iri_grammar.proofs.authorities.AuthorityTexts.{text_over-utf8}
use Rattle.iri_grammar.proofs.splits.SplitUnique.{part-utf8}
use Rattle.iri_grammar.proofs.splits.TextParts.{rest-text}
use Rattle.iri_grammar.proofs.tail.Tail.scan.Goals as goal

pub returns-clause-scan : goal.returns-clause-scan
returns-clause-scan g c =
    let s = g.S.Spec.tests in
    let x = c.cut_units-path in
    let y = c.cut_part-query in
    let z = c.cut_part-fragment in
    let query = now_of y.result.part in
    let after_query = y.ensures.whole ∙ ap (λ r. delimited 63 query ++ r) z.ensures.whole in
    record {
      whole = x.ensures.whole ∙ ap (λ r. x.result.units.now ++ r) after_query;
      over = (x.ensures.over, y.ensures.over, z.ensures.over);
      stops = λ u.
          let v = rest-text x.result.units.now x.result.rest.now (text_over-utf8 (path_char s) x.result.units.now x.ensures.over) (subst IsUtf8 x.ensures.whole u) in
          let w = rest-text (delimited 63 query) y.result.rest.now (part-utf8 (query_char s) 63 query (omega arith) y.ensures.over)
          (subst IsUtf8 y.ensures.whole v) in
          record {
            path = subst (HasNoUnit (path_char s)) after_query (x.ensures.stops u);
            query = subst (PartStops (query_char s) 63 query) z.ensures.whole (y.ensures.stops (omega arith) v);
            fragment = z.ensures.stops (omega arith) w;
          };
    }

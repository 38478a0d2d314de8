use Rattle.iri_text.proofs.Common.{ap, subst, sym, LineState, NoLf}
use Rattle.iri_text.proofs.Parts.{lf_told}
use Rattle.iri_text.proofs.streams.reader.LineReader.holds_lf.Goals as goal

pub returns : goal.returns
returns c =
    let s = c.self.inside in
    let f = lf_told s.buf.items s.start s.end s.lf c.self.invariant.end_in c.self.invariant.first in
    let held = ap (λ (r : LineState). r.held) c.self.view_is in
    (λ n. f.0 (subst NoLf (sym held) n), λ is. subst NoLf held (f.1 is))

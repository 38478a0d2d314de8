use Rattle.std.proofs.Common.{◌≡◌, ◌∙◌, ap, length, arith, rules}
use Rattle.std.proofs.lemmas.List.Edits.{length-paste}
use Rattle.std.specs.Vec.{vec_len}
use Rattle.iri_owned.proofs.Lemmas.{overwritten-by}
use Rattle.iri_owned.proofs.splice.overwrite.Goals as goal

pub returns-clause-items : goal.returns-clause-items
returns-clause-items c =
    let old = c.args.bytes.now.items in
    let new = c.args.new.now in
    let fits = c.requires.fits in
    let inside = c.requires.inside in
    let written : vec_len c.write_into.new.bytes ≡ length c.write_into.new.bytes.items = search rules in
    let kept = length-paste old c.args.start new (length new) (omega (arith, fits, inside)) (omega arith) in
    overwritten-by old new c.write_into.new.bytes.items c.copy_within.new.self.items c.truncate.new.self.items c.args.start c.args.end
    (vec_len c.write_into.new.bytes) c.len.result fits inside (written ∙ (ap length c.write_into.ensures.items ∙ kept))
    (search rules) c.write_into.ensures.items c.copy_within.ensures.items c.truncate.ensures.items

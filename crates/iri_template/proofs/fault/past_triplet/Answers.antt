use Rattle.iri_template.proofs.Common.{subst, sym, ◌∙◌, ap, moved, triplet_fault}
use Rattle.iri_template.specs.Reading.{triplet_of}
use Rattle.iri_template.specs.inside.Parts.{IsPast}
use Rattle.iri_template.proofs.FaultLemmas.{unmoved}
use Rattle.iri_template.proofs.Prefixes.{triplet_begins, begins_past, percent_fault}
use Rattle.iri_template.proofs.fault.past_triplet.Goals as goal

pub read_triplet-requires : goal.read_triplet-requires
read_triplet-requires c = unmoved c.args.at (triplet_fault c.args.s.now) c.in-Ok.ensures

pub returns-in-Ok : goal.returns-in-Ok
returns-in-Ok c =
    let t = c.args.s.now in
    let fine = triplet_begins t c.requires.percent (unmoved c.args.at (triplet_fault t) c.in-Ok.ensures) in
    subst (IsPast c.args.at t) (sym c.read_triplet.ensures.rest) (begins_past (triplet_of t) c.args.at t _ fine.begins fine.fault)

pub returns-in-Err : goal.returns-in-Err
returns-in-Err c = ap (moved c.args.at) (percent_fault c.args.s.now c.requires.percent) ∙ c.in-Err.ensures

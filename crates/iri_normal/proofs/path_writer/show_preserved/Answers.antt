use Rattle.iri_normal.proofs.Common.{path-whole, merged}
use Rattle.iri_normal.proofs.path_writer.show_preserved.Goals as goal

pub show_as_it_stands-requires : goal.show_as_it_stands-requires
show_as_it_stands-requires g c = path-whole g.S.Spec.tests (merged c.args.target.now.path) g.met.S.Spec.lawful c.requires

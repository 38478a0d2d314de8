use Rattle.iri_resolve.proofs.Common.{arith}
use Rattle.iri_percent.proofs.forms.Changes.{triplet_room}
use Rattle.iri_resolve.proofs.component_steps.push_prefix.Goals as goal

pub bounds-text-1 : goal.bounds-text-1
bounds-text-1 g c = omega (arith, triplet_room c.args.text.now c.requires.whole c.requires.some c.if-first-ne37.false)

pub bounds-text-2 : goal.bounds-text-2
bounds-text-2 g c = let h = triplet_room c.args.text.now c.requires.whole c.requires.some c.if-first-ne37.false in omega arith

pub push_digits-requires : goal.push_digits-requires
push_digits-requires g c = let h = triplet_room c.args.text.now c.requires.whole c.requires.some c.if-first-ne37.false in
    let r = c.requires.room in omega arith

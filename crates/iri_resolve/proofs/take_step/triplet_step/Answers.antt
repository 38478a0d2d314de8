use Rattle.iri_resolve.proofs.Common.{refl, sym, subst, IfOk, IfOk-weaker, is_query, is_fragment, part_whole, path-whole, query-whole}
use Rattle.iri_resolve.proofs.Common.{fragment-whole, bytes_of, string_bytes, at_place, in_userinfo_or_host, change_of, Reaches, parts_of}
use Rattle.iri_resolve.proofs.Common.{Authority, Path, Query, Fragment}
use Rattle.iri_resolve.proofs.ReachedLemmas.{authority-reached, path-reached, query-reached, fragment-reached}
use Rattle.iri_resolve.proofs.take_step.triplet_step.Goals as goal

pub changed-requires : goal.changed-requires
changed-requires g c = path-whole g.S.Spec.tests (string_bytes c.args.reached.now.path) g.met.S.Spec.lawful c.requires.fits.path

pub returns-in-Authority : goal.returns-in-Authority
returns-in-Authority g c =
    let s = g.S.Spec.tests in
    let r = c.args.reached.now in
    subst (λ p. IfOk c.changed_in_authority.result (λ b. Reaches s (at_place (change_of s c.args.change) (parts_of r) p c.args.i) b
    (record r { authority = c.changed_in_authority.new.authority }))) (sym c.in-Authority.is)
    (IfOk-weaker c.changed_in_authority.result _ (λ b. Reaches s (at_place (change_of s c.args.change) (parts_of r) Authority c.args.i) b
    (record r { authority = c.changed_in_authority.new.authority }))
    (λ b h. authority-reached s (in_userinfo_or_host (change_of s c.args.change) c.args.i) b r c.changed_in_authority.new.authority (at_place (change_of s c.args.change) (parts_of r) Authority c.args.i) h refl) c.changed_in_authority.ensures)

pub returns-in-Path : goal.returns-in-Path
returns-in-Path g c =
    let s = g.S.Spec.tests in
    let r = c.args.reached.now in
    subst (λ p. IfOk c.changed.result (λ b. Reaches s (at_place (change_of s c.args.change) (parts_of r) p c.args.i) b
    (record r { path = c.changed.new.text }))) (sym c.in-Path.is)
    (IfOk-weaker c.changed.result _ (λ b. Reaches s (at_place (change_of s c.args.change) (parts_of r) Path c.args.i) b
    (record r { path = c.changed.new.text }))
    (λ b h. path-reached s b r c.changed.new.text (change_of s c.args.change c.args.i (string_bytes r.path)) c.requires h) c.changed.ensures)

pub changed_there-requires : goal.changed_there-requires
changed_there-requires g c = part_whole (is_query g.S.Spec.tests) (bytes_of c.args.reached.now.query)
    (λ x h. query-whole g.S.Spec.tests x g.met.S.Spec.lawful h) c.requires.fits.query

pub returns-in-Query : goal.returns-in-Query
returns-in-Query g c =
    let s = g.S.Spec.tests in
    let r = c.args.reached.now in
    subst (λ p. IfOk c.changed_there.result (λ b. Reaches s (at_place (change_of s c.args.change) (parts_of r) p c.args.i) b
    (record r { query = c.changed_there.new.text }))) (sym c.in-Query.is)
    (IfOk-weaker c.changed_there.result _ (λ b. Reaches s (at_place (change_of s c.args.change) (parts_of r) Query c.args.i) b
    (record r { query = c.changed_there.new.text }))
    (λ b h. query-reached s (change_of s c.args.change c.args.i) b r c.changed_there.new.text c.requires h) c.changed_there.ensures)

pub changed_there-requires-in-Fragment : goal.changed_there-requires-in-Fragment
changed_there-requires-in-Fragment g c = part_whole (is_fragment g.S.Spec.tests) (bytes_of c.args.reached.now.fragment)
    (λ x h. fragment-whole g.S.Spec.tests x g.met.S.Spec.lawful h) c.requires.fits.fragment

pub returns-in-Fragment : goal.returns-in-Fragment
returns-in-Fragment g c =
    let s = g.S.Spec.tests in
    let r = c.args.reached.now in
    subst (λ p. IfOk c.changed_there-in-Fragment.result (λ b. Reaches s (at_place (change_of s c.args.change) (parts_of r) p c.args.i) b
    (record r { fragment = c.changed_there-in-Fragment.new.text }))) (sym c.in-Fragment.is)
    (IfOk-weaker c.changed_there-in-Fragment.result _ (λ b. Reaches s (at_place (change_of s c.args.change) (parts_of r) Fragment c.args.i) b
    (record r { fragment = c.changed_there-in-Fragment.new.text }))
    (λ b h. fragment-reached s (change_of s c.args.change c.args.i) b r c.changed_there-in-Fragment.new.text c.requires h) c.changed_there-in-Fragment.ensures)

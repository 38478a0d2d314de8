use Rattle.iri_resolve.proofs.Common.{◌-◌, ◌<◌, ◌≤◌, ◌∙◌, ap, subst, string_bytes, lt-ltb, le-ltb, part_whole, host-whole, userinfo-whole}
use Rattle.iri_resolve.proofs.Common.{is_userinfo, bytes_of, change_of, authority_of, host_start}
use Rattle.iri_resolve.proofs.ChangeOf.{change-keeps}
use Rattle.iri_resolve.proofs.ReachedLemmas.{userinfo-on, host-on}
use Rattle.iri_resolve.proofs.reached_authority.changed_in_parts.Goals as goal

pub changed_there-requires : goal.changed_there-requires
changed_there-requires g c = part_whole (is_userinfo g.S.Spec.tests) (bytes_of c.args.authority.now.userinfo)
    (λ x h. userinfo-whole g.S.Spec.tests x g.met.S.Spec.lawful h) c.requires.fits.userinfo

pub changed-requires : goal.changed-requires
changed-requires g c = host-whole g.S.Spec.tests (string_bytes c.args.authority.now.host) g.met.S.Spec.lawful c.requires.fits.host

pub returns-then-i-start : goal.returns-then-i-start
returns-then-i-start g c =
    userinfo-on g.S.Spec.tests (change_of g.S.Spec.tests c.args.change) c.args.i c.args.authority.now c.changed_there.new.text c.in_ok-went.went
    g.met.S.Spec.lawful (change-keeps g.S.Spec.tests c.args.change g.met.S.Spec.lawful) c.requires
    (lt-ltb c.args.i (host_start (authority_of c.args.authority.now)) (subst (λ n. c.args.i < n) c.host_start-start.ensures c.if-i-start.true))
    c.in_ok-went.ensures

pub returns : goal.returns
returns g c =
    host-on g.S.Spec.tests (change_of g.S.Spec.tests c.args.change) c.args.i c.args.authority.now c.changed.new.text c.in_ok-went-2.went
    g.met.S.Spec.lawful (change-keeps g.S.Spec.tests c.args.change g.met.S.Spec.lawful) c.requires
    (le-ltb c.args.i (host_start (authority_of c.args.authority.now)) (subst (λ n. n ≤ c.args.i) c.host_start-start.ensures c.if-i-start.false))
    (c.in_ok-went-2.ensures ∙ ap (λ n. change_of g.S.Spec.tests c.args.change (c.args.i - n) (string_bytes c.args.authority.now.host)) c.host_start-start.ensures)

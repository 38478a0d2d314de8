use Rattle.iri_resolve.proofs.Common.{◌<◌, ◌≤◌, ◌-◌, ap, ◌∙◌, subst, string_bytes, lt-ltb, le-ltb, host-whole, with_small_host_letter}
use Rattle.iri_resolve.proofs.Common.{host_start, authority_of}
use Rattle.iri_resolve.proofs.ReachedLemmas.{letter-on, letter-before, letter-past}
use Rattle.iri_resolve.proofs.reached_authority.small_letter_in_host.Goals as goal

pub returns-then-i-start : goal.returns-then-i-start
returns-then-i-start g c = letter-before g.S.Spec.tests c.args.i c.args.authority.now
    (lt-ltb c.args.i (host_start (authority_of c.args.authority.now)) (subst (λ n. c.args.i < n) c.host_start-start.ensures c.if-i-start.true))

pub returns-then-not-authority : goal.returns-then-not-authority
returns-then-not-authority g c = letter-past g.S.Spec.tests c.args.i c.args.authority.now c.requires c.if-not-authority.true

pub small_host_letter-requires : goal.small_host_letter-requires
small_host_letter-requires g c = host-whole g.S.Spec.tests (string_bytes c.args.authority.now.host) g.met.S.Spec.lawful c.requires.fits.host

pub returns : goal.returns
returns g c =
    letter-on g.S.Spec.tests c.args.i c.args.authority.now c.small_host_letter.new.text c.small_host_letter.result g.met.S.Spec.lawful c.requires
    (le-ltb c.args.i (host_start (authority_of c.args.authority.now)) (subst (λ n. n ≤ c.args.i) c.host_start-start.ensures c.if-i-start.false))
    c.if-not-authority.false
    (c.small_host_letter.ensures ∙ ap (λ n. with_small_host_letter (c.args.i - n) (string_bytes c.args.authority.now.host)) c.host_start-start.ensures)

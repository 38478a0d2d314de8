use Rattle.iri_robots.proofs.Common.{◌∙◌, ap, subst, string_bytes}
use Rattle.std.proofs.Common.{MatchOption}
use Rattle.iri_robots.specs.inside.Groups.{IsOf, past}
use Rattle.iri_robots.proofs.GroupLemmas.{read_stored}
use Rattle.iri_robots.proofs.robots.Robots.store.Goals as goal

pub invariant_of-self-in-Some : goal.invariant_of-self-in-Some
invariant_of-self-in-Some c =
    let self = c.args.self.now in
    let is = subst (λ o. MatchOption o (Unit {0}) (λ x. IsOf self.reading.groups x)) c.in-Some.is c.requires in
    record {
      read = read_stored (string_bytes self.token) self.records.items c.push.new.self.items c.in-Some.record self.reading c.past-reading.result
          c.in_ok-push-in-Some.ensures.items
          (c.past-reading.ensures ∙ ap (λ t. past t c.in-Some.record self.reading) c.as_str.ensures.value) is self.read;
    }

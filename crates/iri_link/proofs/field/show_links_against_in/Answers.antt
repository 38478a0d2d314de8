use Rattle.iri_link.proofs.Common.{map, subst, base_text, resolved_in, written}
use Rattle.iri_text.specs.Shown.{Shows}
use Rattle.iri_link.proofs.LaxLaws.{lax-alike}
use Rattle.iri_link.proofs.field.show_links_against_in.Goals as goal

pub returns : goal.returns
returns g c =
    let s = g.S.Spec.tests in
    subst (λ ls. Shows g.W.TextSink.puts g.W.TextSink.halts g.W.TextSink.stops c.args.sink.now (written (map (resolved_in s c.args.mode (base_text c.args.resolver.now)) ls))
    c.show_lax_links_against_in.new.sink c.show_lax_links_against_in.result)
    (lax-alike s c.args.field.now c.requires) c.show_lax_links_against_in.ensures

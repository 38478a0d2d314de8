use Rattle.iri_grammar.proofs.Common.{◌≡◌, true, false, sym, subst, ◌∙◌, ends_scheme}
use Rattle.iri_grammar.proofs.splits.PartEnds.{no_scheme, scheme_at}
use Rattle.iri_grammar.specs.inside.Delimiters.{SchemeAt}
use Rattle.iri_grammar.proofs.splitter.scheme_end.Goals as goal

pub returns-then-ends_scheme : goal.returns-then-ends_scheme
returns-then-ends_scheme c = subst (SchemeAt c.args.bytes.now) (sym c.requires)
    (scheme_at c.args.bytes.now
    (subst (λ k. ends_scheme c.args.bytes.now k ≡ true) c.requires (sym c.ends_scheme.ensures ∙ c.if-ends_scheme.true)))

pub returns-else-ends_scheme : goal.returns-else-ends_scheme
returns-else-ends_scheme c = no_scheme c.args.bytes.now
    (subst (λ k. ends_scheme c.args.bytes.now k ≡ false) c.requires (sym c.ends_scheme.ensures ∙ c.if-ends_scheme.false))

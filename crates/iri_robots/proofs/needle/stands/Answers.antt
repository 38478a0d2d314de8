use Rattle.std.proofs.Common.{sym, ◌∙◌, inl, inr, subst}
use Rattle.std.proofs.lemmas.Bool.{false≢true}
use Rattle.iri_robots.specs.inside.Escaped.{left_of}
use Rattle.iri_robots.specs.inside.Fits.{FitsNot}
use Rattle.iri_robots.proofs.Common.{take_rest, false}
use Rattle.iri_robots.proofs.needle.stands.Goals as goal

pub returns-then-not-is_whole : goal.returns-then-not-is_whole
returns-then-not-is_whole c = λ _. inl (λ w. absurd (false≢true (sym c.if-not-is_whole.true ∙ c.is_whole.ensures.1 w)))

pub returns : goal.returns
returns c = λ e. inr (subst (λ x. FitsNot false x (left_of c.args.filled.left).rest) (take_rest c.args.pattern.now c.args.len) (c.may_fit.ensures e))

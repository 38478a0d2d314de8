use Rattle.iri_grammar.proofs.Common.{◌≡◌, ◌+◌, ◌∙◌, ap, subst, sym, list_all, take, drop, true, before_any, ends_authority, lacks}
use Rattle.iri_grammar.proofs.Common.{is_small, is_utf8, refl, take_rest}
use Rattle.std.proofs.lemmas.Bool.{not-false}
use Rattle.iri_grammar.proofs.splits.FirstColons.{colon-past, relative-colon}
use Rattle.iri_grammar.proofs.splits.TextParts.{scheme-text}
use Rattle.iri_grammar.proofs.splitter.cut_scheme.Goals as goal

pub from_utf8_unchecked-scheme-requires : goal.from_utf8_unchecked-scheme-requires
from_utf8_unchecked-scheme-requires c = c.in-Some.ensures.text

pub returns-in-Some-clause-text : goal.returns-in-Some-clause-text
returns-in-Some-clause-text c =
    scheme-text c.args.s.now c.in-Some.i c.in-Some.ensures ∙ ap is_utf8 (sym (take_rest c.args.s.now (c.in-Some.i + 1)))

pub returns-in-Some-clause-notes : goal.returns-in-Some-clause-notes
returns-in-Some-clause-notes c =
    let run = c.scheme_run-run in (
      λ none. rw c.from_utf8_unchecked-scheme.ensures (subst (λ k. list_all is_small (take k c.args.s.now) ≡ true) (run.ensures.len ∙ sym c.in-Some.ensures.end)
          (not-false (list_all is_small (take run.result.len c.args.s.now)) (sym run.ensures.capitals ∙ none))),
      refl,
    )

pub returns-in-None-clause-notes : goal.returns-in-None-clause-notes
returns-in-None-clause-notes c =
    let t = c.args.s.now in (
      λ _. refl,
      c.lacks_first_colon.ensures ∙ ap (λ l. lacks 58 (before_any ends_authority l)) (take_rest t c.scheme_run-run.result.len)
          ∙ ap (λ n. lacks 58 (before_any ends_authority (drop n t))) c.scheme_run-run.ensures.len
          ∙ (colon-past t ∙ relative-colon t),
    )

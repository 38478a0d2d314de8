use Rattle.iri_robots.proofs.Common.{◌≤◌, length, take, sym, subst, ap, ◌∙◌, IsUtf8, run_of, IsPrefix, stays}
use Rattle.std.proofs.lemmas.List.{length-take-le}
use Rattle.std.proofs.lemmas.Str.{IsUtf8-from_ascii}
use Rattle.iri_grammar.proofs.authorities.AuthorityTexts.{all_below}
use Rattle.iri_grammar.proofs.faults.PlainTails.{run-all}
use Rattle.iri_grammar.proofs.units.FirstUnits.{run_of_le}
use Rattle.iri_robots.specs.declared.compared.Written.TheVariants.{Run}
use Rattle.iri_robots.proofs.Forms.{prefix_run, stays_low}
use Rattle.iri_robots.proofs.compared.run_prefix.Goals as goal

pub from_utf8_unchecked-run-requires : goal.from_utf8_unchecked-run-requires
from_utf8_unchecked-run-requires c =
    let t = c.args.text.now in
    let run = IsUtf8-from_ascii (take (run_of stays t) t) (all_below stays stays_low (take (run_of stays t) t) (run-all stays t)) in
    subst (λ k. IsUtf8 (take k t)) (sym c.run_len-taken.ensures) run

pub slice_bounds-from_utf8_unchecked-end : goal.slice_bounds-from_utf8_unchecked-end
slice_bounds-from_utf8_unchecked-end c =
    let t = c.args.text.now in
    let within = subst (λ k. k ≤ length t) (sym c.run_len-taken.ensures) (run_of_le stays t) in
    sym (length-take-le c.run_len-taken.result t within)

pub returns : goal.returns
returns c =
    let t = c.args.text.now in
    let r = c.from_utf8_unchecked-run.result in
    let n = c.run_len-taken.ensures in
    subst (λ k. IsPrefix t (Run r) k) (sym n)
    (prefix_run t r c.requires.0 c.requires.1 (c.from_utf8_unchecked-run.ensures ∙ ap (λ k. take k t) n))

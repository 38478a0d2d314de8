use Rattle.iri_grammar.proofs.Common.{◌∙◌, ap, arith, drop, not, sym, ◌==◌, take_rest, ascii_test, RegName, name_len}
use Rattle.iri_grammar.proofs.authorities.PlainAuthorities.{small_run}
use Rattle.iri_grammar.proofs.units.FirstUnits.{run_of_le}
use Rattle.iri_grammar.proofs.authority.name_len.Goals as goal

pub overflow_add-result : goal.overflow_add-result
overflow_add-result c =
    let t = c.args.bytes.now in
    let small = c.small_name_len-small.ensures.len in
    let rest = c.rest_of_name-rest.ensures ∙ (ap name_len (take_rest t c.small_name_len-small.result) ∙ ap (λ n. name_len (drop n t)) small) in
    omega (arith, small, rest, (small_run t).whole, run_of_le (ascii_test RegName) t)

pub returns : goal.returns
returns c =
    let t = c.args.bytes.now in
    let small = c.small_name_len-small.ensures.len in
    let rest = c.rest_of_name-rest.ensures ∙ (ap name_len (take_rest t c.small_name_len-small.result) ∙ ap (λ n. name_len (drop n t)) small) in
    record {
      len = omega (arith, small, rest, (small_run t).whole);
      within = omega (arith, small, rest, (small_run t).whole, run_of_le (ascii_test RegName) t);
      capitals = ap not (ap (λ r. r == 0) rest ∙ sym (small_run t).small);
    }

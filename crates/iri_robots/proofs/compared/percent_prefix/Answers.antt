use Rattle.std.proofs.Common.{sym, ◌∙◌}
use Rattle.iri_robots.proofs.Forms.{prefix_stray, stray_short, stray_first, stray_second}
use Rattle.iri_robots.proofs.compared.percent_prefix.Goals.{then-text-lt3-via-then-text-lt3}
use Rattle.iri_robots.proofs.compared.percent_prefix.Goals.{then-text-lt3-via-else-text-lt3+then-not-is_ascii_hexdigit}
use Rattle.iri_robots.proofs.compared.percent_prefix.Goals.{then-text-lt3-via-else-text-lt3+else-not-is_ascii_hexdigit+then-not-is_ascii_hexdigit-2}
use Rattle.iri_robots.proofs.compared.percent_prefix.Goals as goal

pub returns-then-text-lt3 : goal.returns-then-text-lt3
returns-then-text-lt3 c =
    let t = c.args.text.now in
    let r = c.requires in
    prefix_stray t r.0 r.1 (elim c.then-text-lt3.branch [
      | then-text-lt3-via-then-text-lt3 w ↦ stray_short t w.if-text-lt3.true
      | then-text-lt3-via-else-text-lt3+then-not-is_ascii_hexdigit w ↦ stray_first t (sym w.is_ascii_hexdigit.ensures.value
          ∙ w.if-not-is_ascii_hexdigit.true)
      | then-text-lt3-via-else-text-lt3+else-not-is_ascii_hexdigit+then-not-is_ascii_hexdigit-2 w ↦ stray_second t (sym
          w.is_ascii_hexdigit-else-not-is_ascii_hexdigit.ensures.value ∙ w.if-not-is_ascii_hexdigit-2.true)
    ])

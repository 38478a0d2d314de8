use Rattle.iri_calls.proofs.Common.{None, Some, arith, ◌∙◌, ◌≡◌, ◌+◌, ◌-◌, ◌∷◌, ap, length, take, drop, sym, common_steps, ended}
use Rattle.iri_text.proofs.LinesLemmas.{ended-none}
use Rattle.iri_calls.proofs.LineLemmas.{first-lf, ended-at}
use Rattle.iri_calls.proofs.lines.cut_line.Goals as goal

pub returns-in-Some : goal.returns-in-Some
returns-in-Some c =
    let t = c.args.text.now in let i = c.in-Some.i in
    let f = first-lf t (Some i) c.in-Some.ensures in
    let whole : take (length t - (i + 1)) (drop (i + 1) t) ≡ drop (i + 1) t = grind (arith, common_steps) in
    let after : length (drop (i + 1) t) ≡ length t - (i + 1) = grind (arith, common_steps) in
    let prefix : length (take i t) ≡ i = grind (arith, f.0, common_steps) in (
      ended-at t i f.0 f.1 f.2 ∙ ap (λ l. take i t ∷ ended l) (sym whole),
      omega (arith, f.0, ap length whole, after, prefix),
    )

pub returns-in-None : goal.returns-in-None
returns-in-None c = ended-none (λ line. line) c.args.text.now (first-lf c.args.text.now None c.in-None.ensures)

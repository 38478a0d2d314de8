use Rattle.iri_link.proofs.Common.{◌≡◌, ◌-◌, length, take, drop, sym, ap, ◌∙◌, subst, arith, IsCharBoundary}
use Rattle.std.proofs.Common.{length-append}
use Rattle.std.proofs.Math.Seq.{take-append_seam, drop-append_seam}
use Rattle.std.proofs.lemmas.Str.{IsCharBoundary-at_seam}
use Rattle.iri_link.proofs.plain.cut_plain.Goals as goal

pub split_at-requires : goal.split_at-requires
split_at-requires c =
    let t = c.args.s.now in
    let rest = c.past_plain-rest.result.now in
    let k = c.past_plain-rest.ensures in
    let n : length t - length rest ≡ length k.0 = omega (arith, ap length k.1.whole, length-append k.0 rest) in
    subst (IsCharBoundary t) (sym n) (IsCharBoundary-at_seam t k.0 rest k.1.whole c.past_plain-rest.utf8)

pub returns : goal.returns
returns c =
    let t = c.args.s.now in
    let rest = c.past_plain-rest.result.now in
    let k = c.past_plain-rest.ensures in
    let n : length t - length rest ≡ length k.0 = omega (arith, ap length k.1.whole, length-append k.0 rest) in
    let prefix = c.split_at.ensures.front ∙ (ap (λ i. take i t) n ∙ (ap (take (length k.0)) k.1.whole ∙ take-append_seam k.0 rest)) in
    let back = c.split_at.ensures.back ∙ (ap (λ i. drop i t) n ∙ (ap (drop (length k.0)) k.1.whole ∙ drop-append_seam k.0 rest)) in
    rw (prefix, back) k.1

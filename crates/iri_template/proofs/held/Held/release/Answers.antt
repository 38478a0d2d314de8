use Rattle.std.proofs.Common.{◌≡◌, ◌≤◌, ◌-◌, ◌+◌, ℕ, List, length, take, drop, ap, sym, ◌∙◌, arith, length-drop}
use Rattle.std.proofs.lemmas.List.{drop-take, length-take}
use Rattle.std.proofs.lemmas.List.Edits.{take-paste}
use Rattle.std.specs.List.{copy_within}
use Rattle.iri_template.proofs.held.Held.release.Goals as goal

released : (b : List ℕ) (n l : ℕ) → n ≤ l → l ≤ length b → take (l - n) (copy_within b n l 0) ≡ drop n (take l b)
released b n l h k =
    let all : n + (l - n) ≡ l = omega (arith, h) in
    let z : l - n ≡ 0 + (l - n) = omega arith in
    ap (λ m. take m (copy_within b n l 0)) z ∙ take-paste b 0 (drop n b) (l - n) (omega arith) (omega (arith, length-drop n b, h, k)) ∙ sym (drop-take n (l - n) b)
    ∙ ap (λ m. drop n (take m b)) all

pub returns : goal.returns
returns c =
    let b = c.self.inside.buf in
    let l = c.self.inside.len in
    let is : length (take l b) ≡ length c.args.self.now = ap length c.self.view_is in
    let within : c.args.len ≤ l = omega (arith, c.requires, is, length-take l b) in
    ap (take (l - c.args.len)) c.copy_within.ensures.after ∙ released b c.args.len l within (omega (arith, c.self.invariant.0, c.copy_within.ensures.len))
    ∙ ap (drop c.args.len) c.self.view_is

use Rattle.iri_normal.proofs.Common.{◌≡◌, ◌∙◌, false, length, take, sym, subst, ap, arith, common_steps, IsUtf8, IsCharBoundary, Fits}
use Rattle.iri_normal.proofs.Common.{split_of, parts, now_of, split_text, prefix_in}
use Rattle.iri_normal.proofs.normal_forms.Prefixes.{cut-inside, cut-directory, cut-boundary, prefix-parts}
use Rattle.iri_normal.proofs.prefix.cut_prefix.Goals as goal

pub prefix_len-len-requires : goal.prefix_len-len-requires
prefix_len-len-requires g c =
    let t = split_text c.args.text.now in
    let whole = prefix-parts g.S.Spec.tests (now_of c.scheme.result) (now_of c.authority.result) (parts c.parts-parts.result.now)
    (split_of t) c.scheme.ensures c.authority.ensures c.parts-parts.ensures.split in
    let same : c.as_str-whole.result.now ≡ t = c.as_str-whole.ensures.text ∙ c.view.ensures in
    omega (arith, ap length whole, cut-inside g.S.Spec.tests t, ap length same, c.as_str-whole.type_inv.0)

pub range-requires-clause-end_boundary : goal.range-requires-clause-end_boundary
range-requires-clause-end_boundary g c =
    let s = g.S.Spec.tests in
    let t = split_text c.args.text.now in
    let whole = prefix-parts s (now_of c.scheme.result) (now_of c.authority.result) (parts c.parts-parts.result.now)
    (split_of t) c.scheme.ensures c.authority.ensures c.parts-parts.ensures.split in
    let same : c.as_str-whole.result.now ≡ t = c.as_str-whole.ensures.text ∙ c.view.ensures in
    let n : c.prefix_len-len.result ≡ length (prefix_in s false (split_of t)) = c.prefix_len-len.ensures ∙ ap length whole in
    subst (λ x. IsCharBoundary x c.prefix_len-len.result) (sym same)
    (subst (IsCharBoundary t) (sym n) (cut-boundary s t g.met.S.Spec.lawful
    (subst (Fits s) c.parts-parts.ensures.split c.parts-parts.ensures.fits) (subst IsUtf8 same c.as_str-whole.utf8)))

pub range_from-requires : goal.range_from-requires
range_from-requires g c _ =
    let s = g.S.Spec.tests in
    let t = split_text c.args.text.now in
    let whole = prefix-parts s (now_of c.scheme.result) (now_of c.authority.result) (parts c.parts-parts.result.now)
    (split_of t) c.scheme.ensures c.authority.ensures c.parts-parts.ensures.split in
    let same : c.as_str-whole.result.now ≡ t = c.as_str-whole.ensures.text ∙ c.view.ensures in
    let n : c.prefix_len-len.result ≡ length (prefix_in s false (split_of t)) = c.prefix_len-len.ensures ∙ ap length whole in
    subst (λ x. IsCharBoundary x c.prefix_len-len.result) (sym same)
    (subst (IsCharBoundary t) (sym n) (cut-boundary s t g.met.S.Spec.lawful
    (subst (Fits s) c.parts-parts.ensures.split c.parts-parts.ensures.fits) (subst IsUtf8 same c.as_str-whole.utf8)))

pub returns-clause-prefix : goal.returns-clause-prefix
returns-clause-prefix g c =
    let s = g.S.Spec.tests in
    let t = split_text c.args.text.now in
    let whole = prefix-parts s (now_of c.scheme.result) (now_of c.authority.result) (parts c.parts-parts.result.now)
    (split_of t) c.scheme.ensures c.authority.ensures c.parts-parts.ensures.split in
    let same : c.as_str-whole.result.now ≡ t = c.as_str-whole.ensures.text ∙ c.view.ensures in
    let n : c.prefix_len-len.result ≡ length (prefix_in s false (split_of t)) = c.prefix_len-len.ensures ∙ ap length whole in
    let cut : c.range.result.now ≡ take c.prefix_len-len.result c.as_str-whole.result.now = grind (arith, common_steps) in
    cut ∙ (ap (take c.prefix_len-len.result) same ∙ (ap (λ k. take k t) n ∙ cut-directory s t))

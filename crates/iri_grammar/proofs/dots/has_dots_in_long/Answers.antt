use Rattle.iri_grammar.proofs.Common.{◌≡◌, ◌+◌, ◌-◌, ◌∙◌, ap, arith, drop, inl, inr, length, sym, take, cases_eq, cases_lt, length-drop}
use Rattle.iri_grammar.proofs.Common.{take_all, has_slash_and_dot, slash_and_dot}
use Rattle.iri_grammar.proofs.splits.DotPlaces.{none-onward, none-passed}
use Rattle.iri_grammar.proofs.dots.has_dots_in_long.Goals as goal

pub places-preserved : goal.places-preserved
places-preserved c =
    let i = c.places.invariant in
    let t = c.args.path.now in
    let at = c.places.i - 1 + c.plain_len.result in
    let all : take (length t - at) (drop at t) ≡ drop at t = take_all (length t - at) (drop at t) (omega (arith, length-drop at t)) in
    record {
      low = omega arith;
      last = i.last;
      none = λ k l. elim (cases_eq k at) [
        | inl same ↦
            ap (λ n. slash_and_dot (drop n t)) same
            ∙ (ap slash_and_dot (sym all) ∙ (sym c.begins_slash_and_dot.ensures ∙ c.if-begins_slash_and_dot.false))
        | inr other ↦ none-passed t c.places.i c.plain_len.result i.low i.none c.plain_len.ensures.plain k (omega (arith, l, other))
      ];
    }

pub returns : goal.returns
returns c h k l =
    let i = c.places.invariant in
    let t = c.args.path.now in
    let last = length t - 16 in
    let at = last - 1 + c.plain_len-2.result in
    let all : take (length t - at) (drop at t) ≡ drop at t = take_all (length t - at) (drop at t) (omega (arith, length-drop at t)) in
    elim (cases_lt k at) [
      | inl lt ↦ none-passed t last c.plain_len-2.result (omega arith) (λ k l. i.none k (omega arith)) c.plain_len-2.ensures.plain k lt
      | inr ge ↦ none-onward t at k (ap has_slash_and_dot (sym all) ∙ (sym c.has_dots_in_short.ensures ∙ h)) ge (omega (arith, l))
    ]

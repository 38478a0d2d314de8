use Rattle.std.proofs.Common.{◌≡◌, ℕ, suc, ◌+◌, ◌-◌, ◌<◌, ◌/◌, ◌%◌, List, ◌∷◌, ◌++◌, [], ap, arith, sym, ◌∙◌, append_assoc}
use Rattle.iri_cli.specs.generator.References.{gen_segment, more_segments}
use Rattle.iri_cli.proofs.generator.push_segments.Goals as goal

more_step : (count i number : ℕ) → i < count → more_segments (count - i) number
    ≡ 47 ∷ (gen_segment (number % 16) ++ more_segments (count - (i + 1)) (number / 16))
more_step count i number h = let e : count - i ≡ suc (count - (i + 1)) = omega arith in ap (λ (n : ℕ). more_segments n number) e

-- one segment more
more_written : (text mid after piece whole : List ℕ) (count i number : ℕ) → i < count → mid ≡ text ++ 47 ∷ [] → after ≡ mid ++ piece
    → piece ≡ gen_segment (number % 16) → text ++ more_segments (count - i) number ≡ whole
    → after ++ more_segments (count - (i + 1)) (number / 16) ≡ whole
more_written text mid after piece whole count i number h m a p is =
    ap (λ (t : List ℕ). t ++ more_segments (count - (i + 1)) (number / 16))
    (a ∙ ap (λ (t : List ℕ). t ++ piece) m ∙ ap (λ (t : List ℕ). (text ++ 47 ∷ []) ++ t) p)
    ∙ append_assoc (text ++ 47 ∷ []) (gen_segment (number % 16)) (more_segments (count - (i + 1)) (number / 16))
    ∙ append_assoc text (47 ∷ []) (gen_segment (number % 16) ++ more_segments (count - (i + 1)) (number / 16))
    ∙ ap (λ (t : List ℕ). text ++ t) (sym (more_step count i number h)) ∙ is

pub loop-i-preserved : goal.loop-i-preserved
loop-i-preserved c =
    more_written _ _ _ _ _ _ _ _ c.loop-i-test.true c.in_ok-push_str.ensures.bytes c.in_ok-push_str-2.ensures.bytes c.segment.ensures c.loop-i.invariant

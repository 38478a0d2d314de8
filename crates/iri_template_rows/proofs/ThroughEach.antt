-- How a loop writes the texts of things one by one, with those that are left.
use Rattle.std.proofs.Common.{◌≡◌, ℕ, List, [], ◌∷◌, ◌++◌, ◌∙◌, ap, sym, subst, refl, append_assoc, append-nil, Result, Ok, Err, IsErr}
use Rattle.iri_text.specs.Shown.{AreSinkLaws, Shows}
use Rattle.iri_text.proofs.Compose.{HasShown, shown_none, shown_more, shown_exit, shows_all}
use Rattle.iri_text.specs.declared.shown.show.Stop.{Stop}
use Rattle.iri_text.specs.inside.Through.{texts}
use Rattle.iri_text.specs.inside.Through.{after}
use Rattle.iri_text.proofs.ThroughLaws.{texts-one, after-append, texts-append}

-- the texts of what is before the rest went in, and this is the state after them
pub record HasPutUpTo {X S W : Type 0} (step : S → X → S) (text : S → X → List ℕ) (puts : W → List ℕ → W → Type 0) (stops : W → ℕ)
    (first : S) (all : List X) (old : W) (now : S) (rest : List X) (new : W) : Type 0 where
  pub before : List ℕ
  pub put : HasShown puts stops old before new
  pub split : texts step text first all ≡ before ++ texts step text now rest
  pub goes_on : after step text first all ≡ after step text now rest

module _ {X S W : Type 0} {step : S → X → S} {text : S → X → List ℕ} {puts halts : W → List ℕ → W → Type 0} {stops : W → ℕ}
    (laws : AreSinkLaws puts halts) {first : S} {all : List X} where
  pub up_to_none : (a : W) → HasPutUpTo step text puts stops first all a first all a
  up_to_none a = record { before = []; put = shown_none laws a; split = refl; goes_on = refl }

  -- some of them
  pub up_to_some : {a b c : W} {s n : S} {rest left : List X} {y : Unit {0}} (xs : List X) → rest ≡ xs ++ left → n ≡ after step text s xs
      → HasPutUpTo step text puts stops first all a s rest b → Shows puts halts stops b (texts step text s xs) c (Ok y)
      → HasPutUpTo step text puts stops first all a n left c
  up_to_some {a = a} {c = c} {s = s} {left = left} xs is then p q =
      subst (λ m. HasPutUpTo step text puts stops first all a m left c) (sym then) (record {
        before = p.before ++ texts step text s xs;
        put = shown_more laws p.put q;
        split = p.split ∙ ap (λ l. p.before ++ texts step text s l) is ∙ ap (λ l. p.before ++ l) (texts-append step text s xs left)
            ∙ sym (append_assoc p.before (texts step text s xs) (texts step text (after step text s xs) left));
        goes_on = p.goes_on ∙ ap (λ l. after step text s l) is ∙ after-append step text s xs left;
      })

  pub up_to_stop : {a b c : W} {s : S} {rest : List X} {e : Stop} {r : Result (Unit {0}) Stop} (xs left : List X) → rest ≡ xs ++ left → IsErr r
      → HasPutUpTo step text puts stops first all a s rest b → Shows puts halts stops b (texts step text s xs) c (Err e)
      → Shows puts halts stops a (texts step text first all) c r
  up_to_stop {a = a} {c = c} {s = s} {r = r} xs left is err p q =
      subst (λ l. Shows puts halts stops a l c r)
      (append_assoc p.before (texts step text s xs) (texts step text (after step text s xs) left)
      ∙ sym (p.split ∙ ap (λ l. p.before ++ texts step text s l) is ∙ ap (λ l. p.before ++ l) (texts-append step text s xs left)))
      (shown_exit laws (texts step text (after step text s xs) left) err p.put q)

  -- one
  pub up_to_more : {a b c : W} {s n : S} {rest left : List X} {y : Unit {0}} (x : X) → rest ≡ x ∷ left → n ≡ step s x
      → HasPutUpTo step text puts stops first all a s rest b → Shows puts halts stops b (text s x) c (Ok y)
      → HasPutUpTo step text puts stops first all a n left c
  up_to_more {b = b} {c = c} {s = s} {rest = rest} {left = left} {y = y} x is then p q =
      up_to_some {rest = rest} {left = left} {y = y} (x ∷ []) is then p (subst (λ l. Shows puts halts stops b l c (Ok y)) (sym (texts-one step text s x)) q)

  pub up_to_exit : {a b c : W} {s : S} {rest left : List X} {e : Stop} {r : Result (Unit {0}) Stop} (x : X) → rest ≡ x ∷ left → IsErr r
      → HasPutUpTo step text puts stops first all a s rest b → Shows puts halts stops b (text s x) c (Err e)
      → Shows puts halts stops a (texts step text first all) c r
  up_to_exit {b = b} {c = c} {s = s} {rest = rest} {left = left} {e = e} {r = r} x is err p q =
      up_to_stop {rest = rest} {e = e} {r = r} (x ∷ []) left is err p (subst (λ l. Shows puts halts stops b l c (Err e)) (sym (texts-one step text s x)) q)

  -- nothing is written for the rest
  pub up_to_last : {a b : W} {s : S} {rest : List X} → texts step text s rest ≡ [] → HasPutUpTo step text puts stops first all a s rest b
      → Shows puts halts stops a (texts step text first all) b (Ok tt)
  up_to_last {a = a} {b = b} none p =
      subst (λ l. Shows puts halts stops a l b (Ok tt))
      (sym (append-nil p.before) ∙ ap (λ l. p.before ++ l) (sym none) ∙ sym p.split) (shows_all p.put)

  pub up_to_end : {a b : W} {s : S} {rest : List X} → rest ≡ [] → HasPutUpTo step text puts stops first all a s rest b
      → Shows puts halts stops a (texts step text first all) b (Ok tt)
  up_to_end {s = s} {rest = rest} is p = up_to_last {s = s} {rest = rest} (ap (λ l. texts step text s l) is) p

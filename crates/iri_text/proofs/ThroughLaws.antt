-- What writes a text for each thing through to a sink obeys the laws of sinks, where that sink does.
use Rattle.iri_text.proofs.Common.{◌≡◌, ℕ, List, [], ◌∷◌, ◌++◌, refl, sym, ◌∙◌, ap, subst, append_assoc, append-nil, AreSinkLaws}
use Rattle.iri_text.specs.inside.Through.{after, texts, ThroughPuts, ThroughHalts}

module _ {X S : Type 0} (step : S → X → S) (text : S → X → List ℕ) where
  pub texts-one : (s : S) (x : X) → texts step text s (x ∷ []) ≡ text s x
  texts-one s x = append-nil (text s x)

  pub after-append : (s : S) (xs ys : List X) → after step text s (xs ++ ys) ≡ after step text (after step text s xs) ys
  after-append s [] ys = refl
  after-append s (x ∷ xs) ys = after-append (step s x) xs ys

  pub texts-append : (s : S) (xs ys : List X) → texts step text s (xs ++ ys)
      ≡ texts step text s xs ++ texts step text (after step text s xs) ys
  texts-append s [] ys = refl
  texts-append s (x ∷ xs) ys =
      ap (λ l. text s x ++ l) (texts-append (step s x) xs ys)
      ∙ sym (append_assoc (text s x) (texts step text (step s x) xs) (texts step text (after step text (step s x) xs) ys))

module _ {X S V W N : Type 0} (step : S → X → S) (text : S → X → List ℕ) (state : V → S) (to : V → W)
    (name : V → N) {puts halts : W → List ℕ → W → Type 0} (laws : AreSinkLaws puts halts) where
  texts-from : (a b : V) (t : List X) → state b ≡ after step text (state a) t → (u : List X)
      → texts step text (state a) t ++ texts step text (state b) u ≡ texts step text (state a) (t ++ u)
  texts-from a b t e u = ap (λ s. texts step text (state a) t ++ texts step text s u) e ∙ sym (texts-append step text (state a) t u)

  pub through_laws : AreSinkLaws (ThroughPuts step text state to name puts) (ThroughHalts step text state to name halts)
  through_laws = record {
    none = λ a. record { same = refl; goes_on = refl; put = laws.none (to a) };
    both = λ a b c t u p q. record {
      same = q.same ∙ p.same;
      goes_on = q.goes_on ∙ ap (λ s. after step text s u) p.goes_on ∙ sym (after-append step text (state a) t u);
      put = subst (λ l. puts (to a) l (to c)) (texts-from a b t p.goes_on u) (laws.both (to a) (to b) (to c) _ _ p.put q.put);
    };
    until = λ a b c t u p h. record {
      same = h.same ∙ p.same;
      halt = subst (λ l. halts (to a) l (to c)) (texts-from a b t p.goes_on u) (laws.until (to a) (to b) (to c) _ _ p.put h.halt);
    };
    within = λ a b t u h. record {
      same = h.same;
      halt = subst (λ l. halts (to a) l (to b)) (sym (texts-append step text (state a) t u))
          (laws.within (to a) (to b) _ (texts step text (after step text (state a) t) u) h.halt);
    };
  }

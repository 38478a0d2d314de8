-- What is shown, by an equal text.
use Rattle.iri_normal.proofs.Common.{◌≡◌, ℕ, List, Result, subst, Shows}
use Rattle.iri_text.specs.declared.shown.show.Stop.{Stop}

pub shows_same : {A W : Type 0} {puts halts : W → List A → W → Type 0} {stops : W → ℕ} {a b : W} {t u : List A}
    {r : Result (Unit {0}) Stop} → t ≡ u → Shows puts halts stops a t b r → Shows puts halts stops a u b r
shows_same {puts = puts} {halts = halts} {stops = stops} {a = a} {b = b} {r = r} e p = subst (λ x. Shows puts halts stops a x b r) e p

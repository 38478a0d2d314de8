-- Things that go into a sink one after the other: some have, and the rest follows.
use Rattle.iri_resolve.proofs.Common.{◌≡◌, ℕ, List, [], ◌++◌, refl, sym, ◌∙◌, ap, subst, append_assoc, Shows}
use Rattle.iri_resolve.specs.StepSinks.{done}
use Rattle.iri_text.proofs.Compose.{HasShown, shown_exit, shown_more, shown_none, shows_all}
use Rattle.iri_text.specs.Shown.{AreSinkLaws}
use Rattle.iri_text.specs.declared.shown.show.Stop.{Stop}
use Rattle.std.proofs.Common.{append-nil, Result, Ok, Err, IsErr}

-- a result without its value is an error where the result is
pub done-err : {A : Type 0} (r : Result A Stop) → IsErr r → IsErr (done r)
done-err (Ok x) h = h
done-err (Err e) h = h

-- all but the rest has gone in
pub record Going {A W : Type 0} (puts : W → List A → W → Type 0) (stops : W → ℕ) (old : W) (all rest : List A) (new : W) : Type 0 where
  pub gone : List A
  pub shown : HasShown puts stops old gone new
  pub left : gone ++ rest ≡ all

module _ {A W : Type 0} {puts halts : W → List A → W → Type 0} {stops : W → ℕ} (laws : AreSinkLaws puts halts) where
  pub going : (a : W) (all : List A) → Going puts stops a all all a
  going a all = record { gone = []; shown = shown_none laws a; left = refl }

  pub going_on : {a b c : W} {all : List A} {x : Unit {0}} (rest t u : List A) → rest ≡ t ++ u → Going puts stops a all rest b
      → Shows puts halts stops b t c (Ok x) → Going puts stops a all u c
  going_on rest t u e p q = record {
    gone = p.gone ++ t;
    shown = shown_more laws p.shown q;
    left = append_assoc p.gone t u ∙ ap (λ z. p.gone ++ z) (sym e) ∙ p.left;
  }

  pub gone_wrong : {a b c : W} {all : List A} {e : Stop} {r : Result (Unit {0}) Stop} (rest t u : List A) → rest ≡ t ++ u → IsErr r
      → Going puts stops a all rest b → Shows puts halts stops b t c (Err e) → Shows puts halts stops a all c r
  gone_wrong {a = a} {c = c} {r = r} rest t u e is p q = subst (λ z. Shows puts halts stops a z c r)
      (append_assoc p.gone t u ∙ ap (λ z. p.gone ++ z) (sym e) ∙ p.left) (shown_exit laws u is p.shown q)

  pub all_gone : {a b : W} {all : List A} {x : Unit {0}} (rest : List A) → rest ≡ [] → Going puts stops a all rest b
      → Shows puts halts stops a all b (Ok x)
  all_gone {a = a} {b = b} {x = x} rest e p = subst (λ z. Shows puts halts stops a z b (Ok x))
      (sym (append-nil p.gone) ∙ ap (λ z. p.gone ++ z) (sym e) ∙ p.left) (shows_all p.shown)

-- How calls that put texts into one sink compose: what the proof of a `show` of several puts cites.
use Rattle.iri_text.proofs.Common.{◌≡◌, ◌≤◌, ◌<◌, ℕ, zero, suc, List, [], ◌∷◌, ◌++◌, length, get_or, take, drop, ◌∙◌, ap, arith}
use Rattle.iri_text.proofs.Common.{append_assoc, Result, Ok, Err, IsErr, AreSinkLaws, Shows}
use Rattle.std.specs.List.{flat_map}
use Rattle.iri_text.specs.declared.shown.show.Stop.{Stop}

-- The whole text went in: what a loop of puts keeps true of what it has put so far.
pub record HasShown {A W : Type 0} (puts : W → List A → W → Type 0) (stops : W → ℕ) (old : W) (t : List A) (new : W) : Type 0 where
  pub appended : puts old t new
  pub later : stops old ≤ stops new

module _ {A W : Type 0} {puts halts : W → List A → W → Type 0} {stops : W → ℕ} (laws : AreSinkLaws puts halts) where
  -- a text went in, and a call with another followed
  pub shows_then : {a b c : W} {t u : List A} {x : Unit {0}} {r : Result (Unit {0}) Stop} → Shows puts halts stops a t b (Ok x)
      → Shows puts halts stops b u c r → Shows puts halts stops a (t ++ u) c r
  shows_then {r = Ok y} p q = record {
    appends = laws.both _ _ _ _ _ p.appends q.appends;
    stops_within = tt;
    rose = tt;
    later = omega (arith, p.later, q.later);
  }
  shows_then {r = Err e} p q = record {
    appends = tt;
    stops_within = laws.until _ _ _ _ _ p.appends q.stops_within;
    rose = omega (arith, p.later, q.rose);
    later = omega (arith, p.later, q.later);
  }

  -- a stop within the first of two texts is one within both, at the exit of a `?` too
  pub shows_exit : {a b : W} {t : List A} {e : Stop} {r : Result (Unit {0}) Stop} (u : List A) → IsErr r
      → Shows puts halts stops a t b (Err e) → Shows puts halts stops a (t ++ u) b r
  shows_exit {r = Ok y} u is q = absurd (cc is)
  shows_exit {r = Err d} u is q = record { appends = tt; stops_within = laws.within _ _ _ u q.stops_within; rose = q.rose; later = q.later }

  -- nothing was put yet
  pub shown_none : (a : W) → HasShown puts stops a [] a
  shown_none a = record { appended = laws.none a; later = omega arith }

  -- a text went in, and another
  pub shown_more : {a b c : W} {t u : List A} {x : Unit {0}} → HasShown puts stops a t b → Shows puts halts stops b u c (Ok x)
      → HasShown puts stops a (t ++ u) c
  shown_more p q = record { appended = laws.both _ _ _ _ _ p.appended q.appends; later = omega (arith, p.later, q.later) }

  -- a text went in, and a call with another followed
  pub shown_then : {a b c : W} {t u : List A} {r : Result (Unit {0}) Stop} → HasShown puts stops a t b → Shows puts halts stops b u c r
      → Shows puts halts stops a (t ++ u) c r
  shown_then {r = Ok y} p q = record {
    appends = laws.both _ _ _ _ _ p.appended q.appends;
    stops_within = tt;
    rose = tt;
    later = omega (arith, p.later, q.later);
  }
  shown_then {r = Err e} p q = record {
    appends = tt;
    stops_within = laws.until _ _ _ _ _ p.appended q.stops_within;
    rose = omega (arith, p.later, q.rose);
    later = omega (arith, p.later, q.later);
  }

module _ {A W : Type 0} {puts halts : W → List A → W → Type 0} {stops : W → ℕ} (laws : AreSinkLaws puts halts) where
  -- a text went in, and a stop came in the next one, with a rest that was not reached
  pub shown_exit : {a b c : W} {t u : List A} {e : Stop} {r : Result (Unit {0}) Stop} (rest : List A) → IsErr r → HasShown puts stops a t b
      → Shows puts halts stops b u c (Err e) → Shows puts halts stops a ((t ++ u) ++ rest) c r
  shown_exit rest is p q = shows_exit laws rest is (shown_then laws p q)

-- the texts before one, that one, and those after it
pub flat_map_at : {X A : Type 0} (f : X → List A) (xs : List X) (i : ℕ) (x d : X) → i < length xs → x ≡ get_or xs i d
    → (flat_map f (take i xs) ++ f x) ++ flat_map f (drop (suc i) xs) ≡ flat_map f xs
flat_map_at f [] i x d h is = absurd (omega arith)
flat_map_at f (y ∷ ys) zero x d h is = ap (λ z. f z ++ flat_map f ys) is
flat_map_at f (y ∷ ys) (suc i) x d h is =
    ap (λ l. l ++ flat_map f (drop (suc i) ys)) (append_assoc (f y) (flat_map f (take i ys)) (f x))
    ∙ append_assoc (f y) (flat_map f (take i ys) ++ f x) (flat_map f (drop (suc i) ys))
    ∙ ap (λ l. f y ++ l) (flat_map_at f ys i x d (omega arith) is)

-- all that was to be put went in
pub shows_all : {A W : Type 0} {puts halts : W → List A → W → Type 0} {stops : W → ℕ} {a b : W} {t : List A} {x : Unit {0}}
    → HasShown puts stops a t b → Shows puts halts stops a t b (Ok x)
shows_all p = record { appends = p.appended; stops_within = tt; rose = tt; later = p.later }

-- A walk over varspecs, where values may change: the portions of those that are left.
use Rattle.iri_template.proofs.Common.{◌≡◌, ℕ, ◌+◌, ◌*◌, Bool, true, false, cond, ◌||◌, List, [], ◌∷◌, Option, None, Some, length}
use Rattle.iri_template.proofs.Common.{refl, sym, subst, arith, Ok, Err, Tests, AreSinkLaws}
use Rattle.iri_template.proofs.Common.{row_of, value_texts, fault, has_some, Portion, varspec_portions}
use Rattle.iri_template.proofs.Common.{portions_fault, calls_in, varspec_text, Telling, later, WhereTold, MovesBy, is_mistyped, VarSpec}
use Rattle.iri_template.proofs.Common.{EndsAs, CallsUpTo, Error, UnexpectedValueType, Operator, Typecheck, Expand}
use Rattle.iri_template.specs.VarSpecs.{Placed}
use Rattle.iri_template.specs.Places.{placed_varspecs}
use Rattle.iri_template.specs.Portions.{varspec_portion}
use Rattle.iri_template.proofs.PortionWalk.{HasEnded, ended_none, ended_more, ended_exit, ended_calls, ended_end, BothTold, moved_on}

pub as_many : (at : ℕ) (vs : List VarSpec) → length (placed_varspecs at vs) ≡ length vs
as_many at [] = refl
as_many at (v ∷ vs) = let e = as_many (at + length (varspec_text v) + 1) vs in omega (arith, e)

-- ---- the calls that varspecs take
-- one that isn't mistyped takes two, and then the others are fine
one_more : (at : ℕ) (m n : Bool) (others : Option Error) → cond (m || n) (fault UnexpectedValueType at) others ≡ None → (cond m 1 2 + 0 ≡ 2) × (others ≡ None)
one_more at true n others h = cc
one_more at false true others h = cc
one_more at false false others h = (refl, h)

pub calls_of_all : (s : Tests) (operator : Operator) (h : Telling) (written : Bool) (ps : List Placed)
    → portions_fault (varspec_portions s operator h written ps) ≡ None → calls_in (varspec_portions s operator h written ps) ≡ 2 * length ps
calls_of_all s operator h written [] e = refl
calls_of_all s operator h written (p ∷ ps) e =
    let now = written || has_some (value_texts s (row_of operator) p.name p.modifier (h 1 p.name Expand)) in
    let k = one_more p.location (is_mistyped p.modifier (h 0 p.name Typecheck)) (is_mistyped p.modifier (h 1 p.name Expand))
    (portions_fault (varspec_portions s operator (later 2 h) now ps)) e in
    omega (arith, k.0, calls_of_all s operator (later 2 h) now ps k.1)

module _ (s : Tests) (operator : Operator) where
  -- what a varspec writes for the value of its second visit
  abbrev pub told_at : Placed → Telling → List (List ℕ)
  told_at p f = value_texts s (row_of operator) p.name p.modifier (f 1 p.name Expand)

  -- its portion
  abbrev pub portion_of : Bool → Placed → Telling → Portion
  portion_of written p f = varspec_portion s operator p.location written p.name p.modifier (is_mistyped p.modifier (f 0 p.name Typecheck))
      (f 1 p.name Expand)

  module _ {W : Type 0} (puts halts : W → List ℕ → W → Type 0) (laws : AreSinkLaws puts halts) (all : List Placed) (a : W) where
    -- all portions, and those that are left
    abbrev whole : Telling → List Portion
    whole f = varspec_portions s operator f false all

    abbrev pub WrittenUpTo : Bool → List Placed → W → Telling → Telling → Type 0
    WrittenUpTo written left b f h = HasEnded puts (whole f) a (varspec_portions s operator h written left) b f h

    pub up_to_none : (t : Option Telling) → BothTold t t (WrittenUpTo false all a)
    up_to_none None = tt
    up_to_none (Some f) = ended_none puts halts laws (whole f) a f

    pub up_to_end : (now : Bool) (b : W) (y : Unit {0}) (u w : Option Telling) → BothTold u w (WrittenUpTo now [] b)
        → WhereTold u (λ f. EndsAs puts halts (whole f) a b (Ok y))
    up_to_end now b y None w p = tt
    up_to_end now b y (Some f) None p = absurd p
    up_to_end now b y (Some f) (Some h) p = ended_end puts halts laws (whole f) a b y f h p

    -- the next varspec, which is the first of those that are left
    module _ (written : Bool) (left : List Placed) (v : Placed) (others : List Placed) (first : left ≡ v ∷ others) (b c : W) where
      abbrev rest_of : Telling → List Portion
      rest_of h = varspec_portions s operator (later 2 h) (written || has_some (told_at v h)) others

      parted : (f h : Telling) → WrittenUpTo written left b f h → HasEnded puts (whole f) a (portion_of written v h ∷ rest_of h) b f h
      parted f h p = subst (λ l. HasEnded puts (whole f) a (varspec_portions s operator h written l) b f h) first p

      -- it was written
      pub up_to_more : (now : Bool) (x : Unit {0}) (u w z : Option Telling)
          → BothTold u w (WrittenUpTo written left b) → MovesBy 2 w z → WhereTold w (λ h. now ≡ (written || has_some (told_at v h)))
          → WhereTold w (λ h. EndsAs puts halts (portion_of written v h ∷ []) b c (Ok x)) → BothTold u z (WrittenUpTo now others c)
      up_to_more now x None w z p m is q = tt
      up_to_more now x (Some f) None z p m is q = absurd p
      up_to_more now x (Some f) (Some h) None p m is q = absurd m
      up_to_more now x (Some f) (Some h) (Some k) p m is q =
          subst (λ (n : Bool). HasEnded puts (whole f) a (varspec_portions s operator k n others) c f k) (sym is)
          (subst (λ (l : Telling). HasEnded puts (whole f) a (varspec_portions s operator l (written || has_some (told_at v h)) others) c f k)
          (sym (moved_on 2 h k m))
          (ended_more puts halts laws (whole f) (portion_of written v h ∷ []) (rest_of h) a b c x f h k
          (subst (λ n. MovesBy n (Some h) (Some k)) (sym (one_more v.location (is_mistyped v.modifier (h 0 v.name Typecheck))
          (is_mistyped v.modifier (h 1 v.name Expand)) None q.0).0) m) (parted f h p) q))

      pub up_to_refused : (error : Error) → error.location ≡ v.location → (u w z : Option Telling) → BothTold u w (WrittenUpTo written left b)
          → WhereTold w (λ h. EndsAs puts halts (portion_of written v h ∷ []) b c (Err error))
          → WhereTold w (λ h. MovesBy (portion_of written v h).calls w z)
          → WhereTold u (λ f. EndsAs puts halts (whole f) a c (Err error)) × WhereTold u (λ f. CallsUpTo (whole f) error.location 0 u z)
      up_to_refused error is None w z p q m = (tt, tt)
      up_to_refused error is (Some f) None z p q m = absurd p
      up_to_refused error is (Some f) (Some h) z p q m =
          let one = (portion_of written v h).calls in
          let n : one ≡ 0 + one + 0 = omega arith in
          let o = parted f h p in (
            ended_exit puts halts laws (whole f) (portion_of written v h ∷ []) (rest_of h) a b c f h error o q,
            ended_calls puts halts laws (whole f) (portion_of written v h ∷ []) (rest_of h) a b f h error.location z o (record {
              prefix = [];
              here = portion_of written v h;
              rest = [];
              split = refl;
              fine = refl;
              location = sym is;
              moves = subst (λ k. MovesBy k (Some h) z) n m;
            }),
          )

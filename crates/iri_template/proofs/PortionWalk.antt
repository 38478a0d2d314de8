-- How the writing of portions goes on: the calls of the context, lists of portions one after the other, and what is still to be written.
use Rattle.iri_template.proofs.Common.{◌≡◌, ℕ, ◌+◌, ◌*◌, true, false, cond, List, [], ◌∷◌, ◌++◌, Option, None, Some, refl, sym, ◌∙◌, ap}
use Rattle.iri_template.proofs.Common.{subst, arith, append_assoc, append-nil, Result, Ok, Err, AreSinkLaws, fault, Portion, portions_fault}
use Rattle.iri_template.proofs.Common.{portions_text, calls_in, Telling, later, WhereTold, MovesBy, StopsAt, IsRefused, EndsAs, CallsUpTo}
use Rattle.iri_template.proofs.Common.{Error, WriteFailed, ExpressionNotClosed, InvalidCharacter, InvalidExpression, InvalidPercentEncoding}
use Rattle.iri_template.proofs.Common.{InvalidUtf8, UnexpectedValueType, UnsupportedOperator, Memory, first}
use Rattle.std.specs.Prelude.{⊤}
use Rattle.std.proofs.Common.{IfErr}
use Rattle.std.proofs.Math.Path.{fun_ext}
use Rattle.iri_template.specs.declared.error.ErrorKind.{ErrorKind}

-- ---- calls of a context that changes
pub later_none : (f : Telling) → later 0 f ≡ f
later_none f = fun_ext (λ k. let e : 0 + k ≡ k = omega arith in ap f e)

pub moves_none : (t : Option Telling) → MovesBy 0 t t
moves_none None = tt
moves_none (Some f) = λ k name purpose. ap (λ (h : Telling). h k name purpose) (sym (later_none f))

pub moves_more : (n m : ℕ) (t u v : Option Telling) → MovesBy n t u → MovesBy m u v → MovesBy (n + m) t v
moves_more n m None None None p q = tt
moves_more n m None None (Some h) p q = absurd q
moves_more n m None (Some g) v p q = absurd p
moves_more n m (Some f) None v p q = absurd p
moves_more n m (Some f) (Some g) None p q = absurd q
moves_more n m (Some f) (Some g) (Some h) p q = λ k name purpose.
    q k name purpose ∙ p (m + k) name purpose ∙ (let e : n + (m + k) ≡ n + m + k = omega arith in ap (λ j. f j name purpose) e)

-- the same telling, moved on
pub moved_on : (n : ℕ) (f g : Telling) → MovesBy n (Some f) (Some g) → g ≡ later n f
moved_on n f g p = fun_ext (λ k. fun_ext (λ name. fun_ext (λ purpose. p k name purpose)))

-- this holds of what is told at two times, where a context tells it
abbrev pub BothTold : Option Telling → Option Telling → (Telling → Telling → Type 0) → Type 0
BothTold None u P = ⊤
BothTold (Some f) None P = ⊥
BothTold (Some f) (Some g) P = P f g

-- so many calls were made that with two for each that is left they are two for each of all
pub record HasMoved (t : Option Telling) (all : ℕ) (u : Option Telling) (left : ℕ) : Type 0 where
  pub calls : ℕ
  pub moves : MovesBy calls t u
  pub sum : calls + 2 * left ≡ 2 * all

pub moved_none : (t : Option Telling) (all : ℕ) → HasMoved t all t all
moved_none t all = record { calls = 0; moves = moves_none t; sum = omega arith }

pub moved_more : (t u v : Option Telling) (all left rest n : ℕ) → n + 2 * rest ≡ 2 * left → HasMoved t all u left → MovesBy n u v
    → HasMoved t all v rest
moved_more t u v all left rest n e h m = record { calls = h.calls + n; moves = moves_more h.calls n t u v h.moves m; sum = omega (arith, h.sum) }

pub moved_all : (t u : Option Telling) (all : ℕ) → HasMoved t all u 0 → MovesBy (2 * all) t u
moved_all t u all h = let e : h.calls ≡ 2 * all = omega (arith, h.sum) in subst (λ n. MovesBy n t u) e h.moves

-- what holds of what is told after so many calls
pub told_later : (n : ℕ) (t u : Option Telling) (P : Telling → Type 0) → MovesBy n t u → WhereTold u P → WhereTold t (λ f. P (later n f))
told_later n None u P m p = tt
told_later n (Some f) None P m p = absurd m
told_later n (Some f) (Some g) P m p = subst P (moved_on n f g m) p

-- ---- the fault of portions one after the other
pub faults_append : (ps qs : List Portion) → portions_fault (ps ++ qs) ≡ first (portions_fault ps) (portions_fault qs)
faults_append [] qs = refl
faults_append (p ∷ ps) qs =
    elim p.mistyped as (λ b. cond b (fault UnexpectedValueType p.location) (portions_fault (ps ++ qs))
    ≡ first (cond b (fault UnexpectedValueType p.location) (portions_fault ps)) (portions_fault qs)) [
      | true ↦ refl
      | false ↦ faults_append ps qs
    ]

pub fault_after : (ps qs : List Portion) → portions_fault ps ≡ None → portions_fault (ps ++ qs) ≡ portions_fault qs
fault_after ps qs h = faults_append ps qs ∙ ap (λ f. first f (portions_fault qs)) h

pub text_after : (ps qs : List Portion) → portions_fault ps ≡ None → portions_text (ps ++ qs) ≡ portions_text ps ++ portions_text qs
text_after [] qs h = refl
text_after (p ∷ ps) qs h =
    elim p.mistyped as (λ b. cond b (fault UnexpectedValueType p.location) (portions_fault ps) ≡ None
    → cond b [] (p.text ++ portions_text (ps ++ qs)) ≡ cond b [] (p.text ++ portions_text ps) ++ portions_text qs) [
      | true ↦ λ k. cc
      | false ↦ λ k. ap (λ l. p.text ++ l) (text_after ps qs k) ∙ sym (append_assoc p.text (portions_text ps) (portions_text qs))
    ] h

-- ---- before others
pub fault_before : (ps qs : List Portion) (e : Error) → portions_fault ps ≡ Some e → portions_fault (ps ++ qs) ≡ Some e
fault_before ps qs e h = faults_append ps qs ∙ ap (λ f. first f (portions_fault qs)) h

pub text_before : (ps qs : List Portion) (e : Error) → portions_fault ps ≡ Some e → portions_text (ps ++ qs) ≡ portions_text ps
text_before [] qs e h = cc
text_before (p ∷ ps) qs e h =
    elim p.mistyped as (λ b. cond b (fault UnexpectedValueType p.location) (portions_fault ps) ≡ Some e
    → cond b [] (p.text ++ portions_text (ps ++ qs)) ≡ cond b [] (p.text ++ portions_text ps)) [
      | true ↦ λ k. refl
      | false ↦ λ k. ap (λ l. p.text ++ l) (text_before ps qs e k)
    ] h

-- ---- the calls that they take
pub calls_append : (ps qs : List Portion) → calls_in (ps ++ qs) ≡ calls_in ps + calls_in qs
calls_append [] qs = omega arith
calls_append (p ∷ ps) qs = let e = calls_append ps qs in omega (arith, e)

-- ---- what a loop keeps true: the portions before those that are left went in, with the calls that they take
pub record HasEnded {W : Type 0} (puts : W → List ℕ → W → Type 0) (all : List Portion) (old : W) (left : List Portion) (new : W) (f h : Telling)
    : Type 0 where
  pub done : List Portion
  pub split : all ≡ done ++ left
  pub fine : portions_fault done ≡ None
  pub put : puts old (portions_text done) new
  pub moved : MovesBy (calls_in done) (Some f) (Some h)

module _ {W : Type 0} (puts halts : W → List ℕ → W → Type 0) (laws : AreSinkLaws puts halts) where
  pub ended_none : (all : List Portion) (a : W) (f : Telling) → HasEnded puts all a all a f f
  ended_none all a f = record { done = []; split = refl; fine = refl; put = laws.none a; moved = moves_none (Some f) }

  pub ended_more : (all qs left : List Portion) (a b c : W) (x : Unit {0}) (f g k : Telling) → MovesBy (calls_in qs) (Some g) (Some k)
      → HasEnded puts all a (qs ++ left) b f g → EndsAs puts halts qs b c (Ok x) → HasEnded puts all a left c f k
  ended_more all qs left a b c x f g k m h q = record {
    done = h.done ++ qs;
    split = h.split ∙ sym (append_assoc h.done qs left);
    fine = fault_after h.done qs h.fine ∙ q.0;
    put = subst (λ l. puts a l c) (sym (text_after h.done qs h.fine)) (laws.both a b c _ _ h.put q.1);
    moved = subst (λ n. MovesBy n (Some f) (Some k)) (sym (calls_append h.done qs))
        (moves_more (calls_in h.done) (calls_in qs) (Some f) (Some g) (Some k) h.moved m);
  }

  pub ended_end : (all : List Portion) (a b : W) (x : Unit {0}) (f g : Telling) → HasEnded puts all a [] b f g → EndsAs puts halts all a b (Ok x)
  ended_end all a b x f g h =
      let same : h.done ≡ all = sym (append-nil h.done) ∙ sym h.split in
      (ap portions_fault (sym same) ∙ h.fine, subst (λ ps. puts a (portions_text ps) b) same h.put)

  -- a portion among the next ones
  after : (all qs left done prefix rest : List Portion) (here : Portion) → all ≡ done ++ (qs ++ left) → qs ≡ prefix ++ here ∷ rest
      → all ≡ (done ++ prefix) ++ here ∷ (rest ++ left)
  after all qs left done prefix rest here e r = e ∙ ap (λ l. done ++ (l ++ left)) r
      ∙ ap (λ l. done ++ l) (append_assoc prefix (here ∷ rest) left) ∙ sym (append_assoc done prefix (here ∷ (rest ++ left)))

  -- a stop within one of the next portions
  stopped : (all qs left : List Portion) (a b c : W) (f g : Telling) (at : ℕ) → HasEnded puts all a (qs ++ left) b f g
      → StopsAt puts halts qs at b c → StopsAt puts halts all at a c
  stopped all qs left a b c f g at h q =
      let r = q.reached in
      record {
        reached = record {
          prefix = h.done ++ r.prefix;
          here = r.here;
          rest = r.rest ++ left;
          split = after all qs left h.done r.prefix r.rest r.here h.split r.split;
          fine = ap portions_fault (append_assoc h.done r.prefix (r.here ∷ [])) ∙ fault_after h.done (r.prefix ++ r.here ∷ []) h.fine ∙ r.fine;
          location = r.location;
        };
        mid = q.mid;
        put = subst (λ l. puts a l q.mid) (sym (text_after h.done r.prefix h.fine)) (laws.both a b q.mid _ _ h.put q.put);
        halt = q.halt;
      }

  refused : (all qs left : List Portion) (a b c : W) (f g : Telling) (e : Error) (kind : ErrorKind) → HasEnded puts all a (qs ++ left) b f g
      → IsRefused puts halts qs b c e kind → IsRefused puts halts all a c e kind
  refused all qs left a b c f g e UnexpectedValueType h q = (
    ap portions_fault h.split ∙ fault_after h.done (qs ++ left) h.fine ∙ fault_before qs left e q.0,
    subst (λ l. puts a l c) (sym (ap portions_text h.split ∙ text_after h.done (qs ++ left) h.fine
        ∙ ap (λ l. portions_text h.done ++ l) (text_before qs left e q.0))) (laws.both a b c _ _ h.put q.1),
  )
  refused all qs left a b c f g e WriteFailed h q = stopped all qs left a b c f g e.location h q
  refused all qs left a b c f g e ExpressionNotClosed h q = absurd q
  refused all qs left a b c f g e InvalidCharacter h q = absurd q
  refused all qs left a b c f g e InvalidExpression h q = absurd q
  refused all qs left a b c f g e InvalidPercentEncoding h q = absurd q
  refused all qs left a b c f g e InvalidUtf8 h q = absurd q
  refused all qs left a b c f g e UnsupportedOperator h q = absurd q
  refused all qs left a b c f g e Memory h q = absurd q

  pub ended_exit : (all qs left : List Portion) (a b c : W) (f g : Telling) (e : Error) → HasEnded puts all a (qs ++ left) b f g
      → EndsAs puts halts qs b c (Err e) → EndsAs puts halts all a c (Err e)
  ended_exit all qs left a b c f g e h q = refused all qs left a b c f g e e.kind h q

  -- the calls that were made then
  pub ended_calls : (all qs left : List Portion) (a b : W) (f g : Telling) (at : ℕ) (now : Option Telling) → HasEnded puts all a (qs ++ left) b f g
      → CallsUpTo qs at 0 (Some g) now → CallsUpTo all at 0 (Some f) now
  ended_calls all qs left a b f g at now h q =
      let e : calls_in h.done + (calls_in q.prefix + q.here.calls + 0) ≡ calls_in (h.done ++ q.prefix) + q.here.calls + 0 =
      omega (arith, calls_append h.done q.prefix) in
      record {
        prefix = h.done ++ q.prefix;
        here = q.here;
        rest = q.rest ++ left;
        split = after all qs left h.done q.prefix q.rest q.here h.split q.split;
        fine = fault_after h.done q.prefix h.fine ∙ q.fine;
        location = q.location;
        moves = subst (λ n. MovesBy n (Some f) now) e
            (moves_more (calls_in h.done) (calls_in q.prefix + q.here.calls + 0) (Some f) (Some g) now h.moved q.moves);
      }

-- ---- between the callbacks at the start and at the end of an expansion
pub calls_between : (t u w z : Option Telling) (ps : Telling → List Portion) (r : Result (Unit {0}) Error) → MovesBy 1 t u → MovesBy 1 w z
    → IfErr r (λ e. WhereTold u (λ f. CallsUpTo (ps f) e.location 0 u w))
    → IfErr r (λ e. WhereTold t (λ f. CallsUpTo (ps (later 1 f)) e.location 2 t z))
calls_between t u w z ps (Ok x) m n q = tt
calls_between None u w z ps (Err e) m n q = tt
calls_between (Some f) None w z ps (Err e) m n q = absurd m
calls_between (Some f) (Some g) w z ps (Err e) m n q =
    let k = calls_in q.prefix + q.here.calls in
    let sum : 1 + (k + 0) + 1 ≡ k + 2 = omega arith in
    record {
      prefix = q.prefix;
      here = q.here;
      rest = q.rest;
      split = ap ps (sym (moved_on 1 f g m)) ∙ q.split;
      fine = q.fine;
      location = q.location;
      moves = subst (λ c. MovesBy c (Some f) z) sum
          (moves_more (1 + (k + 0)) 1 (Some f) w z (moves_more 1 (k + 0) (Some f) (Some g) w m q.moves) n);
    }

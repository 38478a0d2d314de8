-- How calls of one visitor compose, and how a loop tells the members of a value one by one, with those that are left.
use Rattle.iri_template.proofs.Common.{◌≡◌, ◌<◌, ◌+◌, ℕ, List, [], ◌∷◌, ◌++◌, length, get_or, drop, map, ◌∙◌, ap, sym, subst, append_assoc}
use Rattle.iri_template.proofs.Common.{append-nil, Result, Ok, Err, IsErr, AreSinkLaws, HasShown, shown_more, shown_exit, shows_exit, Stop}
use Rattle.std.proofs.lemmas.List.{map-append, drop_more}
use Rattle.iri_text.proofs.Compose.{shown_then}
use Rattle.iri_template.specs.Events.{Event, Finished}
use Rattle.iri_template.specs.Visits.{Visits}
use Rattle.iri_template.specs.declared.visitor.VisitPurpose.{VisitPurpose}
use Rattle.iri_template.specs.declared.visitor.Phase.{Phase}

-- the visitor was told these events, and is in this phase: what a loop of visits keeps true
pub record HasHeard {V : Type 0} (name : V → List ℕ) (aim : V → VisitPurpose) (phase : V → Phase) (hears : V → List Event → V → Type 0)
    (stops : V → ℕ) (old : V) (events : List Event) (now : Phase) (new : V) : Type 0 where
  pub heard : HasShown hears stops old events new
  pub is_in : phase new ≡ now
  pub same_name : name new ≡ name old
  pub same_aim : aim new ≡ aim old

module _ {V : Type 0} {name : V → List ℕ} {aim : V → VisitPurpose} {phase : V → Phase} {hears halts : V → List Event → V
    → Type 0} {stops : V → ℕ} (laws : AreSinkLaws hears halts) where
  pub heard_more : {a b c : V} {t u : List Event} {p q : Phase} {x : Unit {0}} → HasHeard name aim phase hears stops a t p b
      → Visits name aim phase hears halts stops b u q c (Ok x) → HasHeard name aim phase hears stops a (t ++ u) q c
  heard_more p q = record {
    heard = shown_more laws p.heard q.tells;
    is_in = q.goes_on;
    same_name = q.same_name ∙ p.same_name;
    same_aim = q.same_aim ∙ p.same_aim;
  }

  pub heard_then : {a b c : V} {t u : List Event} {p q : Phase} {r : Result (Unit {0}) Stop} → HasHeard name aim phase hears stops a t p b
      → Visits name aim phase hears halts stops b u q c r → Visits name aim phase hears halts stops a (t ++ u) q c r
  heard_then p q = record {
    tells = shown_then laws p.heard q.tells;
    goes_on = q.goes_on;
    halted = q.halted;
    same_name = q.same_name ∙ p.same_name;
    same_aim = q.same_aim ∙ p.same_aim;
  }

  -- a stop, with events that weren't reached
  pub heard_exit : {a b c : V} {t u : List Event} {p q : Phase} {e : Stop} {r : Result (Unit {0}) Stop} (rest : List Event) (end : Phase)
      → IsErr r → HasHeard name aim phase hears stops a t p b → Visits name aim phase hears halts stops b u q c (Err e)
      → Visits name aim phase hears halts stops a ((t ++ u) ++ rest) end c r
  heard_exit {r = Ok y} rest end is p q = absurd (cc is)
  heard_exit {r = Err d} rest end is p q = record {
    tells = shown_exit laws rest is p.heard q.tells;
    goes_on = tt;
    halted = q.halted;
    same_name = q.same_name ∙ p.same_name;
    same_aim = q.same_aim ∙ p.same_aim;
  }

  -- a stop at the first event
  pub heard_exit_first : {a b : V} {t : List Event} {p : Phase} {e : Stop} {r : Result (Unit {0}) Stop} (rest : List Event) (end : Phase)
      → IsErr r → Visits name aim phase hears halts stops a t p b (Err e) → Visits name aim phase hears halts stops a (t ++ rest) end b r
  heard_exit_first {r = Ok y} rest end is q = absurd (cc is)
  heard_exit_first {r = Err d} rest end is q = record {
    tells = shows_exit laws rest is q.tells;
    goes_on = tt;
    halted = q.halted;
    same_name = q.same_name;
    same_aim = q.same_aim;
  }

-- of these members those before the rest were told
pub record HasHeardUpTo {V X Y : Type 0} (name : V → List ℕ) (aim : V → VisitPurpose) (phase : V → Phase)
    (hears : V → List Event → V → Type 0) (stops : V → ℕ) (begun : Event) (h : Y → Event) (f : X → Y) (inside : Phase) (old : V)
    (members rest : List X) (new : V) : Type 0 where
  pub told : List X
  pub split : told ++ rest ≡ members
  pub heard : HasHeard name aim phase hears stops old (begun ∷ map h (map f told)) inside new

module _ {X Y : Type 0} (h : Y → Event) (f : X → Y) where
  told_more : (told : List X) (x : X) → map h (map f told) ++ (h (f x) ∷ []) ≡ map h (map f (told ++ (x ∷ [])))
  told_more told x = sym (ap (map h) (map-append f told (x ∷ [])) ∙ map-append h (map f told) (f x ∷ []))

  members_split : (told left members : List X) (x : X) → told ++ (x ∷ left) ≡ members
      → (map h (map f told) ++ (h (f x) ∷ [])) ++ (map h (map f left) ++ (Finished ∷ [])) ≡ map h (map f members) ++ (Finished ∷ [])
  members_split told left members x is =
      sym (append_assoc (map h (map f told) ++ (h (f x) ∷ [])) (map h (map f left)) (Finished ∷ []))
      ∙ ap (λ es. es ++ (Finished ∷ [])) (append_assoc (map h (map f told)) (h (f x) ∷ []) (map h (map f left))
      ∙ sym (ap (map h) (map-append f told (x ∷ left)) ∙ map-append h (map f told) (map f (x ∷ left))) ∙ ap (λ l. map h (map f l)) is)

module _ {V X Y : Type 0} {name : V → List ℕ} {aim : V → VisitPurpose} {phase : V → Phase} {hears halts : V → List Event → V
    → Type 0} {stops : V → ℕ} (laws : AreSinkLaws hears halts) {begun : Event} {h : Y → Event} {f : X → Y} {inside : Phase} where
  pub up_to_more : {a b c : V} {members rest left : List X} {y : Unit {0}} (x : X) → rest ≡ x ∷ left
      → HasHeardUpTo name aim phase hears stops begun h f inside a members rest b
      → Visits name aim phase hears halts stops b (h (f x) ∷ []) inside c (Ok y)
      → HasHeardUpTo name aim phase hears stops begun h f inside a members left c
  up_to_more {a = a} {c = c} {left = left} x is p q = record {
    told = p.told ++ (x ∷ []);
    split = append_assoc p.told (x ∷ []) left ∙ ap (λ l. p.told ++ l) (sym is) ∙ p.split;
    heard = subst (λ es. HasHeard name aim phase hears stops a (begun ∷ es) inside c) (told_more h f p.told x) (heard_more laws p.heard q);
  }

  pub up_to_exit : {a b c : V} {members rest left : List X} {e : Stop} {r : Result (Unit {0}) Stop} (x : X) (end : Phase) → rest ≡ x ∷ left
      → IsErr r → HasHeardUpTo name aim phase hears stops begun h f inside a members rest b
      → Visits name aim phase hears halts stops b (h (f x) ∷ []) inside c (Err e)
      → Visits name aim phase hears halts stops a (begun ∷ (map h (map f members) ++ (Finished ∷ []))) end c r
  up_to_exit {a = a} {c = c} {members = members} {left = left} {r = r} x end is err p q =
      subst (λ es. Visits name aim phase hears halts stops a (begun ∷ es) end c r)
      (members_split h f p.told left members x (ap (λ l. p.told ++ l) (sym is) ∙ p.split))
      (heard_exit laws (map h (map f left) ++ (Finished ∷ [])) end err p.heard q)

  pub up_to_end : {a b c : V} {members rest : List X} {r : Result (Unit {0}) Stop} (end : Phase) → rest ≡ []
      → HasHeardUpTo name aim phase hears stops begun h f inside a members rest b
      → Visits name aim phase hears halts stops b (Finished ∷ []) end c r
      → Visits name aim phase hears halts stops a (begun ∷ (map h (map f members) ++ (Finished ∷ []))) end c r
  up_to_end {a = a} {c = c} {members = members} {r = r} end is p q =
      subst (λ l. Visits name aim phase hears halts stops a (begun ∷ (map h (map f l) ++ (Finished ∷ []))) end c r)
      (sym (append-nil p.told) ∙ ap (λ l. p.told ++ l) (sym is) ∙ p.split)
      (heard_then laws p.heard q)

-- the member of this number, and those after it
pub next_at : {X : Type 0} (xs : List X) (i j : ℕ) (x d : X) → j ≡ i + 1 → i < length xs → x ≡ get_or xs i d → drop i xs ≡ x ∷ drop j xs
next_at xs i j x d e l is = drop_more xs i d l ∙ ap (λ y. y ∷ drop (i + 1) xs) (sym is) ∙ ap (λ k. x ∷ drop k xs) (sym e)

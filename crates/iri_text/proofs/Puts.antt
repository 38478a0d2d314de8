-- How calls that write pieces compose.
use Rattle.iri_text.proofs.Common.{ℕ, ◌+◌, ◌≤◌, List, [], ◌++◌, length, Option, None, Some, Result, Ok, Err, IsErr, sym, ◌∙◌, ap, arith}
use Rattle.iri_text.proofs.Common.{append_assoc, length-append, append-nil}
use Rattle.iri_text.specs.Sink.{Appends, AppendsPrefix, HasRoom, KeepsRoom, PutsAll, SinkState}
use Rattle.iri_text.specs.declared.Failed.{Failed}

pub Appends-append : (a b c : Option (List ℕ)) (xs ys : List ℕ) → Appends a b xs → Appends b c ys → Appends a c (xs ++ ys)
Appends-append None None None xs ys p q = tt
Appends-append None None (Some n) xs ys p q = absurd q
Appends-append None (Some m) c xs ys p q = absurd p
Appends-append (Some l) None c xs ys p q = absurd p
Appends-append (Some l) (Some m) None xs ys p q = absurd q
Appends-append (Some l) (Some m) (Some n) xs ys p q = q ∙ ap (λ r. r ++ ys) p ∙ append_assoc l xs ys

pub Appends-none : (a : Option (List ℕ)) → Appends a a []
Appends-none None = tt
Appends-none (Some l) = sym (append-nil l)

pub prefix-after : {a b c : Option (List ℕ)} {ys : List ℕ} (xs : List ℕ) → Appends a b xs → AppendsPrefix b c ys
    → AppendsPrefix a c (xs ++ ys)
prefix-after xs p q = record {
  prefix = xs ++ q.prefix;
  rest = q.rest;
  split = append_assoc xs q.prefix q.rest ∙ ap (λ l. xs ++ l) q.split;
  appended = Appends-append _ _ _ xs q.prefix p q.appended;
}

pub prefix-longer : {a b : Option (List ℕ)} {xs : List ℕ} (ys : List ℕ) → AppendsPrefix a b xs → AppendsPrefix a b (xs ++ ys)
prefix-longer {xs = xs} ys q = record {
  prefix = q.prefix;
  rest = q.rest ++ ys;
  split = sym (append_assoc q.prefix q.rest ys) ∙ ap (λ l. l ++ ys) q.split;
  appended = q.appended;
}

-- room for fewer bytes is known where room for more is
pub room-less : (room : Option ℕ) (more less : ℕ) → less ≤ more → HasRoom room more → HasRoom room less
room-less None more less le h = absurd h
room-less (Some room) more less le h = omega (arith, le, h)

-- room is kept over bytes and others after them
pub room-then : {a b c : Option ℕ} {P Q : Type 0} {xs ys : List ℕ} → KeepsRoom a b xs P → KeepsRoom b c ys Q → KeepsRoom a c (xs ++ ys) Q
room-then {a} {xs = xs} {ys} p q = record {
  holds = λ h. q.holds (p.left (length ys) (room-less a (length (xs ++ ys)) (length xs + length ys)
      (omega (arith, length-append xs ys)) h));
  left = λ more h. q.left more (p.left (length ys + more)
      (room-less a (length (xs ++ ys) + more) (length xs + (length ys + more)) (omega (arith, length-append xs ys)) h));
}

-- what holds where bytes have room holds where more bytes have it
pub room-longer : {a b : Option ℕ} {P : Type 0} {xs : List ℕ} (ys : List ℕ) → KeepsRoom a b xs P → KeepsRoom a b (xs ++ ys) P
room-longer {a} {b} {xs = xs} ys p = record {
  holds = λ h. p.holds (room-less a (length (xs ++ ys)) (length xs) (omega (arith, length-append xs ys)) h);
  left = λ more h.
      room-less b (length ys + more) more (omega arith)
      (p.left (length ys + more) (room-less a (length (xs ++ ys) + more) (length xs + (length ys + more))
      (omega (arith, length-append xs ys)) h));
}

-- what follows where bytes have room
pub room-so : {a b : Option ℕ} {P Q : Type 0} {xs : List ℕ} → (P → Q) → KeepsRoom a b xs P → KeepsRoom a b xs Q
room-so f p = record { holds = λ h. f (p.holds h); left = p.left }

-- nothing was put
pub room-same : {P : Type 0} (a : Option ℕ) (xs : List ℕ) → (HasRoom a (length xs) → P) → KeepsRoom a a xs P
room-same a xs holds = record { holds = holds; left = λ more h. room-less a (length xs + more) more (omega arith) h }

pub puts-then : {a b c : SinkState} {t u : List ℕ} {x : Unit {0}} {r : Result (Unit {0}) Failed}
    → PutsAll a b (Ok x) t → PutsAll b c r u → PutsAll a c r (t ++ u)
puts-then {r = Ok y} p q = record {
  whole = Appends-append _ _ _ _ _ p.whole q.whole;
  same = q.same ∙ p.same;
  later = omega (arith, p.later, q.later);
  cause = tt;
  prefix = tt;
  room = room-then p.room q.room;
}
puts-then {r = Err e} p q = record {
  whole = tt;
  same = tt;
  later = omega (arith, p.later, q.later);
  cause = omega (arith, p.later, q.cause);
  prefix = prefix-after _ p.whole q.prefix;
  room = room-then p.room q.room;
}

-- at the exit of a `?`
pub puts-exit : {a b : SinkState} {t : List ℕ} {e : Failed} {r : Result (Unit {0}) Failed} (u : List ℕ)
    → IsErr r → PutsAll a b (Err e) t → PutsAll a b r (t ++ u)
puts-exit {r = Ok y} u is q = absurd (cc is)
puts-exit {r = Err d} u is q = record {
  whole = tt;
  same = tt;
  later = q.later;
  cause = q.cause;
  prefix = prefix-longer u q.prefix;
  room = room-so (λ h. absurd (cc h)) (room-longer u q.room);
}

-- The periods of a text's prefixes.
use Rattle.std.proofs.Common.{◌≡◌, ◌≢◌, ◌⊎◌, ℕ, ◌+◌, ◌-◌, ◌*◌, ◌/◌, ◌<◌, ◌≤◌, List, length, slice_index, sym, ◌∙◌, ap, subst, arith, inl, inr, ⊎_elim}
use Rattle.std.proofs.lemmas.Bool.{cases_lt}
use Rattle.std.specs.Prelude.{slice_set}
use Rattle.std.proofs.lemmas.List.{get_or-set_same, get_or-set_other, length-set}
use Rattle.iri_robots.specs.declared.periods.Periods.{Periods}
use Rattle.iri_robots.specs.inside.Periods.{HasPeriod, IsLongest, IsEntry, HasEntry, ArePeriods, IsShift}

pub shorter_period : (t : List ℕ) (n k s : ℕ) → k ≤ n → HasPeriod t n s → HasPeriod t k s
shorter_period t n k s l h = record { same = λ i m. h.same i (omega arith) }

pub no_bytes : (t : List ℕ) (n s : ℕ) → n ≤ s → HasPeriod t n s
no_bytes t n s l = record { same = λ i m. absurd (omega arith) }

-- ---- what is settled

-- the entries stay
record IsLater (known next : Periods) : Type 0 where
  count : known.count ≤ next.count
  settled : known.settled ≤ next.settled
  periods : (k : ℕ) → k < known.count → slice_index next.periods k ≡ slice_index known.periods k
  ends : (k : ℕ) → k < known.count → slice_index next.ends k ≡ slice_index known.ends k

later_entry : (t : List ℕ) (known next : Periods) (k : ℕ) → IsLater known next → k < known.count → IsEntry t known k → IsEntry t next k
later_entry t known next k h l e =
    let p = h.periods k l in
    let d = h.ends k l in
    let w = h.settled in
    let b = e.below in
    let z = e.some in
    record {
      some = omega arith;
      below = omega arith;
      period = subst (λ x. HasPeriod t x (slice_index next.periods k)) (sym d) (subst (λ x. HasPeriod t (slice_index known.ends k) x) (sym p) e.period);
    }

still_has : (known next : Periods) (n s : ℕ) → IsLater known next → HasEntry known n s → HasEntry next n s
still_has known next n s h e =
    let p = h.periods e.place e.within in
    let d = h.ends e.place e.within in
    let c = h.count in
    let w = e.within in
    let x = e.period in
    let y = e.end in
    record { place = e.place; within = omega arith; period = omega arith; end = omega arith }

-- a period that no prefix has three times
pub settled_short : (t : List ℕ) (known next : Periods) (r : ℕ) → next.periods ≡ known.periods → next.ends ≡ known.ends
    → next.count ≡ known.count → next.settled ≡ known.settled + 1 → r / 2 < known.settled → ArePeriods t known
    → IsLongest t known.settled r → ArePeriods t next
settled_short t known next r p d c e l a b =
    let h : IsLater known next = record {
      count = omega arith;
      settled = omega arith;
      periods = λ k m. ap (λ x. slice_index x k) p;
      ends = λ k m. ap (λ x. slice_index x k) d;
    } in
    let f = a.few in
    record {
      few = omega arith;
      periods_room = ap length p ∙ a.periods_room;
      ends_room = ap length d ∙ a.ends_room;
      entries = λ k m. let w : k < known.count = omega arith in later_entry t known next k h w (a.entries k w);
      growing = λ i k m n. let w : k < known.count = omega arith in
          let x = ap (λ z. slice_index z i) p in let y = ap (λ z. slice_index z k) p in
          let g = a.growing i k m w in omega arith;
      some_settled = omega arith;
      settled = λ n s m o u v q. ⊎_elim
          (λ y. still_has known next n s h (a.settled n s m o y v q))
          (λ y. let w : s ≡ known.settled = omega arith in
          let g = b.longest n m (subst (λ x. HasPeriod t n x) w q) in absurd (omega arith))
          (cases_lt s known.settled);
    }

-- a period that the text has three times
pub settled_listed : (t : List ℕ) (known next : Periods) (r : ℕ) → next.periods ≡ slice_set known.periods known.count known.settled
    → next.ends ≡ slice_set known.ends known.count (known.settled + r) → next.count ≡ known.count + 1
    → next.settled ≡ known.settled + 1 → known.count < 32
    → known.settled ≤ r / 2 → ArePeriods t known → IsLongest t known.settled r → ArePeriods t next
settled_listed t known next r p d c e l m a b =
    let f' = a.periods_room in
    let g' = a.ends_room in
    let u : known.count < length known.periods = omega arith in
    let v : known.count < length known.ends = omega arith in
    let ps = λ (k : ℕ) (w : k ≢ known.count). ap (λ x. slice_index x k) p ∙ get_or-set_other known.periods known.count k known.settled 0 w in
    let es = λ (k : ℕ) (w : k ≢ known.count). ap (λ x. slice_index x k) d ∙ get_or-set_other known.ends known.count k (known.settled + r) 0 w in
    let here = ap (λ x. slice_index x known.count) p ∙ get_or-set_same known.periods known.count known.settled 0 u in
    let end = ap (λ x. slice_index x known.count) d ∙ get_or-set_same known.ends known.count (known.settled + r) 0 v in
    let h : IsLater known next = record {
      count = omega arith;
      settled = omega arith;
      periods = λ k w. ps k (omega arith);
      ends = λ k w. es k (omega arith);
    } in
    let z = a.some_settled in
    let new : IsEntry t next known.count = record {
      some = omega arith;
      below = omega arith;
      period = subst (λ x. HasPeriod t x (slice_index next.periods known.count)) (sym end) (subst (λ x. HasPeriod t (known.settled + r) x) (sym here) b.period);
    } in
    record {
      few = omega arith;
      periods_room = ap length p ∙ (length-set known.periods known.count known.settled ∙ a.periods_room);
      ends_room = ap length d ∙ (length-set known.ends known.count (known.settled + r) ∙ a.ends_room);
      entries = λ k n. ⊎_elim (λ y. later_entry t known next k h y (a.entries k y))
          (λ y. let w : known.count ≡ k = omega arith in subst (λ x. IsEntry t next x) w new) (cases_lt k known.count);
      growing = λ i k n o. ⊎_elim
          (λ y. let x = ps i (omega arith) in let q = ps k (omega arith) in let g = a.growing i k n y in omega arith)
          (λ y. let w : k ≡ known.count = omega arith in subst (λ x. slice_index next.periods i ≤ slice_index next.periods x) (sym w)
          (⊎_elim (λ f. let x = ps i (omega arith) in let g = (a.entries i f).below in omega arith)
          (λ f. let j : i ≡ known.count = omega arith in subst (λ x. slice_index next.periods x ≤ slice_index next.periods known.count) (sym j) (omega arith))
          (cases_lt i known.count)))
          (cases_lt k known.count);
      some_settled = omega arith;
      settled = λ n s o f j g q. ⊎_elim
          (λ y. still_has known next n s h (a.settled n s o f y g q))
          (λ y. let w : s ≡ known.settled = omega arith in
          let x = b.longest n o (subst (λ x. HasPeriod t n x) w q) in
          record { place = known.count; within = omega arith; period = omega arith; end = omega arith })
          (cases_lt s known.settled);
    }

some_less : (t : List ℕ) (known : Periods) (n p s : ℕ) → p ≤ s → HasEntry known n p → HasEntry known n s
some_less t known n p s l h = let x = h.period in record { place = h.place; within = h.within; period = omega arith; end = h.end }

-- a period between the one that a text has for so long and the next that it may have
between : (t : List ℕ) (known : Periods) (p r n s by kept : ℕ) → known.settled ≡ p + 1 → 0 < p → n ≤ length t → known.settled ≤ s → s < p + by
    → 3 * s ≤ n → ArePeriods t known → IsLongest t p r → IsShift t r by kept → HasPeriod t n s → HasEntry known n s
between t known p r n s by kept e z m l o v a b f k = ⊎_elim
    (λ y.
    let x : s ≡ p + (s - p) = omega arith in
    let has : HasPeriod t r (s - p) = record {
      same = λ i j.
          let w : s + i ≡ p + ((s - p) + i) = omega arith in
          sym (b.period.same ((s - p) + i) (omega arith)) ∙ (ap (λ u. slice_index t u) (sym w) ∙ k.same i (omega arith));
    } in
    absurd (f.earliest (s - p) (omega arith) (omega arith) has))
    (λ y. some_less t known n p s (omega arith) (a.settled n p m z (omega arith) (omega arith) (shorter_period t (p + r) n p y b.period)))
    (cases_lt (p + r) n)

-- the next period that a text may have
pub settled_past : (t : List ℕ) (known next : Periods) (p r by kept : ℕ) → next.periods ≡ known.periods → next.ends ≡ known.ends
    → next.count ≡ known.count → known.settled ≡ p + 1 → next.settled ≡ p + by → 0 < p → ArePeriods t known → IsLongest t p r → IsShift t r by kept
    → ArePeriods t next
settled_past t known next p r by kept q d c e g z a b f =
    let some = f.some in
    let h : IsLater known next = record {
      count = omega arith;
      settled = omega arith;
      periods = λ k m. ap (λ x. slice_index x k) q;
      ends = λ k m. ap (λ x. slice_index x k) d;
    } in
    let w = a.few in
    record {
      few = omega arith;
      periods_room = ap length q ∙ a.periods_room;
      ends_room = ap length d ∙ a.ends_room;
      entries = λ k m. let w : k < known.count = omega arith in later_entry t known next k h w (a.entries k w);
      growing = λ i k m n. let w : k < known.count = omega arith in
          let x = ap (λ z. slice_index z i) q in let y = ap (λ z. slice_index z k) q in
          let g = a.growing i k m w in omega arith;
      some_settled = omega arith;
      settled = λ n s m o u v k. ⊎_elim
          (λ y. still_has known next n s h (a.settled n s m o y v k))
          (λ y. still_has known next n s h (between t known p r n s by kept e z m y (omega arith) v a b f k))
          (cases_lt s known.settled);
    }

pub still_repeated : (t : List ℕ) (p r by kept : ℕ) → IsLongest t p r → IsShift t r by kept → kept ≡ 0 ⊎ p + by + kept ≤ length t
still_repeated t p r by kept b f = let w = b.within in ⊎_elim (λ y. inl y) (λ y. let x = y.0 in inr (omega arith)) f.known

pub next_period : (t : List ℕ) (p r by kept : ℕ) → IsLongest t p r → IsShift t r by kept → HasPeriod t (p + by + kept) (p + by)
next_period t p r by kept b f = ⊎_elim
    (λ y. no_bytes t (p + by + kept) (p + by) (omega arith))
    (λ y. let x = y.0 in record {
      same = λ i j.
          let w : p + by + i ≡ p + (by + i) = omega arith in
          ap (λ u. slice_index t u) w ∙ (b.period.same (by + i) (omega arith) ∙ y.1.same i (omega arith));
    })
    f.known

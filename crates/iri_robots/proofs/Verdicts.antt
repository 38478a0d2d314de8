-- One rule more.
use Rattle.iri_robots.proofs.Common.{◌≡◌, ◌≢◌, ◌↔◌, ℕ, ◌<◌, ◌≤◌, Bool, true, false, ◌||◌, ◌⊎◌, List, [], ◌∷◌, ◌++◌, Option, Some, None}
use Rattle.iri_robots.proofs.Common.{length, refl, sym, ◌∙◌, subst, inl, inr, arith, codes, FileRule, Matches, IsAllowed, IsBestOf}
use Rattle.iri_robots.specs.declared.rule.Best.{Best}
use Rattle.iri_robots.specs.Allowed.{IsAmong, first, later, NoneMatches, IsLongest, robots_file, no_rule, by_rule}
use Rattle.iri_robots.specs.inside.BestRule.{IsBest}

-- ---- one more

pub among_prefix : (o r : FileRule) (rules : List FileRule) → IsAmong o rules → IsAmong o (rules ++ r ∷ [])
among_prefix o r rules (first rs) = first (rs ++ r ∷ [])
among_prefix o r rules (later x rs k) = later x (rs ++ r ∷ []) (among_prefix o r rs k)

pub among_last : (r : FileRule) (rules : List FileRule) → IsAmong r (rules ++ r ∷ [])
among_last r [] = first []
among_last r (x ∷ rules) = later x (rules ++ r ∷ []) (among_last r rules)

only : (o r : FileRule) (rules : List FileRule) → rules ≡ r ∷ [] → IsAmong o rules → o ≡ r
only o r rules e (first rs) = cc
only o r rules e (later x rs k) = let h : rs ≡ [] = cc in none o rs h k
  where
    none : (o : FileRule) (rs : List FileRule) → rs ≡ [] → IsAmong o rs → o ≡ r
    none o rs h (first rs') = cc
    none o rs h (later x rs' k) = cc

split : (o r x : FileRule) (rules l : List FileRule) → l ≡ x ∷ (rules ++ r ∷ []) → IsAmong o l → (o ≡ x) ⊎ IsAmong o (rules ++ r ∷ [])
split o r x rules l e (first rs) = inl (cc)
split o r x rules l e (later y rs k) = let h : rs ≡ rules ++ r ∷ [] = cc in inr (subst (λ z. IsAmong o z) h k)

pub among_cases : (o r : FileRule) (rules : List FileRule) → IsAmong o (rules ++ r ∷ []) → IsAmong o rules ⊎ (o ≡ r)
among_cases o r [] k = inr (only o r (r ∷ []) refl k)
among_cases o r (x ∷ rules) k = elim (split o r x rules (x ∷ (rules ++ r ∷ [])) refl k) [
  | inl e ↦ inl (subst (λ z. IsAmong o (z ∷ rules)) e (first rules))
  | inr h ↦ elim (among_cases o r rules h) [ inl a ↦ inl (later x rules a) | inr e ↦ inr e ]
]

-- what holds of the earlier rules and of the last one
each : (P : FileRule → Type 0) (o r : FileRule) (rules : List FileRule) → (IsAmong o rules → P o) → P r → IsAmong o (rules ++ r ∷ []) → P o
each P o r rules f p k = elim (among_cases o r rules k) [ inl a ↦ f a | inr e ↦ subst P (sym e) p ]

-- ---- a rule that doesn't match

pub none_more : (rules : List FileRule) (s : List ℕ) (r : FileRule) → (Matches r.pattern s → ⊥) → NoneMatches rules s
    → NoneMatches (rules ++ r ∷ []) s
none_more rules s r n h = record { none = λ o k. each (λ x. Matches x.pattern s → ⊥) o r rules (h.none o) n k }

pub longest_more : (rules : List FileRule) (s : List ℕ) (r best : FileRule) → IsLongest rules s best → (Matches r.pattern s
    → length r.pattern ≤ length best.pattern) → IsLongest (rules ++ r ∷ []) s best
longest_more rules s r best h n = record {
  among = among_prefix best r rules h.among;
  matching = h.matching;
  longest = λ o k. each (λ x. Matches x.pattern s → length x.pattern ≤ length best.pattern) o r rules (h.longest o) n k;
}

pub best_kept : (rules : List FileRule) (s : List ℕ) (r : FileRule) (n : ℕ) (a : Bool) → (Matches r.pattern s → length r.pattern < n)
    → IsBest rules s n a → IsBest (rules ++ r ∷ []) s n a
best_kept rules s r n a h b = record {
  rule = b.rule;
  longest = longest_more rules s r b.rule b.longest (λ m. let k = h m in omega (arith, b.bytes));
  bytes = b.bytes;
  same = b.same;
  tie = λ e o k. each (λ x. Matches x.pattern s → length x.pattern ≡ n
      → x.allows ≡ false) o r rules (b.tie e o) (λ m l. let k = h m in absurd (omega arith)) k;
}

-- ---- a rule that matches

last_longest : (rules : List FileRule) (s : List ℕ) (r : FileRule) → Matches r.pattern s → ((o : FileRule) → IsAmong o rules
    → Matches o.pattern s → length o.pattern ≤ length r.pattern) → IsLongest (rules ++ r ∷ []) s r
last_longest rules s r m h = record {
  among = among_last r rules;
  matching = m;
  longest = λ o k. each (λ x. Matches x.pattern s → length x.pattern ≤ length r.pattern) o r rules (h o) (λ _. omega arith) k;
}

pub best_first : (rules : List FileRule) (s : List ℕ) (r : FileRule) (n : ℕ) (a : Bool) → n ≡ length r.pattern → a ≡ r.allows
    → Matches r.pattern s → NoneMatches rules s → IsBest (rules ++ r ∷ []) s n a
best_first rules s r n a e d m h = record {
  rule = r;
  longest = last_longest rules s r m (λ o k g. absurd (h.none o k g));
  bytes = sym e;
  same = sym d;
  tie = λ f o k. each (λ x. Matches x.pattern s → length x.pattern ≡ n
      → x.allows ≡ false) o r rules (λ k g. absurd (h.none o k g)) (λ _ _. sym d ∙ f) k;
}

pub best_longer : (rules : List FileRule) (s : List ℕ) (r : FileRule) (n n' : ℕ) (a a' : Bool) → n ≡ length r.pattern → a ≡ r.allows
    → Matches r.pattern s → n' < n → IsBest rules s n' a' → IsBest (rules ++ r ∷ []) s n a
best_longer rules s r n n' a a' e d m h b =
    let bound : (o : FileRule) → IsAmong o rules → Matches o.pattern s
    → length o.pattern < n = λ o k g. let l = b.longest.longest o k g in omega (arith, b.bytes) in
    record {
      rule = r;
      longest = last_longest rules s r m (λ o k g. let l = bound o k g in omega arith);
      bytes = sym e;
      same = sym d;
      tie = λ f o k. each (λ x. Matches x.pattern s → length x.pattern ≡ n
          → x.allows ≡ false) o r rules (λ k g q. let l = bound o k g in absurd (omega arith)) (λ _ _. sym d ∙ f) k;
    }

pub best_tie : (rules : List FileRule) (s : List ℕ) (r : FileRule) (n n' : ℕ) (a a' c : Bool) → n ≡ length r.pattern → a ≡ r.allows
    → Matches r.pattern s → n ≤ n' → n' ≤ n → c ≡ a || a' → IsBest rules s n' a' → IsBest (rules ++ r ∷ []) s n c
best_tie rules s r n n' true a' c e d m h h' j b = record {
  rule = r;
  longest = last_longest rules s r m (λ o k g. let l = b.longest.longest o k g in omega (arith, b.bytes));
  bytes = sym e;
  same = sym d ∙ sym j;
  tie = λ f. cc;
}
best_tie rules s r n n' false a' c e d m h h' j b = record {
  rule = b.rule;
  longest = longest_more rules s r b.rule b.longest (λ _. omega (arith, b.bytes));
  bytes = omega (arith, b.bytes);
  same = b.same ∙ sym j;
  tie = λ f o k. each (λ x. Matches x.pattern s → length x.pattern ≡ n → x.allows ≡ false) o r rules (λ i g q. b.tie (sym j
      ∙ f) o i g (omega arith)) (λ _ _. sym d) k;
}

-- ---- what decides

allowed_cases : (rules : List FileRule) (s : List ℕ) → s ≢ codes "/robots.txt" → IsAllowed rules s
    → NoneMatches rules s ⊎ ((r : FileRule) × IsLongest rules s r × (r.allows ≡ true))
allowed_cases rules s n (robots_file e) = absurd (n e)
allowed_cases rules s n (no_rule h) = inl h
allowed_cases rules s n (by_rule r h e) = inr (r, h, e)

one_best : (rules : List FileRule) (s : List ℕ) (r : FileRule) (n : ℕ) (a : Bool) → IsLongest rules s r → r.allows ≡ true
    → IsBest rules s n a → a ≡ true
one_best rules s r n true h e b = refl
one_best rules s r n false h e b =
    let l = b.longest.longest r h.among h.matching in
    let k = h.longest b.rule b.longest.among b.longest.matching in
    let f = b.tie refl r h.among h.matching (omega (arith, b.bytes)) in
    cc

pub best_decides : (rules : List FileRule) (s : List ℕ) (n : ℕ) (a : Bool) → s ≢ codes "/robots.txt" → IsBest rules s n a
    → (a ≡ true) ↔ IsAllowed rules s
best_decides rules s n a h b = (
  λ e. by_rule b.rule b.longest (b.same ∙ e),
  λ k. elim (allowed_cases rules s h k) [
    | inl none ↦ absurd (none.none b.rule b.longest.among b.longest.matching)
    | inr l ↦ one_best rules s l.0 n a l.1 l.2 b
  ],
)

pub kept : (rules : List FileRule) (s : List ℕ) (r : FileRule) (best : Option Best) → (Matches r.pattern s → ⊥) → IsBestOf rules s best
    → IsBestOf (rules ++ r ∷ []) s best
kept rules s r None n h = none_more rules s r n h
kept rules s r (Some b) n h = best_kept rules s r b.bytes b.allows (λ m. absurd (n m)) h

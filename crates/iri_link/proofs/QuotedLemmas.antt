-- The end and the value of a quoted string.
use Rattle.iri_link.proofs.Common.{◌≡◌, ℕ, suc, ◌<◌, ◌≤◌, ◌+◌, Bool, true, false, cond, not, ◌&&◌, List, [], ◌∷◌, ◌++◌, Option, Some, None}
use Rattle.iri_link.proofs.Common.{length, take, drop, get_or, refl, sym, ◌∙◌, ap, subst, arith, drop-cons, drop_all, ◌==◌, slice_index}
use Rattle.iri_link.proofs.Common.{before, after, both, by_test, is_pair_char, is_plain_char, IsQuoted, done, plain, pair}
use Rattle.iri_link.proofs.Common.{list_all, test_apart, is_token_char, closes_from, quoted_len, unquoted, unquoted_from, first_passes, cases_lt, inl, inr, IsRun}
use Rattle.std.proofs.Common.{length-append}
use Rattle.std.proofs.lemmas.List.{drop_more, length-take, take_all}
use Rattle.iri_grammar.specs.Parts.{is_empty}
use Rattle.iri_link.specs.inside.ReadQuoted.{IsCutOpen, IsPastQuoted}
use Rattle.iri_link.proofs.RunLemmas.{when}

at_delimiter : (e : Bool) (c : ℕ) (cs : List ℕ) → (not e && c == 34) ≡ true → quoted_len e (c ∷ cs) ≡ 0
unfolding quoted_len
at_delimiter true c cs h = cc
at_delimiter false c cs h = rw h refl

at_other : (e : Bool) (c : ℕ) (cs : List ℕ) → (not e && c == 34) ≡ false → quoted_len e (c ∷ cs) ≡ suc (quoted_len (not e && c == 92) cs)
unfolding quoted_len
at_other true c cs n = refl
at_other false c cs n =
    by_test c 92 (λ b. (c == 92) ≡ b → quoted_len false (c ∷ cs) ≡ suc (quoted_len b cs)) (λ _ e. rw (n, e) refl) (λ _ e. rw (n, e) refl) refl

-- ---- how long it is, whether it ends or not
module _ (bs : List ℕ) (i : ℕ) (e : Bool) (inside : i < length bs) (counts : i + quoted_len e (drop i bs) ≡ quoted_len false bs) where
  pub len_found : (not e && get_or bs i 0 == 34) ≡ true → i ≡ quoted_len false bs
  len_found h =
      let n : quoted_len e (drop i bs) ≡ 0 = ap (quoted_len e) (drop_more bs i 0 inside) ∙ at_delimiter e (get_or bs i 0) (drop (i + 1) bs) h in
      omega (arith, counts, n)

  pub len_on : (not e && get_or bs i 0 == 34) ≡ false → i + 1 + quoted_len (not e && get_or bs i 0 == 92) (drop (i + 1) bs) ≡ quoted_len false bs
  len_on h =
      let k : quoted_len e (drop i bs) ≡ suc (quoted_len (not e && get_or bs i 0 == 92) (drop (i + 1) bs)) = ap (quoted_len e) (drop_more bs i 0 inside) ∙ at_other e (get_or bs i 0) (drop (i + 1) bs) h in
      omega (arith, counts, k)

pub len_end : (bs : List ℕ) (i : ℕ) (e : Bool) → length bs ≤ i → i ≤ length bs → i + quoted_len e (drop i bs) ≡ quoted_len false bs → length bs ≡ quoted_len false bs
unfolding quoted_len
len_end bs i e h k counts = let n : quoted_len e (drop i bs) ≡ 0 = ap (quoted_len e) (drop_all i bs h) in omega (arith, h, k, counts, n)

-- at its end a delimiter stands, where it has one
pub at_end : (e : Bool) (t : List ℕ) → (quoted_len e t ≤ length t) × (quoted_len e t < length t → slice_index t (quoted_len e t) ≡ 34)
unfolding quoted_len
at_end true [] = (omega arith, λ h. absurd (omega (arith, h)))
at_end false [] = (omega arith, λ h. absurd (omega (arith, h)))
at_end true (c ∷ cs) = let k = at_end false cs in (omega (arith, k.0), λ h. k.1 (omega (arith, h)))
at_end false (c ∷ cs) =
    by_test c 34 (λ b. (cond b 0 (suc (quoted_len (c == 92) cs)) ≤ length (c ∷ cs))
    × (cond b 0 (suc (quoted_len (c == 92) cs)) < length (c ∷ cs) → slice_index (c ∷ cs) (cond b 0 (suc (quoted_len (c == 92) cs))) ≡ 34))
    (λ e. (omega arith, λ _. e)) (λ _. let k = at_end (c == 92) cs in (omega (arith, k.0), λ h. k.1 (omega (arith, h))))

-- ---- whether it ends
-- where a delimiter ends it, and nothing before that may not stand there
closes-is : (e : Bool) (t : List ℕ) → closes_from e t ≡ (list_all is_pair_char (take (quoted_len e t) t) && not (is_empty (drop (quoted_len e t) t)))
unfolding closes_from quoted_len
closes-is true [] = refl
closes-is false [] = refl
closes-is true (c ∷ cs) = when (is_pair_char c) _ (λ p. rw p (closes-is false cs)) (λ p. rw p refl)
closes-is false (c ∷ cs) =
    let P : Type 0 = closes_from false (c ∷ cs) ≡ (list_all is_pair_char (take (quoted_len false (c ∷ cs)) (c ∷ cs)) && not (is_empty (drop (quoted_len false (c ∷ cs)) (c ∷ cs)))) in
    when (c == 34) P (λ k. rw k refl)
    (λ k. when (is_pair_char c) P (λ p. when (c == 92) P (λ m. rw (k, m, p) (closes-is true cs)) (λ m. rw (k, m, p) (closes-is false cs)))
    (λ p. rw (k, test_out 92 c refl p, p) refl))
  where
    test_out : (m d : ℕ) → is_pair_char m ≡ true → is_pair_char d ≡ false → (d == m) ≡ false
    test_out m d k l = by_test d m (λ b. b ≡ false) (λ e. let f : is_pair_char d ≡ true = ap is_pair_char e ∙ k in cc) (λ _. refl)

-- characters that stand for themselves, and the delimiter
plain-ends : (v rest : List ℕ) → list_all is_plain_char v ≡ true
    → (closes_from false (v ++ 34 ∷ rest) ≡ true) × (rest ≡ drop (suc (quoted_len false (v ++ 34 ∷ rest))) (v ++ 34 ∷ rest))
unfolding closes_from quoted_len
plain-ends [] rest h = (refl, refl)
plain-ends (c ∷ cs) rest h =
    let k = both (is_plain_char c) (list_all is_plain_char cs) h in
    let a = test_apart is_plain_char 34 c refl k.0 in
    let b = test_apart is_plain_char 92 c refl k.0 in
    let p = both (is_pair_char c) (not (c == 34) && not (c == 92)) k.0 in
    let i = plain-ends cs rest k.1 in
    let t = cs ++ 34 ∷ rest in
    let n : quoted_len false (c ∷ t) ≡ suc (quoted_len false t) = ap (λ v. cond v 0 (suc (quoted_len (c == 92) t))) a ∙ ap (λ v. suc (quoted_len v t)) b in
    (rw (a, b, p.0) i.0, i.1 ∙ ap (λ m. drop (suc m) (c ∷ t)) (sym n))

pub past_plain : (t run next rest : List ℕ) → IsRun is_plain_char t run next → next ≡ 34 ∷ rest → IsPastQuoted t rest
past_plain t run next rest h e =
    let whole : t ≡ run ++ 34 ∷ rest = h.whole ∙ ap (λ l. run ++ l) e in
    let k = plain-ends run rest h.all in
    record {
      closes = ap (closes_from false) whole ∙ k.0;
      suffix = k.1 ∙ ap (λ l. drop (suc (quoted_len false l)) l) (sym whole);
      short = omega (arith, ap length whole, length-append run (34 ∷ rest));
    }

module _ (t raw rest : List ℕ) (h : IsCutOpen t raw rest) where
  -- nothing ends it
  pub end_wanting : length raw ≡ length t → closes_from false t ≡ false
  end_wanting e =
      let n : length t ≤ quoted_len false t = omega (arith, e, ap length h.prefix, length-take (quoted_len false t) t) in
      let all = list_all is_pair_char (take (quoted_len false t) t) in
      closes-is false t ∙ (ap (λ d. all && not (is_empty d)) (drop_all (quoted_len false t) t n) ∙ when all ((all && false) ≡ false) (λ k. rw k refl) (λ k. rw k refl))

  -- something may not stand there
  pub char_wanting : list_all is_pair_char raw ≡ false → closes_from false t ≡ false
  char_wanting e = closes-is false t ∙ ap (λ b. b && not (is_empty (drop (quoted_len false t) t))) (ap (list_all is_pair_char) (sym h.prefix) ∙ e)

  pub past_end : (length raw ≡ length t → ⊥) → list_all is_pair_char raw ≡ true → IsPastQuoted t rest
  past_end short all =
      let n = quoted_len false t in
      let inside : n < length t =
      elim (cases_lt n (length t)) [ inl k ↦ k | inr k ↦ absurd (short (ap length (h.prefix ∙ take_all n t k))) ] in
      record {
        closes = closes-is false t ∙ (ap (λ b. b && not (is_empty (drop n t))) (ap (list_all is_pair_char) (sym h.prefix) ∙ all)
            ∙ ap (λ d. not (is_empty d)) (drop-cons t n 0 inside));
        suffix = h.suffix;
        short = h.short;
      }

-- ---- cut there
pub record IsClosed (e : Bool) (t : List ℕ) (n : ℕ) : Type 0 where
  pub inside : n < length t
  pub delimiter : slice_index t n ≡ 34
  pub whole : t ≡ take n t ++ 34 ∷ drop (suc n) t

pub closed : (e : Bool) (t : List ℕ) → closes_from e t ≡ true → IsClosed e t (quoted_len e t)
unfolding closes_from quoted_len
closed e [] h = cc
closed true (c ∷ cs) h = let k = closed false cs (both (is_pair_char c) (closes_from false cs) h).1 in record { inside = omega (arith, k.inside); delimiter = k.delimiter; whole = ap (λ l. c ∷ l) k.whole }
closed false (c ∷ cs) h =
    by_test c 34 (λ b. cond b true (cond (c == 92) (closes_from true cs) (is_plain_char c && closes_from false cs)) ≡ true → IsClosed false (c ∷ cs) (cond b 0 (suc (quoted_len (c == 92) cs))))
    (λ e _. record { inside = omega arith; delimiter = e; whole = ap (λ d. d ∷ cs) e })
    (λ _ h2. by_test c 92 (λ b. cond b (closes_from true cs) (is_plain_char c && closes_from false cs) ≡ true → IsClosed false (c ∷ cs) (suc (quoted_len b cs)))
    (λ _ h3. let k = closed true cs h3 in record { inside = omega (arith, k.inside); delimiter = k.delimiter; whole = ap (λ l. c ∷ l) k.whole })
    (λ _ h3. let k = closed false cs (both (is_plain_char c) (closes_from false cs) h3).1 in record { inside = omega (arith, k.inside); delimiter = k.delimiter; whole = ap (λ l. c ∷ l) k.whole }) h2) h

-- what stands before the delimiter is quoted text, also after a `\`
is_quoted : (t : List ℕ) → closes_from false t ≡ true → IsQuoted (take (quoted_len false t) t) (unquoted (take (quoted_len false t) t))
unfolding closes_from quoted_len unquoted_from
is_quoted [] h = cc
is_quoted (c ∷ []) h =
    by_test c 34 (λ b. cond b true (cond (c == 92) false (is_plain_char c && false)) ≡ true → IsQuoted (take (cond b 0 (suc (quoted_len (c == 92) []))) (c ∷ [])) (unquoted (take (cond b 0 (suc (quoted_len (c == 92) []))) (c ∷ []))))
    (λ _ _. done)
    (λ _ h2. by_test c 92 (λ b. cond b false (is_plain_char c && false) ≡ true → IsQuoted (take (suc (quoted_len b [])) (c ∷ [])) (unquoted (take (suc (quoted_len b [])) (c ∷ []))))
    (λ _ h3. cc) (λ _ h3. let no = (both (is_plain_char c) false h3).1 in cc) h2) h
is_quoted (c ∷ d ∷ cs) h =
    let rest : Bool → List ℕ = λ v. take (quoted_len v (d ∷ cs)) (d ∷ cs) in
    by_test c 34 (λ b. cond b true (cond (c == 92) (closes_from true (d ∷ cs)) (is_plain_char c && closes_from false (d ∷ cs))) ≡ true → IsQuoted (take (cond b 0 (suc (quoted_len (c == 92) (d ∷ cs)))) (c ∷ d ∷ cs)) (unquoted (take (cond b 0 (suc (quoted_len (c == 92) (d ∷ cs)))) (c ∷ d ∷ cs))))
    (λ _ _. done)
    (λ _ h2. by_test c 92 (λ v. cond v (closes_from true (d ∷ cs)) (is_plain_char c && closes_from false (d ∷ cs)) ≡ true → IsQuoted (c ∷ rest v) (cond v (unquoted_from true (rest v)) (c ∷ unquoted_from false (rest v))))
    (λ e h3. let k = both (is_pair_char d) (closes_from false cs) h3 in subst (λ n. IsQuoted (n ∷ rest true) (unquoted_from true (rest true))) (sym e) (pair d (take (quoted_len false cs) cs) (unquoted (take (quoted_len false cs) cs)) k.0 (is_quoted cs k.1)))
    (λ _ h3. let k = both (is_plain_char c) (closes_from false (d ∷ cs)) h3 in plain c (rest false) (unquoted (rest false)) k.0 (is_quoted (d ∷ cs) k.1)) h2) h

-- t is what stands in a quoted string, its last delimiter and a rest
pub record IsCutQuoted (t raw rest : List ℕ) : Type 0 where
  pub whole : t ≡ raw ++ 34 ∷ rest
  pub text : IsQuoted raw (unquoted raw)

pub cut_at : (t raw rest : List ℕ) (n : ℕ) → closes_from false t ≡ true → n ≡ quoted_len false t → raw ≡ take n t → rest ≡ drop (n + 1) t → IsCutQuoted t raw rest
cut_at t raw rest n h e prefix back =
    let m = quoted_len false t in
    let f : raw ≡ take m t = prefix ∙ ap (λ i. take i t) e in
    let s : n + 1 ≡ suc m = omega (arith, e) in
    let b : rest ≡ drop (suc m) t = back ∙ ap (λ i. drop i t) s in
    rw (f, b) (record { whole = (closed false t h).whole; text = is_quoted t h })

-- ---- the value
abbrev pub after_pair : Option (List ℕ) → List ℕ
after_pair None = []
after_pair (Some b) = unquoted_from true b

pub unquoted-chunk : (t : List ℕ) → unquoted t ≡ before 92 t ++ after_pair (after 92 t)
unfolding unquoted_from
unquoted-chunk [] = refl
unquoted-chunk (c ∷ cs) =
    by_test c 92 (λ b. cond b (unquoted_from true cs) (c ∷ unquoted_from false cs) ≡ cond b [] (c ∷ before 92 cs) ++ after_pair (cond b (Some cs) (after 92 cs)))
    (λ _. refl) (λ _. ap (λ l. c ∷ l) (unquoted-chunk cs))

pub after_pair-plain : (b : List ℕ) → first_passes (λ c. c == 92) b ≡ false → unquoted_from true b ≡ unquoted b
unfolding unquoted_from
after_pair-plain [] h = refl
after_pair-plain (c ∷ cs) h = rw h refl

pub after-shorter : (c : ℕ) (t b : List ℕ) → Some b ≡ after c t → length b < length t
after-shorter c [] b h = cc
after-shorter c (x ∷ xs) b h =
    by_test x c (λ v. Some b ≡ cond v (Some xs) (after c xs) → length b < suc (length xs))
    (λ _ k. let e : b ≡ xs = cc in omega (arith, ap length e)) (λ _ k. omega (arith, after-shorter c xs b k)) h

-- a token is its own value
pub unquoted-token : (t : List ℕ) → list_all is_token_char t ≡ true → unquoted t ≡ t
unfolding unquoted_from
unquoted-token [] h = refl
unquoted-token (c ∷ cs) h =
    let k = both (is_token_char c) (list_all is_token_char cs) h in
    rw (test_apart is_token_char 92 c refl k.0) (ap (λ l. c ∷ l) (unquoted-token cs k.1))

-- Where the parts of a reference end.
use Rattle.iri_grammar.proofs.Common.{◌≡◌, ℕ, zero, suc, ◌+◌, ◌<◌, Bool, true, false, cond, ◌&&◌, ◌||◌, List, [], ◌∷◌, Some, None, Option}
use Rattle.iri_grammar.proofs.Common.{MatchOption, length, take, drop, refl, sym, ap, subst, arith, add-one, ◌∙◌, ◌==◌, nat_lt, slice_index}
use Rattle.iri_grammar.proofs.Common.{is_some, list_all, IsUtf8, IsUtf8-from_ascii, nat_tests, is_letter, is_scheme, is_scheme_char, or_all}
use Rattle.iri_grammar.proofs.Common.{run_of, before, from, after, starts_with_slash, starts_with_slashes, authority_of, hier_of}
use Rattle.iri_grammar.proofs.Common.{before_any, from_any, ends_scheme, SchemeAt, ends_authority, IsPastAuthority, cases_eq, ne_eqb, inl, inr}
use Rattle.std.specs.Char.{is_ascii_alphabetic}
use Rattle.std.proofs.lemmas.Bool.{eqb-true, ltb-true, lt-ltb, false_from_ne_true}
use Rattle.memchr.specs.Find.{is_byte3, IsFirstByte}
use Rattle.iri_grammar.proofs.splits.SplitUnique.{scheme_char-below}
use Rattle.iri_grammar.proofs.splits.CutLaws.{both, and_three, test_apart}
use Rattle.iri_grammar.proofs.splits.SplitLaws.{letter-is_scheme_char, colon_ends}
use Rattle.iri_grammar.specs.inside.Delimiters.{NoScheme, EndsAuthority}
use Rattle.std.proofs.lemmas.List.{drop_all, take_all}
use Rattle.iri_grammar.proofs.authorities.AuthorityTexts.{all_below}

-- ---- the scheme
-- the run reaches to the end where all pass
pub run_of_all : (p : ℕ → Bool) (xs : List ℕ) → (run_of p xs == length xs) ≡ list_all p xs
run_of_all p [] = refl
run_of_all p (x ∷ xs) =
    elim (p x) as (λ b. (cond b (suc (run_of p xs)) 0 == length (x ∷ xs)) ≡ (b && list_all p xs)) [
      | true ↦ next (run_of p xs) (length xs) ∙ run_of_all p xs
      | false ↦ never (length xs)
    ]
  where
    next : (a b : ℕ) → (suc a == suc b) ≡ (a == b)
    next a b = grind (arith, nat_tests)

    never : (b : ℕ) → (0 == suc b) ≡ false
    never b = grind (arith, nat_tests)

-- a run of bytes that pass a test, and then a byte that fails it
record Ran (p : ℕ → Bool) (c : ℕ) (bs : List ℕ) : Type 0 where
  prefix : take (run_of p bs) bs ≡ before c bs
  tail : Some (drop (run_of p bs + 1) bs) ≡ after c bs
  all : list_all p (before c bs) ≡ true

ran : (p : ℕ → Bool) (c : ℕ) (bs : List ℕ) → p c ≡ false → run_of p bs < length bs → slice_index bs (run_of p bs) ≡ c → Ran p c bs
ran p c [] n l e = absurd (omega arith)
ran p c (x ∷ xs) n l e =
    elim (p x) as (λ b. p x ≡ b → Ran p c (x ∷ xs)) [
      | true ↦ λ h.
          let miss : (x == c) ≡ false = test_apart p c x n h in
          let r = ran p c xs n (omega (arith, rw h at l)) (rw h at e) in
          record {
            prefix = rw (h, miss) (ap (λ ys. x ∷ ys) r.prefix);
            tail = rw (h, miss, add-one) (rw add-one at r.tail);
            all = rw (miss, h) r.all;
          }
      | false ↦ λ h.
          let same : x ≡ c = rw h at e in
          let hit : (x == c) ≡ true = grind (arith, nat_tests) in
          record { prefix = rw (h, hit) refl; tail = rw (h, hit) refl; all = rw hit refl }
    ] refl

-- the other way round
ends : (p : ℕ → Bool) (c : ℕ) (bs : List ℕ) → p c ≡ false → list_all p (before c bs) ≡ true → is_some (after c bs) ≡ true
    → (run_of p bs < length bs) × (slice_index bs (run_of p bs) ≡ c)
ends p c [] n a s = cc
ends p c (x ∷ xs) n a s =
    elim (x == c) as (λ b. (x == c) ≡ b → (run_of p (x ∷ xs) < length (x ∷ xs)) × (slice_index (x ∷ xs) (run_of p (x ∷ xs)) ≡ c)) [
      | true ↦ λ h. let same : x ≡ c = eqb-true x c h in let f : p x ≡ false = ap p same ∙ n in rw f (omega arith, same)
      | false ↦ λ h.
          let k : (p x && list_all p (before c xs)) ≡ true = rw h at a in
          let t = both (p x) (list_all p (before c xs)) k in
          let r = ends p c xs n t.1 (rw h at s) in
          rw t.0 (omega (arith, r.0), r.1)
    ] refl

letter-before : (x : ℕ) (xs : List ℕ) → is_ascii_alphabetic x ≡ true → list_all is_scheme_char (before 58 (x ∷ xs)) ≡ true
    → is_scheme (before 58 (x ∷ xs)) ≡ true
unfolding is_letter
letter-before x xs l a =
    let miss : (x == 58) ≡ false = test_apart is_scheme_char 58 x colon_ends (letter-is_scheme_char x l) in
    let k : (is_scheme_char x && list_all is_scheme_char (before 58 xs)) ≡ true = rw miss at a in
    rw (miss, l) (both (is_scheme_char x) (list_all is_scheme_char (before 58 xs)) k).1

starts_scheme : (bs : List ℕ) → is_ascii_alphabetic (slice_index bs 0) ≡ true → list_all is_scheme_char (before 58 bs) ≡ true
    → is_scheme (before 58 bs) ≡ true
starts_scheme [] l a = cc
starts_scheme (x ∷ xs) l a = letter-before x xs l a

pub scheme_at : (bs : List ℕ) → ends_scheme bs (run_of is_scheme_char bs) ≡ true → SchemeAt bs (run_of is_scheme_char bs)
unfolding ends_scheme
scheme_at bs h =
    let k = run_of is_scheme_char bs in
    let t = and_three (nat_lt k (length bs)) (slice_index bs k == 58) (is_ascii_alphabetic (slice_index bs 0)) h in
    let inside = ltb-true k (length bs) t.0 in
    let byte = eqb-true (slice_index bs k) 58 t.1 in
    let r = ran is_scheme_char 58 bs colon_ends inside byte in
    let sch = starts_scheme bs t.2 r.all in
    record {
      end = refl;
      inside = inside;
      byte = byte;
      scheme = rw (sch, ← r.tail, r.prefix) refl;
      rest = rw (sch, ← r.tail) refl;
      text = subst IsUtf8 (sym r.prefix)
          (IsUtf8-from_ascii (before 58 bs) (all_below is_scheme_char scheme_char-below (before 58 bs) r.all));
    }

is_scheme-first : (bs : List ℕ) → is_scheme (before 58 bs) ≡ true
    → (is_ascii_alphabetic (slice_index bs 0) ≡ true) × (list_all is_scheme_char (before 58 bs) ≡ true)
unfolding is_letter
is_scheme-first [] h = cc
is_scheme-first (x ∷ xs) h =
    elim (x == 58) as (λ b. is_scheme (cond b [] (x ∷ before 58 xs)) ≡ true
    → (is_ascii_alphabetic x ≡ true) × (list_all is_scheme_char (cond b [] (x ∷ before 58 xs)) ≡ true)) [
      | true ↦ λ k. cc
      | false ↦ λ k. let t = both (is_letter x) (list_all is_scheme_char (before 58 xs)) k in (t.0, rw (letter-is_scheme_char x t.0) t.1)
    ] h

scheme-ends : (bs : List ℕ) → is_scheme (before 58 bs) ≡ true → is_some (after 58 bs) ≡ true
    → ends_scheme bs (run_of is_scheme_char bs) ≡ true
unfolding ends_scheme
scheme-ends bs h s =
    let f = is_scheme-first bs h in
    let e = ends is_scheme_char 58 bs colon_ends f.1 s in
    let l : nat_lt (run_of is_scheme_char bs) (length bs) ≡ true = lt-ltb (run_of is_scheme_char bs) (length bs) e.0 in
    rw (l, e.1, f.0) refl

none_of : (b : Bool) (o : Option (List ℕ)) (x y : List ℕ) → (b ≡ true → is_some o ≡ true → ⊥)
    → (None ≡ cond (b && is_some o) (Some y) None) × (x ≡ cond b (or_all x o) x)
none_of true None x y n = (refl, refl)
none_of true (Some z) x y n = absurd (n refl refl)
none_of false o x y n = (refl, refl)

pub no_scheme : (bs : List ℕ) → ends_scheme bs (run_of is_scheme_char bs) ≡ false → NoScheme bs
no_scheme bs h =
    let n = none_of (is_scheme (before 58 bs)) (after 58 bs) bs (before 58 bs)
    (λ a s. let t : true ≡ false = sym (scheme-ends bs a s) ∙ h in cc) in
    record { scheme = n.0; rest = n.1 }

-- ---- the authority
prefix-any : (p : ℕ → Bool) (bs : List ℕ) (k : ℕ) → k < length bs → ((j : ℕ) → j < k → p (slice_index bs j) ≡ true → ⊥)
    → p (slice_index bs k) ≡ true → (take k bs ≡ before_any p bs) × (drop k bs ≡ from_any p bs)
prefix-any p [] k l n h = absurd (omega arith)
prefix-any p (x ∷ xs) zero l n h = rw h (refl, refl)
prefix-any p (x ∷ xs) (suc k) l n h =
    let miss : p x ≡ false = false_from_ne_true (p x) (n 0 (omega arith)) in
    let r = prefix-any p xs k (omega arith) (λ j b. n (suc j) (omega arith)) h in
    rw miss (ap (λ ys. x ∷ ys) r.0, r.1)

none-any : (p : ℕ → Bool) (bs : List ℕ) → ((j : ℕ) → j < length bs → p (slice_index bs j) ≡ true → ⊥)
    → (bs ≡ before_any p bs) × ([] ≡ from_any p bs)
none-any p [] n = (refl, refl)
none-any p (x ∷ xs) n =
    let miss : p x ≡ false = false_from_ne_true (p x) (n 0 (omega arith)) in
    let r = none-any p xs (λ j b. n (suc j) (omega arith)) in
    rw miss (ap (λ ys. x ∷ ys) r.0, r.1)

-- what `memchr3` says, in these words
pub authority_end : (bs : List ℕ) (r : Option ℕ) → IsFirstByte (is_byte3 47 63 35) bs r
    → MatchOption r (EndsAuthority bs (length bs)) (λ k. EndsAuthority bs k)
authority_end bs None h =
    let n = none-any ends_authority bs (λ j b. h j (omega arith) b) in
    record {
      within = omega arith;
      ascii = λ l. absurd (omega (arith, l));
      prefix = take_all (length bs) bs (omega arith) ∙ n.0;
      rest = drop_all (length bs) bs (omega arith) ∙ n.1;
    }
authority_end bs (Some k) h =
    let f = prefix-any ends_authority bs k h.0.high (λ j b. h.0.before j (omega arith) b) h.1 in
    record { within = omega (arith, h.0.high); ascii = λ _. below_three (slice_index bs k) h.1; prefix = f.0; rest = f.1 }
  where
    below_three : (x : ℕ) → (x == 47 || x == 63 || x == 35) ≡ true → x < 128
    below_three x e = grind (arith, nat_tests)

-- the delimiters in a text that follows `//`
record AtDelimiters (xs : List ℕ) : Type 0 where
  prefix : before_any ends_authority xs ≡ before 47 (hier_of xs)
  path : hier_of (from_any ends_authority xs) ≡ from 47 (hier_of xs)
  query : after 63 (before 35 (from_any ends_authority xs)) ≡ after 63 (before 35 xs)
  fragment : after 35 (from_any ends_authority xs) ≡ after 35 xs

-- a character is one of the three, or none
pub by_delimiter : (P : ℕ → Type 0) (x : ℕ) → P 47 → P 63 → P 35 → ((x == 47) ≡ false → (x == 63) ≡ false → (x == 35) ≡ false → P x) → P x
by_delimiter P x slash question number none =
    elim (cases_eq x 47) [
      | inl e ↦ subst P (sym e) slash
      | inr a ↦ elim (cases_eq x 63) [
        | inl e ↦ subst P (sym e) question
        | inr b ↦ elim (cases_eq x 35) [ inl e ↦ subst P (sym e) number | inr c ↦ none (ne_eqb x 47 a) (ne_eqb x 63 b) (ne_eqb x 35 c) ]
      ]
    ]

at_delimiters : (xs : List ℕ) → AtDelimiters xs
at_delimiters [] = record { prefix = refl; path = refl; query = refl; fragment = refl }
at_delimiters (x ∷ xs) =
    let r = at_delimiters xs in
    by_delimiter (λ n. AtDelimiters (n ∷ xs)) x (record { prefix = refl; path = refl; query = refl; fragment = refl })
    (record { prefix = refl; path = refl; query = refl; fragment = refl })
    (record { prefix = refl; path = refl; query = refl; fragment = refl })
    (λ a b c. record {
      prefix = rw (c, b, a) (ap (λ ys. x ∷ ys) r.prefix);
      path = rw (c, b, a) r.path;
      query = rw (c, b, a) r.query;
      fragment = rw (c, b, a) r.fragment;
    })

-- the authority of a text that begins with `//`
pub past_authority : (xs : List ℕ) → (Some (before_any ends_authority xs) ≡ authority_of (hier_of (47 ∷ 47 ∷ xs)))
    × IsPastAuthority (47 ∷ 47 ∷ xs) (from_any ends_authority xs)
past_authority xs = let r = at_delimiters xs in (ap Some r.prefix, record { path = r.path; query = r.query; fragment = r.fragment })

-- what a delimiter in one of the first two places leaves
slash_or_delimiter : (x : ℕ) (xs : List ℕ) → starts_with_slash (hier_of (x ∷ xs)) ≡ (x == 47)
slash_or_delimiter x xs =
    by_delimiter (λ n. starts_with_slash (hier_of (n ∷ xs)) ≡ (n == 47)) x refl refl refl (λ _ b c. rw (c, b) refl)

slashes_or_delimiter : (x : ℕ) (xs : List ℕ) → starts_with_slashes (hier_of (x ∷ xs)) ≡ (x == 47 && starts_with_slash (hier_of xs))
slashes_or_delimiter x xs =
    by_delimiter (λ n. starts_with_slashes (hier_of (n ∷ xs)) ≡ (n == 47 && starts_with_slash (hier_of xs))) x refl refl refl
    (λ _ b c. rw (c, b) refl)

pub slashes-hier : (bs : List ℕ) → starts_with_slashes (hier_of bs) ≡ starts_with_slashes bs
slashes-hier [] = refl
slashes-hier (x ∷ []) = slashes_or_delimiter x []
slashes-hier (x ∷ y ∷ xs) = slashes_or_delimiter x (y ∷ xs) ∙ ap (λ b. x == 47 && b) (slash_or_delimiter y xs)

-- a text that doesn't begin with `//`
pub no_authority : (bs : List ℕ) → starts_with_slashes bs ≡ false → (None ≡ authority_of (hier_of bs)) × IsPastAuthority bs bs
no_authority bs h =
    let e : starts_with_slashes (hier_of bs) ≡ false = slashes-hier bs ∙ h in
    rw e (refl, record { path = rw e refl; query = refl; fragment = refl })

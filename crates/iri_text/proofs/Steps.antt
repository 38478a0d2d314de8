-- The exits of a call that goes to the next line.
use Rattle.std.proofs.Common.{◌≡◌, ℕ, ◌+◌, ◌-◌, ◌<◌, ◌≤◌, Bool, false, List, ◌∷◌, ◌++◌, length, get_or, take, drop, slice_range, Option}
use Rattle.std.proofs.Common.{Result, refl, sym, ◌∙◌, ap, subst, arith, true≢false, inl, suc, drop-cons, drop-drop, length-append}
use Rattle.std.proofs.lemmas.List.{take-append-drop, take-take, drop-take, drop_all, length-take-le}
use Rattle.iri_text.specs.Lines.{NoLf, no_cr}
use Rattle.iri_text.specs.Line.{LineState}
use Rattle.iri_text.specs.inside.Layout.{IsFirstLf, IsLaidOut}
use Rattle.iri_text.specs.Reader.{Advances, Says, HasCause, GivesLine, IsTooLong, IsExhausted, is_final}
use Rattle.iri_text.specs.declared.streams.reader.LineFault.{LineFault}
use Rattle.iri_text.proofs.Moved.{Moved}
use Rattle.iri_text.proofs.Answered.{next_of, limits_of}
use Rattle.iri_text.proofs.Parts.{length-part, part-split}

-- the prefix and the rest of a part
pub part-prefix : (xs : List ℕ) (a b n : ℕ) → n ≤ b - a → slice_range xs a (a + n) ≡ take n (slice_range xs a b)
part-prefix xs a b n h =
    let e : (a + n) - a ≡ n = omega arith in
    ap (λ (k : ℕ). take k (drop a xs)) e ∙ sym (take-take n (b - a) (drop a xs) h)

pub part-rest : (xs : List ℕ) (a b n : ℕ) → n ≤ b - a → drop n (slice_range xs a b) ≡ slice_range xs (a + n) b
part-rest xs a b n h =
    let e : b - a ≡ n + (b - (a + n)) = omega arith in
    ap (λ (k : ℕ). drop n (take k (drop a xs))) e ∙ drop-take n (b - (a + n)) (drop a xs)
    ∙ ap (λ (l : List ℕ). take (b - (a + n)) l) (drop-drop n a xs)

-- a byte and what is round it
pub around : (xs : List ℕ) (i b : ℕ) → i < length xs → get_or xs i 0 ≡ b → xs ≡ take i xs ++ b ∷ drop (i + 1) xs
around xs i b h e =
    let one : i + 1 ≡ suc i = omega arith in
    sym (take-append-drop i xs) ∙ ap (λ (l : List ℕ). take i xs ++ l) (drop-cons xs i 0 h ∙ ap (λ (c : ℕ). c ∷ drop (suc i) xs) e)
    ∙ ap (λ (k : ℕ). take i xs ++ b ∷ drop k xs) (sym one)

-- no more is held than was taken
pub few : {buf : List ℕ} {cap : ℕ} {b : Bool} {start end lf ls le taken limit input : ℕ} → IsLaidOut buf cap b start end lf ls le taken limit input
    → length (slice_range buf start end) ≤ taken
few {buf = buf} {start = start} {end = end} is = omega (arith, length-part buf start end is.end_in, is.all)

-- what was moved and what the answer says
pub answers : (old now new : LineState) (lo ln : Option (List ℕ)) (fo fn : ℕ) (r : Result Bool LineFault) → Moved old now lo ln
    → length now.held ≤ now.taken → fo ≤ fn → HasCause fo fn r → new.done ≡ is_final r
    → new.taken ≡ now.taken → new.line_limit ≡ now.line_limit → new.input_limit ≡ now.input_limit → old.ended ≡ false
    → Says old.ended now.held ln new r → Advances old new lo ln fo fn r
answers old now new lo ln fo fn r m few later cause finished taken line_limit input_limit fresh says = record {
  moved = m.moved;
  moves = m.moves;
  counted = counted;
  needed = m.needed;
  line_limit = line_limit ∙ m.line_limit;
  input_limit = input_limit ∙ m.input_limit;
  done = λ h. absurd (true≢false (sym h ∙ fresh));
  finished = finished;
  later = later;
  cause = cause;
  says = told;
  next = next_of old new lo ln m.moved r m.moves told;
  limits = limits_of old new m.moved counted (omega
      (arith, few, m.counted, ap length m.held, length-append old.held m.moved)) old.ended ln r told;
}
  where
    counted : new.taken ≡ old.taken + length m.moved
    counted = taken ∙ m.counted

    told : Says old.ended (old.held ++ m.moved) ln new r
    told = subst (λ all. Says old.ended all ln new r) m.held says

module _ (buf : List ℕ) (start end taken limit input usable : ℕ) (end_in : end ≤ length buf)
    (counts : usable + (taken - input) ≡ length (slice_range buf start end)) (count : taken ≤ input + 1) where
  abbrev held : List ℕ
  held = slice_range buf start end

  size : length held ≡ end - start
  size = length-part buf start end end_in

  pub line_says : (left : Option (List ℕ)) (b : Bool) (i len : ℕ) → b ≡ false → i < usable → i ≤ limit → get_or held i 0 ≡ 10
      → NoLf (take i held) → len ≤ length (take i held) → take len (take i held) ≡ no_cr (take i held)
      → GivesLine held left (record {
        held = slice_range buf (start + (i + 1)) end;
        taken = taken;
        line = slice_range buf start (start + len);
        ended = b;
        done = false;
        line_limit = limit;
        input_limit = input;
      })
  line_says left b i len fresh below short lf no_lf len_in cr =
      let long : length (take i held) ≡ i = length-take-le i held (omega (arith, counts)) in
      record {
        raw = take i held;
        whole = no_lf;
        short = omega (arith, long);
        line = part-prefix buf start end len (omega (arith, len_in, long, size, counts))
            ∙ sym (take-take len i held (omega (arith, len_in, long))) ∙ cr;
        within = omega (arith, length-part buf (start + (i + 1)) end end_in, size, counts, count);
        rest = inl (
          around held i 10 (omega (arith, counts)) lf
              ∙ ap (λ (l : List ℕ). take i held ++ 10 ∷ l) (part-rest buf start end (i + 1) (omega (arith, size, counts))),
          fresh,
        );
      }

  pub long_says : (new : LineState) → new.taken ≡ taken → new.line_limit ≡ limit → new.input_limit ≡ input → limit < usable
      → NoLf (take (limit + 1) held) → IsTooLong held new
  long_says new t l i below no_lf =
      let long : length (take (limit + 1) held) ≡ limit + 1 = length-take-le (limit + 1) held (omega (arith, counts)) in
      record {
        prefix = take (limit + 1) held;
        rest = drop (limit + 1) held;
        split = take-append-drop (limit + 1) held;
        whole = no_lf;
        long = omega (arith, long, l);
        within = omega (arith, long, counts, count, t, i);
      }

  pub over_says : (new : LineState) → new.taken ≡ taken → new.line_limit ≡ limit → new.input_limit ≡ input → usable < length held
      → usable ≤ limit → NoLf (take usable held) → IsExhausted held new
  over_says new t l i below short no_lf =
      let one : length held ≤ usable + 1 = omega (arith, counts, count) in
      let long : length (take usable held) ≡ usable = length-take-le usable held (omega arith) in
      record {
        prefix = take usable held;
        last = get_or held usable 0;
        split = sym (around held usable (get_or held usable 0) below refl
            ∙ ap (λ (m : List ℕ). take usable held ++ get_or held usable 0 ∷ m) (drop_all (usable + 1) held one));
        whole = no_lf;
        short = omega (arith, long, l);
        over = omega (arith, counts, count, t, i);
      }

-- a part stays where the bytes up to its end do
pub part-kept : (xs ys : List ℕ) (a b : ℕ) → a ≤ b → take b xs ≡ take b ys → slice_range xs a b ≡ slice_range ys a b
part-kept xs ys a b h e =
    let sum : a + (b - a) ≡ b = omega arith in
    let by_drop : (zs : List ℕ) → slice_range zs a b ≡ drop a (take b zs) =
    (λ (zs : List ℕ). sym (drop-take a (b - a) zs) ∙ ap (λ (k : ℕ). drop a (take k zs)) sum) in
    by_drop xs ∙ ap (λ (l : List ℕ). drop a l) e ∙ sym (by_drop ys)

-- The bytes that are held lie from `at` on, k of them, and n more came.
module _ (buf old : List ℕ) {cap_new cap : ℕ} (b : Bool) (fresh : b ≡ false) (at start end k n lf ls le taken limit input : ℕ)
    (kept : slice_range buf at (at + k) ≡ slice_range old start end) (len : length old ≤ length buf) (wide : cap ≤ cap_new)
    (was : IsLaidOut old cap b start end lf ls le taken limit input) (is_all : k ≡ end - start) (fits : at + k + n ≤ length buf)
    (no_lf : NoLf (slice_range old start end)) where
  pub next_sound : (m : ℕ) → taken + n ≤ input + 1 → (input < taken + n → 0 < n) → IsFirstLf (slice_range buf at (at + k + n)) m
      → IsLaidOut buf cap_new b at (at + k + n) m ls le (taken + n) limit input
  next_sound m count over first = record {
    start_in = omega arith;
    end_in = fits;
    line_in = was.line_in;
    line_end_in = omega (arith, was.line_end_in, len);
    room = omega (arith, was.room, wide);
    limit = was.limit;
    count = count;
    all = omega (arith, was.all, was.start_in, is_all);
    over = λ h. omega (arith, over h);
    none_held = λ h. absurd (true≢false (sym h ∙ fresh));
    first = first;
  }

  -- those that were held have no LF
  pub next_no_lf : NoLf (take k (slice_range buf at (at + k + n)))
  next_no_lf = subst NoLf (sym kept ∙ part-prefix buf at (at + k + n) k (omega arith)) no_lf

  pub next_held : slice_range buf at (at + k + n) ≡ slice_range old start end ++ slice_range buf (at + k) (at + k + n)
  next_held = part-split buf at (at + k) (at + k + n) (omega arith) (omega arith)
      ∙ ap (λ (l : List ℕ). l ++ slice_range buf (at + k) (at + k + n)) kept

pub kept_sound : (buf old : List ℕ) {cap_new cap : ℕ} (b : Bool) → b ≡ false → (at start end k lf ls le taken limit input : ℕ)
    → slice_range buf at (at + k) ≡ slice_range old start end → length old ≤ length buf → cap ≤ cap_new
    → IsLaidOut old cap b start end lf ls le taken limit input → k ≡ end - start → at + k ≤ length buf → taken ≤ input
    → IsLaidOut buf cap_new b at (at + k) lf ls le taken limit input
kept_sound buf old b fresh at start end k lf ls le taken limit input kept len wide was is_all fits in_limit = record {
  start_in = omega arith;
  end_in = fits;
  line_in = was.line_in;
  line_end_in = omega (arith, was.line_end_in, len);
  room = omega (arith, was.room, wide);
  limit = was.limit;
  count = was.count;
  all = omega (arith, was.all, was.start_in, is_all);
  over = λ h. absurd (omega (arith, h, in_limit));
  none_held = λ h. absurd (true≢false (sym h ∙ fresh));
  first = subst (λ (l : List ℕ). IsFirstLf l lf) (sym kept) was.first;
}

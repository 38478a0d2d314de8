-- Lines that an LF ends, and batches of their answers.
use Rattle.iri_calls.proofs.Common.{◌≡◌, ◌+◌, ◌-◌, ◌<◌, ◌≤◌, ℕ, List, [], ◌∷◌, ◌++◌, length, take, drop, refl, sym, ◌∙◌, ap, arith, Option}
use Rattle.iri_calls.proofs.Common.{None, Some, flat_map, common_steps, over, ended, batch, over_at}
use Rattle.std.proofs.Common.{◌≢◌, get_or, add-one, zero-add, add-zero, add_assoc, eq-eqb, eqb-true, drop-cons, MatchOption}
use Rattle.std.proofs.lemmas.List.{take-append-drop}
use Rattle.std.proofs.lemmas.Bool.Decides.{nat_tests}
use Rattle.memchr.specs.Find.{IsFirstByte, is_byte}
use Rattle.iri_text.specs.Lines.{NoLf}
use Rattle.iri_text.proofs.LinesLemmas.{ended-lf}
use Rattle.iri_text.proofs.Parts.{NoLf-nowhere}
use Rattle.iri_calls.specs.Lines.{later}
use Rattle.iri_calls.specs.inside.BufferText.{BufferPuts}
use Rattle.iri_calls.specs.inside.PlacedLaws.{over_at-none, over_at-both, over_at-long, length-over_at, over_at_start}
use Rattle.iri_calls.specs.declared.buffer.BufferSink.{BufferSink}
use Rattle.iri_calls.specs.declared.status.TheConstants.{OK, SHORT}
use Rattle.iri_calls.specs.declared.lines.Batch.{Batch}

get_or-prefix : (xs : List ℕ) (i j : ℕ) → j < i → i ≤ length xs → get_or (take i xs) j 0 ≡ get_or xs j 0
get_or-prefix xs i j h l = grind (arith, common_steps)

-- what a search says
pub first-lf : (xs : List ℕ) (r : Option ℕ) → IsFirstByte (is_byte 10) xs r
    → MatchOption r (NoLf xs) (λ i. (i < length xs) × NoLf (take i xs) × (get_or xs i 0 ≡ 10))
first-lf xs None is = NoLf-nowhere xs (λ k l e. is k (omega arith) l (eq-eqb _ _ e))
first-lf xs (Some i) is =
    let low : i < length xs = is.0.high in
    let none : (j : ℕ) → j < length (take i xs) → get_or (take i xs) j 0 ≢ 10 = (λ j l e.
    let l' : j < i = grind (arith, l, common_steps) in
    is.0.before j (omega arith) l' (eq-eqb _ _ (sym (get_or-prefix xs i j l' (omega (arith, low))) ∙ e))) in
    (low, NoLf-nowhere (take i xs) none, eqb-true _ _ is.1)

-- the first LF stands there
pub ended-at : (text : List ℕ) (i : ℕ) → i < length text → NoLf (take i text) → get_or text i 0 ≡ 10
    → ended text ≡ take i text ∷ ended (drop (i + 1) text)
ended-at text i h n e =
    let cut : text ≡ take i text ++ 10 ∷ drop (i + 1) text =
    sym (take-append-drop i text)
    ∙ ap (λ l. take i text ++ l) (drop-cons text i 0 h ∙ ap (λ n. get_or text i 0 ∷ drop n text) (sym (add-one i))
    ∙ ap (λ b. b ∷ drop (i + 1) text) e) in
    ap ended cut ∙ ended-lf (λ line. line) (take i text) (drop (i + 1) text) n

module _ (answer : List ℕ → List ℕ) where
  pub batch-none : (room : ℕ) → batch answer room [] ≡ record { consumed = 0; written = 0; status = OK }
  unfolding batch
  batch-none room = refl

  pub batch-short : (room : ℕ) (line : List ℕ) (lines : List (List ℕ)) → room < length (answer line)
      → batch answer room (line ∷ lines) ≡ record { consumed = 0; written = 0; status = SHORT }
  unfolding batch
  batch-short room line lines h = grind (arith, nat_tests)

  pub batch-fits : (room : ℕ) (line : List ℕ) (lines : List (List ℕ)) → length (answer line) ≤ room
      → batch answer room (line ∷ lines)
      ≡ later (length line + 1) (length (answer line)) (batch answer (room - length (answer line)) lines)
  unfolding batch
  batch-fits room line lines h = grind (arith, nat_tests)

later-none : (b : Batch) → later 0 0 b ≡ b
later-none b =
    ap (λ n. record { consumed = n; written = 0 + b.written; status = b.status }) (zero-add b.consumed)
    ∙ ap (λ n. record { consumed = b.consumed; written = n; status = b.status }) (zero-add b.written)

later-later : (c w d v : ℕ) (b : Batch) → later c w (later d v b) ≡ later (c + d) (w + v) b
later-later c w d v b =
    ap (λ n. record { consumed = n; written = w + (v + b.written); status = b.status }) (sym (add_assoc c d b.consumed))
    ∙ ap (λ n. record { consumed = (c + d) + b.consumed; written = n; status = b.status }) (sym (add_assoc w v b.written))

later-done : (c w s : ℕ) → later c w (record { consumed = 0; written = 0; status = s }) ≡ record { consumed = c; written = w; status = s }
later-done c w s =
    ap (λ n. record { consumed = n; written = w + 0; status = s }) (add-zero c)
    ∙ ap (λ n. record { consumed = c; written = n; status = s }) (add-zero w)

-- These lines are left, and the answers to those before them stand whole in the buffer.
pub record Going (answer : List ℕ → List ℕ) (input : List ℕ) (start : BufferSink) (rest : List ℕ) (written : ℕ) (now : BufferSink)
    : Type 0 where
  pub same : now.buf.ghost_name ≡ start.buf.ghost_name
  pub len : now.len ≡ written
  pub fits : written ≤ length start.buf.now
  pub part : length rest ≤ length input
  pub width : length now.buf.now ≡ length start.buf.now
  pub out : over_at written (flat_map answer (ended rest)) now.buf.now ≡ over (flat_map answer (ended input)) start.buf.now
  pub counts : later (length input - length rest) written (batch answer (length start.buf.now - written) (ended rest))
      ≡ batch answer (length start.buf.now) (ended input)

module _ (answer : List ℕ → List ℕ) (input : List ℕ) (start : BufferSink) where
  pub going_init : start.len ≡ 0 → Going answer input start input 0 start
  going_init e = record {
    same = refl;
    len = e;
    fits = omega arith;
    part = omega arith;
    width = refl;
    out = over_at_start 0 (flat_map answer (ended input)) start.buf.now refl;
    counts =
        let none : length input - length input ≡ 0 = omega arith in
        let all : length start.buf.now - 0 ≡ length start.buf.now = omega arith in
        ap (λ n. later n 0 (batch answer (length start.buf.now - 0) (ended input))) none
        ∙ ap (λ n. later 0 0 (batch answer n (ended input))) all
        ∙ later-none (batch answer (length start.buf.now) (ended input));
  }

  module _ (rest : List ℕ) (written : ℕ) (now : BufferSink) (g : Going answer input start rest written now) where
    abbrev Ends : ℕ → BufferSink → Type 0
    Ends status next =
        (record { consumed = length input - length rest; written = written; status = status } ≡ batch answer (length start.buf.now) (ended input))
        × (next.buf.now ≡ over (flat_map answer (ended input)) start.buf.now)

    pub going_end : ended rest ≡ [] → Ends OK now
    going_end e = (
      sym (later-done (length input - length rest) written OK)
          ∙ ap (later (length input - length rest) written) (sym (ap (batch answer (length start.buf.now - written)) e
          ∙ batch-none answer (length start.buf.now - written)))
          ∙ g.counts,
      sym (ap (λ ls. over_at written (flat_map answer ls) now.buf.now) e ∙ over_at-none written now.buf.now) ∙ g.out,
    )

    module _ (raw after : List ℕ) (is : ended rest ≡ raw ∷ ended after) where
      out-line : over_at written (answer raw ++ flat_map answer (ended after)) now.buf.now
          ≡ over (flat_map answer (ended input)) start.buf.now
      out-line = sym (ap (λ ls. over_at written (flat_map answer ls) now.buf.now) is) ∙ g.out

      pub going_short : (next : BufferSink) → length start.buf.now < written + length (answer raw)
          → next.buf.now ≡ over_at now.len (answer raw) now.buf.now → Ends SHORT next
      going_short next h e = (
        sym (later-done (length input - length rest) written SHORT)
            ∙ ap (later (length input - length rest) written) (sym (ap (batch answer (length start.buf.now - written)) is
            ∙ batch-short answer (length start.buf.now - written) raw (ended after) (omega (arith, g.fits, h))))
            ∙ g.counts,
        e ∙ ap (λ n. over_at n (answer raw) now.buf.now) g.len
            ∙ sym (over_at-long written (answer raw) (flat_map answer (ended after)) now.buf.now (omega (arith, g.width, h)))
            ∙ out-line,
      )

      pub going_next : (next : BufferSink) → length rest ≡ length raw + 1 + length after → BufferPuts now (answer raw) next
          → next.len ≤ length start.buf.now → Going answer input start after next.len next
      going_next next cut p low =
          let a = answer raw in let more = flat_map answer (ended after) in
          let consumed : (length input - length rest) + (length raw + 1) ≡ length input - length after = omega (arith, g.part, cut) in
          let total : written + length a ≡ next.len = omega (arith, p.len, g.len) in
          let left : (length start.buf.now - written) - length a ≡ length start.buf.now - next.len = omega (arith, p.len, g.len) in
          let room : length a ≤ length start.buf.now - written = omega (arith, p.len, g.len, low) in
          record {
            same = p.same ∙ g.same;
            len = refl;
            fits = low;
            part = omega (arith, g.part, cut);
            width = ap length p.buf ∙ length-over_at now.len a now.buf.now ∙ g.width;
            out =
                ap (over_at next.len more) p.buf ∙ over_at-both now.len next.len a more now.buf.now p.len
                ∙ ap (λ n. over_at n (a ++ more) now.buf.now) g.len ∙ out-line;
            counts =
                sym (ap (λ ls. later (length input - length rest) written (batch answer (length start.buf.now - written) ls)) is
                ∙ ap (later (length input - length rest) written)
                (batch-fits answer (length start.buf.now - written) raw (ended after) room)
                ∙ later-later (length input - length rest) written (length raw + 1) (length a)
                (batch answer ((length start.buf.now - written) - length a) (ended after))
                ∙ ap (λ n. later n (written + length a) (batch answer ((length start.buf.now - written) - length a) (ended after))) consumed
                ∙ ap (λ n. later (length input - length after) n (batch answer ((length start.buf.now - written) - length a) (ended after))) total
                ∙ ap (λ n. later (length input - length after) next.len (batch answer n (ended after))) left)
                ∙ g.counts;
          }

-- Lines that a reader gives one after the other, and how that ends.
use Rattle.iri_cli.proofs.Common.{◌≡◌, ◌≢◌, ℕ, ◌+◌, ◌-◌, ◌<◌, ◌≤◌, List, [], ◌∷◌, ◌++◌, length, take, Option, None, Some, Ok, Err, true}
use Rattle.iri_cli.proofs.Common.{false, refl, sym, ◌∙◌, ap, subst, arith, inl, inr, ⊎_elim, append_assoc, length-append, append-nil, NoLf}
use Rattle.iri_cli.proofs.Common.{lines, Consumes, LineState, Advances, Source, ended_lines, Rules, passed_from, first_passed, IsOpen}
use Rattle.iri_cli.proofs.Common.{HasRead, ReadsAll, ReadsSome, ReadsPast, IsGoing}
use Rattle.std.proofs.lemmas.List.{take_at}
use Rattle.iri_text.specs.Lines.{no_cr}
use Rattle.iri_text.specs.declared.streams.reader.LineFault.TheVariants.{LineTooLong, InputTooLong}
use Rattle.iri_text.proofs.LinesLemmas.{ended_from-append, ended-none, lines_from-append, lines-last}
use Rattle.iri_text.proofs.Moved.{Consumes-append, still_at_end}
use Rattle.iri_cli.proofs.LineSteps.{past_line, past_bytes, past_long, past_over}

-- what was taken before and now
takes_more : (lo lm ln : Option (List ℕ)) (given held moved : List ℕ) → Consumes lo lm (given ++ held) → Consumes lm ln moved
    → Consumes lo ln (given ++ (held ++ moved))
takes_more lo lm ln given held moved p q = subst (Consumes lo ln) (append_assoc given held moved)
    (Consumes-append lo lm ln (given ++ held) moved p q)

-- no byte was taken
pub consumes_none : (l : Option (List ℕ)) → Consumes l l []
consumes_none None = tt
consumes_none (Some x) = refl

-- what a source had left, where it tells that, after bytes were taken
pub left_is : (ln : Option (List ℕ)) (x p : List ℕ) → Consumes (Some x) ln p → (y : List ℕ) × (ln ≡ Some y) × (x ≡ p ++ y)
left_is None x p h = absurd h
left_is (Some y) x p h = (y, refl, h)

some_byte : (xs : List ℕ) → xs ≢ [] → 1 ≤ length xs
some_byte [] n = absurd (n refl)
some_byte (x ∷ xs) n = omega arith

-- the last byte of some
record IsLast (xs : List ℕ) (n : ℕ) : Type 0 where
  prefix : List ℕ
  last : ℕ
  split : xs ≡ prefix ++ last ∷ []
  size : length prefix ≡ n
  whole : NoLf prefix
  other : last ≢ 10

last_of : (xs : List ℕ) (n : ℕ) → length xs ≡ n + 1 → NoLf xs → IsLast xs n
last_of [] n h p = absurd (omega arith)
last_of (x ∷ []) n h p = record { prefix = []; last = x; split = refl; size = omega arith; whole = tt; other = p.0 }
last_of (x ∷ y ∷ xs) n h p =
    let l = last_of (y ∷ xs) (n - 1) (omega arith) p.1 in
    record {
      prefix = x ∷ l.prefix;
      last = l.last;
      split = ap (λ (t : List ℕ). x ∷ t) l.split;
      size = omega (arith, l.size);
      whole = (p.0, l.whole);
      other = l.other;
    }

module _ (rules : Rules) where
  -- before the first byte
  pub open_first : IsOpen rules [] []
  open_first = record { passes = λ y. refl; all = λ y. refl; ended = λ y. refl }

  pub read_none : (left : Option (List ℕ)) (reader : LineState) → reader.held ≡ [] → reader.taken ≡ 0 → reader.ended ≡ false
      → HasRead rules left left reader []
  read_none left reader held taken ended = record {
    given = [];
    taken = omega (arith, taken, ap length held);
    takes = subst (Consumes left left) (sym held) (consumes_none left);
    place = inl (ended, open_first);
  }

  -- a line that an LF ends
  open_line : (given raw : List ℕ) (whole : List (List ℕ)) → IsOpen rules given whole → NoLf raw → length raw ≤ rules.line_limit
      → length given + length raw < rules.input_limit
      → IsOpen rules (given ++ (raw ++ 10 ∷ [])) (whole ++ no_cr raw ∷ [])
  open_line given raw whole o n l i = record {
    passes = λ y.
        ap (first_passed rules) (there y) ∙ o.passes (raw ++ 10 ∷ y) ∙ past_line rules (length given) raw y n l i
        ∙ ap (λ (p : ℕ). passed_from rules p 0 y) place;
    all = λ y.
        ap lines (there y) ∙ o.all (raw ++ 10 ∷ y) ∙ ap (λ (t : List (List ℕ)). whole ++ t) (lines_from-append [] raw (10 ∷ y) n)
        ∙ sym (append_assoc whole (no_cr raw ∷ []) (lines y));
    ended = λ y.
        ap ended_lines (there y) ∙ o.ended (raw ++ 10 ∷ y) ∙ ap (λ (t : List (List ℕ)). whole ++ t) (ended_from-append no_cr [] raw (10 ∷ y) n)
        ∙ sym (append_assoc whole (no_cr raw ∷ []) (ended_lines y));
  }
    where
      there : (y : List ℕ) → (given ++ (raw ++ 10 ∷ [])) ++ y ≡ given ++ (raw ++ 10 ∷ y)
      there y = append_assoc given (raw ++ 10 ∷ []) y ∙ ap (λ (t : List ℕ). given ++ t) (append_assoc raw (10 ∷ []) y)

      place : length given + length raw + 1 ≡ length (given ++ (raw ++ 10 ∷ []))
      place = omega (arith, length-append given (raw ++ 10 ∷ []), length-append raw (10 ∷ []))

  -- bytes with no LF after whole lines
  open_bytes : (given raw : List ℕ) (whole : List (List ℕ)) → IsOpen rules given whole → NoLf raw → length raw ≤ rules.line_limit
      → length given + length raw ≤ rules.input_limit
      → first_passed rules (given ++ raw) ≡ None
  open_bytes given raw whole o n l i = o.passes raw ∙ past_bytes rules (length given) raw n l i

  open_ended : (given raw : List ℕ) (whole : List (List ℕ)) → IsOpen rules given whole → NoLf raw → ended_lines (given ++ raw) ≡ whole
  open_ended given raw whole o n = o.ended raw ∙ ap (λ (t : List (List ℕ)). whole ++ t) (ended-none no_cr raw n) ∙ append-nil whole

  module _ (lo lm ln : Option (List ℕ)) (fo fn : ℕ) (old new : LineState) (whole : List (List ℕ)) (is : IsGoing rules old)
      (go : HasRead rules lo lm old whole) where
    -- A line was given.
    pub reads_line : Advances old new lm ln fo fn (Ok true) → HasRead rules lo ln new (whole ++ new.line ∷ [])
    reads_line a = subst (λ (l : List ℕ). HasRead rules lo ln new (whole ++ l ∷ [])) (sym a.says.line)
        (⊎_elim from_open (λ c. absurd (cc ((a.done c.0).0))) go.place)
      where
        short : length a.says.raw ≤ rules.line_limit
        short = omega (arith, a.says.short, a.line_limit, is.line_limit)

        from_open : (old.ended ≡ false) × IsOpen rules go.given whole → HasRead rules lo ln new (whole ++ no_cr a.says.raw ∷ [])
        from_open o =
            let all = length-append old.held a.moved in
            ⊎_elim
            (λ r.
            let line = length-append a.says.raw (10 ∷ new.held) in
            let ended = length-append a.says.raw (10 ∷ []) in
            record {
              given = go.given ++ (a.says.raw ++ 10 ∷ []);
              taken = let size = length-append go.given (a.says.raw ++ 10 ∷ []) in omega (arith, ap length r.0);
              takes = subst (Consumes lo ln) (ap (λ (t : List ℕ). go.given ++ t) (r.0 ∙ sym (append_assoc a.says.raw (10 ∷ []) new.held))
                  ∙ sym (append_assoc go.given (a.says.raw ++ 10 ∷ []) new.held))
                  (takes_more lo lm ln go.given old.held a.moved go.takes a.moves);
              place = inl (r.1, open_line go.given a.says.raw whole o.1 a.says.whole short (omega (arith, a.says.within, ap length r.0)));
            })
            (λ r. record {
              given = go.given ++ a.says.raw;
              taken = let size = length-append go.given a.says.raw in omega (arith, ap length r.0, ap length r.2);
              takes = subst (Consumes lo ln) (ap (λ (t : List ℕ). go.given ++ t) r.0 ∙ sym (append-nil (go.given ++ a.says.raw))
                  ∙ ap (λ (t : List ℕ). (go.given ++ a.says.raw) ++ t) (sym r.2))
                  (takes_more lo lm ln go.given old.held a.moved go.takes a.moves);
              place = inr (
                r.4,
                record {
                  passes = open_bytes go.given a.says.raw whole o.1 a.says.whole short
                      (omega (arith, a.says.within, ap length r.0, ap length r.2));
                  all = o.1.all a.says.raw ∙ ap (λ (t : List (List ℕ)). whole ++ t) (lines-last a.says.raw a.says.whole r.1);
                  nothing = r.2;
                  at_end = r.3;
                },
              );
            })
            a.says.rest

    -- There is no further line.
    pub reads_all : Advances old new lm ln fo fn (Ok false) → ReadsAll rules lo ln whole
    reads_all a =
        ⊎_elim
        (λ o. record {
          taken = go.given;
          takes = takes_all;
          at_end = a.says.2 o.0;
          passes = ap (first_passed rules) (sym (append-nil go.given)) ∙ o.1.passes [];
          all = ap lines (sym (append-nil go.given)) ∙ o.1.all [] ∙ append-nil whole;
        })
        (λ c. record {
          taken = go.given;
          takes = takes_all;
          at_end = still_at_end lm ln a.moved (c.1).at_end a.moves;
          passes = (c.1).passes;
          all = (c.1).all;
        })
        go.place
      where
        takes_all : Consumes lo ln go.given
        takes_all = subst (Consumes lo ln) (ap (λ (t : List ℕ). go.given ++ t) a.says.0 ∙ append-nil go.given)
            (takes_more lo lm ln go.given old.held a.moved go.takes a.moves)

    -- The source failed.
    pub reads_some : Advances old new lm ln fo fn (Err Source) → ReadsSome rules lo ln whole
    reads_some a = ⊎_elim from_open (λ c. absurd (cc ((a.done c.0).0))) go.place
      where
        from_open : (old.ended ≡ false) × IsOpen rules go.given whole → ReadsSome rules lo ln whole
        from_open o = record {
          taken = go.given ++ (old.held ++ a.moved);
          takes = takes_more lo lm ln go.given old.held a.moved go.takes a.moves;
          passes = open_bytes go.given (old.held ++ a.moved) whole o.1 a.says.1 (omega (arith, a.says.2, a.line_limit, is.line_limit))
              (omega (arith, a.says.3, a.input_limit, is.input_limit, a.counted, go.taken, length-append old.held a.moved));
          ended = open_ended go.given (old.held ++ a.moved) whole o.1 a.says.1;
        }

    -- after whole lines and a prefix of the next one
    past_prefix : (status : ℕ) (prefix rest : List ℕ) → IsOpen rules go.given whole → NoLf prefix → (moved : List ℕ)
        → old.held ++ moved ≡ prefix ++ rest → Consumes lm ln moved
        → ((more : List ℕ) → passed_from rules (length go.given) 0 (prefix ++ (rest ++ more))
        ≡ Some (record { status = status; place = length go.given + length prefix }))
        → ReadsPast rules status lo ln whole
    past_prefix status prefix rest o n moved split moves passes = record {
      taken = go.given ++ (old.held ++ moved);
      place = length go.given + length prefix;
      takes = takes_more lo lm ln go.given old.held moved go.takes moves;
      passes = λ more. ap (first_passed rules) (there more) ∙ o.passes (prefix ++ (rest ++ more)) ∙ passes more;
      ended = λ more.
          ap (λ (t : List ℕ). ended_lines (take (length go.given + length prefix) t))
          (there more ∙ sym (append_assoc go.given prefix (rest ++ more)))
          ∙ ap ended_lines (take_at (go.given ++ prefix) (rest ++ more) (length go.given + length prefix) (length-append go.given prefix))
          ∙ open_ended go.given prefix whole o n;
    }
      where
        there : (more : List ℕ) → (go.given ++ (old.held ++ moved)) ++ more ≡ go.given ++ (prefix ++ (rest ++ more))
        there more = append_assoc go.given (old.held ++ moved) more ∙ ap (λ (t : List ℕ). go.given ++ (t ++ more)) split
            ∙ ap (λ (t : List ℕ). go.given ++ t) (append_assoc prefix rest more)

    -- A line is too long.
    pub reads_long : Advances old new lm ln fo fn (Err LineTooLong) → ReadsPast rules 7 lo ln whole
    reads_long a = ⊎_elim from_open (λ c. absurd (cc ((a.done c.0).0))) go.place
      where
        from_open : (old.ended ≡ false) × IsOpen rules go.given whole → ReadsPast rules 7 lo ln whole
        from_open o =
            let t = a.says.1 in
            let l = last_of t.prefix rules.line_limit (omega (arith, t.long, a.line_limit, is.line_limit)) t.whole in
            past_prefix 7 l.prefix (l.last ∷ t.rest) o.1 l.whole a.moved
            (sym t.split ∙ ap (λ (b : List ℕ). b ++ t.rest) l.split ∙ append_assoc l.prefix (l.last ∷ []) t.rest) a.moves
            (λ more. past_long rules (length go.given) l.last l.prefix (t.rest ++ more) l.whole l.other l.size
            (let all = length-append old.held a.moved in omega (arith, t.within, t.long)))

    -- The input is too long.
    pub reads_over : Advances old new lm ln fo fn (Err InputTooLong) → ReadsPast rules 8 lo ln whole
    reads_over a = ⊎_elim from_open (λ c. absurd (cc ((a.done c.0).0))) go.place
      where
        from_open : (old.ended ≡ false) × IsOpen rules go.given whole → ReadsPast rules 8 lo ln whole
        from_open o =
            let t = a.says.1 in
            past_prefix 8 t.prefix (t.last ∷ []) o.1 t.whole a.moved (sym t.split) a.moves
            (λ more. past_over rules (length go.given) t.last t.prefix more t.whole (omega (arith, t.short, a.line_limit, is.line_limit))
            (let all = length-append old.held a.moved in
            let line = length-append t.prefix (t.last ∷ []) in omega (arith, t.over, ap length t.split)))

  module _ (lm ln : Option (List ℕ)) (fo fn : ℕ) (old new : LineState) (is : IsGoing rules old) where
    -- A line that is given goes with at least one byte.
    pub falls : Advances old new lm ln fo fn (Ok true)
        → (new.input_limit + length new.held) - new.taken < (old.input_limit + length old.held) - old.taken
    falls a =
        let all = length-append old.held a.moved in
        ⊎_elim (λ r. let line = length-append a.says.raw (10 ∷ new.held) in omega (arith, a.says.within, ap length r.0))
        (λ r. let some = some_byte a.says.raw r.1 in omega (arith, a.says.within, ap length r.0, ap length r.2)) a.says.rest

    -- of the bytes that were taken at least one more is held no longer
    pub counts_more : Advances old new lm ln fo fn (Ok true) → length new.held + old.taken + 1 ≤ new.taken + length old.held
    counts_more a =
        let all = length-append old.held a.moved in
        ⊎_elim (λ r. let line = length-append a.says.raw (10 ∷ new.held) in omega (arith, ap length r.0))
        (λ r. let some = some_byte a.says.raw r.1 in omega (arith, ap length r.0, ap length r.2)) a.says.rest

    pub goes_on : Advances old new lm ln fo fn (Ok true) → IsGoing rules new
    goes_on a = record {
      line_limit = a.line_limit ∙ is.line_limit;
      input_limit = a.input_limit ∙ is.input_limit;
      going = a.finished;
      within = omega (arith, a.says.within, a.input_limit, is.input_limit);
      counted = let k = counts_more a in omega (arith, k, is.counted);
    }

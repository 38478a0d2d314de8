-- Lines that were answered one after the other, and how that ends.
use Rattle.iri_cli.proofs.Common.{◌≡◌, ◌≢◌, ℕ, ◌≤◌, List, [], ◌∷◌, ◌++◌, ◌&&◌, length, Bool, true, false, if◌then◌else◌, Option, None}
use Rattle.iri_cli.proofs.Common.{Some, Result, Ok, Err, refl, sym, ◌∙◌, ap, subst, arith, append_assoc, length-append, list_all}
use Rattle.iri_cli.proofs.Common.{append-nil, Rose, Consumes, IsAtEnd, Appends, AppendsPrefix, KeepsRoom, SinkState, LineState, Advances}
use Rattle.iri_cli.proofs.Common.{Source, FaultLineTooLong, FaultInputTooLong, Appends-none, room-then, room-so, Rules, Ending, answers}
use Rattle.iri_cli.proofs.Common.{ended_lines, answered, IsBaseTaken, ending, HasRead, ReadsAll, ReadsSome, ReadsPast, IsGoing, outside, Finishes}
use Rattle.iri_cli.proofs.Common.{Decides, StopsShort, RanTo, Ran, Answering, AnswersLine, PutsAnswer, AnswerError, End, Done, SomeBad}
use Rattle.iri_cli.proofs.Common.{BeginsWith, with_base}
use Rattle.iri_text.specs.declared.streams.reader.LineFault.{LineFault}
use Rattle.iri_text.proofs.Puts.{Appends-append, prefix-after, prefix-longer}
use Rattle.iri_text.proofs.LinesLemmas.{no_cr-shorter}
use Rattle.iri_cli.specs.inside.Steps.{end_at}
use Rattle.iri_cli.specs.inside.Going.{Goes, answered_to}
use Rattle.iri_cli.specs.run.Run.{WantsMemory}
use Rattle.iri_cli.specs.inside.Answering.{ClosesRun, end_of_error}
use Rattle.iri_cli.specs.declared.run.answers.AnswerError.TheVariants.{SinkFailed as AnswerFailed, Memory as AnswerMemory}
use Rattle.iri_cli.specs.declared.run.end.End.TheVariants.{SinkFailed}
use Rattle.iri_cli.proofs.Reading.{left_is, reads_line, reads_all, reads_some, reads_long, reads_over, goes_on, counts_more}
use Rattle.iri_cli.proofs.Ends.{ran_by, one_more, one_more_good, first_read, first_lines, ends_all, ends_past}

-- all of these bytes are a prefix of them
pub whole_prefix : {a b : Option (List ℕ)} {xs : List ℕ} → Appends a b xs → AppendsPrefix a b xs
whole_prefix {xs = xs} p = record { prefix = xs; rest = []; split = append-nil xs; appended = p }

-- what was taken to the end is all
pub taken_is : (lo ln : Option (List ℕ)) (x taken : List ℕ) → lo ≡ Some x → Consumes lo ln taken → IsAtEnd ln → x ≡ taken
taken_is lo ln x taken known takes at_end =
    let l = left_is ln x taken (subst (λ (s : Option (List ℕ)). Consumes s ln taken) known takes) in
    l.2 ∙ ap (λ (y : List ℕ). taken ++ y) (subst IsAtEnd l.1 at_end) ∙ append-nil taken

-- it isn't the sink that failed
abbrev pub NotSink : Result Bool AnswerError → Type 0
NotSink result = result ≢ Err AnswerFailed

-- the sink isn't what ends a run at a fault of its reader
pub not_sink : (fault : LineFault) → end_at fault ≢ SinkFailed
not_sink Source h = cc h
not_sink fault h = cc h

pub start_lines : (stands_at : Answering → Type 0) (start : Answering) (reader : LineState) (left : Option (List ℕ)) (so : ℕ)
    (ko k : SinkState)
    → stands_at start → start.between ≡ [] → IsGoing start.rules reader → k.written ≡ ko.written → k.faults ≡ ko.faults
    → KeepsRoom ko.room_left k.room_left [] (Unit {0}) → Goes stands_at start reader reader left left so so ko k true
start_lines stands_at start reader left so ko k at none is kept same room = record {
  between = [];
  at = subst (λ (b : List (List ℕ)). stands_at (record start { between = b })) none at;
  going = is;
  few = omega (arith, is.counted);
  read = λ before first h. subst (HasRead start.rules before left reader) (sym (append-nil first)) h;
  writes = subst (λ (o : Option (List ℕ)). Appends ko.written o []) (sym kept) (Appends-none ko.written);
  all_good = refl;
  source_later = omega arith;
  sink_same = same;
  room = room;
}

module _ (stands_at : Answering → Type 0) (start : Answering) (reader0 old new : LineState) (l0 lm ln : Option (List ℕ))
    (so sm sn : ℕ) (ko km : SinkState) (good : Bool) (taken : start.rules.refusal start.base ≡ None)
    (go : Goes stands_at start reader0 old l0 lm so sm ko km good) where
  abbrev rules : Rules
  rules = start.rules

  abbrev out : List ℕ
  out = answered_to start.rules start.base go.between

  abbrev answer : List ℕ
  answer = rules.answer start.base go.between new.line

  abbrev text : List ℕ
  text = rules.closing start.base go.between

  -- One line more was given after the lines up to the base, and those after it.
  reads_more : (before : Option (List ℕ)) (first : List (List ℕ)) → HasRead rules before l0 reader0 first
      → Advances old new lm ln sm sn (Ok true) → HasRead rules before ln new (first ++ (go.between ++ new.line ∷ []))
  reads_more before first h a = subst (HasRead rules before ln new) (append_assoc first go.between (new.line ∷ []))
      (reads_line rules before lm ln sm sn old new (first ++ go.between) go.going (go.read before first h) a)

  -- A line was given and answered.
  pub one_line_more : (is_next : Answering → Type 0) (kn : SinkState) (answer_good : Bool)
      → Advances old new lm ln sm sn (Ok true)
      → ((at : Answering) → stands_at at → AnswersLine is_next at new.line km kn (Ok answer_good))
      → Goes is_next start reader0 new l0 ln so sn ko kn (good && answer_good)
  one_line_more is_next kn answer_good a p =
      let q = p (record start { between = go.between }) go.at in
      record {
        between = go.between ++ new.line ∷ [];
        at = q.next;
        going = goes_on rules lm ln sm sn old new go.going a;
        few =
            let more = counts_more rules lm ln sm sn old new go.going a in
            let size = length-append go.between (new.line ∷ []) in
            omega (arith, more, size, go.few);
        read = λ before first h. reads_more before first h a;
        writes = subst (Appends ko.written kn.written) (sym (one_more rules start.base taken go.between new.line))
            (Appends-append ko.written km.written kn.written out answer go.writes q.puts.0);
        all_good = ap (λ (b : Bool). b && answer_good) go.all_good
            ∙ ap (λ (b : Bool). list_all rules.is_good (answers rules start.base go.between) && b) q.puts.2
            ∙ sym (one_more_good rules start.base taken go.between new.line);
        source_later = omega (arith, go.source_later, a.later);
        sink_same = q.puts.1 ∙ go.sink_same;
        room = subst (λ (t : List ℕ). KeepsRoom ko.room_left kn.room_left t (Unit {0}))
            (sym (one_more rules start.base taken go.between new.line))
            (room-then go.room (room-so (λ _. tt) q.room));
      }

  -- a line that is given is within the limit
  pub line_fits : Advances old new lm ln sm sn (Ok true) → length new.line ≤ rules.line_limit
  line_fits a =
      omega (arith, go.going.line_limit, a.line_limit, a.says.short, no_cr-shorter a.says.raw, ap length a.says.line)

  module _ (before : Option (List ℕ)) (faults : ℕ) (first : List (List ℕ)) (begins : BeginsWith rules start.base first)
      (read : HasRead rules before l0 reader0 first) (earlier : faults ≤ so) where
    -- the lines that were given, and how the base and the lines after it are had from them
    abbrev given : List (List ℕ)
    given = first ++ go.between

    given_read : HasRead rules before lm old given
    given_read = go.read before first read

    from_base : (whole : List (List ℕ)) → whole ≡ given → with_base rules whole ≡ start.base ∷ go.between
    from_base whole is = ap (with_base rules) is ∙ begins go.between

    -- the outside at both ends of the run
    abbrev Ends : SinkState → End → Type 0
    Ends kn end = Ran rules (outside before faults ko) (outside ln sn kn) end

    -- The answer to a line failed.
    pub fails_at : (is_next : Answering → Type 0) (kn : SinkState) (error : AnswerError) (end : End)
        → end ≡ end_of_error error → Advances old new lm ln sm sn (Ok true)
        → ((at : Answering) → stands_at at → AnswersLine is_next at new.line km kn (Err error)) → Ends kn end
    fails_at is_next kn error end is a p =
        let q = p (record start { between = go.between }) go.at in subst (Ends kn) (sym is) (by_error error q.puts q.room)
      where
        -- the whole output begins with the answers, this one among them
        output : (x : List ℕ) → before ≡ Some x → (more : List ℕ) × ((ending rules x).output ≡ (out ++ answer) ++ more)
        output x known =
            let h = first_read rules start.base taken first begins before ln new (go.between ++ new.line ∷ [])
            (reads_more before first read a) x known in
            (h.0, h.1 ∙ ap (λ (t : List ℕ). t ++ h.0) (one_more rules start.base taken go.between new.line))

        by_error : (e : AnswerError) → PutsAnswer rules.is_good km kn (rules.wants_memory start.base go.between new.line) answer (Err e)
            → KeepsRoom km.room_left kn.room_left answer (NotSink (Err e)) → Ends kn (end_of_error e)
        by_error AnswerFailed q k = ran_by (out ++ answer) (omega (arith, q.1, go.sink_same)) output (prefix-after out go.writes q.0)
            (room-then go.room (room-so (λ n. absurd (n refl)) k)) (omega (arith, earlier, go.source_later, a.later))
            (omega (arith, q.2, go.sink_same))
        by_error AnswerMemory q k =
            let writes = subst (λ (w : Option (List ℕ)). Appends ko.written w out) (sym q.1) go.writes in
            ran_by (out ++ answer) (record {
              whole = given;
              line = new.line;
              wants = subst (λ (t : List (List ℕ)). WantsMemory rules t new.line) (sym (begins go.between)) q.0;
              first = λ x known.
                  let h = first_lines rules before ln new (given ++ new.line ∷ [])
                  (reads_line rules before lm ln sm sn old new given go.going given_read a) x known in
                  (h.0, h.1 ∙ append_assoc given (new.line ∷ []) h.0);
              base_taken = subst (IsBaseTaken rules) (sym (begins go.between)) taken;
              writes = subst (λ (t : List (List ℕ)). Appends ko.written kn.written (answered rules t)) (sym (begins go.between)) writes;
              sink = q.2 ∙ go.sink_same;
            }) output (prefix-longer answer (whole_prefix writes)) (room-then go.room (room-so (λ _ h. cc h) k))
            (omega (arith, earlier, go.source_later, a.later)) (omega (arith, q.2, go.sink_same))

    -- There is no further line.
    pub finishes : (kn : SinkState) (end : End) → Advances old new lm ln sm sn (Ok false)
        → ((at : Answering) → stands_at at → ClosesRun km kn good (at.rules.closing at.base at.between) end)
        → ((at : Answering) → stands_at at → KeepsRoom km.room_left kn.room_left (at.rules.closing at.base at.between) (end ≢ SinkFailed))
        → Ends kn end
    finishes kn end a p k =
        by_end end (p (record start { between = go.between }) go.at) (k (record start { between = go.between }) go.at)
      where
        all : ReadsAll rules before ln given
        all = reads_all rules before lm ln sm sn old new given go.going given_read a

        ends : ending rules all.taken
            ≡ record { status = if list_all rules.is_good (answers rules start.base go.between) then 0 else 1; output = out ++ text }
        ends = ends_all rules start.base taken first begins before ln go.between all

        -- the whole output
        output : (x : List ℕ) → before ≡ Some x → (more : List ℕ) × ((ending rules x).output ≡ (out ++ text) ++ more)
        output x known = (
          [],
          ap (λ (t : List ℕ). (ending rules t).output) (taken_is before ln x all.taken known all.takes all.at_end)
              ∙ ap (λ (e : Ending). e.output) ends ∙ sym (append-nil (out ++ text)),
        )

        put_whole : Appends km.written kn.written text → Appends ko.written kn.written (out ++ text)
        put_whole put = Appends-append ko.written km.written kn.written out text go.writes put

        finished : (b : Bool) → good ≡ b → Appends km.written kn.written text → kn.faults ≡ km.faults
            → Finishes rules (if b then 0 else 1) (outside before faults ko) (outside ln sn kn)
        finished b is put same = record {
          taken = all.taken;
          takes = all.takes;
          at_end = all.at_end;
          ends = ap (λ (e : Ending). e.status) ends ∙ ap (λ (g : Bool). if g then 0 else 1) (sym go.all_good ∙ is);
          writes = subst (Appends ko.written kn.written) (sym (ap (λ (e : Ending). e.output) ends)) (put_whole put);
          sink = same ∙ go.sink_same;
        }

        by_end : (e : End) → ClosesRun km kn good text e → KeepsRoom km.room_left kn.room_left text (e ≢ SinkFailed) → Ends kn e
        by_end Done q f = ran_by (out ++ text) (finished true q.0 q.1 q.2) output (whole_prefix (put_whole q.1)) (room-then go.room f)
            (omega (arith, earlier, go.source_later, a.later)) (omega (arith, q.2, go.sink_same))
        by_end SomeBad q f = ran_by (out ++ text) (finished false q.0 q.1 q.2) output (whole_prefix (put_whole q.1)) (room-then go.room f)
            (omega (arith, earlier, go.source_later, a.later)) (omega (arith, q.2, go.sink_same))
        by_end SinkFailed q f = ran_by (out ++ text) (omega (arith, q.1, go.sink_same)) output (prefix-after out go.writes q.0)
            (room-then go.room f) (omega (arith, earlier, go.source_later, a.later)) (omega (arith, q.2, go.sink_same))
        by_end e q f = absurd q

    -- The reader answered a fault.
    pub stops_at : (fault : LineFault) (end : End) → end ≡ end_at fault → Advances old new lm ln sm sn (Err fault) → Ends km end
    stops_at fault end is a =
        subst (Ends km) (sym is) (ran_by out (by_fault fault a)
        (first_read rules start.base taken first begins before lm old go.between given_read) (whole_prefix go.writes)
        (room-so (λ _. not_sink fault) go.room) (omega (arith, earlier, go.source_later, a.later)) (omega (arith, go.sink_same)))
      where
        decided : (status : ℕ) → ReadsPast rules status before ln given
            → Decides rules status (outside before faults ko) (outside ln sn km)
        decided status r = record {
          taken = r.taken;
          takes = r.takes;
          ends = λ more. ap (λ (e : Ending). e.status) (ends_past rules start.base taken first begins status before ln go.between r more);
          writes = λ more. subst (Appends ko.written km.written) (sym
              (ap (λ (e : Ending). e.output) (ends_past rules start.base taken first begins status before ln go.between r more))) go.writes;
          sink = go.sink_same;
        }

        short : (f : LineFault) → f ≡ Source → Advances old new lm ln sm sn (Err f)
            → ReadsSome rules before ln given
            → StopsShort rules (outside before faults ko) (outside ln sn km)
        short f is b r = record {
          taken = r.taken;
          takes = r.takes;
          passes = r.passes;
          base_taken = subst (IsBaseTaken rules) (sym (from_base (ended_lines r.taken) r.ended)) taken;
          writes = subst (λ (t : List (List ℕ)). Appends ko.written km.written (answered rules t))
              (sym (from_base (ended_lines r.taken) r.ended)) go.writes;
          source = rose (subst (λ (e : LineFault). Advances old new lm ln sm sn (Err e)) is b);
          sink = go.sink_same;
        }
          where
            rose : Advances old new lm ln sm sn (Err Source) → Rose faults sn
            rose c = omega (arith, c.cause, earlier, go.source_later)

        by_fault : (f : LineFault) → Advances old new lm ln sm sn (Err f)
            → RanTo rules (outside before faults ko) (outside ln sn km) (end_at f)
        by_fault Source b = short Source refl b (reads_some rules before lm ln sm sn old new given go.going given_read b)
        by_fault FaultLineTooLong b = decided 7 (reads_long rules before lm ln sm sn old new given go.going given_read b)
        by_fault FaultInputTooLong b = decided 8 (reads_over rules before lm ln sm sn old new given go.going given_read b)

-- The sink failed before the first line.
pub fails_first : (start : Answering) (before left : Option (List ℕ)) (faults sn : ℕ) (ko kn : SinkState) → kn.written ≡ ko.written
    → Rose ko.faults kn.faults → faults ≤ sn → ko.faults ≤ kn.faults → KeepsRoom ko.room_left kn.room_left [] ⊥
    → Ran start.rules (outside before faults ko) (outside left sn kn) SinkFailed
fails_first start before left faults sn ko kn kept rose later sink room =
    ran_by [] rose (λ x known. (_, refl)) (subst (λ (w : Option (List ℕ)). AppendsPrefix ko.written w []) (sym kept)
    (whole_prefix (Appends-none ko.written))) (room-so (λ h. absurd h) room) later sink

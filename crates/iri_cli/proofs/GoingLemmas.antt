-- A run from one line to the next.
use Rattle.iri_cli.proofs.Common.{◌≡◌, ◌≢◌, ◌≤◌, ◌∙◌, ℕ, ◌&&◌, Bool, true, false, List, [], Option, None, Some, Result, Ok, Err, refl, sym, ap, subst, arith}
use Rattle.iri_cli.proofs.Common.{⊎_elim, append-nil, length, LineState, Appends, Appends-none, KeepsRoom, SinkState, room-so, room-same, room-then, Rules}
use Rattle.iri_cli.proofs.Common.{Answering, AnswersLine, AnswerError, Outside, outside, End}
use Rattle.iri_cli.specs.declared.run.end.End.TheVariants.{SinkFailed as EndFailed}
use Rattle.iri_cli.specs.inside.Answering.{AnswersLines, ClosesRun, end_of_error}
use Rattle.iri_cli.specs.inside.Going.{Beginning, FlushedAfter, ComesNext, Goes, GoesOn, HasAnswer, IsOf, Waits, ahead}
use Rattle.iri_cli.specs.inside.Steps.{end_of_all}
use Rattle.iri_cli.proofs.Answered.{fails_at, finishes, line_fits, one_line_more, stops_at, whole_prefix}
use Rattle.iri_cli.proofs.Reading.{falls}

-- the room that is left once the sink is flushed
room_kept : {a b c : Option ℕ} {P Q : Type 0} (text : List ℕ) → KeepsRoom a b text P → KeepsRoom b c [] Q → KeepsRoom a c text Q
room_kept {a} {c = c} {Q = Q} text before after = subst (λ t. KeepsRoom a c t Q) (append-nil text) (room-then before after)

-- an answer once the sink is flushed
pub flushed_line : {is_next : Answering → Type 0} {at : Answering} {line : List ℕ} {old mid new : SinkState} (answer result : Result Bool AnswerError)
    → FlushedAfter mid new answer result → AnswersLine is_next at line old mid answer → AnswersLine is_next at line old new result
flushed_line {at = at} {line} {old} (Ok good) (Ok same) f p =
    let text = at.rules.answer at.base at.between line in
    record {
      puts = (subst (λ w. Appends old.written w text) (sym f.1) p.puts.0, f.2 ∙ p.puts.1, f.0 ∙ p.puts.2);
      next = p.next;
      room = room-so (λ _ h. cc h) (room_kept text p.room f.3);
    }
flushed_line {is_next} {at} {line} {old} {new = new} (Ok good) (Err error) f p =
    let text = at.rules.answer at.base at.between line in
    subst (λ e. AnswersLine is_next at line old new (Err e)) (sym f.0) (record {
      puts = (whole_prefix (subst (λ w. Appends old.written w text) (sym f.1) p.puts.0), omega (arith, p.puts.1, f.2), omega (arith, p.puts.1, f.3));
      next = tt;
      room = room-so (λ h. absurd h) (room_kept text p.room f.4);
    })
flushed_line {is_next} {at} {line} {old} {new = new} (Err error) result f p =
    subst (λ r. AnswersLine is_next at line old new r) (sym f.0) (subst (λ k. AnswersLine is_next at line old k (Err error)) (sym f.1) p)

-- the end after all lines, where nothing is written then
closes_run : (k : SinkState) (good : Bool) → ClosesRun k k good [] (end_of_all good)
closes_run k true = (refl, Appends-none k.written, refl)
closes_run k false = (refl, Appends-none k.written, refl)

not_failed : (good : Bool) → end_of_all good ≢ EndFailed
not_failed true h = cc h
not_failed false h = cc h

-- within more
pub goes_within : (b : Beginning) (less more : ℕ) (reader : LineState) (now : Outside) (good : Bool) (result : Option End) → less ≤ more
    → GoesOn b less reader now good result → GoesOn b more reader now good result
goes_within b less more reader now good None le go = (go.0, omega (arith, le, go.1))
goes_within b less more reader now good (Some end) le go = go

module _ (b : Beginning) where
  -- the line that waits is within the limit
  pub waits_fit : (reader : LineState) (now : Outside) (good : Bool) → Waits b reader now good → length reader.line ≤ b.start.rules.line_limit
  waits_fit reader now good w = line_fits (IsOf b) b.start b.reader w.before reader b.around.left w.left now.left b.around.source_faults w.faults
      now.source_faults b.around.sink now.sink good b.taken w.go w.given

  -- nothing is written after all answers
  closing_is : (at : Answering) → IsOf b at → at.rules.closing at.base at.between ≡ []
  closing_is at is = ap (λ (r : Rules). r.closing at.base at.between) is ∙ b.silent at.base at.between

  -- the lines up to that of a reader were answered, and it went on
  pub goes_next : (good : Bool) (old new : LineState) (lm ln : Option (List ℕ)) (sm sn : ℕ) (k : SinkState) (result : Option End)
      → Goes (IsOf b) b.start b.reader old b.around.left lm b.around.source_faults sm b.around.sink k good
      → ComesNext old new lm ln sm sn good result → GoesOn b (ahead old) new (outside ln sn k) good result
  goes_next good old new lm ln sm sn k None go given = (
    record { before = old; left = lm; faults = sm; go = go; given = given },
    falls b.start.rules lm ln sm sn old new go.going given,
  )
  goes_next good old new lm ln sm sn k (Some end) go given = λ before faults first begins read earlier.
      ⊎_elim
      (λ a. finishes (IsOf b) b.start b.reader old new b.around.left lm ln b.around.source_faults sm sn b.around.sink k good b.taken go
      before faults first begins read earlier k end a.0
      (λ at is. subst (ClosesRun k k good (at.rules.closing at.base at.between)) (sym a.1)
      (subst (λ t. ClosesRun k k good t (end_of_all good)) (sym (closing_is at is)) (closes_run k good)))
      (λ at is. room-same k.room_left (at.rules.closing at.base at.between) (λ _. subst (λ e. e ≢ EndFailed) (sym a.1) (not_failed good))))
      (λ f. stops_at (IsOf b) b.start b.reader old new b.around.left lm ln b.around.source_faults sm sn b.around.sink k good b.taken go
      before faults first begins read earlier f.0 end f.2 f.1)
      given

  module _ (reader : LineState) (now : Outside) (good : Bool) (answer : Result Bool AnswerError) (has : HasAnswer b reader now good answer)
      (kn : SinkState) where
    -- the answer was put, and the sink flushed where that is wanted
    pub answered_line : (answer_good : Bool) → FlushedAfter now.sink kn answer (Ok answer_good)
        → Goes (IsOf b) b.start b.reader reader b.around.left now.left b.around.source_faults now.source_faults b.around.sink kn (good && answer_good)
    answered_line answer_good f =
        let w = has.waits in
        one_line_more (IsOf b) b.start b.reader w.before reader b.around.left w.left now.left b.around.source_faults w.faults now.source_faults
        b.around.sink has.sink good b.taken w.go (IsOf b) kn answer_good w.given (λ at is. flushed_line answer (Ok answer_good) f (has.put at is))

    -- it was not
    pub failed_line : (error : AnswerError) (end : End) → FlushedAfter now.sink kn answer (Err error) → end ≡ end_of_error error
        → AnswersLines b.start b.reader b.around (record now { sink = kn }) end
    failed_line error end f is = λ before faults first begins read earlier.
        let w = has.waits in
        fails_at (IsOf b) b.start b.reader w.before reader b.around.left w.left now.left b.around.source_faults w.faults now.source_faults
        b.around.sink has.sink good b.taken w.go before faults first begins read earlier (IsOf b) kn error end is w.given
        (λ at is. flushed_line answer (Err error) f (has.put at is))

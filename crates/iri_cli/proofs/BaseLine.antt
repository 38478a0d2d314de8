-- The base line.
use Rattle.iri_cli.proofs.Common.{◌≡◌, ◌≢◌, ◌⊎◌, ℕ, ◌≤◌, List, [], ◌∷◌, ◌++◌, length, Bool, cond, true, false, Option, None, Some, Ok, Err, refl, sym}
use Rattle.iri_cli.proofs.Common.{◌∙◌, ap, subst, arith, inl, inr, ⊎_elim, append_assoc, append-nil, Rose, Consumes, IsAtEnd, Appends}
use Rattle.iri_cli.proofs.Common.{KeepsRoom, SinkState, LineState, Advances, Source, FaultLineTooLong, FaultInputTooLong, Appends-none}
use Rattle.iri_cli.proofs.Common.{room-same, Rules, Ending, Passed, unless_refused, first_passed, completed, completed_lines, stopped}
use Rattle.iri_cli.proofs.Common.{◌-◌, take, lines, ended_lines, answered, IsBaseTaken, ending_by, ending, IsOpen, HasRead, ReadsSome, ReadsPast, IsGoing, outside}
use Rattle.iri_cli.proofs.Common.{Decides, StopsShort, RanTo, Ran, End, BadBase, with_base}
use Rattle.iri_text.specs.declared.streams.reader.LineFault.{LineFault}
use Rattle.iri_cli.specs.run.Ending.{base_line}
use Rattle.iri_cli.specs.run.Buffers.{IsNew}
use Rattle.iri_cli.specs.inside.Steps.{end_at, GivesBase}
use Rattle.iri_cli.specs.inside.Answering.{RefusesBase}
use Rattle.iri_cli.specs.declared.run.end.End.TheVariants.{SinkFailed}
use Rattle.iri_cli.proofs.Reading.{left_is, read_none, reads_line, reads_all, reads_some, reads_long, reads_over, goes_on}
use Rattle.iri_cli.proofs.Ends.{ended_before, ends_past_none, no_fixed, ran_by}
use Rattle.iri_text.proofs.LinesLemmas.{no_cr-shorter}
use Rattle.iri_cli.proofs.Answered.{whole_prefix, taken_is, not_sink}

-- a line is within the limit of its reader
pub line_short : (lo ln : Option (List ℕ)) (fo fn : ℕ) (old new : LineState) → Advances old new lo ln fo fn (Ok true)
    → length new.line ≤ old.line_limit
line_short lo ln fo fn old new a = omega (arith, a.line_limit, a.says.short, no_cr-shorter a.says.raw, ap length a.says.line)

module _ (rules : Rules) where
  -- a new reader goes on
  pub new_going : (reader : LineState) → IsNew rules.line_limit rules.input_limit reader → IsGoing rules reader
  new_going reader n = record {
    line_limit = n.line_limit;
    input_limit = n.input_limit;
    going = n.going;
    within = omega (arith, n.taken);
    counted = omega (arith, ap length n.held);
  }

  module _ (lo ln : Option (List ℕ)) (fo fn : ℕ) (old new : LineState)
      (is : IsNew rules.line_limit rules.input_limit old) where
    before : HasRead rules lo lo old []
    before = read_none rules lo old is.held is.taken is.ended

    -- The first line was given, or there is none.
    pub gives_base : (found : Bool) (base : List ℕ) → Advances old new lo ln fo fn (Ok found) → base ≡ cond found new.line []
        → GivesBase rules lo ln new base × (length base ≤ rules.line_limit) × (fo ≤ fn)
    gives_base true base a line_is = (
      inl (
        subst (λ (l : List ℕ). HasRead rules lo ln new (l ∷ [])) (sym line_is)
            (reads_line rules lo lo ln fo fn old new [] (new_going old is) before a),
        goes_on rules lo ln fo fn old new (new_going old is) a,
      ),
      omega (arith, ap length line_is, is.line_limit, line_short lo ln fo fn old new a),
      a.later,
    )
    gives_base false base a none = (
      inr (reads_all rules lo lo ln fo fn old new [] (new_going old is) before a, none),
      omega (arith, ap length none),
      a.later,
    )

    -- The reader answered a fault.
    pub gives_fault : rules.fixed_base ≡ None → (fault : LineFault) → Advances old new lo ln fo fn (Err fault)
        → (sink : SinkState) → Ran rules (outside lo fo sink) (outside ln fn sink) (end_at fault)
    gives_fault none fault a sink = ran_by [] (by_fault fault a) (λ x known. (_, refl)) (whole_prefix (Appends-none sink.written))
        (room-same sink.room_left [] (λ _. not_sink fault)) a.later (omega arith)
      where
        decided : (status : ℕ) → ReadsPast rules status lo ln [] → Decides rules status (outside lo fo sink) (outside ln fn sink)
        decided status r = record {
          taken = r.taken;
          takes = r.takes;
          ends = λ more. ap (λ (e : Ending). e.status) (ends_past_none rules none status lo ln r more);
          writes = λ more. subst (Appends sink.written sink.written) (sym
              (ap (λ (e : Ending). e.output) (ends_past_none rules none status lo ln r more)))
              (Appends-none sink.written);
          sink = refl;
        }

        short : Rose fo fn → ReadsSome rules lo ln [] → StopsShort rules (outside lo fo sink) (outside ln fn sink)
        short rose r = record {
          taken = r.taken;
          takes = r.takes;
          passes = r.passes;
          base_taken = subst (IsBaseTaken rules) (sym (ap (with_base rules) r.ended ∙ no_fixed rules none [])) tt;
          writes = subst (λ (t : List (List ℕ)). Appends sink.written sink.written (answered rules t))
              (sym (ap (with_base rules) r.ended ∙ no_fixed rules none []))
              (Appends-none sink.written);
          source = rose;
          sink = refl;
        }

        by_fault : (f : LineFault) → Advances old new lo ln fo fn (Err f)
            → RanTo rules (outside lo fo sink) (outside ln fn sink) (end_at f)
        by_fault Source b = short b.cause (reads_some rules lo lo ln fo fn old new [] (new_going old is) before b)
        by_fault FaultLineTooLong b = decided 7 (reads_long rules lo lo ln fo fn old new [] (new_going old is) before b)
        by_fault FaultInputTooLong b = decided 8 (reads_over rules lo lo ln fo fn old new [] (new_going old is) before b)

  -- the ending where a base is refused
  module _ (none : rules.fixed_base ≡ None) (base words : List ℕ) (refused : rules.refusal base ≡ Some words) where
    refused_is : (e : Ending) → unless_refused (rules.refusal base) e ≡ record { status = 3; output = base_line words }
    refused_is e = ap (λ (o : Option (List ℕ)). unless_refused o e) refused

    -- a base line, and lines after it
    base_first : (whole more : List (List ℕ)) → whole ≡ base ∷ more → with_base rules whole ≡ base ∷ more
    base_first whole more is = no_fixed rules none whole ∙ is

    refused_open : (given : List ℕ) → IsOpen rules given (base ∷ []) → (y : List ℕ)
        → ending rules (given ++ y) ≡ record { status = 3; output = base_line words }
    refused_open given o y = by_passed (first_passed rules (given ++ y)) refl
      where
        by_passed : (p : Option Passed) → first_passed rules (given ++ y) ≡ p
            → ending_by rules (given ++ y) p ≡ record { status = 3; output = base_line words }
        by_passed None is = ap (completed_lines rules) (base_first (lines (given ++ y)) (lines y) (o.all y)) ∙ refused_is _
        by_passed (Some p) is = ap (stopped rules p.status)
            (base_first (ended_lines (take p.place (given ++ y))) (ended_lines (take (p.place - length given) y))
            (ended_before rules given (base ∷ []) o y p is)) ∙ refused_is _

    -- these bytes were taken, and have this ending however the source goes on; or they are all
    abbrev EndsOpen : Option (List ℕ) → Option (List ℕ) → Type 0
    EndsOpen lo ln = (taken : List ℕ) × Consumes lo ln taken
        × ((more : List ℕ) → ending rules (taken ++ more) ≡ record { status = 3; output = base_line words })

    abbrev EndsAll : Option (List ℕ) → Option (List ℕ) → Type 0
    EndsAll lo ln = (taken : List ℕ) × Consumes lo ln taken × IsAtEnd ln × (ending rules taken ≡ record { status = 3; output = base_line words })

    -- The base is refused.
    pub refuses : (lo ln : Option (List ℕ)) (fo fn : ℕ) (ko kn : SinkState) (reader : LineState) (end : End)
        → GivesBase rules lo ln reader base → fo ≤ fn
        → RefusesBase words ko kn end → KeepsRoom ko.room_left kn.room_left (base_line words) (end ≢ SinkFailed)
        → Ran rules (outside lo fo ko) (outside ln fn kn) end
    refuses lo ln fo fn ko kn reader end gives later = by_end end
      where
        ends : EndsOpen lo ln ⊎ EndsAll lo ln
        ends = ⊎_elim
            (λ h. ⊎_elim
            (λ o. inl (
              h.0.given ++ reader.held,
              h.0.takes,
              λ more. ap (ending rules) (append_assoc h.0.given reader.held more) ∙ refused_open h.0.given o.1 (reader.held ++ more),
            ))
            (λ c. inr (
              h.0.given,
              subst (Consumes lo ln) (ap (λ (t : List ℕ). h.0.given ++ t) (c.1).nothing ∙ append-nil h.0.given) h.0.takes,
              (c.1).at_end,
              ap (ending_by rules h.0.given) (c.1).passes
                  ∙ ap (completed_lines rules) (base_first (lines h.0.given) [] (c.1).all) ∙ refused_is _,
            ))
            h.0.place)
            (λ h. inr (
              h.0.taken,
              h.0.takes,
              h.0.at_end,
              ap (ending_by rules h.0.taken) h.0.passes
                  ∙ ap (completed_lines rules) (no_fixed rules none (lines h.0.taken) ∙ h.0.all)
                  ∙ ap (λ (b : List ℕ). completed rules b []) (sym h.1) ∙ refused_is _,
            ))
            gives

        output : (x : List ℕ) → lo ≡ Some x → (more : List ℕ) × ((ending rules x).output ≡ base_line words ++ more)
        output x known = (
          [],
          ⊎_elim
              (λ e. let l = left_is ln x e.0 (subst (λ (s : Option (List ℕ)). Consumes s ln e.0) known e.1) in
              ap (λ (n : Ending). n.output) (ap (ending rules) l.2 ∙ e.2 l.0))
              (λ e. ap (λ (n : Ending). n.output) (ap (ending rules) (taken_is lo ln x e.0 known e.1 e.2) ∙ e.3)) ends
              ∙ sym (append-nil (base_line words)),
        )

        by_end : (e : End) → RefusesBase words ko kn e → KeepsRoom ko.room_left kn.room_left (base_line words) (e ≢ SinkFailed)
            → Ran rules (outside lo fo ko) (outside ln fn kn) e
        by_end BadBase q k =
            ran_by (base_line words) (⊎_elim
            (λ e. inl (record {
              taken = e.0;
              takes = e.1;
              ends = λ more. ap (λ (n : Ending). n.status) (e.2 more);
              writes = λ more. subst (Appends ko.written kn.written) (sym (ap (λ (n : Ending). n.output) (e.2 more))) q.0;
              sink = q.1;
            }))
            (λ e. inr (record {
              taken = e.0;
              takes = e.1;
              at_end = e.2;
              ends = ap (λ (n : Ending). n.status) e.3;
              writes = subst (Appends ko.written kn.written) (sym (ap (λ (n : Ending). n.output) e.3)) q.0;
              sink = q.1;
            }))
            ends) output (whole_prefix q.0) k later (omega (arith, q.1))
        by_end SinkFailed q k = ran_by (base_line words) q.1 output q.0 k later q.2
        by_end e q k = absurd q

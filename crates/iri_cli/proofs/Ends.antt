-- The ending of an input by the lines that were read of it.
use Rattle.iri_cli.proofs.Common.{◌≡◌, ℕ, ◌+◌, ◌-◌, ◌≤◌, List, [], ◌∷◌, ◌++◌, ◌&&◌, length, take, Bool, if◌then◌else◌, Option, None, Some}
use Rattle.iri_cli.proofs.Common.{refl, sym, ◌∙◌, ap, subst, arith, ⊎_elim, append_assoc, concat, list_all, append-nil, lines, Consumes}
use Rattle.iri_cli.proofs.Common.{IsAtEnd, LineState, ended_lines, Rules, Ending, Passed, unless_refused, first_passed, answers, completed}
use Rattle.iri_cli.proofs.Common.{completed_lines, stopped, ending_by, ending, IsOpen, HasRead, ReadsAll, ReadsPast}
use Rattle.iri_cli.proofs.Common.{◌⊎◌, inl, inr, ◌≢◌, AppendsPrefix, KeepsRoom, Outside, RanTo, Ran, End, with_base, after_fixed, BeginsWith}
use Rattle.iri_text.proofs.Puts.{prefix-longer, room-longer}
use Rattle.iri_cli.specs.declared.run.end.End.TheVariants.{SinkFailed}
use Rattle.std.proofs.Math.Bool.{and-true}
use Rattle.std.proofs.lemmas.List.Folds.{concat-append, list_all-append}
use Rattle.std.proofs.Math.Seq.{take-append-add}
use Rattle.iri_cli.specs.run.Ending.{answers_after}
use Rattle.iri_cli.specs.inside.Read.{IsClosed}
use Rattle.iri_cli.proofs.LineSteps.{place_later}
use Rattle.iri_cli.proofs.Reading.{left_is}

-- A run ended so, and of these bytes, with which its output begins, a prefix was written.
pub ran_by : {rules : Rules} {old new : Outside} {end : End} (text : List ℕ) → RanTo rules old new end
    → ((x : List ℕ) → old.left ≡ Some x → (more : List ℕ) × ((ending rules x).output ≡ text ++ more))
    → AppendsPrefix old.sink.written new.sink.written text → KeepsRoom old.sink.room_left new.sink.room_left text (end ≢ SinkFailed)
    → old.source_faults ≤ new.source_faults → old.sink.faults ≤ new.sink.faults → Ran rules old new end
ran_by {rules} {old} {new} {end} text to output prefix room source sink = record {
  to = to;
  prefix = λ x known.
      let h = output x known in
      subst (AppendsPrefix old.sink.written new.sink.written) (sym h.1) (prefix-longer h.0 prefix);
  source_later = source;
  sink_later = sink;
  room = λ x known.
      let h = output x known in
      subst (λ (t : List ℕ). KeepsRoom old.sink.room_left new.sink.room_left t (end ≢ SinkFailed)) (sym h.1) (room-longer h.0 room);
}

module _ (rules : Rules) where
  -- an input of which lines were read: whole lines and others after them, or all of its lines
  read_input : {lo ln : Option (List ℕ)} {reader : LineState} {whole : List (List ℕ)} {input : List ℕ} → (go : HasRead rules lo ln reader whole)
      → lo ≡ Some input → (IsOpen rules go.given whole × (more : List ℕ) × (input ≡ go.given ++ more))
      ⊎ (IsClosed rules go.given reader.held whole ln × (input ≡ go.given))
  read_input {ln = ln} {reader} {input = input} go known =
      let l = left_is ln input (go.given ++ reader.held)
      (subst (λ (s : Option (List ℕ)). Consumes s ln (go.given ++ reader.held)) known go.takes) in
      ⊎_elim (λ o. inl (o.1, reader.held ++ l.0, l.2 ∙ append_assoc go.given reader.held l.0))
      (λ c. inr (
        c.1,
        l.2 ∙ ap (λ (t : List ℕ). (go.given ++ reader.held) ++ t) (subst IsAtEnd l.1 (c.1).at_end)
            ∙ append-nil (go.given ++ reader.held) ∙ ap (λ (t : List ℕ). go.given ++ t) (c.1).nothing ∙ append-nil go.given,
      )) go.place

  -- the lines that an LF ends before a limit that is passed after whole lines
  pub ended_before : (given : List ℕ) (whole : List (List ℕ)) → IsOpen rules given whole → (y : List ℕ) (p : Passed)
      → first_passed rules (given ++ y) ≡ Some p
      → ended_lines (take p.place (given ++ y)) ≡ whole ++ ended_lines (take (p.place - length given) y)
  ended_before given whole o y p is =
      let later : length given ≤ p.place = place_later rules (length given) 0 y p (sym (o.passes y) ∙ is) in
      let place : p.place ≡ length given + (p.place - length given) = omega (arith, later) in
      ap ended_lines (ap (λ (n : ℕ). take n (given ++ y)) place ∙ take-append-add given y (p.place - length given))
      ∙ o.ended (take (p.place - length given) y)

  -- answers to more lines
  pub answers-append : (base : List ℕ) (between xs ys : List (List ℕ))
      → answers_after rules base between (xs ++ ys) ≡ answers_after rules base between xs ++ answers_after rules base (between ++ xs) ys
  answers-append base between [] ys = ap (λ (b : List (List ℕ)). answers_after rules base b ys) (sym (append-nil between))
  answers-append base between (x ∷ xs) ys =
      ap (λ (t : List (List ℕ)). rules.answer base between x ∷ t)
      (answers-append base (between ++ x ∷ []) xs ys
      ∙ ap (λ (b : List (List ℕ)). answers_after rules base (between ++ x ∷ []) xs ++ answers_after rules base b ys)
      (append_assoc between (x ∷ []) xs))

  module _ (base : List ℕ) (taken : rules.refusal base ≡ None) where
    -- one answer more
    pub one_more : (rest : List (List ℕ)) (line : List ℕ)
        → concat (answers rules base (rest ++ line ∷ [])) ≡ concat (answers rules base rest) ++ rules.answer base rest line
    one_more rest line =
        ap concat (answers-append base [] rest (line ∷ []))
        ∙ concat-append (answers rules base rest) (answers_after rules base rest (line ∷ []))
        ∙ ap (λ (t : List ℕ). concat (answers rules base rest) ++ t) (append-nil (rules.answer base rest line))

    pub one_more_good : (rest : List (List ℕ)) (line : List ℕ)
        → list_all rules.is_good (answers rules base (rest ++ line ∷ []))
        ≡ (list_all rules.is_good (answers rules base rest) && rules.is_good (rules.answer base rest line))
    one_more_good rest line =
        ap (list_all rules.is_good) (answers-append base [] rest (line ∷ []))
        ∙ list_all-append rules.is_good (answers rules base rest) (answers_after rules base rest (line ∷ []))
        ∙ ap (λ (b : Bool). list_all rules.is_good (answers rules base rest) && b) (and-true (rules.is_good (rules.answer base rest line)))

    -- the base is taken
    pub is_taken : (e : Ending) → unless_refused (rules.refusal base) e ≡ e
    is_taken e = ap (λ (o : Option (List ℕ)). unless_refused o e) taken

    -- these answers come first
    abbrev pub IsFirst : List (List ℕ) → List ℕ → Type 0
    IsFirst rest output = (more : List ℕ) × (output ≡ concat (answers rules base rest) ++ more)

    more_lines : (rest others : List (List ℕ)) → concat (answers rules base (rest ++ others))
        ≡ concat (answers rules base rest) ++ concat (answers_after rules base rest others)
    more_lines rest others = ap concat (answers-append base [] rest others)
        ∙ concat-append (answers rules base rest) (answers_after rules base rest others)

    first_completed : (rest others : List (List ℕ)) → IsFirst rest (completed rules base (rest ++ others)).output
    first_completed rest others = (
      concat (answers_after rules base rest others) ++ rules.closing base (rest ++ others),
      ap (λ (e : Ending). e.output) (is_taken _) ∙ ap (λ (t : List ℕ). t ++ rules.closing base (rest ++ others)) (more_lines rest others)
          ∙ append_assoc (concat (answers rules base rest)) (concat (answers_after rules base rest others))
          (rules.closing base (rest ++ others)),
    )

    first_stopped : (status : ℕ) (rest others : List (List ℕ)) → IsFirst rest (stopped rules status (base ∷ (rest ++ others))).output
    first_stopped status rest others = (
      concat (answers_after rules base rest others),
      ap (λ (e : Ending). e.output) (is_taken _)
          ∙ more_lines rest others,
    )

    module _ (first : List (List ℕ)) (begins : BeginsWith rules base first) where
      -- lines up to the base and after it, by the base
      lines_on : (rest others whole : List (List ℕ)) → whole ≡ (first ++ rest) ++ others → with_base rules whole ≡ base ∷ (rest ++ others)
      lines_on rest others whole is = ap (with_base rules) (is ∙ append_assoc first rest others) ∙ begins (rest ++ others)

      -- after whole lines
      first_open : (given : List ℕ) (rest : List (List ℕ)) → IsOpen rules given (first ++ rest) → (y : List ℕ)
          → IsFirst rest (ending rules (given ++ y)).output
      first_open given rest o y = by_passed (first_passed rules (given ++ y)) refl
        where
          by_passed : (p : Option Passed) → first_passed rules (given ++ y) ≡ p → IsFirst rest (ending_by rules (given ++ y) p).output
          by_passed None is = subst (λ (t : List (List ℕ)). IsFirst rest (completed_lines rules t).output)
              (sym (lines_on rest (lines y) (lines (given ++ y)) (o.all y))) (first_completed rest (lines y))
          by_passed (Some p) is =
              let others = ended_lines (take (p.place - length given) y) in
              subst (λ (t : List (List ℕ)). IsFirst rest (stopped rules p.status t).output)
              (sym (lines_on rest others (ended_lines (take p.place (given ++ y))) (ended_before given (first ++ rest) o y p is)))
              (first_stopped p.status rest others)

      -- of an input whose lines were read so far
      pub first_read : (lo ln : Option (List ℕ)) (reader : LineState) (rest : List (List ℕ)) → HasRead rules lo ln reader (first ++ rest)
          → (input : List ℕ) → lo ≡ Some input → IsFirst rest (ending rules input).output
      first_read lo ln reader rest go input known =
          ⊎_elim (λ o. subst (λ (x : List ℕ). IsFirst rest (ending rules x).output) (sym o.2) (first_open go.given rest o.0 o.1))
          (λ c. subst (λ (x : List ℕ). IsFirst rest (ending rules x).output) (sym c.1)
          (subst (λ (p : Option Passed). IsFirst rest (ending_by rules go.given p).output) (sym (c.0).passes)
          (subst (λ (t : List (List ℕ)). IsFirst rest (completed_lines rules t).output)
          (sym (lines_on rest [] (lines go.given) ((c.0).all ∙ sym (append-nil (first ++ rest))))) (first_completed rest []))))
          (read_input go known)

      -- the ending of a whole input
      pub ends_all : (lo ln : Option (List ℕ)) (rest : List (List ℕ)) → (r : ReadsAll rules lo ln (first ++ rest))
          → ending rules r.taken ≡ record {
            status = if list_all rules.is_good (answers rules base rest) then 0 else 1;
            output = concat (answers rules base rest) ++ rules.closing base rest;
          }
      ends_all lo ln rest r = ap (ending_by rules r.taken) r.passes
          ∙ ap (completed_lines rules) (ap (with_base rules) r.all ∙ begins rest) ∙ is_taken _

      -- the ending where a limit is passed
      pub ends_past : (status : ℕ) (lo ln : Option (List ℕ)) (rest : List (List ℕ)) → (r : ReadsPast rules status lo ln (first ++ rest))
          → (more : List ℕ)
          → ending rules (r.taken ++ more) ≡ record { status = status; output = concat (answers rules base rest) }
      ends_past status lo ln rest r more = ap (ending_by rules (r.taken ++ more)) (r.passes more)
          ∙ ap (stopped rules status) (ap (with_base rules) (r.ended more) ∙ begins rest) ∙ is_taken _

  -- where no base is fixed the lines of an input have it
  pub no_fixed : rules.fixed_base ≡ None → (whole : List (List ℕ)) → with_base rules whole ≡ whole
  no_fixed none whole = ap (λ (b : Option (List ℕ)). after_fixed b whole) none

  -- the ending where a limit is passed in the base line
  pub ends_past_none : rules.fixed_base ≡ None → (status : ℕ) (lo ln : Option (List ℕ)) → (r : ReadsPast rules status lo ln [])
      → (more : List ℕ) → ending rules (r.taken ++ more) ≡ record { status = status; output = [] }
  ends_past_none none status lo ln r more = ap (ending_by rules (r.taken ++ more)) (r.passes more)
      ∙ ap (stopped rules status) (ap (with_base rules) (r.ended more) ∙ no_fixed none [])

  -- the lines of an input that were read come first in it
  pub first_lines : (lo ln : Option (List ℕ)) (reader : LineState) (whole : List (List ℕ)) → HasRead rules lo ln reader whole
      → (input : List ℕ) → lo ≡ Some input → (more : List (List ℕ)) × (lines input ≡ whole ++ more)
  first_lines lo ln reader whole go input known =
      ⊎_elim (λ o. (lines o.1, ap lines o.2 ∙ (o.0).all o.1)) (λ c. ([], ap lines c.1 ∙ (c.0).all ∙ sym (append-nil whole)))
      (read_input go known)

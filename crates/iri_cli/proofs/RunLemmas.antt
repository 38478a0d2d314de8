-- What each status of a run says.
use Rattle.iri_cli.proofs.Common.{◌≡◌, ◌≢◌, ◌⊎◌, ℕ, ◌+◌, List, [], ◌∷◌, length, false, Option, Some, refl, sym, ◌∙◌, ap, subst, arith}
use Rattle.iri_cli.proofs.Common.{inl, inr, ⊎_elim, Rose, Consumes, Appends, AppendsPrefix, KeepsRoom, SinkState, Rules}
use Rattle.iri_cli.proofs.Common.{ending, Outside, outside, Finishes, Decides, RanTo, Ran, status_of, End, Done, SomeBad}
use Rattle.iri_cli.proofs.Common.{BadBase, SourceFailed, Memory, LineTooLong, InputTooLong, with_base}
use Rattle.iri_text.proofs.Puts.{room-less}
use Rattle.iri_text.specs.Sink.{HasRoom}
use Rattle.iri_cli.specs.run.Run.{RunsOut, Runs, MayRunOut, WantsMemory}
use Rattle.iri_cli.specs.inside.Closes.{Closes}
use Rattle.iri_cli.specs.declared.run.end.End.TheVariants.{SinkFailed}
use Rattle.iri_cli.proofs.Reading.{left_is}
use Rattle.iri_cli.proofs.Answered.{taken_is}

module _ (rules : Rules) (old new : Outside) where
  -- status and output are those of the input's ending
  abbrev pub Meets : ℕ → List ℕ → Type 0
  Meets status x = (status ≡ (ending rules x).status) × Appends old.sink.written new.sink.written (ending rules x).output

  finished : (n : ℕ) → Finishes rules n old new → (x : List ℕ) → old.left ≡ Some x → Meets n x
  finished n p x known =
      let all = taken_is old.left new.left x p.taken known p.takes p.at_end in (
        sym p.ends ∙ ap (λ (t : List ℕ). (ending rules t).status) (sym all),
        subst (λ (t : List ℕ). Appends old.sink.written new.sink.written (ending rules t).output) (sym all) p.writes,
      )

  decided : (n : ℕ) → Decides rules n old new → (x : List ℕ) → old.left ≡ Some x → Meets n x
  decided n p x known =
      let l = left_is new.left x p.taken (subst (λ (s : Option (List ℕ)). Consumes s new.left p.taken) known p.takes) in (
        sym (p.ends l.0) ∙ ap (λ (t : List ℕ). (ending rules t).status) (sym l.2),
        subst (λ (t : List ℕ). Appends old.sink.written new.sink.written (ending rules t).output) (sym l.2) (p.writes l.0),
      )

  may_run_out : RunsOut rules old new → (x : List ℕ) → old.left ≡ Some x → MayRunOut rules x
  may_run_out p x known =
      let h = p.first x known in
      record { whole = p.whole; line = p.line; more = h.0; all = h.1; base_taken = p.base_taken; wants = p.wants }

  meets_or_runs_out : (e : End) → RanTo rules old new e → (x : List ℕ) → old.left ≡ Some x → ¬ (Rose old.source_faults new.source_faults)
      → e ≢ SinkFailed → Meets (status_of e) x ⊎ ((status_of e ≡ 6) × MayRunOut rules x)
  meets_or_runs_out Done p x known f k = inl (finished 0 p x known)
  meets_or_runs_out SomeBad p x known f k = inl (finished 1 p x known)
  meets_or_runs_out BadBase p x known f k = inl (⊎_elim (λ q. decided 3 q x known) (λ q. finished 3 q x known) p)
  meets_or_runs_out SourceFailed p x known f k = absurd (f p.source)
  meets_or_runs_out SinkFailed p x known f k = absurd (k refl)
  meets_or_runs_out Memory p x known f k = inr (refl, may_run_out p x known)
  meets_or_runs_out LineTooLong p x known f k = inl (decided 7 p x known)
  meets_or_runs_out InputTooLong p x known f k = inl (decided 8 p x known)

  -- Where the source tells its bytes and doesn't fail, and the sink is known to have room, status and output are those of the ending, or
  -- allocation failed.
  pub completes_in_room : (status : ℕ) → Runs rules old new status → (x : List ℕ) → old.left ≡ Some x
      → ¬ (Rose old.source_faults new.source_faults) → HasRoom old.sink.room_left (length (ending rules x).output)
      → Meets status x ⊎ ((status ≡ 6) × MayRunOut rules x)
  completes_in_room status r x known f k =
      subst (λ (n : ℕ). Meets n x ⊎ ((n ≡ 6) × MayRunOut rules x)) (sym r.status_is)
      (meets_or_runs_out r.end r.ran.to x known f ((r.ran.room x known).holds k))

  ran_out : (e : End) → RanTo rules old new e → status_of e ≡ 6 → RunsOut rules old new
  ran_out Memory p h = p
  ran_out e p h = absurd (omega (arith, h))

  -- allocation fails only where lines take it
  pub never_six : rules.base_wants_memory ≡ false
      → ((base : List ℕ) (between : List (List ℕ)) (line : List ℕ) → rules.wants_memory base between line ≡ false) → (status : ℕ)
      → Runs rules old new status → status ≢ 6
  never_six none no_line status r h = let p = ran_out r.end r.ran.to (sym r.status_is ∙ h) in by_whole (with_base rules p.whole) p.line p.wants
    where
      by_whole : (whole : List (List ℕ)) (line : List ℕ) → WantsMemory rules whole line → ⊥
      by_whole [] line wants = let m = wants.0 in cc
      by_whole (base ∷ between) line wants = let n = no_line base between line in cc

  -- no end has the status of words that are no command
  pub never_two : (status : ℕ) → Runs rules old new status → status ≢ 2
  never_two status r h = not_two r.end (sym r.status_is ∙ h)
    where
      not_two : (e : End) → status_of e ≢ 2
      not_two Done h = omega (arith, h)
      not_two e h = omega (arith, h)

-- A run that ended so, and whose sink was flushed then.
pub closed : (rules : Rules) (lo ln : Option (List ℕ)) (so sn : ℕ) (ko km kn : SinkState) (end last : End)
    → Ran rules (outside lo so ko) (outside ln sn km) end → Closes km kn end last → Ran rules (outside lo so ko) (outside ln sn kn) last
closed rules lo ln so sn ko km kn end last r c = ⊎_elim same broken c.ends
  where
    room : (x : List ℕ) → lo ≡ Some x → KeepsRoom ko.room_left kn.room_left (ending rules x).output (last ≢ SinkFailed)
    room x known =
        let k = r.room x known in
        record {
          holds = λ h failed. k.holds h (sym ((c.room).holds
              (k.left 0 (room-less ko.room_left (length (ending rules x).output) (length (ending rules x).output + 0) (omega arith) h)))
              ∙ failed);
          left = λ more h. (c.room).left more (room-less km.room_left more (0 + more) (omega arith) (k.left more h));
        }

    prefix : (x : List ℕ) → lo ≡ Some x → AppendsPrefix ko.written kn.written (ending rules x).output
    prefix x known = subst (λ (w : Option (List ℕ)). AppendsPrefix ko.written w (ending rules x).output) (sym c.kept) (r.prefix x known)

    writes : (bytes : List ℕ) → Appends ko.written km.written bytes → Appends ko.written kn.written bytes
    writes bytes p = subst (λ (w : Option (List ℕ)). Appends ko.written w bytes) (sym c.kept) p

    finishes : kn.faults ≡ km.faults → (n : ℕ) → Finishes rules n (outside lo so ko) (outside ln sn km)
        → Finishes rules n (outside lo so ko) (outside ln sn kn)
    finishes k n p =
        record { taken = p.taken; takes = p.takes; at_end = p.at_end; ends = p.ends; writes = writes _ p.writes; sink = k ∙ p.sink }

    decides : kn.faults ≡ km.faults → (n : ℕ) → Decides rules n (outside lo so ko) (outside ln sn km)
        → Decides rules n (outside lo so ko) (outside ln sn kn)
    decides k n p = record { taken = p.taken; takes = p.takes; ends = p.ends; writes = λ more. writes _ (p.writes more); sink = k ∙ p.sink }

    -- where the count of faults stays too, the end is the same
    same_end : kn.faults ≡ km.faults → (e : End) → RanTo rules (outside lo so ko) (outside ln sn km) e
        → RanTo rules (outside lo so ko) (outside ln sn kn) e
    same_end k Done p = finishes k 0 p
    same_end k SomeBad p = finishes k 1 p
    same_end k BadBase p = ⊎_elim (λ q. inl (decides k 3 q)) (λ q. inr (finishes k 3 q)) p
    same_end k SourceFailed p = record {
      taken = p.taken;
      takes = p.takes;
      passes = p.passes;
      base_taken = p.base_taken;
      writes = writes _ p.writes;
      source = p.source;
      sink = k ∙ p.sink;
    }
    same_end k SinkFailed p = omega (arith, p, k)
    same_end k Memory p = record {
      whole = p.whole;
      line = p.line;
      wants = p.wants;
      first = p.first;
      base_taken = p.base_taken;
      writes = writes _ p.writes;
      sink = k ∙ p.sink;
    }
    same_end k LineTooLong p = decides k 7 p
    same_end k InputTooLong p = decides k 8 p

    same : (last ≡ end) × (kn.faults ≡ km.faults) → Ran rules (outside lo so ko) (outside ln sn kn) last
    same p = record {
      to = subst (λ (e : End). RanTo rules (outside lo so ko) (outside ln sn kn) e) (sym p.0) (same_end p.1 end r.to);
      prefix = prefix;
      source_later = r.source_later;
      sink_later = omega (arith, p.1, r.sink_later);
      room = room;
    }

    broken : (last ≡ SinkFailed) × Rose km.faults kn.faults → Ran rules (outside lo so ko) (outside ln sn kn) last
    broken p = record {
      to = subst (λ (e : End). RanTo rules (outside lo so ko) (outside ln sn kn) e) (sym p.0) (omega (arith, p.1, r.sink_later));
      prefix = prefix;
      source_later = r.source_later;
      sink_later = omega (arith, c.later, r.sink_later);
      room = room;
    }

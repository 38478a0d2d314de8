-- How a run begins.
use Rattle.iri_cli.proofs.Common.{◌≡◌, ℕ, ◌≤◌, Bool, cond, List, [], ◌∷◌, length, true, Option, None, Ok, refl, sym, ◌∙◌, ap, subst, arith}
use Rattle.iri_cli.proofs.Common.{⊎_elim, Tests, bytes_fault, absolute_fault, LineState, Appends, Appends-none, room-same, SinkState}
use Rattle.iri_cli.proofs.Common.{refusal, Answering, IsReady, Rules, begun, answered, IsBaseTaken, with_base}
use Rattle.iri_cli.proofs.Common.{outside, Ran, Memory, Advances, longest_line}
use Rattle.iri_normal.proofs.canonical_texts.CanonicalTexts.{fault_none}
use Rattle.iri_cli.specs.run.Buffers.{AreBuffers, IsNew}
use Rattle.iri_cli.specs.run.Run.{WantsMemory}
use Rattle.iri_cli.specs.inside.Opening.{BeginsAsCanon, IsPreparedOf, StandsAfter}
use Rattle.iri_cli.specs.inside.Steps.{GivesBase}
use Rattle.iri_cli.proofs.BytesLemmas.{refused_none}
use Rattle.iri_cli.proofs.Answered.{whole_prefix}
use Rattle.iri_cli.proofs.BaseLine.{gives_base}
use Rattle.iri_cli.proofs.Ends.{first_lines, no_fixed, ran_by}

-- the empty text is no base
refuses_empty : (s : Tests) → refusal s [] ≡ None → ⊥
unfolding refusal
refuses_empty s h = let e : absolute_fault s [] ≡ None =
    fault_none (absolute_fault s) [] (refused_none (bytes_fault (absolute_fault s) []) h) in cc e

module _ (s : Tests) (rules : Rules) (begins : BeginsAsCanon s rules) where
  -- the buffers have a new reader
  pub new_reader : (reader : LineState) (base output : ℕ) → AreBuffers reader base output → IsNew rules.line_limit rules.input_limit reader
  new_reader reader base output b = rw (begins.line_limit, begins.input_limit) b.new

  -- the first line was read, or there is none
  pub first_read : (old new : LineState) (base output : ℕ) (lo lm : Option (List ℕ)) (fo fn : ℕ) (found : Bool) (line : List ℕ)
      → AreBuffers old base output → Advances old new lo lm fo fn (Ok found) → line ≡ cond found new.line []
      → GivesBase rules lo lm new line × (length line ≤ longest_line) × (fo ≤ fn)
  first_read old new base output lo lm fo fn found line b a is =
      let n = gives_base rules lo lm fo fn old new (new_reader old base output b) found line a is in
      let limit : rules.line_limit ≡ longest_line = begins.line_limit in
      (n.0, omega (arith, n.1, limit), n.2)

  module _ (line : List ℕ) where
    pub refusal_is : rules.refusal line ≡ refusal s line
    refusal_is = ap (λ (r : List ℕ → Option (List ℕ)). r line) begins.refusal

    -- the base line was read, and the reader goes on
    pub after_line : (lo lm : Option (List ℕ)) (reader : LineState) (text : List ℕ) → rules.fixed_base ≡ None
        → GivesBase rules lo lm reader line → length line ≤ longest_line → IsPreparedOf s line text → StandsAfter s rules lo lm reader line text
    after_line lo lm reader text none gives short p =
        let read = ⊎_elim (λ h. h) (λ h. absurd (refuses_empty s (subst (λ (t : List ℕ). refusal s t ≡ None) h.1 p.taken))) gives in
        record {
          not_fixed = none;
          read = read.0;
          going = read.1;
          short = short;
          is_prepared = p;
        }

    module _ (lo lm : Option (List ℕ)) (reader : LineState) (text : List ℕ) (at : StandsAfter s rules lo lm reader line text) where
      -- the command stands after it
      pub ready : (stands_at : Answering → Type 0) → stands_at (begun rules line) → IsReady stands_at (begun rules line) reader
      ready stands_at stands = record { at = stands; first = refl; base_taken = refusal_is ∙ at.is_prepared.taken; going = at.going }

      -- allocation failed before the first line after the base was answered
      pub ends_in_memory : (fo fn : ℕ) (ko : SinkState) → rules.base_wants_memory ≡ true → fo ≤ fn
          → Ran rules (outside lo fo ko) (outside lm fn ko) Memory
      ends_in_memory fo fn ko takes later =
          let empty : with_base rules [] ≡ [] = no_fixed rules at.not_fixed [] in
          ran_by [] (record {
            whole = [];
            line = line;
            wants = subst (λ (t : List (List ℕ)). WantsMemory rules t line) (sym empty) (takes, refusal_is ∙ at.is_prepared.taken);
            first = first_lines rules lo lm reader (line ∷ []) at.read;
            base_taken = subst (IsBaseTaken rules) (sym empty) tt;
            writes = subst (λ (t : List (List ℕ)). Appends ko.written ko.written (answered rules t)) (sym empty) (Appends-none ko.written);
            sink = refl;
          }) (λ x known. (_, refl)) (whole_prefix (Appends-none ko.written)) (room-same ko.room_left [] (λ _ h. cc h)) later (omega arith)

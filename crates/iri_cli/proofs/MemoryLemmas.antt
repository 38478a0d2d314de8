-- Allocation that failed at a line.
use Rattle.iri_cli.proofs.Common.{◌≡◌, ◌∙◌, ℕ, List, true, Err, refl, ap, SinkState, room-same, Answering, AnswersLine, Rules}
use Rattle.iri_cli.specs.declared.run.answers.AnswerError.TheVariants.{Memory}

-- nothing was put for a line that takes memory
pub answers_memory : (rules : Rules) (at : Answering) (line : List ℕ) (k : SinkState) (is_next : Answering → Type 0) → at.rules ≡ rules
    → rules.wants_memory at.base at.between line ≡ true → AnswersLine is_next at line k k (Err Memory)
answers_memory rules at line k is_next is wants = record {
  puts = (ap (λ (x : Rules). x.wants_memory at.base at.between line) is ∙ wants, refl, refl);
  next = tt;
  room = room-same k.room_left (at.rules.answer at.base at.between line) (λ _ h. cc h);
}

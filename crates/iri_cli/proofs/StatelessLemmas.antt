-- The answers of commands that answer each line alone.
use Rattle.iri_cli.proofs.Common.{◌≡◌, ◌≢◌, ◌∙◌, ℕ, Bool, false, List, [], ◌∷◌, ◌++◌, Result, Err, sym, ap, subst, Tests, CanonMode, KeepsRoom, SinkState}
use Rattle.iri_cli.proofs.Common.{Answering, AnswersLine, PutsAnswer, is_ok, Rules, AnswerError, SinkFailed}
use Rattle.iri_cli.specs.inside.StatelessAt.{IsStatelessAt}
use Rattle.iri_cli.proofs.CanonLemmas.{on_ok, puts_answer}
use Rattle.iri_cli.proofs.PutLemmas.{room_text}

module _ (answer : Tests → CanonMode → List ℕ → List ℕ → List ℕ) (base_takes_memory : Bool) (takes_memory : Tests → List ℕ → Bool) (s : Tests) (mode : CanonMode) where
  module _ (base : List ℕ) (at : Answering) (is : IsStatelessAt answer base_takes_memory takes_memory s mode base at) (line : List ℕ) where
    answer_is : answer s mode base line ≡ at.rules.answer at.base at.between line
    answer_is = is.alike.answer at.between line ∙ ap (λ (r : Rules). r.answer at.base at.between line) (sym is.rules)

    next_at : IsStatelessAt answer base_takes_memory takes_memory s mode base (record at { between = at.between ++ line ∷ [] })
    next_at = record { rules = is.rules; alike = is.alike }

    -- the answer was put
    pub answers_text : (ko kn : SinkState) (r : Result Bool AnswerError) (text : List ℕ)
        → text ≡ answer s mode base line → PutsAnswer is_ok ko kn false text r → KeepsRoom ko.room_left kn.room_left text (r ≢ Err SinkFailed)
        → AnswersLine (IsStatelessAt answer base_takes_memory takes_memory s mode base) at line ko kn r
    answers_text ko kn r text text_is p room = record {
      puts =
          let whole = at.rules.answer at.base at.between line in
          puts_answer is_ok at.rules.is_good ko kn r false (at.rules.wants_memory at.base at.between line) whole
          (ap (λ (r : Rules). r.is_good whole) (sym is.rules)) (λ _ h. absurd (cc h))
          (subst (λ t. PutsAnswer is_ok ko kn false t r) (text_is ∙ answer_is) p);
      next = on_ok r next_at;
      room = room_text (text_is ∙ answer_is) room;
    }

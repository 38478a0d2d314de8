-- What a call answers, allocation failure apart.
use Rattle.std.specs.Prelude.{◌≡◌, ◌≢◌, Result, Ok, Err, MatchResult}

-- The answer is the one that is wanted, where what an Ok holds is seen by `view`. One error alone is free, that of an allocation failure.
abbrev pub AnswersBut : {A B E : Type 0} → E → (A → B) → Result A E → Result B E → Type 0
AnswersBut memory view result wanted = MatchResult result (λ v. wanted ≡ Ok (view v)) (λ e. e ≢ memory → wanted ≡ Err e)

-- Each fault that is wanted is the answer, whatever memory there is.
abbrev pub TellsFault : {A B E : Type 0} → Result A E → Result B E → Type 0
TellsFault {E = E} result wanted = (fault : E) → wanted ≡ Err fault → result ≡ Err fault

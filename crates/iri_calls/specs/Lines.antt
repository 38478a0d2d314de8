-- The lines of a text, and the answers to as many of them as have room together.
use Rattle.std.specs.Prelude.{◌≡◌, ◌+◌, ◌-◌, ℕ, cond, nat_lt, length, List, [], ◌∷◌, MatchOption}
use Rattle.std.specs.List.{flat_map}
use Rattle.iri_grammar.specs.Classes.{Tests}
use Rattle.iri_grammar.specs.Fault.{bytes_fault}
use Rattle.iri_grammar.specs.WholeFault.{absolute_fault}
use Rattle.iri_text.specs.Lines.{ended, no_cr}
use Rattle.iri_percent.specs.declared.canon_mode.CanonMode.{CanonMode}
use Rattle.iri_normal.specs.Answers.{answer_in}
use Rattle.iri_normal.specs.Resolver.{base_text}
use Rattle.iri_normal.specs.declared.resolver.FixedBaseResolver.{FixedBaseResolver}
use Rattle.iri_calls.specs.Buffers.{over}
use Rattle.iri_calls.specs.Numbers.{grammar_of, mode_numbered}
use Rattle.iri_normal.specs.Pairs.{pairs_answer}
use Rattle.iri_calls.specs.declared.answering.Bases.{Bases}
use Rattle.iri_calls.specs.declared.answering.Bases.TheVariants.{One, Pages}
use Rattle.iri_calls.specs.declared.status.TheConstants.{OK, SHORT, BAD_BASE, UNKNOWN}
use Rattle.iri_calls.specs.Outcome.{Returned}
use Rattle.iri_calls.specs.Outcome.Outcome.{fault, plain}
use Rattle.iri_calls.specs.declared.lines.Batch.{Batch}

-- the answer to a line as it stands: a CR before its LF isn't part of it
abbrev pub line_answer : Tests → CanonMode → List ℕ → List ℕ → List ℕ
line_answer s mode base raw = answer_in s mode base (no_cr raw)

-- the same of a page, a tab and a link
abbrev pub pair_answer : Tests → CanonMode → List ℕ → List ℕ
pair_answer s mode raw = pairs_answer s mode (no_cr raw)

-- the answer to a line, by what lines are answered against
abbrev pub answer_against : {S H : Type 0} {g : _} → Tests → CanonMode → Bases (FixedBaseResolver S g) H → List ℕ → List ℕ
answer_against s mode (One resolver) = line_answer s mode (base_text resolver)
answer_against s mode (Pages held) = pair_answer s mode

-- so many bytes more were consumed and written before
abbrev pub later : ℕ → ℕ → Batch → Batch
later consumed written b = record { consumed = consumed + b.consumed; written = written + b.written; status = b.status }

-- the lines whose answers have room together, from the first on: how many bytes they and their LFs have, and their answers
unfoldable pub batch : (List ℕ → List ℕ) → ℕ → List (List ℕ) → Batch
batch answer room [] = record { consumed = 0; written = 0; status = OK }
batch answer room (line ∷ lines) =
    cond (nat_lt room (length (answer line))) (record { consumed = 0; written = 0; status = SHORT })
    (later (length line + 1) (length (answer line)) (batch answer (room - length (answer line)) lines))

-- what was done is returned
abbrev pub BatchReturned : Batch → ℕ → ℕ → ℕ → Type 0
BatchReturned b consumed detail status = (consumed ≡ b.consumed) × (detail ≡ b.written) × (status ≡ b.status)

-- The answers to all lines stand over the start of the buffer, as far as there is room. The detail is how many bytes of them stand whole.
abbrev pub IsBatch : (List ℕ → List ℕ) → List ℕ → List ℕ → List ℕ → ℕ → ℕ → ℕ → Type 0
IsBatch answer lines old new consumed detail status =
    (new ≡ over (flat_map answer (ended lines)) old) × BatchReturned (batch answer (length old) (ended lines)) consumed detail status

-- a number stands for nothing
abbrev pub IsUnknown : List ℕ → List ℕ → ℕ → ℕ → ℕ → Type 0
IsUnknown old new consumed detail status = (new ≡ old) × (consumed ≡ 0) × Returned (plain UNKNOWN) detail status

abbrev pub BatchedIn : Tests → CanonMode → List ℕ → List ℕ → List ℕ → List ℕ → ℕ → ℕ → ℕ → Type 0
BatchedIn s mode base lines old new consumed detail status =
    MatchOption (bytes_fault (absolute_fault s) base)
    (IsBatch (line_answer s mode base) lines old new consumed detail status)
    (λ kind. (new ≡ old) × (consumed ≡ 0) × Returned (fault BAD_BASE kind) detail status)

abbrev pub Batched : ℕ → ℕ → List ℕ → List ℕ → List ℕ → List ℕ → ℕ → ℕ → ℕ → Type 0
Batched grammar mode base lines old new consumed detail status =
    let none : Type 0 = IsUnknown old new consumed detail status in
    MatchOption (grammar_of grammar) none
    (λ s. MatchOption (mode_numbered mode) none (λ m. BatchedIn s m base lines old new consumed detail status))

-- the same of pairs, which have no base: each answer is a function of its own line
abbrev pub PairsBatched : ℕ → ℕ → List ℕ → List ℕ → List ℕ → ℕ → ℕ → ℕ → Type 0
PairsBatched grammar mode lines old new consumed detail status =
    let none : Type 0 = IsUnknown old new consumed detail status in
    MatchOption (grammar_of grammar) none
    (λ s. MatchOption (mode_numbered mode) none (λ m. IsBatch (pair_answer s m) lines old new consumed detail status))

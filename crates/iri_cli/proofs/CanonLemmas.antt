-- The answers of `canon`.
use Rattle.iri_cli.proofs.Common.{◌≡◌, ◌≢◌, ℕ, ◌+◌, ◌≤◌, Bool, true, false, List, [], length, None, Result, Ok, Err, refl, sym, ap, subst, arith}
use Rattle.iri_cli.proofs.Common.{◌∙◌, Tests, IsSpec, bytes_fault, reference_fault, PutsAll, KeepsRoom, SinkState, room-so, Failed}
use Rattle.iri_cli.proofs.Common.{CanonMode, canonical_in, refusal, Answering, AnswersLine}
use Rattle.iri_cli.proofs.Common.{PutsAnswer, is_ok, AnswerError, SinkFailed, Rules, OnOk}
use Rattle.std.proofs.Math.Logic.{∥∥₁_elim}
use Rattle.std.proofs.Props.{props}
use Rattle.iri_cli.proofs.Common.{absolute_fault, absolute-law}
use Rattle.iri_grammar.proofs.faults.FaultLaws.{reference-law}
use Rattle.iri_grammar.specs.Parts.{IsIri}
use Rattle.iri_normal.proofs.canonical_texts.CanonicalTexts.{canonical_in-iri}
use Rattle.iri_normal.proofs.normal_forms.Lengths.{length-canonical_in}
use Rattle.iri_cli.specs.inside.Puts.{said_good, IsWriterAt}
use Rattle.iri_cli.specs.inside.SinkTexts.{puts_nothing}
use Rattle.iri_cli.specs.declared.run.answers.AnswerError.TheVariants.{Memory}
use Rattle.iri_cli.proofs.BytesLemmas.{base_absolute, line_reference}

-- a command that writes nothing after all answers
pub closes_nothing : (at : Answering) (k : SinkState) → at.rules.closing at.base at.between ≡ []
    → PutsAll k k (Ok tt) (at.rules.closing at.base at.between)
closes_nothing at k none = subst (λ t. PutsAll k k (Ok tt) t) (sym none) (puts_nothing k)

-- pieces that were put, and what is said of them
pub puts_line : {ko kn : SinkState} (is_good : List ℕ → Bool) (wants good : Bool) (r : Result (Unit {0}) Failed) (text : List ℕ)
    → PutsAll ko kn r text → good ≡ is_good text → PutsAnswer is_good ko kn wants text (said_good good r)
puts_line is_good wants good (Ok x) text p e = (p.whole, p.same, e)
puts_line is_good wants good (Err f) text p e = (p.prefix, p.cause, p.later)

pub line_room : {ko kn : SinkState} (good : Bool) (r : Result (Unit {0}) Failed) (text : List ℕ)
    → PutsAll ko kn r text → KeepsRoom ko.room_left kn.room_left text (said_good good r ≢ Err SinkFailed)
line_room good (Ok x) text p = room-so (λ _ h. cc h) p.room
line_room good (Err f) text p = room-so (λ h. absurd (cc h)) p.room

-- the same of an answer of which a result says it
pub said_by : {ko kn : SinkState} (is_good : List ℕ → Bool) (good : Bool) (r : Result (Unit {0}) Failed) (text line : List ℕ)
    (result : Result Bool AnswerError) → result ≡ said_good good r → good ≡ is_good text → text ≡ line → PutsAll ko kn r text
    → PutsAnswer is_good ko kn false line result
said_by {ko} {kn} is_good good r text line result said e is p =
    subst (λ x. PutsAnswer is_good ko kn false line x) (sym said)
    (subst (λ t. PutsAnswer is_good ko kn false t (said_good good r)) is (puts_line is_good false good r text p e))

pub said_line : {ko kn : SinkState} (good : Bool) (r : Result (Unit {0}) Failed) (text line : List ℕ)
    (result : Result Bool AnswerError) → result ≡ said_good good r → good ≡ is_ok text → text ≡ line → PutsAll ko kn r text
    → PutsAnswer is_ok ko kn false line result
said_line = said_by is_ok

pub said_room : {ko kn : SinkState} (good : Bool) (r : Result (Unit {0}) Failed) (text line : List ℕ)
    (result : Result Bool AnswerError) → result ≡ said_good good r → text ≡ line → PutsAll ko kn r text
    → KeepsRoom ko.room_left kn.room_left line (result ≢ Err SinkFailed)
said_room {ko} {kn} good r text line result said is p =
    subst (λ x. KeepsRoom ko.room_left kn.room_left line (x ≢ Err SinkFailed)) (sym said)
    (subst (λ t. KeepsRoom ko.room_left kn.room_left t (said_good good r ≢ Err SinkFailed)) is (line_room good r text p))

-- the canonical text of a base and a reference that are kept as valid texts
pub canonical_valid : (s : Tests) → IsSpec s → (m : CanonMode) (b r : List ℕ) → ∥ absolute_fault s b ≡ None ∥₁ → ∥ reference_fault s r ≡ None ∥₁
    → IsIri s (canonical_in s m b r) × (length (canonical_in s m b r) ≤ length b + length r + 3)
canonical_valid s l m b r hb hr =
    let base = (absolute-law s l b).0 (∥∥₁_elim hb (hlevel props) (λ e. e)) in
    let reference = (reference-law s l r).0 (∥∥₁_elim hr (hlevel props) (λ e. e)) in
    (canonical_in-iri s m b r l base reference, length-canonical_in s m b r l base reference)

-- the buffer has room for an answer
pub has_room : (s : Tests) (m : CanonMode) (base line text output : List ℕ) → IsSpec s → refusal s base ≡ None → bytes_fault (reference_fault s) line ≡ None
    → text ≡ line → length base + length line + 4 ≤ length output
    → length (canonical_in s m base text) + 1 ≤ length output
has_room s m base line text output l taken none is room =
    let h = length-canonical_in s m base line l (base_absolute s l base taken) (line_reference s l line none) in
    let e : length (canonical_in s m base text) ≡ length (canonical_in s m base line) = ap (λ (t : List ℕ). length (canonical_in s m base t)) is in
    omega (arith, h, e, room)

-- an answer by a test that says the same of it, where memory is wanted as far as allocation failed
pub puts_answer : (is_good other : List ℕ → Bool) (ko kn : SinkState) (r : Result Bool AnswerError) (wants needs : Bool) (text : List ℕ)
    → is_good text ≡ other text → (r ≡ Err Memory → wants ≡ true → needs ≡ true)
    → PutsAnswer is_good ko kn wants text r → PutsAnswer other ko kn needs text r
puts_answer is_good other ko kn (Ok good) wants needs text e m p = (p.0, p.1, p.2 ∙ e)
puts_answer is_good other ko kn (Err SinkFailed) wants needs text e m p = p
puts_answer is_good other ko kn (Err Memory) wants needs text e m p = (m refl p.0, p.1, p.2)

pub on_ok : {X : Type 0} (r : Result Bool AnswerError) → X → OnOk r X
on_ok (Ok x) h = h
on_ok (Err x) h = tt

-- a line was answered by the rules of a command
pub answers_line : (said : Rules) (s : Tests) (base line : List ℕ) (output new : ℕ) (at : Answering) (ko kn : SinkState)
    (r : Result Bool AnswerError) → IsWriterAt said s base output at → output ≤ new
    → PutsAnswer said.is_good ko kn false (said.answer base at.between line) r
    → KeepsRoom ko.room_left kn.room_left (said.answer base at.between line) (r ≢ Err SinkFailed)
    → AnswersLine (IsWriterAt said s base new) at line ko kn r
answers_line said s base line output new at ko kn r is grows p room =
    let e : said.answer base at.between line ≡ at.rules.answer at.base at.between line =
    is.alike.answer at.between line ∙ ap (λ (rules : Rules). rules.answer at.base at.between line) (sym is.rules) in
    record {
      puts =
          let text = at.rules.answer at.base at.between line in
          puts_answer said.is_good at.rules.is_good ko kn r false (at.rules.wants_memory at.base at.between line) text
          (ap (λ (rules : Rules). rules.is_good text) (sym is.rules)) (λ _ h. absurd (cc h))
          (subst (λ t. PutsAnswer said.is_good ko kn false t r) e p);
      next = on_ok r (record { rules = is.rules; alike = is.alike; taken = is.taken; short = is.short; room = omega (arith, grows, is.room) });
      room = subst (λ t. KeepsRoom ko.room_left kn.room_left t (r ≢ Err SinkFailed)) e room;
    }

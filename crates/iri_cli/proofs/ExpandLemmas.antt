-- The answers of `expand`.
use Rattle.iri_cli.proofs.Common.{OnOk, cond, bytes_eq, with_value, undefined, ShownValue, AllocError, ◌≡◌, ◌≢◌, ◌∙◌, ◌<◌, ◌≤◌, ℕ, Bool}
use Rattle.iri_cli.proofs.Common.{true, false, List, [], ◌∷◌, ◌++◌, length, Option, None, Some, Result, Ok, Err, refl, sym, ap, subst}
use Rattle.iri_cli.proofs.Common.{arith, append_assoc, codes, decimal, nat_lt, nat_tests, Tests, bytes_fault, reference_fault, ErrorKind}
use Rattle.iri_cli.proofs.Common.{CanonMode, canonical_in, KeepsRoom, SinkState, Appends-none, room-same, expansion_limit, expansion, pieces_of}
use Rattle.iri_cli.proofs.Common.{answer_by, answer_in, Answering, AnswersLine, PutsAnswer, Rules, expansion_answer, template_answer}
use Rattle.iri_cli.proofs.Common.{Values, is_ok, AnswerError, SinkFailed}
use Rattle.std.proofs.Math.Path.{fun_ext}
use Rattle.iri_template.specs.ErrorTexts.{description}
use Rattle.iri_template.specs.TypeFaults.{expansion_fault}
use Rattle.iri_template.specs.declared.error.Error.{Error}
use Rattle.iri_docs.specs.Expanded.{expansion_within, within_limit}
use Rattle.iri_docs.specs.declared.expand_error.DocExpandError.{DocExpandError}
use Rattle.iri_docs.specs.declared.expand_error.DocExpandError.TheVariants.{Template, TooLong, Invalid, Memory as OutOfMemory}
use Rattle.iri_docs.proofs.ExpandLemmas.{by_length, faulty}
use Rattle.iri_cli.specs.expand.Answers.{answer_to}
use Rattle.iri_cli.specs.expand.Lines.{ExpandLine, after_line, line_of, values_after, values_from}
use Rattle.iri_cli.specs.expand.Rules.{is_ok_or_none}
use Rattle.iri_cli.specs.inside.ExpandAt.{IsExpandAt}
use Rattle.iri_cli.proofs.CanonLemmas.{on_ok, puts_answer}

-- ---- the values of variables
-- a value that takes the place of another
with_value-again : (values : Values) (name : List ℕ) (old value : ShownValue)
    → with_value (with_value values name old) name value ≡ with_value values name value
with_value-again values name old value = fun_ext (λ other. by_test (bytes_eq other name) (values other))
  where
    by_test : (same : Bool) (v : ShownValue) → cond same value (cond same old v) ≡ cond same value v
    by_test true v = refl
    by_test false v = refl

-- a value was taken away, and another is there
pub set_again : (before between after : Values) (name : List ℕ) (value wanted : ShownValue) (r : Result (Unit {0}) AllocError)
    → between ≡ with_value before name undefined → value ≡ wanted → OnOk r (after ≡ with_value between name value)
    → OnOk r (after ≡ with_value before name wanted)
set_again before between after name value wanted (Err e) b i a = tt
set_again before between after name value wanted (Ok x) b i a =
    a ∙ ap (λ v. with_value v name value) b ∙ with_value-again before name undefined value ∙ ap (with_value before name) i

-- the values after one line more
values-more : (values : Values) (lines : List (List ℕ)) (line : List ℕ)
    → values_from values (lines ++ line ∷ []) ≡ after_line (values_from values lines) (line_of line)
values-more values [] line = refl
values-more values (first ∷ lines) line = values-more (after_line values (line_of first)) lines line

-- ---- the answer to a template
-- an expansion that isn't too long is answered as `canon` answers it
pub short_answer : (s : Tests) (mode : CanonMode) (base text : List ℕ) → length text ≤ expansion_limit
    → answer_in s mode base text ≡ expansion_answer s mode base (within_limit text)
short_answer s mode base text h = let e : nat_lt expansion_limit (length text) ≡ false = grind (arith, nat_tests) in rw e refl

pub long_answer : (s : Tests) (mode : CanonMode) (base text : List ℕ) → expansion_limit < length text
    → codes "bad expansion too long\n" ≡ expansion_answer s mode base (within_limit text)
long_answer s mode base text h = let e : nat_lt expansion_limit (length text) ≡ true = grind (arith, nat_tests) in rw e refl

-- a template without a fault, and one with a fault
pub template_expanded : (s : Tests) (mode : CanonMode) (base : List ℕ) (values : Values) (t : List ℕ) → expansion_fault values t ≡ None
    → expansion_answer s mode base (within_limit (expansion s values (pieces_of t))) ≡ template_answer s mode base values t
unfolding template_answer
template_expanded s mode base values t none = ap (expansion_answer s mode base) (sym (by_length s values t none))

pub template_refused : (s : Tests) (mode : CanonMode) (base : List ℕ) (values : Values) (t : List ℕ) (e : Error) → expansion_fault values t ≡ Some e
    → codes "template " ++ (description e.kind ++ (codes " at " ++ (decimal e.location ++ 10 ∷ []))) ≡ template_answer s mode base values t
unfolding template_answer
template_refused s mode base values t e is =
    ap (λ x. codes "template " ++ x) (sym (append_assoc (description e.kind) (codes " at " ++ decimal e.location) (10 ∷ [])))
    ∙ ap (expansion_answer s mode base) (sym (faulty s values t e is))

-- each answer to a template has bytes
expansion_good : (s : Tests) (mode : CanonMode) (base : List ℕ) (x : Result (List ℕ) DocExpandError)
    → is_ok_or_none (expansion_answer s mode base x) ≡ is_ok (expansion_answer s mode base x)
unfolding answer_in
expansion_good s mode base (Ok text) = by_fault (bytes_fault (reference_fault s) text)
  where
    by_fault : (f : Option ErrorKind) → is_ok_or_none (answer_by f (canonical_in s mode base text)) ≡ is_ok (answer_by f (canonical_in s mode base text))
    by_fault None = refl
    by_fault (Some kind) = refl
expansion_good s mode base (Err (Template e)) = refl
expansion_good s mode base (Err TooLong) = refl
expansion_good s mode base (Err (Invalid e)) = refl
expansion_good s mode base (Err OutOfMemory) = refl

pub template_good : (s : Tests) (mode : CanonMode) (base : List ℕ) (values : Values) (t : List ℕ)
    → is_ok_or_none (template_answer s mode base values t) ≡ is_ok (template_answer s mode base values t)
unfolding template_answer
template_good s mode base values t = expansion_good s mode base (expansion_within s values t)

-- ---- one line more
module _ (s : Tests) (mode : CanonMode) (base expansion : List ℕ) (output : ℕ) (values : Values) (at : Answering)
    (is : IsExpandAt s mode base expansion output values at) (line : List ℕ) (said : ExpandLine) (reads : line_of line ≡ said) where
  answer_is : at.rules.answer at.base at.between line ≡ answer_to s mode base values said
  answer_is =
      ap (λ (r : Rules). r.answer at.base at.between line) is.rules
      ∙ sym (is.alike.answer at.between line)
      ∙ ap (λ v. answer_to s mode base v (line_of line)) (sym is.values_are)
      ∙ ap (answer_to s mode base values) reads

  next_at : (expansion_new : List ℕ) (output_new : ℕ) (new : Values) → length expansion_new ≡ length expansion → output ≤ output_new
      → new ≡ after_line values said
      → IsExpandAt s mode base expansion_new output_new new (record at { between = at.between ++ line ∷ [] })
  next_at expansion_new output_new new expansion_size output_grows after = record {
    rules = is.rules;
    alike = is.alike;
    values_are = after ∙ ap (λ v. after_line v said) is.values_are ∙ ap (after_line (values_after at.between)) (sym reads)
        ∙ sym (values-more _ at.between line);
    taken = is.taken;
    short = is.short;
    expansion_room = expansion_size ∙ is.expansion_room;
    output_room = omega (arith, output_grows, is.output_room);
  }

  -- an answer was put, and no variable changed
  module _ (ko kn : SinkState) where
    pub answers_text : (expansion_new : List ℕ) (output_new : ℕ) (r : Result Bool AnswerError) → length expansion_new ≡ length expansion
        → output ≤ output_new → values ≡ after_line values said
        → is_ok_or_none (answer_to s mode base values said) ≡ is_ok (answer_to s mode base values said)
        → PutsAnswer is_ok ko kn false (answer_to s mode base values said) r
        → KeepsRoom ko.room_left kn.room_left (answer_to s mode base values said) (r ≢ Err SinkFailed)
        → AnswersLine (IsExpandAt s mode base expansion_new output_new values) at line ko kn r
    answers_text expansion_new output_new r expansion_size output_grows same good p room = let text = answer_to s mode base values said in record {
      puts = subst (λ t. PutsAnswer at.rules.is_good ko kn (at.rules.wants_memory at.base at.between line) t r) (sym answer_is)
          (puts_answer is_ok at.rules.is_good ko kn r false _ text (sym good ∙ ap (λ (r : Rules). r.is_good text) (sym is.rules))
          (λ _ h. absurd (cc h)) p);
      next = on_ok r (next_at expansion_new output_new values expansion_size output_grows same);
      room = subst (λ t. KeepsRoom ko.room_left kn.room_left t (r ≢ Err SinkFailed)) (sym answer_is) room;
    }

  -- nothing was put
  module _ (k : SinkState) (none : answer_to s mode base values said ≡ []) where
    abbrev text : List ℕ
    text = at.rules.answer at.base at.between line

    text_is : text ≡ []
    text_is = answer_is ∙ none

    -- a variable changed
    pub answers_nothing : (new : Values) → new ≡ after_line values said
        → AnswersLine (IsExpandAt s mode base expansion output new) at line k k (Ok true)
    answers_nothing new after = record {
      puts = subst (λ t. PutsAnswer at.rules.is_good k k (at.rules.wants_memory at.base at.between line) t (Ok true)) (sym text_is)
          (Appends-none k.written, refl, ap (λ (x : Rules). x.is_good []) (sym is.rules));
      next = next_at expansion output new refl (omega arith) after;
      room = room-same k.room_left text (λ _ h. cc h);
    }

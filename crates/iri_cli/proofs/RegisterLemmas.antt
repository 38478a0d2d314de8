-- The answers of `register`.
use Rattle.iri_cli.proofs.Common.{◌≡◌, ◌≢◌, ℕ, suc, ◌+◌, ◌<◌, Bool, List, [], ◌∷◌, ◌++◌, length, take, drop, Some, Result, Ok, Err, refl}
use Rattle.iri_cli.proofs.Common.{sym, ◌∙◌, ap, subst, arith, append_assoc, length-append, OnOk, decimal, get_or, append-nil, Tests}
use Rattle.iri_cli.proofs.Common.{entry_lines, more_numbers, line_of, command_of, commands_from, entries_after, KeepsRoom, PutsAll}
use Rattle.iri_cli.proofs.Common.{SinkState, Failed, Answering, AnswersLine, PutsAnswer, said_good, Rules, SinkFailed, begun}
use Rattle.std.proofs.Common.{zero, add-one, slice_get}
use Rattle.std.specs.Prelude.{unwrap_or}
use Rattle.std.specs.List.{flat_map}
use Rattle.std.proofs.lemmas.List.{length-take-le, take_more, take-append-drop}
use Rattle.std.proofs.lemmas.Grind.{flat_map-append}
use Rattle.std.proofs.lemmas.Option.{slice_get_within, unwrap_or-slice_get}
use Rattle.iri_grammar.specs.Characters.{comma}
use Rattle.iri_percent.specs.declared.canon_mode.CanonMode.{CanonMode}
use Rattle.iri_register.specs.Commands.{entries_of_commands}
use Rattle.iri_register.specs.Entries.{Entry, entry_at}
use Rattle.iri_register.specs.Kept.{Kept}
use Rattle.iri_register.proofs.CommandLemmas.{obeyed_from}
use Rattle.iri_cli.specs.register.Answers.{answer_to, entry_line}
use Rattle.iri_cli.specs.run.Refused.{is_not_bad}
use Rattle.iri_cli.specs.register.Rules.{register_rules}
use Rattle.iri_cli.specs.run.Prepared.{IsAlike}
use Rattle.iri_cli.specs.inside.RegisterAt.{IsRegisterAt}
use Rattle.iri_cli.specs.inside.Replies.{obeyed_by}
use Rattle.iri_cli.proofs.CanonLemmas.{line_room}

-- ---- one line more

pub commands_append : (s : Tests) (mode : CanonMode) (base : List ℕ) (n : ℕ) (before after : List (List ℕ))
    → commands_from s mode base n (before ++ after) ≡ commands_from s mode base n before ++ commands_from s mode base (n + length before) after
commands_append s mode base n [] after = let e : n ≡ n + 0 = omega arith in ap (λ k. commands_from s mode base k after) e
commands_append s mode base n (line ∷ before) after =
    let e : (n + 1) + length before ≡ n + suc (length before) = omega arith in
    ap (λ cs. command_of s mode base n (line_of line) ++ cs) (commands_append s mode base (n + 1) before after
    ∙ ap (λ k. commands_from s mode base (n + 1) before ++ commands_from s mode base k after) e)
    ∙ sym (append_assoc (command_of s mode base n (line_of line)) (commands_from s mode base (n + 1) before)
    (commands_from s mode base (n + suc (length before)) after))

commands_more : (s : Tests) (mode : CanonMode) (base : List ℕ) (n : ℕ) (between : List (List ℕ)) (line : List ℕ)
    → commands_from s mode base n (between ++ line ∷ []) ≡ commands_from s mode base n between ++ command_of s mode base (n + length between) (line_of line)
commands_more s mode base n between line =
    commands_append s mode base n between (line ∷ [])
    ∙ ap (λ cs. commands_from s mode base n between ++ cs) (append-nil (command_of s mode base (n + length between) (line_of line)))

pub entries_more : (s : Tests) (mode : CanonMode) (base : List ℕ) (between : List (List ℕ)) (line : List ℕ)
    → entries_after s mode base (between ++ line ∷ [])
    ≡ obeyed_by (entries_after s mode base between) (command_of s mode base (2 + length between) (line_of line))
unfolding entries_after
entries_more s mode base between line =
    ap entries_of_commands (commands_more s mode base 2 between line)
    ∙ sym (obeyed_from (commands_from s mode base 2 between) (command_of s mode base (2 + length between) (line_of line)))

entries_none : (s : Tests) (mode : CanonMode) (base : List ℕ) → entries_after s mode base [] ≡ []
unfolding entries_after
entries_none s mode base = refl

-- ---- entries that were put

entry_lines_append : (k : ℕ) (es fs : List Entry) → entry_lines k (es ++ fs) ≡ entry_lines k es ++ entry_lines (k + length es) fs
entry_lines_append k [] fs = let e : k ≡ k + 0 = omega arith in ap (λ n. entry_lines n fs) e
entry_lines_append k (e ∷ es) fs =
    let n : (k + 1) + length es ≡ k + suc (length es) = omega arith in
    ap (λ t. entry_line k e ++ t) (entry_lines_append (k + 1) es fs ∙ ap (λ m. entry_lines (k + 1) es ++ entry_lines m fs) n)
    ∙ sym (append_assoc (entry_line k e) (entry_lines (k + 1) es) (entry_lines (k + suc (length es)) fs))

entry_more : (es : List Entry) (e : Entry) (k i : ℕ) → slice_get es i ≡ Some e
    → entry_lines k (take (i + 1) es) ≡ entry_lines k (take i es) ++ entry_line (k + i) e
entry_more es e k i h =
    let within = slice_get_within es i e h in
    let is : get_or es i e ≡ e = sym (unwrap_or-slice_get es i e) ∙ ap (λ o. unwrap_or o e) h in
    let size : length (take i es) ≡ i = length-take-le i es (omega (arith, within)) in
    ap (entry_lines k) (take_more es i e within) ∙ entry_lines_append k (take i es) (get_or es i e ∷ [])
    ∙ ap (λ n. entry_lines k (take i es) ++ (entry_line (k + n) (get_or es i e) ++ [])) size
    ∙ ap (λ x. entry_lines k (take i es) ++ (entry_line (k + i) x ++ [])) is
    ∙ ap (λ t. entry_lines k (take i es) ++ t) (append-nil (entry_line (k + i) e))

pub number_more : (ns : List ℕ) (i : ℕ) → i < length ns
    → more_numbers (take (i + 1) ns) ≡ more_numbers (take i ns) ++ (comma ∷ decimal (get_or ns i 0))
number_more ns i h =
    let f : ℕ → List ℕ = λ n. comma ∷ decimal n in
    ap (flat_map f) (take_more ns i 0 h) ∙ flat_map-append f (take i ns) (get_or ns i 0 ∷ [])
    ∙ ap (λ t. flat_map f (take i ns) ++ t) (append-nil (comma ∷ decimal (get_or ns i 0)))

-- the numbers up to an index, the one there, and those after it
pub numbers_whole : (ns : List ℕ) (i : ℕ) → i < length ns
    → more_numbers (take i ns) ++ (comma ∷ (decimal (get_or ns i 0) ++ more_numbers (drop (i + 1) ns))) ≡ more_numbers ns
numbers_whole ns i h =
    let f : ℕ → List ℕ = λ n. comma ∷ decimal n in
    sym (append_assoc (more_numbers (take i ns)) (comma ∷ decimal (get_or ns i 0)) (more_numbers (drop (i + 1) ns)))
    ∙ ap (λ t. t ++ more_numbers (drop (i + 1) ns)) (sym (number_more ns i h))
    ∙ sym (flat_map-append f (take (i + 1) ns) (drop (i + 1) ns)) ∙ ap (flat_map f) (take-append-drop (i + 1) ns)

entries_whole : (es : List Entry) (e : Entry) (i : ℕ) → slice_get es i ≡ Some e
    → entry_lines 1 (take i es) ++ (entry_line (1 + i) e ++ entry_lines (1 + (i + 1)) (drop (i + 1) es)) ≡ entry_lines 1 es
entries_whole es e i h =
    let within = slice_get_within es i e h in
    let size : length (take (i + 1) es) ≡ i + 1 = length-take-le (i + 1) es (omega (arith, within)) in
    sym (append_assoc (entry_lines 1 (take i es)) (entry_line (1 + i) e) (entry_lines (1 + (i + 1)) (drop (i + 1) es)))
    ∙ ap (λ t. t ++ entry_lines (1 + (i + 1)) (drop (i + 1) es)) (sym (entry_more es e 1 i h))
    ∙ ap (λ n. entry_lines 1 (take (i + 1) es) ++ entry_lines (1 + n) (drop (i + 1) es)) (sym size)
    ∙ sym (entry_lines_append 1 (take (i + 1) es) (drop (i + 1) es)) ∙ ap (entry_lines 1) (take-append-drop (i + 1) es)

-- the entry after an index, by its place
pub record IsThere (es : List Entry) (i : ℕ) : Type 0 where
  pub entry : Entry
  pub get : slice_get es i ≡ Some entry
  pub at : entry_at es (i + 1) ≡ Some entry

slice_there : (es : List Entry) (i : ℕ) → i < length es → (e : Entry) × (slice_get es i ≡ Some e)
slice_there [] i h = absurd (omega (arith, h))
slice_there (e ∷ es) zero h = (e, refl)
slice_there (e ∷ es) (suc i) h = slice_there es i (omega (arith, h))

pub entry_there : (es : List Entry) (i : ℕ) → i < length es → IsThere es i
entry_there es i h =
    let k = slice_there es i h in
    record { entry = k.0; get = k.1; at = ap (entry_at es) (add-one i) ∙ k.1 }

pub entry_next : (es : List Entry) (i : ℕ) → (e : IsThere es i)
    → entry_lines 1 (take i es) ++ entry_line (i + 1) e.entry ≡ entry_lines 1 (take (i + 1) es)
entry_next es i e =
    let n : i + 1 ≡ 1 + i = omega arith in
    ap (λ k. entry_lines 1 (take i es) ++ entry_line k e.entry) n ∙ sym (entry_more es e.entry 1 i e.get)

pub entries_left : (es : List Entry) (i : ℕ) → (e : IsThere es i)
    → entry_lines 1 (take i es) ++ (entry_line (i + 1) e.entry ++ entry_lines (1 + (i + 1)) (drop (i + 1) es)) ≡ entry_lines 1 es
entries_left es i e =
    let n : i + 1 ≡ 1 + i = omega arith in
    ap (λ k. entry_lines 1 (take i es) ++ (entry_line k e.entry ++ entry_lines (1 + (i + 1)) (drop (i + 1) es))) n
    ∙ entries_whole es e.entry i e.get

-- ---- answers

-- what is said of an answer, where it was put or the sink failed
said_of : (rules : Rules) (ko kn : SinkState) (good : Bool) (r : Result (Unit {0}) Failed)
    (wants : Bool) (text : List ℕ) → PutsAll ko kn r text → good ≡ rules.is_good text → PutsAnswer rules.is_good ko kn wants text (said_good good r)
said_of rules ko kn good (Ok x) wants text p e = (p.whole, p.same, e)
said_of rules ko kn good (Err f) wants text p e = (p.prefix, p.cause, p.later)

on_told : {X : Type 0} (good : Bool) (r : Result (Unit {0}) Failed) → X → OnOk (said_good good r) X
on_told good (Ok x) h = h
on_told good (Err f) h = tt

answer_is : (s : Tests) (against : List ℕ) (kept : Kept) (answered : ℕ) (at : Answering) (line text : List ℕ) → IsRegisterAt s against kept answered at
    → text ≡ answer_to s kept.mode kept.base kept.entries (line_of line) → text ≡ at.rules.answer at.base at.between line
answer_is s against kept answered at line text is e =
    e ∙ ap (λ es. answer_to s kept.mode kept.base es (line_of line)) is.entries_are ∙ is.alike.answer at.between line
    ∙ ap (λ (rules : Rules). rules.answer at.base at.between line) (sym is.rules)

next_at : (s : Tests) (against : List ℕ) (kept new : Kept) (answered count : ℕ) (at : Answering) (line : List ℕ) → IsRegisterAt s against kept answered at
    → count ≡ answered + 1 → new.base ≡ kept.base → new.mode ≡ kept.mode
    → new.entries ≡ obeyed_by kept.entries (command_of s kept.mode kept.base (answered + 2) (line_of line))
    → IsRegisterAt s against new count (record at { between = at.between ++ line ∷ [] })
next_at s against kept new answered count at line is counted base mode entries = record {
  rules = is.rules ∙ ap (register_rules s) (sym mode);
  own = is.own ∙ sym base;
  alike = subst (λ m. IsAlike (register_rules s m) new.base at.base) (sym mode)
      (subst (λ b. IsAlike (register_rules s kept.mode) b at.base) (sym base) is.alike);
  entries_are =
      let number : answered + 2 ≡ 2 + length at.between = omega (arith, is.counted) in
      entries ∙ ap (λ es. obeyed_by es (command_of s kept.mode kept.base (answered + 2) (line_of line))) is.entries_are
      ∙ ap (λ n. obeyed_by (entries_after s kept.mode kept.base at.between) (command_of s kept.mode kept.base n (line_of line))) number
      ∙ sym (entries_more s kept.mode kept.base at.between line) ∙ ap (λ b. entries_after s kept.mode b (at.between ++ line ∷ [])) (sym base)
      ∙ ap (λ m. entries_after s m new.base (at.between ++ line ∷ [])) (sym mode);
  counted = let size = length-append at.between (line ∷ []) in omega (arith, counted, is.counted, size);
}

pub answers_line : (s : Tests) (against : List ℕ) (kept new : Kept) (answered count : ℕ) (at : Answering) (line text : List ℕ)
    (ko kn : SinkState) (good : Bool) (r : Result (Unit {0}) Failed) → IsRegisterAt s against kept answered at
    → count ≡ answered + 1 → new.base ≡ kept.base → new.mode ≡ kept.mode
    → new.entries ≡ obeyed_by kept.entries (command_of s kept.mode kept.base (answered + 2) (line_of line))
    → text ≡ answer_to s kept.mode kept.base kept.entries (line_of line) → good ≡ is_not_bad text → PutsAll ko kn r text
    → AnswersLine (IsRegisterAt s against new count) at line ko kn (said_good good r)
answers_line s against kept new answered count at line text ko kn good r is counted base mode entries answer good_is p =
    let e = answer_is s against kept answered at line text is answer in
    let test : good ≡ at.rules.is_good text = good_is ∙ ap (λ (rules : Rules). rules.is_good text) (sym is.rules) in
    record {
      puts = subst (λ t. PutsAnswer at.rules.is_good ko kn (at.rules.wants_memory at.base at.between line) t (said_good good r)) e
          (said_of at.rules ko kn good r (at.rules.wants_memory at.base at.between line) text p test);
      next = on_told good r (next_at s against kept new answered count at line is counted base mode entries);
      room = subst (λ t. KeepsRoom ko.room_left kn.room_left t (said_good good r ≢ Err SinkFailed)) e (line_room good r text p);
    }

-- an empty register stands after a base line, with a base that has its answers
pub register_opened : (s : Tests) (mode : CanonMode) (kept : Kept) (line text : List ℕ) → IsAlike (register_rules s mode) text line → kept.base ≡ text
    → kept.mode ≡ mode → kept.entries ≡ [] → IsRegisterAt s text kept 0 (begun (register_rules s mode) line)
register_opened s mode kept line text alike own by none = record {
  rules = ap (register_rules s) (sym by);
  own = sym own;
  alike = subst (λ m. IsAlike (register_rules s m) kept.base line) (sym by)
      (subst (λ b. IsAlike (register_rules s mode) b line) (sym own) alike);
  entries_are = none ∙ sym (entries_none s kept.mode kept.base);
  counted = refl;
}

-- The answers of `robots`.
use Rattle.iri_cli.proofs.Common.{◌≡◌, ◌↔◌, ◌&&◌, ℕ, ◌+◌, Bool, true, List, [], ◌∷◌, ◌++◌, Option, Some, None, Result, Ok, Err, refl, sym, ◌∙◌}
use Rattle.iri_cli.proofs.Common.{ap, append_assoc, arith, subst, OnOk, length, nat_lt, nat_tests, append-nil, Tests, IsSpec, CanonMode, Parts, is_allowed}
use Rattle.iri_cli.proofs.Common.{before, bytes_eq, drop, lacks, split_of, starts_with_slash}
use Rattle.iri_cli.proofs.Common.{PutsAll, SinkState, Failed, Appends-none, room-same, Answering, AnswersLine, PutsAnswer}
use Rattle.iri_cli.proofs.Common.{said_good, Rules, answer_to, AnswerError, IsRobotsAt}
use Rattle.std.proofs.lemmas.Grind.{flat_map-append}
use Rattle.iri_robots.specs.Allowed.{IsAllowed}
use Rattle.iri_robots.specs.Records.{FileRecord, FileRule}
use Rattle.iri_robots.specs.declared.robots.Verdict.{Verdict}
use Rattle.iri_robots.specs.declared.robots.Verdict.TheVariants.{Allow}
use Rattle.iri_robots.specs.Compared.{compared, subject}
use Rattle.iri_grammar.specs.Components.{if_there, is_scheme}
use Rattle.iri_grammar.specs.Parts.{Fits}
use Rattle.iri_grammar.proofs.splits.SplitUnique.{fits-delimiters}
use Rattle.std.specs.Prelude.{MatchOption}
use Rattle.std.specs.Str.Pattern.{FindsTextPrefix}
use denote.Bor.{Bor}
use Rattle.std.proofs.lemmas.Slice.Eq.{bytes_eq-Decides}
use Rattle.std.proofs.Math.Logic.{∥∥₁_elim}
use Rattle.std.proofs.Props.{props}
use Rattle.iri_robots.proofs.Decisions.{allowed_is}
use Rattle.iri_robots.proofs.SubjectLemmas.{HasParts, parts_at}
use Rattle.iri_cli.specs.run.Refused.{is_not_bad}
use Rattle.iri_cli.specs.robots.Answers.{same_part, same_site, verdict_word}
use Rattle.iri_cli.specs.robots.Lines.{RobotsLine, line_of, fed, records_after}
use Rattle.iri_cli.specs.robots.Memory.{takes_memory}
use Rattle.iri_cli.specs.declared.run.answers.AnswerError.TheVariants.{Memory}
use Rattle.iri_cli.specs.inside.RobotsAt.{PutsReply}
use Rattle.iri_cli.specs.inside.Sites.{AreSiteParts, IsSiteOf, is_of_site, site_prefix}
use Rattle.iri_cli.proofs.CanonLemmas.{line_room, puts_answer, puts_line}
use Rattle.iri_cli.proofs.PutLemmas.{room_text}

-- ---- what the rules say

-- the word for a verdict on a target t of the site
pub word_is : (rules : List FileRule) (scheme authority : Option (List ℕ)) (target t s word : List ℕ) (v : Verdict) → t ≡ target
    → is_of_site scheme authority (split_of t) ≡ true → s ≡ subject (split_of t) → (v ≡ Allow) ↔ IsAllowed rules s
    → ((allowed : Bool) → (v ≡ Allow) ↔ (allowed ≡ true) → word ≡ verdict_word true allowed)
    → word ≡ verdict_word (is_of_site scheme authority (split_of target)) (is_allowed rules (subject (split_of target)))
word_is rules scheme authority target t s word v e is matched k w =
    let here : is_of_site scheme authority (split_of target) ≡ true = subst (λ z. is_of_site scheme authority (split_of z) ≡ true) e is in
    let same : s ≡ subject (split_of target) = matched ∙ ap (λ z. subject (split_of z)) e in
    let allowed = is_allowed rules (subject (split_of target)) in
    let decided = allowed_is rules (subject (split_of target)) in
    let verdict = subst (λ z. (v ≡ Allow) ↔ IsAllowed rules z) same k in
    w allowed (λ e. decided.1 (verdict.0 e), λ e. verdict.1 (decided.0 e))
    ∙ ap (λ b. verdict_word b allowed) (sym here)

-- a target is of the site of these parts exactly where it has their scheme and their authority
pub same_site_by : (scheme authority : Option (List ℕ)) (p target : Parts) → IsSiteOf scheme authority p
    → is_of_site scheme authority target ≡ same_site p target
unfolding is_of_site same_site
same_site_by scheme authority p target is =
    ap (λ x. same_part x target.scheme && same_part authority target.authority) is.scheme_is
    ∙ ap (λ x. same_part p.scheme target.scheme && same_part x target.authority) is.authority_is

-- what is matched of a target of the site that a path follows
pub site_subject : (scheme authority : Option (List ℕ)) (prefix target path : List ℕ) (r : Option (Bor (List ℕ)))
    → ∥ AreSiteParts scheme authority ∥₁ → Some prefix ≡ site_prefix scheme authority → target ≡ prefix ++ path
    → MatchOption r (Unit {0}) (λ x. (starts_with_slash path ≡ true) × (x.now ≡ compared (before 35 path)))
    → MatchOption r (Unit {0}) (λ x. (is_of_site scheme authority (split_of target) ≡ true) × (x.now ≡ subject (split_of target)))
unfolding is_of_site
site_subject None None prefix target path r h e t k = absurd (cc e)
site_subject None (Some a) prefix target path r h e t k = absurd (cc e)
site_subject (Some s) None prefix target path r h e t k = absurd (cc e)
site_subject (Some s) (Some a) prefix target path None h e t k = k
site_subject (Some s) (Some a) prefix target path (Some x) h e t k =
    let p : List ℕ = 58 ∷ 47 ∷ 47 ∷ [] in
    let begins : prefix ≡ (s ++ p) ++ a = cc e in
    let begun : target ≡ (s ++ 58 ∷ []) ++ (47 ∷ 47 ∷ (a ++ path)) = t ∙ ap (λ z. z ++ path) begins ∙ append_assoc (s ++ p) a path
    ∙ append_assoc s p (a ++ path) ∙ sym (append_assoc s (58 ∷ []) (47 ∷ 47 ∷ (a ++ path))) in
    let parts = subst (λ z. HasParts z (Some s) a path) (sym begun) (parts_at (Some s) a path
    (∥∥₁_elim h (hlevel props) (λ q. q.scheme_is)) (∥∥₁_elim h (hlevel props) (λ q. q.lacks_hash))
    (∥∥₁_elim h (hlevel props) (λ q. q.lacks_mark)) (∥∥₁_elim h (hlevel props) (λ q. q.lacks_slash)) k.0) in (
      ap (λ o. same_part (Some s) o && same_part (Some a) (split_of target).authority) parts.scheme_is
          ∙ ap (λ o. bytes_eq s s && same_part (Some a) o) parts.authority_is
          ∙ ap (λ b. b && bytes_eq a a) ((bytes_eq-Decides s s).1 refl) ∙ (bytes_eq-Decides a a).1 refl,
      k.1 ∙ sym parts.subject_is,
    )

-- what `strip_prefix` leaves
pub stripped : (t p r : List ℕ) → (n : ℕ) × FindsTextPrefix p t (Some n) × (r ≡ drop n t) × (length r + n ≡ length t) → t ≡ p ++ r
stripped t p r h = h.1.1 ∙ ap (λ z. p ++ z) (sym h.2)

-- the parts of a split have no delimiter in them
pub site_parts : (s : Tests) (p q : Parts) (scheme authority : Option (List ℕ)) → IsSpec s → Fits s p → Fits s q → scheme ≡ p.scheme
    → authority ≡ q.authority → ∥ AreSiteParts scheme authority ∥₁
site_parts s p q scheme authority k f h e a =
    let x = fits-delimiters s p k f in
    let y = fits-delimiters s q k h in
    ∣ record {
      scheme_is = ap (if_there is_scheme) e ∙ x.scheme;
      lacks_hash = ap (if_there (lacks 35)) a ∙ y.authority_hash;
      lacks_mark = ap (if_there (lacks 63)) a ∙ y.authority_delimiter;
      lacks_slash = ap (if_there (lacks 47)) a ∙ y.authority_slash;
    } ∣₁

-- ---- replies

pub replies : {ko kn : SinkState} (good : Bool) (r : Result (Unit {0}) Failed) (text : List ℕ)
    → PutsAll ko kn r text → good ≡ is_not_bad text → PutsReply ko kn text (said_good good r)
replies good r text p e = record { puts = puts_line is_not_bad true good r text p e; room = line_room good r text p }

pub no_reply : (ko : SinkState) → PutsReply ko ko [] (Ok true)
no_reply ko = record { puts = (Appends-none ko.written, refl, refl); room = room-same ko.room_left [] (λ _ h. cc h) }

-- ---- one line more

records_more : (between : List (List ℕ)) (line : List ℕ) → records_after (between ++ line ∷ []) ≡ records_after between ++ fed (line_of line)
unfolding records_after
records_more between line =
    flat_map-append (λ l. fed (line_of l)) between (line ∷ []) ∙ ap (λ t. records_after between ++ t) (append-nil (fed (line_of line)))

on_next : {s : Tests} {mode : CanonMode} {token base : List ℕ} {scheme authority : Option (List ℕ)} {records : List FileRecord} {at : Answering}
    (new : List FileRecord) (line : List ℕ)
    (r : Result Bool AnswerError) → IsRobotsAt s mode token base scheme authority records at → OnOk r (new ≡ records ++ fed (line_of line))
    → OnOk r (IsRobotsAt s mode token base scheme authority new (record at { between = at.between ++ line ∷ [] }))
on_next {at = at} new line (Ok good) is e = record {
  rules = is.rules;
  alike = is.alike;
  site_is = is.site_is;
  records_are = e ∙ ap (λ t. t ++ fed (line_of line)) is.records_are ∙ sym (records_more at.between line);
}
on_next new line (Err x) is e = tt

pub answers_line : (s : Tests) (mode : CanonMode) (token base : List ℕ) (scheme authority : Option (List ℕ)) (records new : List FileRecord) (at : Answering) (line text : List ℕ)
    (ko kn : SinkState) (r : Result Bool AnswerError) → IsRobotsAt s mode token base scheme authority records at
    → text ≡ answer_to s mode token base records (line_of line) → OnOk r (new ≡ records ++ fed (line_of line))
    → (r ≡ Err Memory → takes_memory s (line_of line) ≡ true) → PutsReply ko kn text r
    → AnswersLine (IsRobotsAt s mode token base scheme authority new) at line ko kn r
answers_line s mode token base scheme authority records new at line text ko kn r is answer e wants p =
    let whole : text ≡ at.rules.answer at.base at.between line =
    answer ∙ ap (λ rs. answer_to s mode token base rs (line_of line)) is.records_are ∙ is.alike.answer at.between line
    ∙ ap (λ (rules : Rules). rules.answer at.base at.between line) (sym is.rules) in
    let takes = at.rules.wants_memory at.base at.between line in
    record {
      puts = subst (λ t. PutsAnswer at.rules.is_good ko kn takes t r) whole
          (puts_answer is_not_bad at.rules.is_good ko kn r true takes text (ap (λ (rules : Rules). rules.is_good text) (sym is.rules))
          (λ h _. ap (λ (rules : Rules). rules.wants_memory at.base at.between line) is.rules ∙ wants h) p.puts);
      next = on_next new line r is e;
      room = room_text whole p.room;
    }

-- no record came
pub unfed : (r : Result Bool AnswerError) (records : List FileRecord) (said : RobotsLine) (line : List ℕ) → said ≡ line_of line
    → fed said ≡ [] → OnOk r (records ≡ records ++ fed (line_of line))
unfed (Ok good) records said line is none =
    sym (append-nil records) ∙ ap (λ t. records ++ t) (sym none ∙ ap fed is)
unfed (Err x) records said line is none = tt

-- a line has a record where it isn't stored without memory
pub feeds_record : {A B : Type 0} {x : A} {e : B} (records : List FileRecord) → (records ≡ [] → Err e ≡ Ok x) → nat_lt 0 (length records) ≡ true
feeds_record [] stored = let h = stored refl in cc
feeds_record (r ∷ records) stored = grind (arith, nat_tests)

-- pieces that were put don't say that allocation failed
pub never_memory : {X : Type 0} (good : Bool) (r : Result (Unit {0}) Failed) → said_good good r ≡ Err Memory → X
never_memory good (Ok x) h = absurd (cc h)
never_memory good (Err f) h = absurd (cc h)

pub records_none : records_after [] ≡ []
unfolding records_after
records_none = refl

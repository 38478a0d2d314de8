-- What is said of the answers of the tools' commands.
use Rattle.iri_cli.proofs.Common.{◌≡◌, ℕ, Bool, true, false, List, length, Option, None, Some, Result, Ok, Err, refl, sym, ◌∙◌, ap}
use Rattle.iri_cli.proofs.Common.{arith, nat_lt, if◌then◌else◌, nat_tests, expansion_limit, both, IsSpec, Tests, Parts}
use Rattle.iri_cli.proofs.Common.{split_of, CanonMode, canonical_in, is_allowed, expansion, pieces_of, docs_answer, read_answer, template_answer}
use Rattle.std.proofs.lemmas.Slice.Eq.{bytes_eq-Decides}
use Rattle.iri_docs.specs.Documents.{line_document, unless}
use Rattle.iri_docs.specs.Expanded.{within_limit}
use Rattle.iri_docs.specs.Held.{Held}
use Rattle.iri_docs.specs.declared.doc_error.DocError.{DocError}
use Rattle.iri_docs.specs.declared.expand_error.DocExpandError.TheVariants.{Template, TooLong}
use Rattle.iri_link.proofs.GrammarLemmas.{one_list}
use Rattle.iri_robots.proofs.Decisions.{allowed_is}
use Rattle.iri_robots.specs.Compared.{subject}
use Rattle.iri_robots.specs.Records.{FileRule, rules_for}
use Rattle.iri_template.specs.Fault.{first, template_fault}
use Rattle.iri_template.specs.Template.{Piece, Spells}
use Rattle.iri_template.specs.TypeFaults.{type_fault}
use Rattle.iri_template.proofs.Grammar.{no_fault_is_template, template_has_no_fault}
use Rattle.iri_template.specs.declared.error.Error.{Error}
use Rattle.iri_cli.specs.docs.Expansions.{AnswersAreExpansions, IsExpansion, no_template, faulty, longer, expanded}
use Rattle.iri_cli.specs.docs.Expansions.{IsDocumentAnswer, no_document, document}
use Rattle.iri_cli.specs.links.FieldValues.{AnswersAreLinks}
use Rattle.iri_cli.specs.register.Shared.{LiveLinesShareEntries}
use Rattle.iri_cli.specs.robots.Answers.{answer_to, normal_base, same_part, same_site, target_answer, verdict_word}
use Rattle.iri_cli.specs.robots.Lines.{records_after}
use Rattle.iri_cli.specs.robots.Verdicts.{AnswersAreVerdicts, IsSameSite, IsVerdict, allow, disallow, other}
use Rattle.iri_cli.specs.run.Refused.{unless_bad}
use Rattle.iri_cli.proofs.LinksLemmas.{answered_again, links_answered, others_refused}
use Rattle.iri_cli.proofs.RegisterLaws.{shared_by_steps, shared_by_targets}

-- ---- `links`
pub answers_are_links : (s : Tests) (mode : CanonMode) → IsSpec s → AnswersAreLinks s mode
answers_are_links s mode k = record {
  one = one_list s;
  links = λ base line ls has. sym (links_answered s mode base line ls has);
  others = others_refused s mode;
  again = answered_again s k mode;
}

-- ---- `register`
pub live_lines_share_entries : (s : Tests) (mode : CanonMode) → IsSpec s → LiveLinesShareEntries s mode
live_lines_share_entries s mode k = record {
  targets = λ base. shared_by_targets s mode base;
  steps = λ base. shared_by_steps s mode base k;
}

-- ---- `docs`
module _ (s : Tests) (d : Held) (ps : List Piece) (spelled : Spells ps d.template) where
  by_length : type_fault d.value_of ps ≡ None → (long : Bool) → nat_lt expansion_limit (length (expansion s d.value_of ps)) ≡ long
      → IsExpansion s d (if long then Err TooLong else Ok (expansion s d.value_of ps))
  by_length typed true is = longer ps spelled typed (grind (arith, nat_tests))
  by_length typed false is = expanded ps spelled typed (grind (arith, nat_tests))

  by_type : (f : Option Error) → type_fault d.value_of ps ≡ f → IsExpansion s d (unless Template f (within_limit (expansion s d.value_of ps)))
  by_type (Some e) is = faulty ps e spelled is
  by_type None is = by_length is (nat_lt expansion_limit (length (expansion s d.value_of ps))) refl

by_fault : (s : Tests) (d : Held) (f : Option Error) → template_fault d.template ≡ f
    → IsExpansion s d (unless Template (first f (type_fault d.value_of (pieces_of d.template))) (within_limit (expansion s d.value_of (pieces_of d.template))))
by_fault s d (Some e) is = no_template e (λ t. let none = template_has_no_fault t.0 d.template t.1 in cc (none, is)) is
by_fault s d None is = by_type s d (pieces_of d.template) (no_fault_is_template d.template is) _ refl

by_document : (s : Tests) (mode : CanonMode) (base line : List ℕ) (r : Result Held DocError) → line_document line ≡ r
    → IsDocumentAnswer s mode base line (read_answer s mode base r)
unfolding template_answer
by_document s mode base line (Ok d) is = document d _ is (by_fault s d (template_fault d.template) refl)
by_document s mode base line (Err e) is = no_document e is

pub answers_are_expansions : (s : Tests) (mode : CanonMode) → AnswersAreExpansions s mode
unfolding docs_answer
answers_are_expansions s mode base line = by_document s mode base line (line_document line) refl

-- ---- `robots`
part_is : (x y : Option (List ℕ)) → same_part x y ≡ true → x ≡ y
part_is None None h = refl
part_is (Some a) (Some b) h = ap Some ((bytes_eq-Decides a b).0 h)
part_is x y h = cc

is_part : (x : Option (List ℕ)) → same_part x x ≡ true
is_part None = refl
is_part (Some a) = (bytes_eq-Decides a a).1 refl

site_is : (a b : Parts) → same_site a b ≡ true → IsSameSite a b
unfolding same_site
site_is a b h =
    let k = both (same_part a.scheme b.scheme) (same_part a.authority b.authority) h in
    record { scheme = part_is a.scheme b.scheme k.0; authority = part_is a.authority b.authority k.1 }

is_site : (a b : Parts) → IsSameSite a b → same_site a b ≡ true
unfolding same_site
is_site a b h =
    let scheme : same_part a.scheme b.scheme ≡ true = ap (same_part a.scheme) (sym h.scheme) ∙ is_part a.scheme in
    let authority : same_part a.authority b.authority ≡ true = ap (same_part a.authority) (sym h.authority) ∙ is_part a.authority in
    rw scheme authority

module _ (base : Parts) (rules : List FileRule) (target : Parts) where
  verdict_is : (same allowed : Bool) → same_site base target ≡ same → is_allowed rules (subject target) ≡ allowed
      → IsVerdict base rules target (verdict_word same allowed)
  verdict_is true true s a = allow (site_is base target s) ((allowed_is rules (subject target)).0 a)
  verdict_is true false s a =
      disallow (site_is base target s) (λ k. let t = (allowed_is rules (subject target)).1 k in cc)
  verdict_is false allowed s a = other (λ k. let t = is_site base target k in cc)

pub answers_are_verdicts : (s : Tests) (mode : CanonMode) (token : List ℕ) → AnswersAreVerdicts s mode token
answers_are_verdicts s mode token base line reference between asks none =
    let normal = normal_base s mode base in
    let records = records_after between in
    let rules = rules_for token records in
    let target = canonical_in s mode base reference in
    let same = same_site (split_of normal) (split_of target) in
    let allowed = is_allowed rules (subject (split_of target)) in
    record {
      word = verdict_word same allowed;
      verdict = verdict_is (split_of normal) rules (split_of target) same allowed refl refl;
      answer_is = ap (answer_to s mode token base records) asks
          ∙ ap (λ f. unless_bad f (target_answer token normal records target)) none;
    }

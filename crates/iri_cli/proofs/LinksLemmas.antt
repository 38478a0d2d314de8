-- The answers of `links`.
use Rattle.iri_cli.proofs.Common.{◌≡◌, ◌≤◌, ◌<◌, ◌^◌, ◌∙◌, ℕ, List, ◌++◌, length, map, Option, None, Some}
use Rattle.iri_cli.proofs.Common.{refl, sym, ap, arith, length-append, codes, decimal, length-decimal-le}
use Rattle.iri_cli.proofs.Common.{CanonMode, ErrorKind, IsSpec, Tests, refusal, good_answer}
use Rattle.iri_grammar.specs.ErrorTexts.{description}
use Rattle.iri_grammar.specs.declared.error.ErrorKind.TheVariants.{InvalidScheme}
use Rattle.std.specs.Prelude.{cond}
use Rattle.std.specs.Str.{IsUtf8, is_utf8}
use Rattle.std.specs.Str.Lossy.{utf8_valid_len}
use Rattle.std.proofs.lemmas.Bool.{false_from_ne_true}
use Rattle.std.proofs.lemmas.Str.{is_utf8-from_IsUtf8, IsUtf8-from_is_utf8}
use Rattle.iri_link.specs.ErrorTexts.{displayed, words}
use Rattle.iri_link.specs.declared.error.LinkError.TheVariants.{Fault}
use Rattle.iri_link.specs.declared.error.LinkKind.{LinkKind}
use Rattle.iri_link.specs.declared.error.LinkKind.TheVariants.{BadTarget, NotUtf8}
use Rattle.iri_link.specs.Fault.{Told, field_fault}
use Rattle.iri_link.specs.Field.{LinkValue}
use Rattle.iri_link.specs.Links.{HasLinks}
use Rattle.iri_link.specs.LaxReadings.{lax_links_in}
use Rattle.iri_link.specs.Readings.{links_in}
use Rattle.iri_link.specs.Resolved.{IsReadIn, resolved_in}
use Rattle.iri_link.specs.Written.{written}
use Rattle.iri_link.proofs.FieldLemmas.{links_of_faultless}
use Rattle.iri_link.proofs.GrammarLemmas.{field-given, links_without_fault}
use Rattle.iri_link.proofs.LaxLaws.{lax-alike}
use Rattle.iri_link.proofs.WrittenLemmas.{read_again}
use Rattle.iri_cli.specs.links.Answers.{field_refusal, lax_answer, links_answer, links_line, unless_told}
use Rattle.iri_cli.specs.links.FieldValues.{LaxAnswersAreLinks}
use Rattle.iri_cli.proofs.BytesLemmas.{base_absolute}

-- the answer to a field value with these link-values
pub links_answered : (s : Tests) (mode : CanonMode) (base line : List ℕ) (links : List LinkValue) → HasLinks s line links
    → links_line s mode base links ≡ links_answer s mode base line
unfolding links_answer
links_answered s mode base line links has =
    ap (links_line s mode base) (sym (field-given s line links has.field).0)
    ∙ ap (λ f. unless_told f (links_line s mode base (links_in line))) (sym (links_without_fault s line links has))

pub read_answered : (s : Tests) (mode : CanonMode) (base line : List ℕ) (kept : List LinkValue) → IsReadIn s mode base line kept
    → good_answer (written kept) ≡ links_answer s mode base line
read_answered s mode base line kept read =
    ap (λ ls. good_answer (written ls)) read.resolves ∙ links_answered s mode base line read.links read.has

-- the answer to a field value without a fault, which was found to be this text and read laxly
pub field_answered : (s : Tests) (mode : CanonMode) (base line field : List ℕ) → (field ≡ line) × (field_fault s line ≡ None)
    → links_line s mode base (lax_links_in s field) ≡ links_answer s mode base line
unfolding links_answer
field_answered s mode base line field (same, none) =
    ap (λ x. links_line s mode base (lax_links_in s x)) same ∙ (ap (links_line s mode base) (lax-alike s line none)
    ∙ ap (λ f. unless_told f (links_line s mode base (links_in line))) (sym none))

-- ---- lines that are read laxly
abbrev lax_refusal : List ℕ → List ℕ
lax_refusal line = field_refusal (record { kind = NotUtf8; place = utf8_valid_len line })

pub lax_answered : (s : Tests) (mode : CanonMode) (base line field : List ℕ) → field ≡ line → IsUtf8 line → links_line s mode base (lax_links_in s field) ≡ lax_answer s mode base line
unfolding lax_answer
lax_answered s mode base line field same text =
    ap (λ x. links_line s mode base (lax_links_in s x)) same
    ∙ ap (λ b. cond b (links_line s mode base (lax_links_in s line)) (lax_refusal line)) (sym (is_utf8-from_IsUtf8 line text))

pub lax_refused : (s : Tests) (mode : CanonMode) (base line : List ℕ) (n : ℕ) → ¬ (IsUtf8 line) → n ≡ utf8_valid_len line
    → field_refusal (record { kind = NotUtf8; place = n }) ≡ lax_answer s mode base line
unfolding lax_answer
lax_refused s mode base line n none is =
    ap (λ k. field_refusal (record { kind = NotUtf8; place = k })) is
    ∙ ap (λ b. cond b (links_line s mode base (lax_links_in s line)) (lax_refusal line)) (sym (false_from_ne_true (is_utf8 line) (λ h. none (IsUtf8-from_is_utf8 line h))))

pub lax_answers_are_links : (s : Tests) (mode : CanonMode) → LaxAnswersAreLinks s mode
lax_answers_are_links s mode = record {
  links = λ base line text. sym (lax_answered s mode base line line refl text);
  alike = λ base line none.
      sym (lax_answered s mode base line line refl (links_of_faultless s line none).utf8) ∙ field_answered s mode base line line (refl, none);
  others = λ base line none. sym (lax_refused s mode base line (utf8_valid_len line) none refl);
}

-- the answer to one that is refused
pub refusal_answered : (s : Tests) (mode : CanonMode) (base line : List ℕ) (t : Told) → field_fault s line ≡ Some t → field_refusal t ≡ links_answer s mode base line
unfolding links_answer
refusal_answered s mode base line t is = ap (λ f. unless_told f (links_line s mode base (links_in line))) (sym is)

-- a line that is no such field value
pub others_refused : (s : Tests) (mode : CanonMode) (base line : List ℕ) → ((links : List LinkValue) → HasLinks s line links → ⊥)
    → (t : Told) × (field_fault s line ≡ Some t) × (links_answer s mode base line ≡ field_refusal t)
unfolding links_answer
others_refused s mode base line none = by_fault (field_fault s line) refl
  where
    by_fault : (f : Option Told) → field_fault s line ≡ f
        → (t : Told) × (field_fault s line ≡ Some t)
        × (unless_told (field_fault s line) (links_line s mode base (links_in line)) ≡ field_refusal t)
    by_fault None is = absurd (none (links_in line) (links_of_faultless s line is))
    by_fault (Some t) is = (t, is, ap (λ f. unless_told f (links_line s mode base (links_in line))) is)

-- ---- the length of what is told of a fault
kind_short : (k : ErrorKind) → length (codes "target " ++ description k) ≤ 54
kind_short InvalidScheme = omega arith
kind_short k = omega arith

words_short : (k : LinkKind) → length (words k) ≤ 54
words_short (BadTarget error) = kind_short error.kind
words_short k = omega arith

pub displayed_short : (k : LinkKind) (place : ℕ) → place < 2 ^ 64 → length (displayed (Fault k place)) ≤ 80
displayed_short k place small =
    let sizes = length-append (words k) (codes " at " ++ decimal place) in
    let digits = length-decimal-le 20 place (omega arith) (omega arith) small in
    omega (arith, words_short k, sizes, length-append (codes " at ") (decimal place), digits)

-- what is written of a field value is answered by itself
pub answered_again : (s : Tests) → IsSpec s → (mode : CanonMode) (base other line : List ℕ) (links : List LinkValue) → refusal s base ≡ None
    → HasLinks s line links → links_answer s mode other (written (map (resolved_in s mode base) links)) ≡ links_answer s mode base line
answered_again s l mode base other line links taken has =
    let kept = map (resolved_in s mode base) links in
    let read : IsReadIn s mode base line kept = record { links = links; has = has; resolves = refl } in
    sym (read_answered s mode other (written kept) kept (read_again s l mode base other (base_absolute s l base taken) line kept read))
    ∙ read_answered s mode base line kept read

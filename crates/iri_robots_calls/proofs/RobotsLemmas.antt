-- What rules say of a target, and texts that are no token.
use Rattle.std.proofs.Common.{◌≡◌, ◌↔◌, ℕ, Bool, true, false, List, None, length, take, refl, sym, ◌∙◌, ap, arith, subst, inl}
use Rattle.std.specs.Prelude.{◌==◌, not}
use Rattle.std.specs.List.{list_all, prefix_len}
use Rattle.std.specs.Str.{IsAscii, IsUtf8}
use Rattle.std.proofs.lemmas.Bool.{eqb-true, false_from_ne_true}
use Rattle.std.proofs.lemmas.Grind.{common_steps}
use Rattle.std.proofs.lemmas.Str.{IsUtf8-from_ascii}
use Rattle.iri_grammar.specs.Classes.{Tests}
use Rattle.iri_grammar.specs.Fault.{bytes_fault}
use Rattle.iri_grammar.specs.Split.{split_of}
use Rattle.iri_grammar.specs.WholeFault.{iri_fault}
use Rattle.iri_calls.specs.declared.status.TheConstants.{BAD_TEXT}
use Rattle.iri_calls.specs.Outcome.Outcome.{plain}
use Rattle.iri_calls.specs.Outcomes.{in_grammar, unless_fault}
use Rattle.iri_robots.specs.Allowed.{IsAllowed}
use Rattle.iri_robots.specs.Compared.{subject}
use Rattle.iri_robots.specs.Decided.{is_allowed}
use Rattle.iri_robots.specs.FileLines.{is_token, is_token_char}
use Rattle.iri_robots.specs.Files.{file_records, is_byte}
use Rattle.iri_robots.specs.Records.{FileRule, rules_for}
use Rattle.iri_robots.specs.RuleLines.{rule_lines, rules_in}
use Rattle.iri_robots.specs.declared.robots.Verdict.{Verdict}
use Rattle.iri_robots.specs.declared.robots.Verdict.TheVariants.{Allow}
use Rattle.iri_robots.proofs.Agents.{prefix_ascii}
use Rattle.iri_robots.proofs.Decisions.{allowed_is}
use Rattle.iri_robots.proofs.ReadBack.{file_read_back, right}
use Rattle.iri_robots_calls.specs.Outcomes.{ReturnedOrMemory, allowed_outcome, allowed_status, file_outcome, judged_in}

-- a verdict is what the function says
verdict_is : (rules : List FileRule) (t : List ℕ) (v : Verdict) → (v ≡ Allow) ↔ IsAllowed rules t → (v ≡ Allow) ↔ (is_allowed rules t ≡ true)
verdict_is rules t v k = (λ e. (allowed_is rules t).1 (k.0 e), λ e. k.1 ((allowed_is rules t).0 e))

-- its status is returned
pub judged : (s : Tests) (rules : List FileRule) (target t : List ℕ) (v : Verdict) (detail status code : ℕ)
    → bytes_fault (iri_fault s) target ≡ None → t ≡ subject (split_of target) → (v ≡ Allow) ↔ IsAllowed rules t
    → ((b : Bool) → (v ≡ Allow) ↔ (b ≡ true) → code ≡ allowed_status b) → detail ≡ 0 → status ≡ code
    → ReturnedOrMemory (judged_in rules target s) detail status
judged s rules target t v detail status code f e k says z w =
    subst (λ o. ReturnedOrMemory (unless_fault BAD_TEXT o (plain (allowed_status (is_allowed rules (subject (split_of target)))))) detail status) (sym f)
    (inl (refl, z, w ∙ says (is_allowed rules t) (verdict_is rules t v k) ∙ ap (λ x. allowed_status (is_allowed rules x)) e))

-- over the lines that are written of a file's rules
pub by_file : (grammar : ℕ) (lines target token file : List ℕ) (detail status : ℕ) → ReturnedOrMemory (allowed_outcome grammar lines target) detail status
    → list_all is_byte file ≡ true → lines ≡ rule_lines (rules_for token (file_records file))
    → ReturnedOrMemory (file_outcome grammar token file target) detail status
by_file grammar lines target token file detail status h b e =
    subst (λ rules. ReturnedOrMemory (in_grammar grammar (judged_in rules target)) detail status)
    (ap rules_in e ∙ file_read_back token file b) h

-- ---- tokens

token_ascii : (t : List ℕ) → is_token t ≡ true → IsAscii t
token_ascii t h =
    let n = prefix_len is_token_char t in
    let all : n ≡ length t = eqb-true n (length t) (right (not (length t == 0)) (n == length t) h) in
    let same : take (length t) t ≡ t = grind (arith, common_steps) in
    subst IsAscii (ap (λ k. take k t) all ∙ same) (prefix_ascii t)

pub no_token : (t : List ℕ) → (IsUtf8 t → ⊥) → is_token t ≡ false
no_token t n = false_from_ne_true (is_token t) (λ h. n (IsUtf8-from_ascii t (token_ascii t h)))

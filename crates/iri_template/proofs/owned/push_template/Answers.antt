use Rattle.iri_template.proofs.Common.{◌≡◌, ◌++◌, Result, Ok, Err, None, List, ℕ, ◌∙◌, ap, text_fault}
use Rattle.std.specs.Prelude.{if◌then◌else◌, is_ok}
use Rattle.std.specs.String.{string_bytes}
use Rattle.std.specs.declared.alloc.AllocError.{AllocError}
use Rattle.std.proofs.lemmas.Str.{IsUtf8-string_bytes}
use Rattle.iri_template.proofs.Grammar.{joined_templates}
use Rattle.iri_template.proofs.owned.push_template.Goals as goal

either : (r : Result (Unit {0}) AllocError) (x y z : List ℕ) → z ≡ (if is_ok r then x else y) → text_fault x ≡ None → text_fault y ≡ None
    → text_fault z ≡ None
either (Ok u) x y z e h k = ap text_fault e ∙ h
either (Err u) x y z e h k = ap text_fault e ∙ k

pub returns-clause-valid : goal.returns-clause-valid
returns-clause-valid c =
    let same : string_bytes c.try_reserve.new.self ≡ string_bytes c.args.whole.now = c.try_reserve.ensures.bytes in
    let fine : text_fault (string_bytes c.try_reserve.new.self) ≡ None = ap text_fault same ∙ c.requires in
    either c.push_str.result (string_bytes c.try_reserve.new.self ++ c.as_str.result.now) (string_bytes c.try_reserve.new.self)
    (string_bytes c.push_str.new.self) c.push_str.ensures.bytes
    (joined_templates (string_bytes c.try_reserve.new.self) c.as_str.result.now
    (IsUtf8-string_bytes c.try_reserve.new.self) c.as_str.utf8 fine c.as_str.ensures.valid) fine

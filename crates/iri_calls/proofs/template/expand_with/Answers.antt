use Rattle.iri_calls.proofs.Common.{◌≡◌, ℕ, List, Option, None, Some, ap, sym, subst, refl, ◌∙◌, Tests, Answered, text}
use Rattle.std.specs.Prelude.{MatchOption}
use Rattle.iri_template.specs.Expansion.{expansion}
use Rattle.iri_template.specs.Fault.{template_fault, first}
use Rattle.iri_template.specs.Reading.{pieces_of}
use Rattle.iri_template.specs.Texts.{text as text_in}
use Rattle.iri_template.specs.TypeFaults.{type_fault}
use Rattle.iri_template.specs.declared.error.Error.{Error}
use Rattle.iri_calls.specs.Templates.{ExpandedIn, Refused}
use Rattle.iri_calls.specs.Variables.{value_in}
use Rattle.iri_calls.specs.declared.variables.Variable.{Variable}
use Rattle.iri_calls.specs.declared.variables.Variables.{Variables}
use Rattle.iri_calls.proofs.template.expand_with.Goals as goal

-- what the fault of its values asks of a template that has none itself
by_values : (s : Tests) (t x : List ℕ) (vs : List Variable) (o : Option Error) (old new : List ℕ) (detail place status : ℕ)
    → template_fault t ≡ None → x ≡ t → type_fault (value_in vs) (pieces_of x) ≡ o
    → MatchOption o ((place ≡ 0) × Answered (text (expansion s (value_in vs) (pieces_of t))) old new detail status)
    (λ error. (new ≡ old) × Refused error detail place status)
    → ExpandedIn s t vs old new detail place status
by_values s t x vs o old new detail place status f e v =
    subst (λ found. MatchOption found ((place ≡ 0) × Answered (text (expansion s (value_in vs) (pieces_of t))) old new detail status)
    (λ error. (new ≡ old) × Refused error detail place status))
    (sym (ap (λ fault. first fault (type_fault (value_in vs) (pieces_of t))) f ∙ ap (λ y. type_fault (value_in vs) (pieces_of y)) (sym e) ∙ v))

expansion_is : (s : Tests) (t x y : List ℕ) (vs : List Variable) (k : Variables) (old new : List ℕ) (detail status : ℕ) → x ≡ t → y ≡ x
    → k.variables.now ≡ vs → Answered (text (expansion s (λ name. value_in k.variables.now name) (pieces_of y))) old new detail status
    → Answered (text (expansion s (value_in vs) (pieces_of t))) old new detail status
expansion_is s t x y vs k old new detail status e h w a =
    subst (λ z. Answered (text (expansion s (value_in vs) (pieces_of z))) old new detail status) (h ∙ e)
    (subst (λ us. Answered (text (expansion s (λ name. value_in us name) (pieces_of y))) old new detail status) w a)

pub returns-in-Ok-expand : goal.returns-in-Ok-expand
returns-in-Ok-expand g c =
    let s = g.S.Spec.tests in let t = c.args.template.now in let x = text_in c.in-Ok.template in let vs = c.args.variables.now in
    let out = c.args.out.now in let e = c.in-Ok-expand.ensures in let a = c.answer_text in
    by_values s t x vs None out a.new.out a.new.detail 0 a.result c.in-Ok.ensures.fault c.in-Ok.ensures.text e.fault (
      refl,
      expansion_is s t x (text_in c.in-Ok-expand.expanded.template) vs c.in-Ok-expand.expanded.context.now out a.new.out a.new.detail a.result
          c.in-Ok.ensures.text e.expanded.0 (ap (λ (k : Variables). k.variables.now) e.expanded.1) a.ensures,
    )

pub returns-in-Err-expand : goal.returns-in-Err-expand
returns-in-Err-expand g c =
    let out = c.args.out.now in let refused = c.refuse-in-Err-expand in
    by_values g.S.Spec.tests c.args.template.now (text_in c.in-Ok.template) c.args.variables.now (Some c.in-Err-expand.error) out out
    refused.new.detail refused.new.place refused.result c.in-Ok.ensures.fault c.in-Ok.ensures.text c.in-Err-expand.ensures.fault
    (refl, refused.ensures)

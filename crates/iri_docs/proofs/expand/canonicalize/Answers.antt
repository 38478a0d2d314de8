use Rattle.std.proofs.Common.{◌≡◌, ◌∙◌, ◌++◌, None, Ok, sym, subst, ap, string_bytes}
use Rattle.iri_grammar.specs.WholeFault.{iri_fault}
use Rattle.iri_types.specs.SplitText.{split_text}
use Rattle.iri_normal.specs.NormalForm.{canonical_in}
use Rattle.iri_normal.specs.Resolver.{base_text}
use Rattle.iri_docs.proofs.expand.canonicalize.Goals as goal

pub from_valid-requires : goal.from_valid-requires
from_valid-requires g c =
    let s = g.S.Spec.tests in
    let whole = canonical_in s c.args.mode (base_text c.args.resolver.now) (split_text c.in-Ok.reference) in
    let is : string_bytes c.canonical_into_in.new.dest ≡ whole =
    c.in-Ok-canonical_into_in.ensures.text ∙ ap (λ o. o ++ whole) c.new-canonical.ensures.bytes in
    subst (λ t. iri_fault s t ≡ None) (sym is) c.canonical_into_in.ensures.valid

pub returns-in-Ok-canonical_into_in : goal.returns-in-Ok-canonical_into_in
returns-in-Ok-canonical_into_in g c =
    let s = g.S.Spec.tests in
    let b = base_text c.args.resolver.now in
    let whole = canonical_in s c.args.mode b (split_text c.in-Ok.reference) in
    let is : string_bytes c.canonical_into_in.new.dest ≡ canonical_in s c.args.mode b c.args.text.now =
    c.in-Ok-canonical_into_in.ensures.text ∙ (ap (λ o. o ++ whole) c.new-canonical.ensures.bytes ∙ ap (canonical_in s c.args.mode b) c.in-Ok.ensures.text) in
    rw c.in-Ok.ensures.fault (ap Ok (sym (ap (λ t. t.text) c.from_valid.ensures ∙ is)))

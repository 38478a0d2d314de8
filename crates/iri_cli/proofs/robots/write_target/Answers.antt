use Rattle.iri_cli.proofs.Common.{◌≡◌, ◌++◌, None, Result, Ok, Err, sym, subst, ap, OnOk, string_bytes, AllocError, split_text, canonical_in}
use Rattle.iri_cli.proofs.Common.{base_text}
use Rattle.iri_grammar.specs.WholeFault.{iri_fault}
use Rattle.iri_cli.proofs.robots.write_target.Goals as goal

pub returns-clause-text : goal.returns-clause-text
returns-clause-text g c =
    let whole = canonical_in g.S.Spec.tests c.args.mode (base_text c.args.resolver.now) (split_text c.args.reference.now) in
    subst (λ t. OnOk c.canonical_into_in.result (string_bytes c.canonical_into_in.new.dest ≡ t))
    (ap (λ o. o ++ whole) c.clear.ensures.bytes) c.canonical_into_in.ensures.text

on_ok : {A B : Type 0} (r : Result (Unit {0}) AllocError) → (A → B) → OnOk r A → OnOk r B
on_ok (Ok x) f h = f h
on_ok (Err e) f h = h

pub returns-clause-valid : goal.returns-clause-valid
returns-clause-valid g c =
    let s = g.S.Spec.tests in
    let whole = canonical_in s c.args.mode (base_text c.args.resolver.now) (split_text c.args.reference.now) in
    on_ok {A = string_bytes c.canonical_into_in.new.dest ≡ whole} c.canonical_into_in.result
    (λ e. subst (λ t. iri_fault s t ≡ None) (sym e) c.canonical_into_in.ensures.valid) (returns-clause-text g c)

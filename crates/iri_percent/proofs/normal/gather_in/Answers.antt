use Rattle.iri_percent.proofs.Common.{◌≡◌, ◌+◌, take, get_or, ap, sym, ◌∙◌, subst, arith, IsUtf8, take_rest, stays, Becomes}
use Rattle.std.proofs.lemmas.Str.{IsUtf8-nil, IsUtf8-append}
use Rattle.iri_percent.proofs.forms.Changes.{gathers, so_far, joined}
use Rattle.iri_percent.proofs.normal.gather_in.Goals as goal

pub changes-init : goal.changes-init
changes-init g c =
    let m = c.requires.1 in
    let same : c.args.at ≡ c.args.at + 0 = omega arith in
    record {
      gathered = gathers g.S.Spec.tests c.args.lower c.args.text.now c.args.at m;
      utf8 = IsUtf8-nil;
      room = omega arith;
      inside = omega (arith, m.inside);
      candidate = ap (λ n. stays c.args.lower (get_or c.args.text.now n 0)) (sym same) ∙ m.candidate;
    }

pub changes-preserved : goal.changes-preserved
changes-preserved g c =
    let t = c.args.text.now in
    let r = c.changes.run in
    let change = c.write_change-change in
    let k = change.ensures.writes in
    let next = c.if-not-has_next.ensures in
    let is = sym k.put in
    let place : c.args.at + (r.read + change.result.read) ≡ c.args.at + (r.read + change.result.read) = omega arith in
    record {
      gathered = so_far (subst (λ x. Becomes g.S.Spec.tests c.args.lower t c.args.at (r.read + change.result.read) x) is
          (joined g.S.Spec.tests c.args.lower t _ c.args.at r.read change.result.read (take r.written c.changes.buf) k.text
          (take_rest t (c.args.at + r.read)) c.changes.invariant.gathered k.becomes));
      utf8 = subst IsUtf8 is (IsUtf8-append (take r.written c.changes.buf) k.text c.changes.invariant.utf8 k.utf8);
      room = next.0;
      inside = next.1;
      candidate = next.2;
    }

pub returns-then-not-has_next-clause-utf8 : goal.returns-then-not-has_next-clause-utf8
returns-then-not-has_next-clause-utf8 g c =
    let k = c.write_change-change.ensures.writes in
    subst IsUtf8 (sym k.put) (IsUtf8-append (take c.changes.run.written c.changes.buf) k.text c.changes.invariant.utf8 k.utf8)

pub returns-then-not-has_next-clause-becomes : goal.returns-then-not-has_next-clause-becomes
returns-then-not-has_next-clause-becomes g c =
    let t = c.args.text.now in
    let r = c.changes.run in
    let k = c.write_change-change.ensures.writes in
    subst (λ x. Becomes g.S.Spec.tests c.args.lower t c.args.at (r.read + c.write_change-change.result.read) x) (sym k.put)
    (joined g.S.Spec.tests c.args.lower t _ c.args.at r.read c.write_change-change.result.read (take r.written c.changes.buf) k.text
    (take_rest t (c.args.at + r.read)) c.changes.invariant.gathered k.becomes)

use Rattle.iri_normal.proofs.Common.{◌∙◌, ap, arith, length, ends_at_slash, popped_times}
use Rattle.iri_normal.proofs.removal.Buffers.{popped-ends}
use Rattle.iri_normal.proofs.removal.Parents.{each-more, times-next}
use Rattle.std.proofs.lemmas.List.{length-set}
use Rattle.std.proofs.lemmas.Option.{slice_get_within}
use Rattle.iri_normal.specs.inside.Parents.{IsParent}
use Rattle.iri_normal.proofs.directory.every_parent.Goals as goal

pub parents-preserved : goal.parents-preserved
parents-preserved c =
    let i = c.parents.invariant in
    let d = c.args.directory.now in
    record {
      utf8 = c.popped_times-rest.utf8;
      ends = ap ends_at_slash c.popped_times-rest.ensures ∙ popped-ends c.parents.rest.now;
      rest = c.popped_times-rest.ensures ∙ (ap (popped_times 1) i.rest ∙ times-next c.parents.i d);
      len = length-set c.parents.parents c.parents.i c.len_of.result ∙ i.len;
      each = each-more (λ k len. IsParent len k d) c.parents.parents c.parents.i c.len_of.result
          (omega (arith, i.len, c.parents-test.true)) (λ h. c.len_of.ensures h ∙ ap length i.rest) i.each;
    }

pub returns : goal.returns
returns c k x e =
    let i = c.parents.invariant in
    i.each k (omega (arith, slice_get_within c.parents.parents k x e, i.len, c.parents-test.false)) x e

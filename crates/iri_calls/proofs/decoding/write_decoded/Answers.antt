use Rattle.iri_calls.proofs.Common.{◌+◌, length, ap, sym, subst, ◌∙◌, arith, length-append, flat_map}
use Rattle.iri_percent.specs.Decoding.{fragments, fragment_bytes}
use Rattle.iri_percent.specs.FragmentViews.{fragment, fragments_left}
use Rattle.iri_percent.proofs.coding.Fragments.{decoding-shorter}
use Rattle.iri_calls.proofs.DecodingLemmas.{Writing, writing_begun, writing_next, writing_end}
use Rattle.iri_calls.proofs.decoding.write_decoded.Goals as goal

pub loop-piece-init : goal.loop-piece-init
loop-piece-init c = record {
  can = tt;
  ends = tt;
  left = writing_begun c.args.bytes.now c.args.out.now (fragments_left c.into_iter-piece-iterator.result)
      (ap fragments_left c.into_iter-piece-iterator.ensures.into_iter_gives ∙ c.bytes_fragments-piece-items.ensures.fragments ∙ ap fragments c.decode_whatwg_bytes.ensures);
}

pub overflow_add-at : goal.overflow_add-at
overflow_add-at c =
    let x = fragment c.in-Some.piece in let left = fragments_left c.next.new.self in
    let w = subst (λ fs. Writing c.args.bytes.now c.args.out.now fs c.loop-piece.at c.loop-piece.out) c.in-Some.ensures.steps.0 c.loop-piece.invariant.left in
    omega (arith, w.count, length-append (fragment_bytes x) (flat_map fragment_bytes left), decoding-shorter c.args.bytes.now, c.write_fragment-at.ensures.len)

pub loop-piece-preserved : goal.loop-piece-preserved
loop-piece-preserved c =
    let t = c.args.bytes.now in let old = c.args.out.now in let at = c.loop-piece.at in let now = c.loop-piece.out in
    let x = fragment c.in-Some.piece in let left = fragments_left c.next.new.self in
    let w = subst (λ fs. Writing t old fs at now) c.in-Some.ensures.steps.0 c.loop-piece.invariant.left in
    record {
      can = tt;
      ends = tt;
      left =
          subst (λ n. Writing t old left (at + n) c.write_fragment-at.new.out) (sym c.write_fragment-at.ensures.len)
          (subst (λ b. Writing t old left (at + length (fragment_bytes x)) b) (sym c.write_fragment-at.ensures.bytes)
          (writing_next t old at now x left w));
    }

pub returns-clause-bytes : goal.returns-clause-bytes
returns-clause-bytes c =
    (writing_end c.args.bytes.now c.args.out.now c.loop-piece.at c.loop-piece.out
    (subst (λ fs. Writing c.args.bytes.now c.args.out.now fs c.loop-piece.at c.loop-piece.out) c.in-None.ensures.steps.0.0 c.loop-piece.invariant.left)).0

pub returns-clause-len : goal.returns-clause-len
returns-clause-len c =
    (writing_end c.args.bytes.now c.args.out.now c.loop-piece.at c.loop-piece.out
    (subst (λ fs. Writing c.args.bytes.now c.args.out.now fs c.loop-piece.at c.loop-piece.out) c.in-None.ensures.steps.0.0 c.loop-piece.invariant.left)).1

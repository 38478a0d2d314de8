use Rattle.iri_text.proofs.Common.{sym, subst, IsUtf8, IsUtf8-append, IsUtf8-had}
use Rattle.iri_text.proofs.shown.slice.SliceSinkTextSink.put.Goals as goal

pub invariant_of-self-2-clause-utf8 : goal.invariant_of-self-2-clause-utf8
invariant_of-self-2-clause-utf8 c =
    ∣ subst IsUtf8 (sym c.copy_to.ensures.start)
    (IsUtf8-append _ _ (IsUtf8-had _ c.args.self.now.utf8) c.as_bytes-bytes.ensures.utf8) ∣₁

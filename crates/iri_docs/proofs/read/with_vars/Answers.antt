use Rattle.iri_docs.proofs.Common.{ℕ, List, ap, ShownValue, result_map}
use Rattle.iri_docs.specs.Held.{Held}
use Rattle.iri_docs.proofs.FaultLemmas.{retold}
use Rattle.iri_docs.proofs.read.with_vars.Goals as goal

pub returns-in-Err : goal.returns-in-Err
returns-in-Err c =
    let make : (List ℕ → ShownValue) → Held = λ v. record { template = c.args.template.now; value_of = v } in
    record { answer = λ not. ap (result_map make) (c.in-Err.ensures.answer not); fault = retold make _ _ c.in-Err.ensures.fault }

use Rattle.iri_template.proofs.Common.{◌≡◌, ◌+◌, ◌-◌, Some, None, length, ap, sym, ◌∙◌, arith, before, after, pieces, now_of, moved}
use Rattle.iri_template.proofs.Common.{text_after, varspec_fault, varspecs_fault}
use Rattle.iri_template.proofs.VarSpecWalk.{cut_len, before_len, more_varspecs, last_varspec, bad_varspec}
use Rattle.iri_template.proofs.fault.check_varspecs.Goals as goal

pub check_varspec-requires : goal.check_varspec-requires
check_varspec-requires c =
    omega (arith, c.requires, c.varspecs.invariant.len, before_len c.varspecs.rest.now, ap length c.cut.ensures.before)

pub varspecs-smaller : goal.varspecs-smaller
varspecs-smaller c =
    let t = c.varspecs.rest.now in
    let e : Some c.in-Some.more.now ≡ after 44 t = ap now_of (sym c.in-Some.is) ∙ c.cut.ensures.after in
    omega (arith, cut_len t c.in-Some.more.now e)

pub varspecs-preserved : goal.varspecs-preserved
varspecs-preserved c =
    let i = c.varspecs.invariant in
    let t = c.varspecs.rest.now in
    let r = c.in-Some.more.now in
    let n = length c.args.varspecs.now in
    let place = c.args.at + (n - length t) in
    let e : Some r ≡ after 44 t = ap now_of (sym c.in-Some.is) ∙ c.cut.ensures.after in
    let fine : moved place (varspec_fault (before 44 t)) ≡ None =
    ap (λ l. moved place (varspec_fault l)) (sym c.cut.ensures.before) ∙ c.in-Ok.ensures in
    let z : place + (length t - length r) ≡ c.args.at + (n - length r) = omega (arith, cut_len t r e, i.len) in
    record {
      utf8 = text_after 44 t r (omega arith) i.utf8 (sym e);
      len = omega (arith, cut_len t r e, i.len);
      fault = ap (λ k. varspecs_fault k (pieces 44 r)) (sym z) ∙ (sym (more_varspecs place t r e fine) ∙ i.fault);
    }

pub returns-in-None : goal.returns-in-None
returns-in-None c =
    let t = c.varspecs.rest.now in
    let place = c.args.at + (length c.args.varspecs.now - length t) in
    let e : None ≡ after 44 t = ap now_of (sym c.in-None.is) ∙ c.cut.ensures.after in
    sym c.varspecs.invariant.fault ∙ last_varspec place t e
    (ap (λ l. moved place (varspec_fault l)) (sym c.cut.ensures.before) ∙ c.in-Ok.ensures)

pub returns-in-Err : goal.returns-in-Err
returns-in-Err c =
    let t = c.varspecs.rest.now in
    let place = c.args.at + (length c.args.varspecs.now - length t) in
    sym c.varspecs.invariant.fault
    ∙ bad_varspec place t c.in-Err.error (ap (λ l. moved place (varspec_fault l)) (sym c.cut.ensures.before) ∙ c.in-Err.ensures)

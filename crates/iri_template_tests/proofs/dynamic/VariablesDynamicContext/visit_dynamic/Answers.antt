use Rattle.iri_template.specs.ShownValues.{string}
use Rattle.iri_template_tests.proofs.dynamic.VariablesDynamicContext.visit_dynamic.Goals as goal

pub returns-in-Some-clause-visit : goal.returns-in-Some-clause-visit
returns-in-Some-clause-visit g c =
    let e = c.visit_string.ensures in
    record {
      value = string c.in-Some.text.now;
      visits = record {
        tells = e.tells;
        goes_on = e.goes_on;
        halted = e.halted;
        same_name = e.same_name;
        same_aim = e.same_aim;
      };
      next = tt;
    }

-- The laws of a list of steps, and of lines, as sinks of steps.
use Rattle.std.specs.Prelude.{◌≡◌, ℕ, List, [], ◌∷◌, ◌++◌, Result, Ok, Err, refl}
use Rattle.std.proofs.Common.{sym, ◌∙◌, ap, subst, arith, append_assoc, append-nil, length-append}
use Rattle.std.proofs.lemmas.Grind.{flat_map-append}
use Rattle.iri_text.specs.Shown.{AreSinkLaws, Shows}
use Rattle.iri_text.specs.declared.shown.show.Stop.{Stop}
use Rattle.iri_resolve.specs.StepSinks.{ListPuts, ListHalts, step_line, step_lines}
use Rattle.iri_resolve.specs.declared.step.Step.{Step}
use Rattle.iri_resolve.specs.declared.step_lines.StepLines.{StepLines}

-- ---- a list
pub list_none : (a : List Step) → ListPuts a [] a
list_none a = sym (append-nil a)

pub list_both : (a b c t u : List Step) → ListPuts a t b → ListPuts b u c → ListPuts a (t ++ u) c
list_both a b c t u p q = q ∙ ap (λ l. l ++ u) p ∙ append_assoc a t u

pub list_until : (a b c t u : List Step) → ListPuts a t b → ListHalts b u c → ListHalts a (t ++ u) c
list_until a b c t u p h = record {
  prefix = t ++ h.prefix;
  rest = h.rest;
  split = append_assoc t h.prefix h.rest ∙ ap (λ l. t ++ l) h.split;
  refused = h.refused;
  taken = h.taken ∙ ap (λ l. l ++ h.prefix) p ∙ append_assoc a t h.prefix;
}

pub list_within : (a b t u : List Step) → ListHalts a t b → ListHalts a (t ++ u) b
list_within a b t u h = record {
  prefix = h.prefix;
  rest = h.rest ++ u;
  split = sym (append_assoc h.prefix h.rest u) ∙ ap (λ l. l ++ u) h.split;
  refused = omega (arith, length-append h.rest u, h.refused);
  taken = h.taken;
}

-- ---- lines
module _ {W : Type 0} where
  -- the same sink after it, and the lines of the steps went into it
  pub record LinesPut (puts : W → List ℕ → W → Type 0) (a : StepLines W) (steps : List Step) (b : StepLines W) : Type 0 where
    pub same : b.to.ghost_name ≡ a.to.ghost_name
    pub put : puts a.to.now (step_lines steps) b.to.now

  -- the same sink after it, which stopped within the lines of the steps
  pub record LinesHalt (halts : W → List ℕ → W → Type 0) (a : StepLines W) (steps : List Step) (b : StepLines W) : Type 0 where
    pub same : b.to.ghost_name ≡ a.to.ghost_name
    pub halt : halts a.to.now (step_lines steps) b.to.now

  pub lines_rules : {puts halts : W → List ℕ → W → Type 0} → AreSinkLaws puts halts → AreSinkLaws (LinesPut puts) (LinesHalt halts)
  lines_rules {puts = puts} {halts = halts} laws = record {
    none = λ a. record { same = refl; put = laws.none a.to.now };
    both = λ a b c t u p q. record {
      same = q.same ∙ p.same;
      put = subst (λ l. puts a.to.now l c.to.now) (sym (flat_map-append step_line t u)) (laws.both _ _ _ _ _ p.put q.put);
    };
    until = λ a b c t u p h. record {
      same = h.same ∙ p.same;
      halt = subst (λ l. halts a.to.now l c.to.now) (sym (flat_map-append step_line t u)) (laws.until _ _ _ _ _ p.put h.halt);
    };
    within = λ a b t u h. record {
      same = h.same;
      halt = subst (λ l. halts a.to.now l b.to.now) (sym (flat_map-append step_line t u)) (laws.within _ _ _ _ h.halt);
    };
  }

  -- what a line has done to the sink after it, as what its step has done to this one
  pub line_put : {puts halts : W → List ℕ → W → Type 0} {stops : W → ℕ} (a b : StepLines W) (x : Step) (r : Result (Unit {0}) Stop)
      → b.to.ghost_name ≡ a.to.ghost_name → Shows puts halts stops a.to.now (step_line x) b.to.now r
      → Shows (LinesPut puts) (LinesHalt halts) (λ (l : StepLines W). stops l.to.now) a (x ∷ []) b r
  line_put {puts = puts} a b x (Ok y) same q = record {
    appends = record { same = same; put = subst (λ l. puts a.to.now l b.to.now) (sym (append-nil (step_line x))) q.appends };
    stops_within = tt;
    rose = tt;
    later = q.later;
  }
  line_put {halts = halts} a b x (Err e) same q = record {
    appends = tt;
    stops_within = record { same = same; halt = subst (λ l. halts a.to.now l b.to.now) (sym (append-nil (step_line x))) q.stops_within };
    rose = q.rose;
    later = q.later;
  }

  -- and back again
  pub lines_shown : {puts halts : W → List ℕ → W → Type 0} {stops : W → ℕ} (a b : StepLines W) (steps : List Step) (r : Result (Unit {0}) Stop)
      → Shows (LinesPut puts) (LinesHalt halts) (λ (l : StepLines W). stops l.to.now) a steps b r
      → Shows puts halts stops a.to.now (step_lines steps) b.to.now r × (b.to.ghost_name ≡ a.to.ghost_name)
  lines_shown a b steps (Ok x) q = (record { appends = q.appends.put; stops_within = tt; rose = tt; later = q.later }, q.appends.same)
  lines_shown a b steps (Err e) q =
      (record { appends = tt; stops_within = q.stops_within.halt; rose = q.rose; later = q.later }, q.stops_within.same)

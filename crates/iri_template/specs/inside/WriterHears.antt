-- What a visitor that writes does with what it is told, and its laws.
use Rattle.std.specs.Prelude.{◌≡◌, ℕ, Bool, true, ◌||◌, List, refl}
use Rattle.std.proofs.Common.{◌∙◌, ap, sym}
use Rattle.std.proofs.Math.Bool.{or-true}
use Rattle.std.proofs.lemmas.List.Folds.{list_any-append}
use Rattle.iri_grammar.specs.Classes.{Tests}
use Rattle.iri_text.specs.Shown.{AreSinkLaws}
use Rattle.iri_text.specs.inside.Through.{ThroughPuts, ThroughHalts}
use Rattle.iri_text.proofs.ThroughLaws.{through_laws}
use Rattle.iri_template.specs.Events.{Event}
use Rattle.iri_template.specs.inside.Checked.{CheckState, refuses, checked_step, checked_text, is_put, puts_some}
use Rattle.iri_template.specs.inside.Written.{write_state}
use Rattle.iri_template.specs.declared.value_writer.ValueWriter.{ValueWriter}

module _ {S W : Type 0} (s : Tests) where
  abbrev pub state_of : ValueWriter S W → CheckState
  state_of v = record { write = write_state v.state; mistyped = v.mistyped }

  abbrev pub refused_by : ValueWriter S W → Bool
  refused_by v = refuses (state_of v)

  pub record WriterHears (puts : W → List ℕ → W → Type 0) (a : ValueWriter S W) (es : List Event) (b : ValueWriter S W) : Type 0 where
    pub same_refused : refused_by b ≡ refused_by a
    pub through : ThroughPuts checked_step (checked_text s) state_of (λ (v : ValueWriter S W). v.to.now)
        (λ (v : ValueWriter S W). v.to.ghost_name) puts a es b

  -- it stops only where a text is put
  pub record WriterHalts (halts : W → List ℕ → W → Type 0) (a : ValueWriter S W) (es : List Event) (b : ValueWriter S W) : Type 0 where
    pub put : puts_some (refused_by a) es ≡ true
    pub through : ThroughHalts checked_step (checked_text s) state_of (λ (v : ValueWriter S W). v.to.now)
        (λ (v : ValueWriter S W). v.to.ghost_name) halts a es b

module _ {S W : Type 0} (s : Tests) where
  pub writer_rules : {puts halts : W → List ℕ → W → Type 0} → AreSinkLaws puts halts
      → AreSinkLaws (WriterHears {S = S} s puts) (WriterHalts {S = S} s halts)
  writer_rules laws =
      let through = through_laws checked_step (checked_text s) (state_of s) (λ (v : ValueWriter S W). v.to.now)
      (λ (v : ValueWriter S W). v.to.ghost_name) laws in
      record {
        none = λ a. record { same_refused = refl; through = through.none a };
        both = λ a b c t u p q. record {
          same_refused = q.same_refused ∙ p.same_refused;
          through = through.both a b c t u p.through q.through;
        };
        until = λ a b c t u p h. record {
          put = list_any-append (is_put (refused_by s a)) t u ∙ ap (λ b. puts_some (refused_by s a) t || b)
              (ap (λ r. puts_some r u) (sym p.same_refused) ∙ h.put) ∙ or-true (puts_some (refused_by s a) t);
          through = through.until a b c t u p.through h.through;
        };
        within = λ a b t u h. record {
          put = list_any-append (is_put (refused_by s a)) t u ∙ ap (λ b. b || puts_some (refused_by s a) u) h.put;
          through = through.within a b t u h.through;
        };
      }

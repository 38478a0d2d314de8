-- What follows from an answer of a reader of lines.
use Rattle.iri_text.proofs.Common.{◌≡◌, ℕ, ◌+◌, ◌-◌, ◌≤◌, List, [], ◌∷◌, ◌++◌, length, Option, None, Some, Result, Ok, Err, sym, ◌∙◌, ap}
use Rattle.iri_text.proofs.Common.{arith, append_assoc, length-append, append-nil, Consumes, LineState, Source, LineTooLong, InputTooLong}
use Rattle.std.proofs.Common.{true, false, Bool, ⊎_elim}
use Rattle.iri_text.specs.Lines.{lines}
use Rattle.iri_text.specs.Limits.{limit_fault, limit_told}
use Rattle.iri_text.specs.Reader.{Says, GivesLine, GivesNext}
use Rattle.iri_text.specs.declared.streams.reader.LineFault.{LineFault}
use Rattle.iri_text.proofs.LinesLemmas.{lines-lf, lines-last}
use Rattle.iri_text.proofs.LimitsLemmas.{none-lf, none, long, over}

-- what is still to come, before and after
to_come : (held moved xs ys all : List ℕ) → xs ≡ moved ++ ys → held ++ moved ≡ all → held ++ xs ≡ all ++ ys
to_come held moved xs ys all came is = ap (λ l. held ++ l) came ∙ sym (append_assoc held moved ys) ∙ ap (λ l. l ++ ys) is

line_next : (old new : LineState) (xs ys moved : List ℕ) → xs ≡ moved ++ ys → GivesLine (old.held ++ moved) (Some ys) new
    → lines (old.held ++ xs) ≡ new.line ∷ lines (new.held ++ ys)
line_next old new xs ys moved came g =
    ⊎_elim
    (λ r.
    ap lines (to_come old.held moved xs ys (g.raw ++ 10 ∷ new.held) came r.0 ∙ append_assoc g.raw (10 ∷ new.held) ys)
    ∙ lines-lf g.raw (new.held ++ ys) g.whole
    ∙ ap (λ l. l ∷ lines (new.held ++ ys)) (sym g.line))
    (λ r.
    ap lines (to_come old.held moved xs ys g.raw came r.0 ∙ ap (λ l. g.raw ++ l) r.3 ∙ append-nil g.raw)
    ∙ lines-last g.raw g.whole r.1
    ∙ ap (λ l. l ∷ []) (sym g.line)
    ∙ ap (λ l. new.line ∷ lines l) (sym (ap (λ l. l ++ ys) r.2 ∙ r.3)))
    g.rest

pub next_of : (old new : LineState) (lo ln : Option (List ℕ)) (moved : List ℕ) (r : Result Bool LineFault) → Consumes lo ln moved
    → Says old.ended (old.held ++ moved) ln new r → GivesNext old new lo ln r
next_of old new None ln moved r came says = tt
next_of old new (Some xs) None moved r came says = tt
next_of old new (Some xs) (Some ys) moved (Ok true) came says = line_next old new xs ys moved came says
next_of old new (Some xs) (Some ys) moved (Ok false) came says =
    λ going. ap lines (to_come old.held moved xs ys [] came says.0 ∙ says.2 going)
next_of old new (Some xs) (Some ys) moved (Err fault) came says = tt

module _ (old new : LineState) (moved : List ℕ) (counted : new.taken ≡ old.taken + length moved) (held : length old.held ≤ old.taken) where
  abbrev place : ℕ
  place = old.taken - length old.held

  size : length (old.held ++ moved) ≡ length old.held + length moved
  size = length-append old.held moved

  line_limits : (left : Option (List ℕ)) → GivesLine (old.held ++ moved) left new
      → limit_fault new.line_limit new.input_limit place 0 (old.held ++ moved) ≡ None
  line_limits left g =
      ⊎_elim
      (λ r.
      ap (limit_fault new.line_limit new.input_limit place 0) r.0
      ∙ none-lf new.line_limit new.input_limit place g.raw new.held g.whole g.short
      (omega (arith, g.within, counted, held, size, ap length r.0, length-append g.raw (10 ∷ new.held))))
      (λ r.
      ap (limit_fault new.line_limit new.input_limit place 0) r.0
      ∙ none new.line_limit new.input_limit place g.raw g.whole g.short
      (omega (arith, g.within, counted, held, size, ap length r.0, ap length r.2)))
      g.rest

  pub limits_of : (b : Bool) (left : Option (List ℕ)) (r : Result Bool LineFault) → Says b (old.held ++ moved) left new r
      → limit_fault new.line_limit new.input_limit place 0 (old.held ++ moved) ≡ limit_told r
  limits_of b left (Ok true) says = line_limits left says
  limits_of b left (Ok false) says = ap (limit_fault new.line_limit new.input_limit place 0) says.0
  limits_of b left (Err Source) says = none new.line_limit new.input_limit place (old.held ++ moved) says.1 says.2
      (omega (arith, says.3, counted, held, size))
  limits_of b left (Err LineTooLong) says =
      let t = says.1 in
      ap (limit_fault new.line_limit new.input_limit place 0) (sym t.split)
      ∙ long new.line_limit new.input_limit place 0 t.prefix t.rest t.whole (omega arith) (omega (arith, t.long))
      (omega (arith, t.within, counted, held, size))
  limits_of b left (Err InputTooLong) says =
      let t = says.1 in
      ap (limit_fault new.line_limit new.input_limit place 0) (sym t.split)
      ∙ over new.line_limit new.input_limit place t.last t.prefix [] t.whole t.short
      (omega (arith, t.over, counted, held, size, ap length t.split, length-append t.prefix (t.last ∷ [])))

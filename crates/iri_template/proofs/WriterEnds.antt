-- What a visitor that writes has done of a value, whose type it checks, and how it has ended then.
use Rattle.iri_template.proofs.Common.{◌≡◌, ℕ, Bool, true, false, cond, ◌&&◌, ◌||◌, List, [], ◌∷◌, ◌++◌, map, refl, sym, ◌∙◌, ap, Option}
use Rattle.iri_template.proofs.Common.{None, Some, subst, append-nil, Result, Ok, Err, Tests, texts, ShownValue, undefined, string, list}
use Rattle.iri_template.proofs.Common.{pairs, is_mistyped, WriteState, event_step, event_text, AreSinkLaws, Shows, Stop, row_of, fault}
use Rattle.iri_template.proofs.Common.{led, has_some, Portion, Telling, WhereTold, EndsAs, Error, WriteFailed, UnexpectedValueType, Expand}
use Rattle.iri_text.specs.inside.Through.{after}
use Rattle.iri_template.specs.Events.{Event, Undefined, StringTold, ListBegun, Item, PairsBegun, Entry, Finished, telling, entry_of}
use Rattle.iri_template.specs.inside.Checked.{has_prefix, CheckState, refuses, is_misfit, checked_step, checked_text, is_put, puts_some}
use Rattle.iri_template.specs.inside.Checked.{state_texts, state_portion}
use Rattle.iri_template.specs.inside.Members.{is_member}
use Rattle.iri_template.specs.inside.Written.{write_state}
use Rattle.iri_template.specs.declared.varspec.Modifier.{Modifier}
use Rattle.iri_template.specs.declared.varspec.Modifier.TheVariants.{Whole, Explode, Prefix}
use Rattle.iri_template.specs.inside.WriterHears.{WriterHears, WriterHalts, state_of}
use Rattle.iri_template.specs.declared.value_writer.ExpressionState.{ExpressionState}
use Rattle.iri_template.specs.declared.value_writer.ValueWriter.{ValueWriter}
use Rattle.iri_template.proofs.Telling.{told_text, told_written}

abbrev pub checking : WriteState → Bool → CheckState
checking w b = record { write = w; mistyped = b }

-- ---- where no member is refused
no_misfit : (u : CheckState) (e : Event) → refuses u ≡ false → is_misfit u e ≡ false
no_misfit u e h = elim (is_member e) as (λ b. (b && refuses u) ≡ false) [ true ↦ h | false ↦ refl ]

same_modifier : (w : WriteState) (e : Event) → (event_step w e).modifier ≡ w.modifier
same_modifier w Undefined = refl
same_modifier w (StringTold t) = refl
same_modifier w ListBegun = refl
same_modifier w (Item t) = refl
same_modifier w PairsBegun = refl
same_modifier w (Entry k t) = refl
same_modifier w Finished = refl

still : (w : WriteState) (e : Event) → has_prefix w.modifier ≡ false → has_prefix (event_step w e).modifier ≡ false
still w e h = ap has_prefix (same_modifier w e) ∙ h

plain_texts : (s : Tests) (w : WriteState) (b : Bool) (es : List Event) → has_prefix w.modifier ≡ false
    → texts checked_step (checked_text s) (checking w b) es ≡ texts event_step (event_text s) w es
plain_texts s w b [] h = refl
plain_texts s w b (e ∷ es) h =
    ap (λ x. cond x [] (event_text s w e) ++ texts checked_step (checked_text s) (cond x (checking w true) (checking (event_step w e) b)) es)
    (no_misfit (checking w b) e h)
    ∙ ap (λ l. event_text s w e ++ l) (plain_texts s (event_step w e) b es (still w e h))

plain_after : (s : Tests) (w : WriteState) (b : Bool) (es : List Event) → has_prefix w.modifier ≡ false
    → after checked_step (checked_text s) (checking w b) es ≡ checking (after event_step (event_text s) w es) b
plain_after s w b [] h = refl
plain_after s w b (e ∷ es) h =
    ap (λ x. after checked_step (checked_text s) (cond x (checking w true) (checking (event_step w e) b)) es)
    (no_misfit (checking w b) e h)
    ∙ plain_after s (event_step w e) b es (still w e h)

-- ---- where members are
module _ (s : Tests) (w : WriteState) (h : has_prefix w.modifier ≡ true) where
  misfit : {X : Type 0} (ev : X → Event) → ((x : X) → is_member (ev x) ≡ true) → (b : Bool) (x : X) → is_misfit (checking w b) (ev x) ≡ true
  misfit ev i b x = ap (λ m. m && has_prefix w.modifier) (i x) ∙ h

  misfits_texts : {X : Type 0} (ev : X → Event) → ((x : X) → is_member (ev x) ≡ true) → (b : Bool) (xs : List X)
      → texts checked_step (checked_text s) (checking w b) (map ev xs ++ (Finished ∷ [])) ≡ []
  misfits_texts ev i b [] = refl
  misfits_texts ev i b (x ∷ xs) =
      ap (λ m. cond m [] (event_text s w (ev x)) ++ texts checked_step (checked_text s)
      (cond m (checking w true) (checking (event_step w (ev x)) b)) (map ev xs ++ (Finished ∷ []))) (misfit ev i b x)
      ∙ misfits_texts ev i true xs

  misfits_after : {X : Type 0} (ev : X → Event) → ((x : X) → is_member (ev x) ≡ true) → (xs : List X)
      → after checked_step (checked_text s) (checking w true) (map ev xs ++ (Finished ∷ [])) ≡ checking w true
  misfits_after ev i [] = refl
  misfits_after ev i (x ∷ xs) =
      ap (λ m. after checked_step (checked_text s) (cond m (checking w true) (checking (event_step w (ev x)) true))
      (map ev xs ++ (Finished ∷ []))) (misfit ev i true x)
      ∙ misfits_after ev i xs

  first_misfit : {X : Type 0} (ev : X → Event) → ((x : X) → is_member (ev x) ≡ true) → (x : X) (xs : List X)
      → after checked_step (checked_text s) (checking w false) (map ev (x ∷ xs) ++ (Finished ∷ [])) ≡ checking w true
  first_misfit ev i x xs =
      ap (λ m. after checked_step (checked_text s) (cond m (checking w true) (checking (event_step w (ev x)) false))
      (map ev xs ++ (Finished ∷ []))) (misfit ev i false x)
      ∙ misfits_after ev i xs

none_put : {X : Type 0} (ev : X → Event) → ((x : X) → is_put true (ev x) ≡ false) → (xs : List X) → puts_some true (map ev xs ++ (Finished ∷ [])) ≡ false
none_put ev i [] = refl
none_put ev i (x ∷ xs) = ap (λ b. b || puts_some true (map ev xs ++ (Finished ∷ []))) (i x) ∙ none_put ev i xs

-- ---- a value whose type is checked
-- what was written of it, and whether it is mistyped; where it is, nothing is put
pub record IsChecked (s : Tests) (w : WriteState) (v : ShownValue) : Type 0 where
  pub texts_are : texts checked_step (checked_text s) (checking w false) (telling v)
      ≡ cond (is_mistyped w.modifier v) [] (texts event_step (event_text s) w (telling v))
  pub mistyped_is : (after checked_step (checked_text s) (checking w false) (telling v)).mistyped ≡ is_mistyped w.modifier v
  pub write_is : is_mistyped w.modifier v ≡ false
      → (after checked_step (checked_text s) (checking w false) (telling v)).write ≡ after event_step (event_text s) w (telling v)
  pub silent : is_mistyped w.modifier v ≡ true → puts_some (has_prefix w.modifier) (telling v) ≡ false

without : (s : Tests) (w : WriteState) (v : ShownValue) → has_prefix w.modifier ≡ false → is_mistyped w.modifier v ≡ false → IsChecked s w v
without s w v h k = record {
  texts_are = plain_texts s w false (telling v) h ∙ ap (λ b. cond b [] (texts event_step (event_text s) w (telling v))) (sym k);
  mistyped_is = ap (λ (u : CheckState). u.mistyped) (plain_after s w false (telling v) h) ∙ sym k;
  write_is = λ _. ap (λ (u : CheckState). u.write) (plain_after s w false (telling v) h);
  silent = λ yes. cc;
}

abbrev modified : WriteState → Modifier → WriteState
modified w m = record { operator = w.operator; name = w.name; modifier = m; written = w.written; member = w.member }

with_prefix : (s : Tests) (w : WriteState) (n : ℕ) (v : ShownValue) → IsChecked s (modified w (Prefix n)) v
with_prefix s w n undefined = record { texts_are = refl; mistyped_is = refl; write_is = λ _. refl; silent = λ yes. cc }
with_prefix s w n (string t) = record { texts_are = refl; mistyped_is = refl; write_is = λ _. refl; silent = λ yes. cc }
with_prefix s w n (list []) = record { texts_are = refl; mistyped_is = refl; write_is = λ _. refl; silent = λ yes. cc }
with_prefix s w n (list (x ∷ xs)) = let u = modified w (Prefix n) in record {
  texts_are = misfits_texts s u refl Item (λ y. refl) false (x ∷ xs);
  mistyped_is = ap (λ (k : CheckState). k.mistyped) (first_misfit s u refl Item (λ y. refl) x xs);
  write_is = λ no. cc;
  silent = λ _. none_put Item (λ y. refl) (x ∷ xs);
}
with_prefix s w n (pairs []) = record { texts_are = refl; mistyped_is = refl; write_is = λ _. refl; silent = λ yes. cc }
with_prefix s w n (pairs (p ∷ ps)) = let u = modified w (Prefix n) in record {
  texts_are = misfits_texts s u refl entry_of (λ y. refl) false (p ∷ ps);
  mistyped_is = ap (λ (k : CheckState). k.mistyped) (first_misfit s u refl entry_of (λ y. refl) p ps);
  write_is = λ no. cc;
  silent = λ _. none_put entry_of (λ y. refl) (p ∷ ps);
}

with_modifier : (s : Tests) (w : WriteState) (m : Modifier) (v : ShownValue) → IsChecked s (modified w m) v
with_modifier s w Whole v = without s (modified w Whole) v refl refl
with_modifier s w Explode v = without s (modified w Explode) v refl refl
with_modifier s w (Prefix n) v = with_prefix s w n v

pub is_checked : (s : Tests) (w : WriteState) (v : ShownValue) → IsChecked s w v
is_checked s w v = with_modifier s w w.modifier v

-- ---- one portion
module _ {W : Type 0} (puts halts : W → List ℕ → W → Type 0) (p : Portion) where
  -- its text went in
  pub one_written : (a b : W) (x : Unit {0}) → p.mistyped ≡ false → puts a p.text b → EndsAs puts halts (p ∷ []) a b (Ok x)
  one_written a b x m h = (
    ap (λ k. cond k (fault UnexpectedValueType p.location) None) m,
    subst (λ l. puts a l b) (sym (ap (λ k. cond k [] (p.text ++ [])) m ∙ append-nil p.text)) h,
  )

  -- it is mistyped
  pub one_mistyped : (a b : W) (e : Error) → e ≡ record { kind = UnexpectedValueType; location = p.location } → p.mistyped ≡ true → puts a [] b
      → EndsAs puts halts (p ∷ []) a b (Err e)
  one_mistyped a b e is m h = subst (λ (k : Error). EndsAs puts halts (p ∷ []) a b (Err k)) (sym is) (
    ap (λ k. cond k (fault UnexpectedValueType p.location) None) m,
    subst (λ l. puts a l b) (sym (ap (λ k. cond k [] (p.text ++ [])) m)) h,
  )

  -- the sink stopped within its text
  pub one_stopped : AreSinkLaws puts halts → (a b : W) (e : Error) → e ≡ record { kind = WriteFailed; location = p.location }
      → p.mistyped ≡ false → halts a p.text b → EndsAs puts halts (p ∷ []) a b (Err e)
  one_stopped laws a b e is m h = subst (λ (k : Error). EndsAs puts halts (p ∷ []) a b (Err k)) (sym is) (record {
    reached = record {
      prefix = [];
      here = p;
      rest = [];
      split = refl;
      fine = ap (λ k. cond k (fault UnexpectedValueType p.location) None) m;
      location = refl;
    };
    mid = a;
    put = laws.none a;
    halt = h;
  })

-- ---- the visitor
abbrev begun : ExpressionState → Bool → WriteState
begun p b = record { operator = p.operator; name = p.name.text.now; modifier = p.modifier; written = p.written; member = b }

first_text : (s : Tests) (p : ExpressionState) (v : ShownValue) → p.member ≡ false
    → texts event_step (event_text s) (begun p p.member) (telling v) ≡ led (row_of p.operator) p.written (state_texts s p v)
first_text s p v e = ap (λ b. texts event_step (event_text s) (begun p b) (telling v)) e
    ∙ told_text s p.operator p.name.text.now p.modifier p.written v

first_written : (s : Tests) (p : ExpressionState) (v : ShownValue) → p.member ≡ false
    → (after event_step (event_text s) (begun p p.member) (telling v)).written ≡ (p.written || has_some (state_texts s p v))
first_written s p v e = ap (λ b. (after event_step (event_text s) (begun p b) (telling v)).written) e
    ∙ told_written s p.operator p.name.text.now p.modifier p.written v

module _ {S W : Type 0} (s : Tests) (a : ValueWriter S W) (v : ShownValue) (right : a.mistyped ≡ false)
    (first : a.state.member ≡ false) where
  checked : IsChecked s (write_state a.state) v
  checked = is_checked s (write_state a.state) v

  begins : state_of s a ≡ checking (write_state a.state) false
  begins = ap (checking (write_state a.state)) right

  text_is : texts checked_step (checked_text s) (state_of s a) (telling v)
      ≡ cond (is_mistyped a.state.modifier v) [] (led (row_of a.state.operator) a.state.written (state_texts s a.state v))
  text_is = ap (λ (u : CheckState). texts checked_step (checked_text s) u (telling v)) begins ∙ checked.texts_are
      ∙ ap (λ l. cond (is_mistyped a.state.modifier v) [] l) (first_text s a.state v first)

  abbrev portion_at : ℕ → Portion
  portion_at at = state_portion s at a.state false v

  module _ (puts halts : W → List ℕ → W → Type 0) (stops : W → ℕ) (b : ValueWriter S W) where
    abbrev Heard : Result (Unit {0}) Stop → Type 0
    Heard r = Shows (WriterHears s puts) (WriterHalts s halts) (λ (w : ValueWriter S W). stops w.to.now) a (telling v) b r

    mistyped_is : {x : Unit {0}} → Heard (Ok x) → b.mistyped ≡ is_mistyped a.state.modifier v
    mistyped_is q = ap (λ (u : CheckState). u.mistyped) (q.appends.through.goes_on
        ∙ ap (λ (u : CheckState). after checked_step (checked_text s) u (telling v)) begins) ∙ checked.mistyped_is

    pub ends_mistyped : {x : Unit {0}} (at : ℕ) (e : Error) → e ≡ record { kind = UnexpectedValueType; location = at } → b.mistyped ≡ true
        → Heard (Ok x) → EndsAs puts halts (portion_at at ∷ []) a.to.now b.to.now (Err e)
    ends_mistyped at e is m q =
        let yes : is_mistyped a.state.modifier v ≡ true = sym (mistyped_is q) ∙ m in
        one_mistyped puts halts (portion_at at) a.to.now b.to.now e is yes
        (subst (λ l. puts a.to.now l b.to.now) (text_is
        ∙ ap (λ k. cond k [] (led (row_of a.state.operator) a.state.written (state_texts s a.state v))) yes) q.appends.through.put)

    pub ends_written : {x : Unit {0}} (at : ℕ) (y : Unit {0}) → b.mistyped ≡ false → Heard (Ok x)
        → EndsAs puts halts (portion_at at ∷ []) a.to.now b.to.now (Ok y)
    ends_written at y m q =
        let no : is_mistyped a.state.modifier v ≡ false = sym (mistyped_is q) ∙ m in
        one_written puts halts (portion_at at) a.to.now b.to.now y no
        (subst (λ l. puts a.to.now l b.to.now) (text_is
        ∙ ap (λ k. cond k [] (led (row_of a.state.operator) a.state.written (state_texts s a.state v))) no) q.appends.through.put)

    pub goes_on_written : {x : Unit {0}} → b.mistyped ≡ false → Heard (Ok x)
        → b.state.written ≡ (a.state.written || has_some (state_texts s a.state v))
    goes_on_written m q =
        let no : is_mistyped a.state.modifier v ≡ false = sym (mistyped_is q) ∙ m in
        ap (λ (u : CheckState). u.write.written) (q.appends.through.goes_on
        ∙ ap (λ (u : CheckState). after checked_step (checked_text s) u (telling v)) begins)
        ∙ ap (λ u. u.written) (checked.write_is no) ∙ first_written s a.state v first

    -- it stops at no value that is mistyped
    pub ends_stopped : {d : Stop} → AreSinkLaws puts halts → (at : ℕ) (e : Error) → e ≡ record { kind = WriteFailed; location = at }
        → Heard (Err d) → EndsAs puts halts (portion_at at ∷ []) a.to.now b.to.now (Err e)
    ends_stopped laws at e is q =
        let some : puts_some (has_prefix a.state.modifier) (telling v) ≡ true = q.stops_within.put in
        let no : is_mistyped a.state.modifier v ≡ false =
        elim (is_mistyped a.state.modifier v) as (λ k. is_mistyped a.state.modifier v ≡ k → k ≡ false) [
          | true ↦ λ yes. let none = checked.silent yes in cc
          | false ↦ λ _. refl
        ] refl in
        one_stopped puts halts (portion_at at) laws a.to.now b.to.now e is no
        (subst (λ l. halts a.to.now l b.to.now) (text_is
        ∙ ap (λ k. cond k [] (led (row_of a.state.operator) a.state.written (state_texts s a.state v))) no) q.stops_within.through.halt)

-- what holds of the value that was told holds of the next one, where that is told
pub where_next : (t : Option Telling) (name : List ℕ) (v : ShownValue) (P : ShownValue → Type 0) → WhereTold t (λ f. v ≡ f 0 name Expand) → P v
    → WhereTold t (λ f. P (f 0 name Expand))
where_next None name v P is p = tt
where_next (Some f) name v P is p = subst P is p

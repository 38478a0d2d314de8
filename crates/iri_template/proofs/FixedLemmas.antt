-- What is written where every call tells the same values; and which calls decide what is written.
use Rattle.iri_template.proofs.Common.{encode_utf8, flat_map, Tests, any_char, encoded_char, AreSinkLaws, Shows, Stop, row_of, value_texts}
use Rattle.iri_template.proofs.Common.{fault, first, led, has_some, Portion, outside, varspec_portions, portions_from, portions}
use Rattle.iri_template.proofs.Common.{portions_fault, portions_text, ShownValue, Telling, later, always}
use Rattle.iri_template.proofs.Common.{VarSpec, Piece, literal, triplet, expression, operator_text, varspec_text, piece_text, is_mistyped}
use Rattle.iri_template.proofs.Common.{placed_type_fault, type_fault, StopsAt, IsRefused, EndsAs, by_purpose, untold}
use Rattle.iri_template.proofs.Common.{Error, WriteFailed, ExpressionNotClosed, InvalidCharacter, InvalidExpression, InvalidPercentEncoding}
use Rattle.iri_template.proofs.Common.{InvalidUtf8, UnexpectedValueType, UnsupportedOperator, Memory, Operator, Typecheck, Expand}
use Rattle.std.proofs.Common.{◌≡◌, ◌≤◌, ℕ, ◌+◌, ◌*◌, Bool, true, false, cond, ◌||◌, List, [], ◌∷◌, ◌++◌, None, Some, length, refl, sym, ◌∙◌}
use Rattle.std.proofs.Common.{ap, subst, arith, append_assoc, append-nil, Result, Ok, Err, MatchResult}
use Rattle.std.proofs.Math.Bool.{or_self}
use Rattle.iri_grammar.specs.Characters.{percent_sign}
use Rattle.iri_template.specs.Expansion.{varspec_texts, expansion}
use Rattle.iri_template.specs.VarSpecs.{held, Placed}
use Rattle.iri_template.specs.Places.{placed_varspecs, placed_within, placed_pieces}
use Rattle.iri_template.proofs.PlacedNames.{types_append}
use Rattle.iri_template.specs.declared.varspec.Modifier.{Modifier}
use Rattle.iri_template.specs.declared.varspec.Modifier.TheVariants.{Whole, Explode, Prefix}
use Rattle.iri_template.specs.Portions.{varspec_portion}
use Rattle.iri_template.specs.Writings.{IsCaused, HasCause}
use Rattle.iri_template.specs.declared.error.ErrorKind.{ErrorKind}
use Rattle.iri_template.proofs.FaultLemmas.{neither}
use Rattle.iri_template.proofs.PartWalk.{outside_fault, outside_text}
use Rattle.iri_template.proofs.PortionWalk.{faults_append, fault_after, text_after}
use Rattle.iri_template.proofs.Telling.{led-append}

-- ---- which calls decide
-- the same at the calls for types, which are even, and at those that write, which are odd
record AreSame (f g : Telling) : Type 0 where
  looks : (i : ℕ) (name : List ℕ) → f (2 * i) name Typecheck ≡ g (2 * i) name Typecheck
  writes : (i : ℕ) (name : List ℕ) → f (2 * i + 1) name Expand ≡ g (2 * i + 1) name Expand

same_later : (n : ℕ) (f g : Telling) → AreSame f g → AreSame (later (2 * n) f) (later (2 * n) g)
same_later n f g h = record {
  looks = λ i name. let z : 2 * n + 2 * i ≡ 2 * (n + i) = omega arith in
      ap (λ k. f k name Typecheck) z ∙ h.looks (n + i) name ∙ ap (λ k. g k name Typecheck) (sym z);
  writes = λ i name. let z : 2 * n + (2 * i + 1) ≡ 2 * (n + i) + 1 = omega arith in
      ap (λ k. f k name Expand) z ∙ h.writes (n + i) name ∙ ap (λ k. g k name Expand) (sym z);
}

module _ (s : Tests) where
  same_specs : (operator : Operator) (f g : Telling) (written : Bool) (ps : List Placed) → AreSame f g
      → varspec_portions s operator f written ps ≡ varspec_portions s operator g written ps
  same_specs operator f g written [] h = refl
  same_specs operator f g written (p ∷ ps) h =
      let m = p.modifier in
      ap (λ u. varspec_portion s operator p.location written p.name m (is_mistyped m u) (f 1 p.name Expand)
      ∷ varspec_portions s operator (later 2 f) (written || has_some (value_texts s (row_of operator) p.name m (f 1 p.name Expand))) ps)
      (h.looks 0 p.name)
      ∙ ap (λ u. varspec_portion s operator p.location written p.name m (is_mistyped m (g 0 p.name Typecheck)) u
      ∷ varspec_portions s operator (later 2 f) (written || has_some (value_texts s (row_of operator) p.name m u)) ps)
      (h.writes 0 p.name)
      ∙ ap (λ l. varspec_portion s operator p.location written p.name m (is_mistyped m (g 0 p.name Typecheck)) (g 1 p.name Expand) ∷ l)
      (same_specs operator (later 2 f) (later 2 g) (written || has_some (value_texts s (row_of operator) p.name m (g 1 p.name Expand))) ps
      (same_later 1 f g h))

  same_from : (f g : Telling) (at here : ℕ) (start : List ℕ) (ps : List Piece) → AreSame f g
      → portions_from s f at here start ps ≡ portions_from s g at here start ps
  same_from f g at here start [] h = refl
  same_from f g at here start (literal c ∷ ps) h =
      same_from f g at (here + length (encode_utf8 c)) (start ++ encoded_char (any_char s) c) ps h
  same_from f g at here start (triplet a b ∷ ps) h = same_from f g at (here + 3) (start ++ percent_sign ∷ a ∷ b ∷ []) ps h
  same_from f g at here start (expression operator vs ∷ ps) h =
      let specs = placed_within here (expression operator vs) in
      let there = here + length (piece_text (expression operator vs)) in
      ap (λ l. outside at start ++ (l ++ portions_from s (later (2 * length vs) f) there there [] ps)) (same_specs operator f g false specs h)
      ∙ ap (λ l. outside at start ++ (varspec_portions s operator g false specs ++ l))
      (same_from (later (2 * length vs) f) (later (2 * length vs) g) there there [] ps (same_later (length vs) f g h))

pub same_portions : (s : Tests) (f g : Telling) (ps : List Piece) → ((i : ℕ) (name : List ℕ) → f (2 * i) name Typecheck ≡ g (2 * i) name Typecheck)
    → ((i : ℕ) (name : List ℕ) → f (2 * i + 1) name Expand ≡ g (2 * i + 1) name Expand) → portions s f ps ≡ portions s g ps
same_portions s f g ps looks writes = same_from s f g 0 0 [] ps (record { looks = looks; writes = writes })

-- ---- a stop
-- where none is mistyped, a stop within one of the texts is one within all
here_fine : (here : Portion) (rest : List Portion) → portions_fault (here ∷ rest) ≡ None → portions_text (here ∷ rest) ≡ here.text ++ portions_text rest
here_fine here rest h = elim here.mistyped as (λ b. cond b (fault UnexpectedValueType here.location) (portions_fault rest) ≡ None
    → cond b [] (here.text ++ portions_text rest) ≡ here.text ++ portions_text rest) [ true ↦ λ k. cc | false ↦ λ k. refl ] h

halts_within : {W : Type 0} {puts halts : W → List ℕ → W → Type 0} (laws : AreSinkLaws puts halts) (ps : List Portion) (at : ℕ) (a b : W)
    → portions_fault ps ≡ None → StopsAt puts halts ps at a b → halts a (portions_text ps) b
halts_within {halts = halts} laws ps at a b none q =
    let r = q.reached in
    let both = neither (portions_fault r.prefix) (portions_fault (r.here ∷ r.rest))
    (sym (faults_append r.prefix (r.here ∷ r.rest)) ∙ ap portions_fault (sym r.split) ∙ none) in
    subst (λ l. halts a l b)
    (ap (λ l. portions_text r.prefix ++ l) (sym (here_fine r.here r.rest both.1)) ∙ sym (text_after r.prefix (r.here ∷ r.rest) both.0)
    ∙ ap portions_text (sym r.split))
    (laws.until a q.mid b (portions_text r.prefix) (r.here.text ++ portions_text r.rest) q.put
    (laws.within q.mid b r.here.text (portions_text r.rest) q.halt))

-- ---- where types are looked at in values of their own
-- no type that is looked at is wrong where that of the value that is written is right
abbrev pub AddsNone : (List ℕ → ShownValue) → (List ℕ → ShownValue) → Type 0
AddsNone looked value = (m : Modifier) (name : List ℕ) → (is_mistyped m (looked name) || is_mistyped m (value name)) ≡ is_mistyped m (value name)

pub untold_adds : (value : List ℕ → ShownValue) → AddsNone untold value
untold_adds value Whole name = refl
untold_adds value Explode name = refl
untold_adds value (Prefix n) name = refl

module _ (s : Tests) (looked value : List ℕ → ShownValue) (adds : AddsNone looked value) where
  abbrev telling : Telling
  telling = by_purpose looked value

  specs_fault : (operator : Operator) (written : Bool) (ps : List Placed)
      → portions_fault (varspec_portions s operator telling written ps) ≡ placed_type_fault value ps
  specs_fault operator written [] = refl
  specs_fault operator written (p ∷ ps) =
      let b = is_mistyped p.modifier (value p.name) in
      let now = written || has_some (value_texts s (row_of operator) p.name p.modifier (value p.name)) in
      ap (λ m. cond m (fault UnexpectedValueType p.location) (portions_fault (varspec_portions s operator telling now ps))) (adds p.modifier p.name)
      ∙ ap (λ f. cond b (fault UnexpectedValueType p.location) f) (specs_fault operator now ps)

  fault_from : (at here : ℕ) (start : List ℕ) (ps : List Piece)
      → portions_fault (portions_from s telling at here start ps) ≡ placed_type_fault value (placed_pieces here ps)
  fault_from at here start [] = outside_fault at start
  fault_from at here start (literal c ∷ ps) = fault_from at (here + length (encode_utf8 c)) (start ++ encoded_char (any_char s) c) ps
  fault_from at here start (triplet a b ∷ ps) = fault_from at (here + 3) (start ++ percent_sign ∷ a ∷ b ∷ []) ps
  fault_from at here start (expression operator vs ∷ ps) =
      let specs = placed_within here (expression operator vs) in
      let inner = varspec_portions s operator telling false specs in
      let there = here + length (piece_text (expression operator vs)) in
      let others = portions_from s telling there there [] ps in
      fault_after (outside at start) (inner ++ others) (outside_fault at start) ∙ faults_append inner others
      ∙ ap (λ f. first f (portions_fault others)) (specs_fault operator false specs)
      ∙ ap (first (placed_type_fault value specs)) (fault_from there there [] ps) ∙ sym (types_append value specs (placed_pieces there ps))

  whole_fault : (ps : List Piece) → portions_fault (portions s telling ps) ≡ type_fault value ps
  whole_fault ps = fault_from 0 0 [] ps

  -- ---- texts
  specs_text : (operator : Operator) (at : ℕ) (written : Bool) (vs : List VarSpec) → placed_type_fault value (placed_varspecs at vs) ≡ None
      → portions_text (varspec_portions s operator telling written (placed_varspecs at vs))
      ≡ led (row_of operator) written (flat_map (varspec_texts s operator value) vs)
  specs_text operator at written [] h = refl
  specs_text operator at written (v ∷ vs) h =
      let ts = varspec_texts s operator value v in
      let now = written || has_some ts in
      let there = at + length (varspec_text v) + 1 in
      let rest = portions_text (varspec_portions s operator telling now (placed_varspecs there vs)) in
      ap (λ b. cond b [] (led (row_of operator) written ts ++ rest)) (adds (held v.modifier) v.name)
      ∙ elim (is_mistyped (held v.modifier) (value v.name)) as (λ b.
      cond b (fault UnexpectedValueType at) (placed_type_fault value (placed_varspecs there vs)) ≡ None
      → cond b [] (led (row_of operator) written ts ++ rest)
      ≡ led (row_of operator) written (ts ++ flat_map (varspec_texts s operator value) vs)) [
        | true ↦ λ k. cc
        | false ↦ λ k. ap (λ l. led (row_of operator) written ts ++ l) (specs_text operator there now vs k)
            ∙ sym (led-append (row_of operator) written ts (flat_map (varspec_texts s operator value) vs))
      ] h

  text_from : (at here : ℕ) (start : List ℕ) (ps : List Piece) → placed_type_fault value (placed_pieces here ps) ≡ None
      → portions_text (portions_from s telling at here start ps) ≡ start ++ expansion s value ps
  text_from at here start [] h = outside_text at start ∙ sym (append-nil start)
  text_from at here start (literal c ∷ ps) h =
      text_from at (here + length (encode_utf8 c)) (start ++ encoded_char (any_char s) c) ps h
      ∙ append_assoc start (encoded_char (any_char s) c) (expansion s value ps)
  text_from at here start (triplet a b ∷ ps) h =
      let t : List ℕ = percent_sign ∷ a ∷ b ∷ [] in
      text_from at (here + 3) (start ++ t) ps h ∙ append_assoc start t (expansion s value ps)
  text_from at here start (expression operator vs ∷ ps) h =
      let specs = placed_within here (expression operator vs) in
      let inner = varspec_portions s operator telling false specs in
      let there = here + length (piece_text (expression operator vs)) in
      let others = portions_from s telling there there [] ps in
      let both = neither (placed_type_fault value specs) (placed_type_fault value (placed_pieces there ps))
      (sym (types_append value specs (placed_pieces there ps)) ∙ h) in
      text_after (outside at start) (inner ++ others) (outside_fault at start)
      ∙ ap (λ l. l ++ portions_text (inner ++ others)) (outside_text at start)
      ∙ ap (λ l. start ++ l) (text_after inner others (specs_fault operator false specs ∙ both.0)
      ∙ ap (λ l. l ++ portions_text others) (specs_text operator (here + 1 + length (operator_text operator)) false vs both.0)
      ∙ ap (λ l. led (row_of operator) false (flat_map (varspec_texts s operator value) vs) ++ l) (text_from there there [] ps both.1))

  whole_text : (ps : List Piece) → type_fault value ps ≡ None → portions_text (portions s telling ps) ≡ expansion s value ps
  whole_text ps h = text_from 0 0 [] ps h

  -- ---- where no fault is there, it is written, or the sink stopped within it
  pub shows_all : {W : Type 0} {puts halts : W → List ℕ → W → Type 0} {stops : W → ℕ} {x : Unit {0}} (ps : List Piece) (a b : W)
      → type_fault value ps ≡ None → EndsAs puts halts (portions s telling ps) a b (Ok x) → stops a ≤ stops b
      → Shows puts halts stops a (expansion s value ps) b (Ok tt)
  shows_all {puts = puts} ps a b none q on = record {
    appends = subst (λ l. puts a l b) (whole_text ps none) q.1;
    stops_within = tt;
    rose = tt;
    later = on;
  }

  stopped : {W : Type 0} {puts halts : W → List ℕ → W → Type 0} {stops : W → ℕ} {d : Stop} (laws : AreSinkLaws puts halts) (ps : List Piece)
      (a b : W) (e : Error) (kind : ErrorKind) → type_fault value ps ≡ None → IsRefused puts halts (portions s telling ps) a b e kind
      → IsCaused (stops a) (stops b) kind → stops a ≤ stops b → Shows puts halts stops a (expansion s value ps) b (Err d)
  stopped {halts = halts} laws ps a b e WriteFailed none q rose on = record {
    appends = tt;
    stops_within = subst (λ l. halts a l b) (whole_text ps none) (halts_within laws (portions s telling ps) e.location a b
        (whole_fault ps ∙ none) q);
    rose = rose;
    later = on;
  }
  stopped laws ps a b e UnexpectedValueType none q rose on = let clash = sym (whole_fault ps ∙ none) ∙ q.0 in cc
  stopped laws ps a b e ExpressionNotClosed none q rose on = absurd q
  stopped laws ps a b e InvalidCharacter none q rose on = absurd q
  stopped laws ps a b e InvalidExpression none q rose on = absurd q
  stopped laws ps a b e InvalidPercentEncoding none q rose on = absurd q
  stopped laws ps a b e InvalidUtf8 none q rose on = absurd q
  stopped laws ps a b e UnsupportedOperator none q rose on = absurd q
  stopped laws ps a b e Memory none q rose on = absurd q

  pub shows_stop : {W : Type 0} {puts halts : W → List ℕ → W → Type 0} {stops : W → ℕ} {d : Stop} (laws : AreSinkLaws puts halts) (ps : List Piece)
      (a b : W) (e : Error) → type_fault value ps ≡ None → EndsAs puts halts (portions s telling ps) a b (Err e)
      → HasCause (stops a) (stops b) (Err e) → stops a ≤ stops b → Shows puts halts stops a (expansion s value ps) b (Err d)
  shows_stop {stops = stops} laws ps a b e none q rose on = stopped {stops = stops} laws ps a b e e.kind none q rose on

-- ---- the same values at every call
module _ (s : Tests) (value : List ℕ → ShownValue) where
  none_added : AddsNone value value
  none_added m name = or_self (is_mistyped m (value name))

  by_value : (ps : List Piece) → portions s (always value) ps ≡ portions s (by_purpose value value) ps
  by_value ps = same_portions s (always value) (by_purpose value value) ps (λ i name. refl) (λ i name. refl)

  pub fixed_fault : (ps : List Piece) → portions_fault (portions s (always value) ps) ≡ type_fault value ps
  fixed_fault ps = ap portions_fault (by_value ps) ∙ whole_fault s value value none_added ps

  pub fixed_text : (ps : List Piece) → type_fault value ps ≡ None → portions_text (portions s (always value) ps) ≡ expansion s value ps
  fixed_text ps h = ap portions_text (by_value ps) ∙ whole_text s value value none_added ps h

  -- ---- how such an expansion ends
  pub fixed_ends : {W : Type 0} (puts halts : W → List ℕ → W → Type 0) (ps : List Piece) (a b : W) (r : Result (Unit {0}) Error)
      → EndsAs puts halts (portions s (always value) ps) a b r
      → MatchResult r (λ _. (type_fault value ps ≡ None) × puts a (expansion s value ps) b)
      (λ e. e.kind ≡ UnexpectedValueType → type_fault value ps ≡ Some e)
  fixed_ends puts halts ps a b (Ok x) q =
      let none = sym (fixed_fault ps) ∙ q.0 in
      (none, subst (λ l. puts a l b) (fixed_text ps none) q.1)
  fixed_ends puts halts ps a b (Err e) q = λ kind.
      sym (fixed_fault ps) ∙ (subst (IsRefused puts halts (portions s (always value) ps) a b e) kind q).0

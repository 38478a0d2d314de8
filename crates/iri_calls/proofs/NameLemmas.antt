-- The names of a template stand in their slots.
use Rattle.iri_calls.proofs.Common.{◌≡◌, ◌≤◌, ℕ, zero, suc, ◌+◌, List, [], ◌∷◌, ◌++◌, length, take, drop, set, None, refl, sym, ◌∙◌, ap}
use Rattle.iri_calls.proofs.Common.{arith, append_assoc, length-append, over, bytes_at, over_at, Slot}
use Rattle.std.proofs.Common.{map}
use Rattle.std.proofs.Math.Seq.{drop-append_seam, take-append_seam}
use Rattle.std.proofs.lemmas.List.{map-append, length-map}
use Rattle.iri_grammar.specs.Pieces.{joined}
use Rattle.iri_template.specs.Fault.{template_fault}
use Rattle.iri_template.specs.Places.{placed_varspecs, placed_within, placed_pieces, placed_name, placed_names}
use Rattle.iri_template.specs.Reading.{pieces_of}
use Rattle.iri_template.specs.Template.{VarSpec, Piece, literal, triplet, expression, names_of, piece_names, piece_text, template_text}
use Rattle.iri_template.specs.Template.{modifier_text, varspec_text, operator_text}
use Rattle.iri_template.proofs.Grammar.{no_fault_is_template}
use Rattle.iri_calls.specs.Names.{slot_of, HoldsNames}
use Rattle.iri_calls.specs.inside.PlacedLaws.{over-both}

-- ---- what stands in the slots
stands : (t left x right : List ℕ) → t ≡ left ++ (x ++ right) → bytes_at t (slot_of (length left, x)) ≡ x
stands t left x right e =
    ap (λ l. take (length x) (drop (length left) l)) e
    ∙ (ap (take (length x)) (drop-append_seam left (x ++ right)) ∙ take-append_seam x right)

name_stands : (t left : List ℕ) (at : ℕ) (v : VarSpec) (right : List ℕ) → t ≡ left ++ (varspec_text v ++ right) → at ≡ length left
    → bytes_at t (slot_of (at, v.name)) ≡ v.name
name_stands t left at v right e a =
    let m = modifier_text v.modifier in
    ap (λ n. bytes_at t (slot_of (n, v.name))) a ∙ stands t left v.name (m ++ right) (e ∙ ap (λ l. left ++ l) (append_assoc v.name m right))

varspecs_stand : (t left : List ℕ) (at : ℕ) (vs : List VarSpec) (right : List ℕ)
    → t ≡ left ++ (joined 44 (map varspec_text vs) ++ right) → at ≡ length left
    → map (bytes_at t) (map slot_of (map placed_name (placed_varspecs at vs))) ≡ map (λ v. v.name) vs
varspecs_stand t left at [] right e a = refl
varspecs_stand t left at (v ∷ []) right e a = ap (λ x. x ∷ []) (name_stands t left at v right e a)
varspecs_stand t left at (v ∷ w ∷ vs) right e a =
    let x = varspec_text v in
    let j = joined 44 (map varspec_text (w ∷ vs)) in
    let here : t ≡ left ++ (x ++ (44 ∷ (j ++ right))) = e ∙ ap (λ l. left ++ l) (append_assoc x (44 ∷ j) right) in
    let there : t ≡ (left ++ (x ++ 44 ∷ [])) ++ (j ++ right) =
    here ∙ (ap (λ l. left ++ l) (sym (append_assoc x (44 ∷ []) (j ++ right))) ∙ sym (append_assoc left (x ++ 44 ∷ []) (j ++ right))) in
    let z : at + length x + 1 ≡ length (left ++ (x ++ 44 ∷ [])) =
    omega (arith, a, length-append left (x ++ 44 ∷ []), length-append x (44 ∷ [])) in
    ap (λ n. n ∷ map (bytes_at t) (map slot_of (map placed_name (placed_varspecs (at + length x + 1) (w ∷ vs))))) (name_stands t left at v (44 ∷ (j ++ right)) here a)
    ∙ ap (λ l. v.name ∷ l) (varspecs_stand t (left ++ (x ++ 44 ∷ [])) (at + length x + 1) (w ∷ vs) right there z)

piece_stands : (t left : List ℕ) (at : ℕ) (p : Piece) (right : List ℕ) → t ≡ left ++ (piece_text p ++ right) → at ≡ length left
    → map (bytes_at t) (map slot_of (map placed_name (placed_within at p))) ≡ piece_names p
piece_stands t left at (literal c) right e a = refl
piece_stands t left at (triplet b c) right e a = refl
piece_stands t left at (expression o vs) right e a =
    let x = operator_text o in
    let j = joined 44 (map varspec_text vs) in
    let text : ((x ++ j) ++ 125 ∷ []) ++ right ≡ x ++ (j ++ (125 ∷ right)) =
    append_assoc (x ++ j) (125 ∷ []) right ∙ append_assoc x j (125 ∷ right) in
    let there : t ≡ (left ++ (123 ∷ x)) ++ (j ++ (125 ∷ right)) =
    e ∙ (ap (λ l. left ++ (123 ∷ l)) text ∙ sym (append_assoc left (123 ∷ x) (j ++ (125 ∷ right)))) in
    let z : at + 1 + length x ≡ length (left ++ (123 ∷ x)) = omega (arith, a, length-append left (123 ∷ x)) in
    varspecs_stand t (left ++ (123 ∷ x)) (at + 1 + length x) vs (125 ∷ right) there z

pieces_stand : (t left : List ℕ) (at : ℕ) (ps : List Piece) → t ≡ left ++ template_text ps → at ≡ length left
    → map (bytes_at t) (map slot_of (placed_names at ps)) ≡ names_of ps
pieces_stand t left at [] e a = refl
pieces_stand t left at (p ∷ ps) e a =
    let x = piece_text p in
    let names = map placed_name (placed_within at p) in
    let here = map slot_of names in
    let rest = map slot_of (placed_names (at + length x) ps) in
    let z : at + length x ≡ length (left ++ x) = omega (arith, a, length-append left x) in
    ap (λ l. map (bytes_at t) (map slot_of l)) (map-append placed_name (placed_within at p) (placed_pieces (at + length x) ps))
    ∙ ap (map (bytes_at t)) (map-append slot_of names (placed_names (at + length x) ps))
    ∙ map-append (bytes_at t) here rest
    ∙ ap (λ l. l ++ map (bytes_at t) rest) (piece_stands t left at p (template_text ps) e a)
    ∙ ap (λ l. piece_names p ++ l)
    (pieces_stand t (left ++ x) (at + length x) ps (e ∙ sym (append_assoc left x (template_text ps))) z)

pub names_stand : (t : List ℕ) → template_fault t ≡ None → HoldsNames t
names_stand t h =
    let s = no_fault_is_template t h in pieces_stand t [] 0 (pieces_of t) (sym s.text) refl

-- ---- there are fewer names than bytes
few_varspecs : (at : ℕ) (vs : List VarSpec) → length (placed_varspecs at vs) ≤ length (joined 44 (map varspec_text vs)) + 1
few_varspecs at [] = omega arith
few_varspecs at (v ∷ []) = omega arith
few_varspecs at (v ∷ w ∷ vs) =
    omega (
      arith,
      few_varspecs (at + length (varspec_text v) + 1) (w ∷ vs),
      length-append (varspec_text v) (44 ∷ joined 44 (map varspec_text (w ∷ vs))),
    )

few_within : (at : ℕ) (p : Piece) → length (placed_within at p) ≤ length (piece_text p)
few_within at (literal c) = omega arith
few_within at (triplet a b) = omega arith
few_within at (expression o vs) =
    let x = operator_text o in
    let j = joined 44 (map varspec_text vs) in
    omega (arith, few_varspecs (at + 1 + length x) vs, length-append (x ++ j) (125 ∷ []), length-append x j)

few_placed : (at : ℕ) (ps : List Piece) → length (placed_pieces at ps) ≤ length (template_text ps)
few_placed at [] = omega arith
few_placed at (p ∷ ps) =
    let there = at + length (piece_text p) in
    omega (
      arith,
      few_within at p,
      few_placed there ps,
      length-append (placed_within at p) (placed_pieces there ps),
      length-append (piece_text p) (template_text ps),
    )

pub few_names : (t : List ℕ) → template_fault t ≡ None → length (placed_names 0 (pieces_of t)) ≤ length t
few_names t h = omega (arith, length-map (placed_pieces 0 (pieces_of t)) placed_name, few_placed 0 (pieces_of t), ap length (no_fault_is_template t h).text)

-- ---- the slots that were written
-- those of the names are over the old ones, but for what is left
pub record Walked (all left : List (ℕ × List ℕ)) (count : ℕ) (old now : List Slot) : Type 0 where
  pub done : List Slot
  pub whole : done ++ map slot_of left ≡ map slot_of all
  pub slots : now ≡ over done old
  pub many : count ≡ length done

pub walk_begins : (all : List (ℕ × List ℕ)) (old : List Slot) → Walked all all 0 old old
unfolding over
walk_begins all old = record { done = []; whole = refl; slots = refl; many = refl }

-- one more is put where there is room
put_over : (n : ℕ) (s : Slot) (buf : List Slot) → over_at n (s ∷ []) buf ≡ set buf n s
unfolding over_at over
put_over zero s [] = refl
put_over zero s (x ∷ buf) = refl
put_over (suc n) s [] = refl
put_over (suc n) s (x ∷ buf) = ap (λ l. x ∷ l) (put_over n s buf)

pub walk_goes_on : (all left later : List (ℕ × List ℕ)) (p : ℕ × List ℕ) (count : ℕ) (old now new : List Slot) → left ≡ p ∷ later
    → new ≡ set now count (slot_of p) → Walked all left count old now → Walked all later (count + 1) old new
walk_goes_on all left later p count old now new l n w =
    let s = slot_of p in
    record {
      done = w.done ++ s ∷ [];
      whole = append_assoc w.done (s ∷ []) (map slot_of later) ∙ ap (λ x. w.done ++ map slot_of x) (sym l) ∙ w.whole;
      slots = n ∙ ap (λ b. set b count s) w.slots ∙ ap (λ k. set (over w.done old) k s) w.many
          ∙ sym (put_over (length w.done) s (over w.done old)) ∙ over-both w.done (s ∷ []) old;
      many = omega (arith, w.many, length-append w.done (s ∷ []));
    }

-- The varspecs of a template with their places, in a walk over a template without a fault.
use Rattle.iri_template.proofs.Common.{◌≡◌, ◌≤◌, ℕ, ◌+◌, ◌-◌, List, [], ◌∷◌, ◌++◌, length, map, None, refl, sym, ◌∙◌, ap, arith}
use Rattle.iri_template.proofs.Common.{append_assoc, append-nil, length-append, chars, VarSpec, Piece, literal, triplet, expression}
use Rattle.iri_template.proofs.Common.{piece_text, template_text, varspec_text, names_of, pieces_of, pieces_from, part_pieces}
use Rattle.iri_template.proofs.Common.{nil_from_length, ShownValue, placed_type_fault, first, cond, true, false, fault}
use Rattle.iri_template.proofs.Common.{UnexpectedValueType, is_mistyped}
use Rattle.std.proofs.lemmas.List.{map-append}
use Rattle.iri_template.specs.VarSpecs.{Placed}
use Rattle.iri_template.specs.Places.{placed_varspecs, placed_within, placed_pieces, placed_name, placed_names}
use Rattle.iri_template.specs.Left.{varspecs_of, left_len}
use Rattle.iri_template.specs.Variables.{varspecs_left}
use Rattle.iri_template.specs.inside.Parts.{HasVarSpecs, IsFirst}
use Rattle.iri_template.specs.declared.part.Part.{Part}
use Rattle.iri_template.specs.declared.varspecs.VarSpecs.{VarSpecs}
use Rattle.iri_template.specs.declared.part.Part.TheVariants as part

-- ---- with and without their places
varspecs_named : (at : ℕ) (vs : List VarSpec) → map (λ p. p.1) (map placed_name (placed_varspecs at vs)) ≡ map (λ v. v.name) vs
varspecs_named at [] = refl
varspecs_named at (v ∷ vs) = ap (λ l. v.name ∷ l) (varspecs_named (at + length (varspec_text v) + 1) vs)

pub placed_are_names : (at : ℕ) (ps : List Piece) → map (λ p. p.1) (placed_names at ps) ≡ names_of ps
placed_are_names at [] = refl
placed_are_names at (literal c ∷ ps) = placed_are_names (at + length (piece_text (literal c))) ps
placed_are_names at (triplet a b ∷ ps) = placed_are_names (at + length (piece_text (triplet a b))) ps
placed_are_names at (expression o vs ∷ ps) =
    let here = placed_within at (expression o vs) in
    let rest = placed_pieces (at + length (piece_text (expression o vs))) ps in
    ap (map (λ p. p.1)) (map-append placed_name here rest) ∙ map-append (λ p. p.1) (map placed_name here) (map placed_name rest)
    ∙ ap (λ l. l ++ map (λ p. p.1) (map placed_name rest)) (varspecs_named _ vs)
    ∙ ap (λ l. map (λ v. v.name) vs ++ l) (placed_are_names (at + length (piece_text (expression o vs))) ps)

-- ---- a part at the start
placed-append : (at : ℕ) (ps qs : List Piece)
    → placed_pieces at (ps ++ qs) ≡ placed_pieces at ps ++ placed_pieces (at + length (template_text ps)) qs
placed-append at [] qs = let z : at ≡ at + 0 = omega arith in ap (λ n. placed_pieces n qs) z
placed-append at (p ∷ ps) qs =
    let n = at + length (piece_text p) in
    let z : n + length (template_text ps) ≡ at + length (template_text (p ∷ ps)) =
    omega (arith, length-append (piece_text p) (template_text ps)) in
    ap (λ l. placed_within at p ++ l) (placed-append n ps qs ∙ ap (λ m. placed_pieces n ps ++ placed_pieces m qs) z)
    ∙ sym (append_assoc (placed_within at p) (placed_pieces n ps) (placed_pieces (at + length (template_text (p ∷ ps))) qs))

literals_have_none : (at : ℕ) (cs : List ℕ) → placed_pieces at (map literal cs) ≡ []
literals_have_none at [] = refl
literals_have_none at (c ∷ cs) = literals_have_none (at + length (piece_text (literal c))) cs

pub nothing_left : (v : VarSpecs) → v.text ≡ None → varspecs_left v ≡ []
nothing_left v e = ap (λ o. placed_varspecs (v.end - left_len o) (varspecs_of o)) e

part_placed : (p : Part) (v : VarSpecs) (at : ℕ) (t r : List ℕ) → IsFirst p at t r → HasVarSpecs p v → placed_pieces at (part_pieces p) ≡ varspecs_left v
part_placed (part.Literals l) v at t r k h = literals_have_none at (chars l.now) ∙ sym (nothing_left v h)
part_placed (part.Triplet l) v at t r k h = sym (nothing_left v h)
part_placed (part.Expression o w) v at t r k h =
    append-nil (placed_within at (expression o (varspecs_of w.text)))
    ∙ ap (λ n. placed_varspecs n (varspecs_of w.text)) (sym k.part.placed) ∙ ap varspecs_left (sym h)

-- its varspecs, and those of what follows
pub placed_cut : (p : Part) (v : VarSpecs) (len : ℕ) (t r : List ℕ) → IsFirst p (len - length t) t r → HasVarSpecs p v → length t ≤ len
    → placed_pieces (len - length t) (pieces_of t) ≡ varspecs_left v ++ placed_pieces (len - length r) (pieces_of r)
placed_cut p v len t r k h l =
    let at = len - length t in
    let z : at + length (template_text (part_pieces p)) ≡ len - length r = omega (arith, k.len, l, k.part.past.shorter) in
    ap (placed_pieces at) k.part.pieces ∙ placed-append at (part_pieces p) (pieces_of r)
    ∙ ap (λ n. placed_pieces at (part_pieces p) ++ placed_pieces n (pieces_of r)) z
    ∙ ap (λ l. l ++ placed_pieces (len - length r) (pieces_of r)) (part_placed p v at t r k h)

pub none_placed : (v : VarSpecs) (at : ℕ) (t : List ℕ) → varspecs_left v ≡ [] → length t ≡ 0 → varspecs_left v ++ placed_pieces at (pieces_of t) ≡ []
unfolding pieces_from
none_placed v at t e h = ap (λ l. l ++ placed_pieces at (pieces_of t)) e ∙ ap (λ l. placed_pieces at (pieces_of l)) (nil_from_length t h)

-- ---- the first whose value is mistyped
pub types_append : (value : List ℕ → ShownValue) (ps qs : List Placed)
    → placed_type_fault value (ps ++ qs) ≡ first (placed_type_fault value ps) (placed_type_fault value qs)
types_append value [] qs = refl
types_append value (p ∷ ps) qs =
    elim (is_mistyped p.modifier (value p.name)) as (λ b. cond b (fault UnexpectedValueType p.location) (placed_type_fault value (ps ++ qs))
    ≡ first (cond b (fault UnexpectedValueType p.location) (placed_type_fault value ps)) (placed_type_fault value qs)) [
      | true ↦ refl
      | false ↦ types_append value ps qs
    ]

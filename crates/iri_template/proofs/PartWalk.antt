-- A walk over the parts of a template without a fault: the part at the start, and the portions that are left.
use Rattle.iri_template.proofs.Common.{nil_from_length, ◌≡◌, ℕ, ◌+◌, ◌-◌, cond, List, [], ◌∷◌, ◌++◌, None, length, map, refl, sym, ◌∙◌, ap}
use Rattle.iri_template.proofs.Common.{arith, length-append, ◌<◌, ◌≤◌, ◌*◌, false, Option, Some, subst, append_assoc, append-nil, Ok, Err}
use Rattle.iri_template.proofs.Common.{Bor, IsUtf8, chars, utf8_valid_len, is_utf8-from_IsUtf8, Piece, literal, piece_text, template_text}
use Rattle.iri_template.proofs.Common.{triplet, expression, VarSpec, operator_text, names_of, fault, text_fault}
use Rattle.iri_template.proofs.Common.{part_pieces, pieces_from, pieces_of, InvalidUtf8}
use Rattle.iri_template.proofs.Common.{WriteFailed, UnexpectedValueType, encode_utf8, flat_map, Tests, any_char, encoded, encoded_char}
use Rattle.iri_template.proofs.Common.{AreSinkLaws, Portion, outside, varspec_portions, portions_from, portions, portions_fault}
use Rattle.iri_template.proofs.Common.{portions_text, calls_in, Telling, later, WhereTold, MovesBy, EndsAs, CallsUpTo, Error, Operator}
use Rattle.std.proofs.lemmas.List.{length-map}
use Rattle.std.proofs.lemmas.Grind.{flat_map-append}
use Rattle.iri_template.specs.inside.Parts.{IsPart, IsFirst}
use Rattle.iri_template.specs.Left.{varspecs_of, left_len}
use Rattle.iri_template.specs.Places.{placed_varspecs, placed_within}
use Rattle.iri_template.specs.Variables.{varspecs_left}
use Rattle.iri_template.specs.declared.part.Part.{Part}
use Rattle.iri_template.proofs.Grammar.{no_fault_is_template}
use Rattle.iri_template.proofs.Walks.{fine_there, none_anywhere, names_append, literals_have_none}
use Rattle.iri_grammar.specs.Characters.{percent_sign}
use Rattle.iri_template.specs.inside.PartEnds.{PartEnds, PartCalls, calls_of, begin_after}
use Rattle.iri_template.proofs.PrefixChars.{some_encoded}
use Rattle.iri_template.proofs.PortionWalk.{fault_after, text_after, calls_append, HasEnded, ended_more, ended_exit, ended_calls, ended_end}
use Rattle.iri_template.proofs.PortionWalk.{BothTold, later_none, moved_on, moves_none}
use Rattle.iri_template.proofs.VarSpecPortions.{calls_of_all, as_many}
use Rattle.iri_template.specs.declared.part.Part.TheVariants as part

-- the pieces of a text spell it
spelled : (t : List ℕ) → IsUtf8 t → text_fault t ≡ None → template_text (pieces_of t) ≡ t
spelled t u h = (no_fault_is_template t (ap (λ b. cond b (text_fault t) (fault InvalidUtf8 (utf8_valid_len t)))
    (is_utf8-from_IsUtf8 t u) ∙ h)).text

-- the part at its start, and what follows it
pub first_cut : (p : Part) (at : ℕ) (t r : List ℕ) → IsPart p at t r → IsUtf8 t → IsUtf8 r → text_fault t ≡ None
    → IsFirst p at t r × (text_fault r ≡ None)
first_cut p at t r k u v h =
    let fine = none_anywhere (at + (length t - length r)) r (sym k.past.fault ∙ fine_there at t h) in
    let whole : t ≡ template_text (part_pieces p) ++ r =
    sym (spelled t u h) ∙ ap template_text k.pieces ∙ flat_map-append piece_text (part_pieces p) (pieces_of r)
    ∙ ap (λ l. template_text (part_pieces p) ++ l) (spelled r v fine)
    in
    (record { part = k; len = ap length whole ∙ length-append (template_text (part_pieces p)) r }, fine)

-- ---- literals and triplets
pub outside_fault : (at : ℕ) (t : List ℕ) → portions_fault (outside at t) ≡ None
outside_fault at [] = refl
outside_fault at (x ∷ xs) = refl

pub outside_text : (at : ℕ) (t : List ℕ) → portions_text (outside at t) ≡ t
outside_text at [] = refl
outside_text at (x ∷ xs) = append-nil (x ∷ xs)

outside_calls : (at : ℕ) (t : List ℕ) → calls_in (outside at t) ≡ 0
outside_calls at [] = refl
outside_calls at (x ∷ xs) = refl

-- what literals write
abbrev written : Tests → List ℕ → List ℕ
written s cs = flat_map (encoded_char (any_char s)) cs

literals_in : (s : Tests) (f : Telling) (at here : ℕ) (prefix cs : List ℕ) (ps : List Piece)
    → portions_from s f at here prefix (map literal cs ++ ps)
    ≡ portions_from s f at (here + length (template_text (map literal cs))) (prefix ++ written s cs) ps
literals_in s f at here prefix [] ps =
    let z : here ≡ here + 0 = omega arith in
    ap (λ l. portions_from s f at here l ps) (sym (append-nil prefix)) ∙ ap (λ n. portions_from s f at n (prefix ++ []) ps) z
literals_in s f at here prefix (c ∷ cs) ps =
    let one = encoded_char (any_char s) c in
    let there = here + length (encode_utf8 c) + length (template_text (map literal cs)) in
    let z : there ≡ here + length (template_text (map literal (c ∷ cs))) =
    omega (arith, length-append (encode_utf8 c) (template_text (map literal cs))) in
    literals_in s f at (here + length (encode_utf8 c)) (prefix ++ one) cs ps
    ∙ ap (λ l. portions_from s f at there l ps) (append_assoc prefix one (written s cs))
    ∙ ap (λ n. portions_from s f at n (prefix ++ written s (c ∷ cs)) ps) z

-- literals write at least one byte
literals_written : (s : Tests) (cs : List ℕ) → 0 < length (template_text (map literal cs)) → 0 < length (written s cs)
literals_written s [] h = absurd (omega (arith, h))
literals_written s (c ∷ cs) h =
    omega (arith, length-append (encoded_char (any_char s) c) (written s cs), some_encoded (any_char s) c)

literals_are : (s : Tests) (t : List ℕ) → written s (chars t) ≡ encoded (any_char s) t
unfolding encoded
literals_are s t = refl

-- they are one portion, whatever follows
record Begins (s : Tests) (f : Telling) (at here : ℕ) (prefix : List ℕ) (ps : List Piece) : Type 0 where
  more : List ℕ
  others : List Portion
  split : portions_from s f at here prefix ps ≡ (record { location = at; text = prefix ++ more; mistyped = false; calls = 0 }) ∷ others

begins : (s : Tests) (f : Telling) (at here x : ℕ) (xs : List ℕ) (ps : List Piece) → Begins s f at here (x ∷ xs) ps
begins s f at here x xs [] = record {
  more = [];
  others = [];
  split = ap (λ l. (record { location = at; text = l; mistyped = false; calls = 0 }) ∷ []) (sym (append-nil (x ∷ xs)));
}
begins s f at here x xs (literal c ∷ ps) =
    let one = encoded_char (any_char s) c in
    let b = begins s f at (here + length (encode_utf8 c)) x (xs ++ one) ps in
    record {
      more = one ++ b.more;
      others = b.others;
      split = b.split ∙ ap (λ l. (record { location = at; text = l; mistyped = false; calls = 0 }) ∷ b.others) (append_assoc (x ∷ xs) one b.more);
    }
begins s f at here x xs (triplet a b ∷ ps) =
    let k = begins s f at (here + 3) x (xs ++ percent_sign ∷ a ∷ b ∷ []) ps in
    record {
      more = percent_sign ∷ a ∷ b ∷ k.more;
      others = k.others;
      split = k.split
          ∙ ap (λ l. (record { location = at; text = l; mistyped = false; calls = 0 }) ∷ k.others) (append_assoc (x ∷ xs) (percent_sign ∷ a ∷ b ∷ []) k.more);
    }
begins s f at here x xs (expression operator vs ∷ ps) =
    let there = here + length (piece_text (expression operator vs)) in
    let after = varspec_portions s operator f false (placed_within here (expression operator vs))
    ++ portions_from s (later (2 * length vs) f) there there [] ps in
    record {
      more = [];
      others = after;
      split = ap (λ l. (record { location = at; text = l; mistyped = false; calls = 0 }) ∷ after) (sym (append-nil (x ∷ xs)));
    }

-- a text within the portion after those that are done
record StandsAt (all done : List Portion) (at : ℕ) (t : List ℕ) : Type 0 where
  here : Portion
  rest : List Portion
  more : List ℕ
  split : all ≡ done ++ here ∷ rest
  text : here.text ≡ t ++ more
  right : here.mistyped ≡ false
  location : here.location ≡ at
  none : here.calls ≡ 0

-- ---- what the loop keeps true: the portions before went in, and the literals and triplets `prefix` of the one that is being written
pub record HasReached {W : Type 0} (s : Tests) (puts : W → List ℕ → W → Type 0) (all : List Portion) (old : W) (f h : Telling) (begin here : ℕ)
    (rest : List ℕ) (new : W) : Type 0 where
  pub done : List Portion
  pub prefix : List ℕ
  pub mid : W
  pub split : all ≡ done ++ portions_from s h begin here prefix (pieces_of rest)
  pub fine : portions_fault done ≡ None
  pub put : puts old (portions_text done) mid
  pub into : puts mid prefix new
  pub moved : MovesBy (calls_in done) (Some f) (Some h)

module _ {W : Type 0} (s : Tests) (puts halts : W → List ℕ → W → Type 0) (laws : AreSinkLaws puts halts) (all : List Portion) (a : W) (f : Telling) where
  -- the portion that was being written has ended
  reached_ended : (h : Telling) (begin here : ℕ) (rest : List ℕ) (left : List Portion) (b : W) (p : HasReached s puts all a f h begin here rest b)
      → portions_from s h begin here p.prefix (pieces_of rest) ≡ outside begin p.prefix ++ left → HasEnded puts all a left b f h
  reached_ended h begin here rest left b p e = record {
    done = p.done ++ outside begin p.prefix;
    split = p.split ∙ ap (λ l. p.done ++ l) e ∙ sym (append_assoc p.done (outside begin p.prefix) left);
    fine = fault_after p.done (outside begin p.prefix) p.fine ∙ outside_fault begin p.prefix;
    put = subst (λ l. puts a l b) (sym (text_after p.done (outside begin p.prefix) p.fine
        ∙ ap (λ l. portions_text p.done ++ l) (outside_text begin p.prefix))) (laws.both a p.mid b _ _ p.put p.into);
    moved = let n : calls_in p.done ≡ calls_in (p.done ++ outside begin p.prefix) =
        omega (arith, calls_append p.done (outside begin p.prefix), outside_calls begin p.prefix) in
        subst (λ k. MovesBy k (Some f) (Some h)) n p.moved;
  }

  reached_all : (h : Telling) (begin here : ℕ) (rest : List ℕ) (b : W) (x : Unit {0}) → length rest ≡ 0 → HasReached s puts all a f h begin here rest b
      → EndsAs puts halts all a b (Ok x)
  unfolding pieces_from
  reached_all h begin here [] b x z p = ended_end puts halts laws all a b x f h (reached_ended h begin here [] [] b p (sym (append-nil (outside begin p.prefix))))
  reached_all h begin here (y ∷ ys) b x z p = absurd (omega arith)

  -- ---- literals and triplets
  module _ (h : Telling) (begin here there : ℕ) (t r x : List ℕ) (pieces_are : List Piece) (cut : pieces_of t ≡ pieces_are ++ pieces_of r)
      (stands : (prefix : List ℕ)
      → portions_from s h begin here prefix (pieces_are ++ pieces_of r) ≡ portions_from s h begin there (prefix ++ x) (pieces_of r))
      (b c : W) where
    longer : (p : HasReached s puts all a f h begin here t b) → all ≡ p.done ++ portions_from s h begin there (p.prefix ++ x) (pieces_of r)
    longer p = p.split ∙ ap (λ l. p.done ++ l) (ap (portions_from s h begin here p.prefix) cut ∙ stands p.prefix)

    literals_more : puts b x c → HasReached s puts all a f h begin here t b → HasReached s puts all a f h begin there r c
    literals_more q p = record {
      done = p.done;
      prefix = p.prefix ++ x;
      mid = p.mid;
      split = longer p;
      fine = p.fine;
      put = p.put;
      into = laws.both p.mid b c _ _ p.into q;
      moved = p.moved;
    }

    -- they are among the portion after those that went in
    literals_stand_at : 0 < length x → (p : HasReached s puts all a f h begin here t b) → StandsAt all p.done begin (p.prefix ++ x)
    literals_stand_at some p = found (p.prefix ++ x) refl
      where
        found : (prefix : List ℕ) → prefix ≡ p.prefix ++ x → StandsAt all p.done begin (p.prefix ++ x)
        found [] e = let z = ap length e in absurd (omega (arith, length-append p.prefix x))
        found (z ∷ zs) e =
            let k = begins s h begin there z zs (pieces_of r) in
            record {
              here = record { location = begin; text = (z ∷ zs) ++ k.more; mistyped = false; calls = 0 };
              rest = k.others;
              more = k.more;
              split = longer p ∙ ap (λ l. p.done ++ portions_from s h begin there l (pieces_of r)) (sym e) ∙ ap (λ l. p.done ++ l) k.split;
              text = ap (λ l. l ++ k.more) e;
              right = refl;
              location = refl;
              none = refl;
            }

    literals_refused : 0 < length x → (error : Error) (now : Option Telling) → error ≡ record { kind = WriteFailed; location = begin } → halts b x c
        → error.location ≡ begin → now ≡ Some h → HasReached s puts all a f h begin here t b
        → EndsAs puts halts all a c (Err error) × CallsUpTo all error.location 0 (Some f) now
    literals_refused some error now is q there same p =
        let d = literals_stand_at some p in
        let n : calls_in p.done ≡ calls_in p.done + d.here.calls + 0 = omega (arith, d.none) in (
          subst (λ (e : Error). EndsAs puts halts all a c (Err e)) (sym is) (record {
            reached = record {
              prefix = p.done;
              here = d.here;
              rest = d.rest;
              split = d.split;
              fine = fault_after p.done (d.here ∷ []) p.fine ∙ ap (λ b. cond b (fault UnexpectedValueType d.here.location) None) d.right;
              location = d.location;
            };
            mid = p.mid;
            put = p.put;
            halt = subst (λ l. halts p.mid l c) (sym d.text) (laws.within p.mid c (p.prefix ++ x) d.more (laws.until p.mid b c p.prefix x p.into q));
          }),
          record {
            prefix = p.done;
            here = d.here;
            rest = d.rest;
            split = d.split;
            fine = p.fine;
            location = d.location ∙ sym there;
            moves = subst (λ k. MovesBy k (Some f) now) n (subst (λ u. MovesBy (calls_in p.done) (Some f) u) (sym same) p.moved);
          },
        )

  -- ---- an expression
  module _ (h : Telling) (begin here : ℕ) (t r : List ℕ) (operator : Operator) (vs : List VarSpec)
      (cut : pieces_of t ≡ expression operator vs ∷ pieces_of r) (b c : W) where
    abbrev inner : List Portion
    inner = varspec_portions s operator h false (placed_within here (expression operator vs))

    abbrev after_it : ℕ → List Portion
    after_it there = portions_from s (later (2 * length vs) h) there there [] (pieces_of r)

    opened : (there : ℕ) → there ≡ here + length (piece_text (expression operator vs)) → HasReached s puts all a f h begin here t b
        → HasEnded puts all a (inner ++ after_it there) b f h
    opened there e p =
        reached_ended h begin here t (inner ++ after_it there) b p (ap (portions_from s h begin here p.prefix) cut
        ∙ ap (λ n. outside begin p.prefix ++ (inner ++ after_it n)) (sym e))

    expression_more : (there : ℕ) (x : Unit {0}) → there ≡ here + length (piece_text (expression operator vs)) → EndsAs puts halts inner b c (Ok x)
        → HasReached s puts all a f h begin here t b → HasReached s puts all a f (later (2 * length vs) h) there there r c
    expression_more there x e q p =
        let two : calls_in inner ≡ 2 * length vs = calls_of_all s operator h false (placed_within here (expression operator vs)) q.0
        ∙ ap (λ n. 2 * n) (as_many (here + 1 + length (operator_text operator)) vs) in
        let k = ended_more puts halts laws all inner (after_it there) a b c x f h (later (2 * length vs) h)
        (subst (λ n. MovesBy n (Some h) (Some (later (2 * length vs) h))) (sym two) (λ k name purpose. refl)) (opened there e p) q in
        record {
          done = k.done;
          prefix = [];
          mid = c;
          split = k.split;
          fine = k.fine;
          put = k.put;
          into = laws.none c;
          moved = k.moved;
        }

    expression_refused : (error : Error) (now : Option Telling) → EndsAs puts halts inner b c (Err error)
        → CallsUpTo inner error.location 0 (Some h) now → HasReached s puts all a f h begin here t b
        → EndsAs puts halts all a c (Err error) × CallsUpTo all error.location 0 (Some f) now
    expression_refused error now q r p =
        let there = here + length (piece_text (expression operator vs)) in
        let o = opened there refl p in (
          ended_exit puts halts laws all inner (after_it there) a b c f h error o q,
          ended_calls puts halts laws all inner (after_it there) a b f h error.location now o r,
        )

  -- ---- a part
  moved_none : (h k : Telling) → MovesBy 0 (Some h) (Some k) → h ≡ k
  moved_none h k m = sym (moved_on 0 h k m ∙ later_none h)

  literals_stand : (h : Telling) (begin here there : ℕ) (l r : List ℕ) → there ≡ here + length (template_text (map literal (chars l)))
      → (prefix : List ℕ) → portions_from s h begin here prefix (map literal (chars l) ++ pieces_of r)
      ≡ portions_from s h begin there (prefix ++ encoded (any_char s) l) (pieces_of r)
  literals_stand h begin here there l r e prefix = literals_in s h begin here prefix (chars l) (pieces_of r)
      ∙ ap (λ n. portions_from s h begin n (prefix ++ written s (chars l)) (pieces_of r)) (sym e)
      ∙ ap (λ w. portions_from s h begin there (prefix ++ w) (pieces_of r)) (literals_are s l)

  triplet_stands : (h : Telling) (begin here there : ℕ) (l : Bor (List ℕ)) (prefix r : List ℕ) → there ≡ here + length l.now
      → l.now ≡ template_text (part_pieces (part.Triplet l))
      → portions_from s h begin here prefix (part_pieces (part.Triplet l) ++ pieces_of r)
      ≡ portions_from s h begin there (prefix ++ l.now) (pieces_of r)
  triplet_stands h begin here there l prefix r e text =
      ap (λ n. portions_from s h begin (here + n) (prefix ++ template_text (part_pieces (part.Triplet l))) (pieces_of r)) (sym (ap length text))
      ∙ ap (λ n. portions_from s h begin n (prefix ++ template_text (part_pieces (part.Triplet l))) (pieces_of r)) (sym e)
      ∙ ap (λ u. portions_from s h begin there (prefix ++ u) (pieces_of r)) (sym text)

  part_more : (p : Part) (t r : List ℕ) (begin here there : ℕ) (b c : W) (y : Unit {0}) → IsFirst p here t r
      → there ≡ here + (length t - length r) → (h k : Telling) → MovesBy (calls_of p) (Some h) (Some k)
      → PartEnds s puts halts begin b c (Ok y) p h → HasReached s puts all a f h begin here t b
      → HasReached s puts all a f k (begin_after p begin there) there r c
  part_more (part.Literals l) t r begin here there b c y cut e h k m q p =
      subst (λ (n : Telling). HasReached s puts all a f n begin there r c) (moved_none h k m)
      (literals_more h begin here there t r (encoded (any_char s) l.now) (map literal (chars l.now)) cut.part.pieces
      (literals_stand h begin here there l.now r (omega (arith, cut.len, e))) b c q p)
  part_more (part.Triplet l) t r begin here there b c y cut e h k m q p =
      let z = ap length cut.part.placed in
      subst (λ (n : Telling). HasReached s puts all a f n begin there r c) (moved_none h k m)
      (literals_more h begin here there t r l.now (part_pieces (part.Triplet l)) cut.part.pieces
      (λ prefix. triplet_stands h begin here there l prefix r (omega (arith, z, cut.len, e)) cut.part.placed) b c q p)
  part_more (part.Expression o v) t r begin here there b c y cut e h k m q p =
      let vs = varspecs_of v.text in
      let z : length (template_text (part_pieces (part.Expression o v))) ≡ length (piece_text (expression o vs)) =
      ap length (append-nil (piece_text (expression o vs))) in
      let n : 2 * length (varspecs_left v) ≡ 2 * length vs = ap (λ n. 2 * n) (as_many (v.end - left_len v.text) vs) in
      subst (λ (n : Telling). HasReached s puts all a f n there there r c)
      (sym (moved_on (2 * length vs) h k (subst (λ n. MovesBy n (Some h) (Some k)) n m)))
      (expression_more h begin here t r o vs cut.part.pieces b c there y (omega (arith, z, cut.len, e))
      (subst (λ n. EndsAs puts halts (varspec_portions s o h false (placed_varspecs n vs)) b c (Ok y)) cut.part.placed q) p)

  part_refused : (p : Part) (t r : List ℕ) (begin here : ℕ) (b c : W) (error : Error) (now : Option Telling) → IsFirst p here t r
      → (h : Telling) → PartEnds s puts halts begin b c (Err error) p h
      → PartCalls s error.location begin (Some h) now p h → HasReached s puts all a f h begin here t b
      → EndsAs puts halts all a c (Err error) × CallsUpTo all error.location 0 (Some f) now
  part_refused (part.Literals l) t r begin here b c error now cut h q k p =
      let there = here + length (template_text (map literal (chars l.now))) in
      let some : 0 < length (encoded (any_char s) l.now) = subst (λ w. 0 < length w) (literals_are s l.now)
      (literals_written s (chars l.now) (omega (arith, cut.len, cut.part.past.shorter))) in
      literals_refused h begin here there t r (encoded (any_char s) l.now) (map literal (chars l.now)) cut.part.pieces
      (literals_stand h begin here there l.now r refl) b c some error now q.0 q.1 k.0 k.1 p
  part_refused (part.Triplet l) t r begin here b c error now cut h q k p =
      let z = ap length cut.part.placed in
      literals_refused h begin here (here + length l.now) t r l.now (part_pieces (part.Triplet l)) cut.part.pieces
      (λ prefix. triplet_stands h begin here (here + length l.now) l prefix r refl cut.part.placed) b c
      (omega (arith, z, cut.len, cut.part.past.shorter)) error now q.0 q.1 k.0 k.1 p
  part_refused (part.Expression o v) t r begin here b c error now cut h q k p =
      let vs = varspecs_of v.text in
      expression_refused h begin here t r o vs cut.part.pieces b c error now
      (subst (λ n. EndsAs puts halts (varspec_portions s o h false (placed_varspecs n vs)) b c (Err error)) cut.part.placed q)
      (subst (λ n. CallsUpTo (varspec_portions s o h false (placed_varspecs n vs)) error.location 0 (Some h) now) cut.part.placed k) p

-- ---- the loop, where the context tells
module _ {W : Type 0} (s : Tests) (puts halts : W → List ℕ → W → Type 0) (laws : AreSinkLaws puts halts) (whole : List ℕ) (a : W) where
  abbrev all_of : Telling → List Portion
  all_of f = portions s f (pieces_of whole)

  abbrev pub ReachedUpTo : ℕ → List ℕ → W → Telling → Telling → Type 0
  ReachedUpTo begin rest b f h = HasReached s puts (all_of f) a f h begin (length whole - length rest) rest b

  pub reached_none : (t : Option Telling) → BothTold t t (ReachedUpTo 0 whole a)
  reached_none None = tt
  reached_none (Some f) =
      let z : 0 ≡ length whole - length whole = omega arith in
      record {
        done = [];
        prefix = [];
        mid = a;
        split = ap (λ n. portions_from s f 0 n [] (pieces_of whole)) z;
        fine = refl;
        put = laws.none a;
        into = laws.none a;
        moved = moves_none (Some f);
      }

  pub reached_more : (p : Part) (t r : List ℕ) (begin : ℕ) (b c : W) (y : Unit {0}) → IsFirst p (length whole - length t) t r
      → length t ≤ length whole → (u w z : Option Telling)
      → BothTold u w (ReachedUpTo begin t b) → MovesBy (calls_of p) w z → WhereTold w (PartEnds s puts halts begin b c (Ok y) p)
      → BothTold u z (ReachedUpTo (begin_after p begin (length whole - length r)) r c)
  reached_more p t r begin b c y cut within None w z i m q = tt
  reached_more p t r begin b c y cut within (Some f) None z i m q = absurd i
  reached_more p t r begin b c y cut within (Some f) (Some h) None i m q = absurd m
  reached_more p t r begin b c y cut within (Some f) (Some h) (Some k) i m q =
      part_more s puts halts laws (all_of f) a f p t r begin (length whole - length t) (length whole - length r) b c y cut
      (omega (arith, within, cut.part.past.shorter)) h k m q i

  pub reached_refused : (p : Part) (t r : List ℕ) (begin : ℕ) (b c : W) (error : Error) → IsFirst p (length whole - length t) t r
      → (u w z : Option Telling) → BothTold u w (ReachedUpTo begin t b)
      → WhereTold w (PartEnds s puts halts begin b c (Err error) p) → WhereTold w (PartCalls s error.location begin w z p)
      → WhereTold u (λ f. EndsAs puts halts (all_of f) a c (Err error)) × WhereTold u (λ f. CallsUpTo (all_of f) error.location 0 u z)
  reached_refused p t r begin b c error cut None w z i q k = (tt, tt)
  reached_refused p t r begin b c error cut (Some f) None z i q k = absurd i
  reached_refused p t r begin b c error cut (Some f) (Some h) z i q k =
      part_refused s puts halts laws (all_of f) a f p t r begin (length whole - length t) b c error z cut h q k i

  pub reached_end : (t : List ℕ) (begin : ℕ) (b : W) (y : Unit {0}) → length t ≡ 0 → (u w : Option Telling) → BothTold u w (ReachedUpTo begin t b)
      → WhereTold u (λ f. EndsAs puts halts (all_of f) a b (Ok y))
  reached_end t begin b y z None w i = tt
  reached_end t begin b y z (Some f) None i = absurd i
  reached_end t begin b y z (Some f) (Some h) i = reached_all s puts halts laws (all_of f) a f h begin (length whole - length t) t b y z i

-- ---- how many varspecs there are
abbrev pub names_in : List ℕ → ℕ
names_in t = length (names_of (pieces_of t))

same_length : (vs : List VarSpec) → length (map (λ (v : VarSpec). v.name) vs ++ []) ≡ length vs
same_length vs = ap length (append-nil (map (λ (v : VarSpec). v.name) vs)) ∙ length-map vs (λ (v : VarSpec). v.name)

part_names : (p : Part) → 2 * length (names_of (part_pieces p)) ≡ calls_of p
part_names (part.Literals l) = ap (λ ns. 2 * length ns) (literals_have_none (chars l.now))
part_names (part.Triplet l) = refl
part_names (part.Expression o v) =
    let vs = varspecs_of v.text in
    ap (λ n. 2 * n) (same_length vs ∙ sym (as_many (v.end - left_len v.text) vs))

pub names_left : (p : Part) (at : ℕ) (t r : List ℕ) → IsPart p at t r → calls_of p + 2 * names_in r ≡ 2 * names_in t
names_left p at t r k =
    let e = ap (λ ps. length (names_of ps)) k.pieces ∙ ap length (names_append (part_pieces p) (pieces_of r))
    ∙ length-append (names_of (part_pieces p)) (names_of (pieces_of r)) in
    omega (arith, part_names p, e)

pub none_in : (t : List ℕ) → length t ≡ 0 → names_in t ≡ 0
unfolding pieces_from
none_in t z = ap names_in (nil_from_length t z)

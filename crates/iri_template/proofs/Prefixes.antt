-- A template piece by piece; and what a walk takes at a time is its prefix: literals, what stands between braces, a triplet.
use Rattle.iri_template.proofs.Common.{◌≡◌, ℕ, zero, suc, ◌+◌, ◌-◌, ◌<◌, ◌≤◌, true, false, List, [], ◌∷◌, ◌++◌, length, drop, map, get_or}
use Rattle.iri_template.proofs.Common.{Some, None, refl, sym, ◌∙◌, ap, subst, arith, length-append, append_assoc, cond, Bool, take, not}
use Rattle.iri_template.proofs.Common.{◌&&◌, ◌≢◌, Option, ◌==◌, encode_utf8, len_utf8, list_all, chars, IsUtf8, encode_utf8_all, both}
use Rattle.iri_template.proofs.Common.{append-nil, length-drop, len_utf8_bounds, chars-nil, by_test, joined, any_char, is_ascii_any}
use Rattle.iri_template.proofs.Common.{is_ascii_reg_name, is_ascii_unreserved, is_sub_delim, is_gen_delim, is_ucschar, is_ucschar_plane}
use Rattle.iri_template.proofs.Common.{is_iprivate, Piece, literal, triplet, literal_char, expression, operator_text, first_of, piece_len}
use Rattle.iri_template.proofs.Common.{pieces_from, pieces_of, body_of, expression_of, varspec_of, operator_of, after_operator, fault}
use Rattle.iri_template.proofs.Common.{moved, first, unless, fault_at, piece_fault, fault_from, triplet_fault, operator_fault}
use Rattle.iri_template.proofs.Common.{varspecs_fault, Error, InvalidCharacter, ExpressionNotClosed, InvalidPercentEncoding, run_of, before}
use Rattle.iri_template.proofs.Common.{UnsupportedOperator}
use Rattle.iri_template.proofs.Common.{after, lacks, delimited, Bor, pieces, Operator, Simple, Reserved, Fragment, Label, is_ascii_hexdigit}
use Rattle.iri_template.proofs.Common.{PathSegment, PathParameter, FormQuery, FormContinuation, now_of, template_text, ne_eqb}
use Rattle.std.specs.Prelude.{slice_range}
use Rattle.std.proofs.Common.{inl, inr}
use Rattle.std.proofs.lemmas.Bool.{cases_lt}
use Rattle.std.proofs.lemmas.List.{drop_at, take-append-drop, take_at}
use Rattle.std.proofs.lemmas.Str.{chars_past_char, char_from_byte, length-encode, IsUtf8-past_char, encode_ascii, chars_from_encodes}
use Rattle.iri_grammar.specs.Classes.{iri_tests}
use Rattle.iri_template.specs.Reading.{piece_at, piece_of, len_at, triplet_of}
use Rattle.iri_template.specs.Fault.{literal_fault, expression_fault, body_fault, is_reserved_operator}
use Rattle.iri_template.specs.Left.{varspecs_of, left_len}
use Rattle.iri_template.proofs.FaultLemmas.{moved_moved, varspecs_moved, varspecs_anywhere, neither, unmoved, passed}
use Rattle.iri_grammar.proofs.units.ClassLaws.{class_has_ascii}
use Rattle.iri_grammar.specs.inside.Laws.{iri_is_spec}
use Rattle.iri_grammar.specs.declared.class.Class.TheVariants.{Any}
use Rattle.iri_grammar.proofs.faults.PlainTails.{run-all}
use Rattle.iri_grammar.proofs.units.FirstUnits.{char_shorter}
use Rattle.iri_template.specs.inside.Parts.{IsPastLiterals, IsPast, IsPart, Follows}
use Rattle.iri_grammar.specs.Cut.{tail}
use Rattle.iri_grammar.proofs.Ranges.{range_prefix}
use Rattle.iri_template.specs.declared.part.Part.TheVariants as part
use Rattle.iri_template.specs.declared.varspecs.VarSpecs.{VarSpecs}

-- ---- bytes passed over
pub skip_fault : (n at : ℕ) (t : List ℕ) → fault_from n at t ≡ fault_from 0 (at + n) (drop n t)
unfolding fault_from
skip_fault zero at [] = refl
skip_fault zero at (c ∷ cs) = let z : at ≡ at + 0 = omega arith in ap (λ n. fault_from 0 n (c ∷ cs)) z
skip_fault (suc n) at [] = refl
skip_fault (suc n) at (c ∷ cs) = let z : at + 1 + n ≡ at + suc n = omega arith in
    skip_fault n (at + 1) cs ∙ ap (λ m. fault_from 0 m (drop n cs)) z

pub skip_pieces : (n : ℕ) (t : List ℕ) → pieces_from n t ≡ pieces_of (drop n t)
unfolding pieces_from
skip_pieces zero [] = refl
skip_pieces zero (c ∷ cs) = refl
skip_pieces (suc n) [] = refl
skip_pieces (suc n) (c ∷ cs) = skip_pieces n cs

drop_step : (n : ℕ) (c : ℕ) (cs : List ℕ) → 0 < n → drop (n - 1) cs ≡ drop n (c ∷ cs)
drop_step zero c cs h = absurd (omega arith)
drop_step (suc n) c cs h = let z : suc n - 1 ≡ n = omega arith in ap (λ k. drop k cs) z

-- the first piece, and what follows it
pub fault_step : (at : ℕ) (t : List ℕ) → 0 < length t → 0 < piece_len t
    → fault_from 0 at t ≡ first (moved at (piece_fault t)) (fault_from 0 (at + piece_len t) (drop (piece_len t) t))
unfolding fault_from
fault_step at [] h k = absurd (omega arith)
fault_step at (c ∷ cs) h k =
    let n = piece_len (c ∷ cs) in
    let z : at + 1 + (n - 1) ≡ at + n = omega arith in
    ap (first (moved at (piece_fault (c ∷ cs)))) (skip_fault (n - 1) (at + 1) cs
    ∙ (ap (λ m. fault_from 0 m (drop (n - 1) cs)) z ∙ ap (fault_from 0 (at + n)) (drop_step n c cs k)))

pub pieces_step : (t : List ℕ) → 0 < length t → 0 < piece_len t → pieces_of t ≡ piece_of t ∷ pieces_of (drop (piece_len t) t)
unfolding pieces_from
pieces_step [] h k = absurd (omega arith)
pieces_step (c ∷ cs) h k = ap (λ ps. piece_of (c ∷ cs) ∷ ps)
    (skip_pieces (piece_len (c ∷ cs) - 1) cs ∙ ap pieces_of (drop_step (piece_len (c ∷ cs)) c cs k))

-- ---- one piece at the start: what it is, how long, and what follows
pub record Begins (p : Piece) (t r : List ℕ) : Type 0 where
  pub piece : piece_of t ≡ p
  pub some : 0 < piece_len t
  pub rest : drop (piece_len t) t ≡ r
  pub len : length t ≡ piece_len t + length r

pub begins_fault : (p : Piece) (at : ℕ) (t r : List ℕ) → Begins p t r
    → fault_from 0 at t ≡ first (moved at (piece_fault t)) (fault_from 0 (at + (length t - length r)) r)
begins_fault p at t r b =
    let z : at + piece_len t ≡ at + (length t - length r) = omega (arith, b.len) in
    fault_step at t (omega (arith, b.len, b.some)) b.some
    ∙ ap (first (moved at (piece_fault t))) (ap (λ m. fault_from 0 m (drop (piece_len t) t)) z
    ∙ ap (fault_from 0 (at + (length t - length r))) b.rest)

pub begins_pieces : (p : Piece) (t r : List ℕ) → Begins p t r → pieces_of t ≡ p ∷ pieces_of r
begins_pieces p t r b = pieces_step t (omega (arith, b.len, b.some)) b.some
    ∙ (ap (λ q. q ∷ pieces_of (drop (piece_len t) t)) b.piece ∙ ap (λ u. p ∷ pieces_of u) b.rest)

pub begins_past : (p : Piece) (at : ℕ) (t r : List ℕ) → Begins p t r → piece_fault t ≡ None → IsPast at t r
begins_past p at t r b fine = record {
  fault = begins_fault p at t r b ∙ ap (λ f. first (moved at f) (fault_from 0 (at + (length t - length r)) r)) fine;
  shorter = omega (arith, b.len, b.some);
}

-- ---- a literal
pub first_get : (t : List ℕ) → first_of t ≡ get_or t 0 0
first_get [] = refl
first_get (x ∷ xs) = refl

prefix_apart : (c d : ℕ) (r : List ℕ) → literal_char c ≡ true → literal_char d ≡ false → d < 128
    → (first_of (encode_utf8 c ++ r) == d) ≡ false
prefix_apart c d r h k l =
    by_test (first_of (encode_utf8 c ++ r)) d (λ b. b ≡ false) (λ e.
    let is = first_get (encode_utf8 c ++ r) in
    let some : 0 < length (encode_utf8 c ++ r) = omega (arith, length-append (encode_utf8 c) r, length-encode c, (len_utf8_bounds c).0) in
    let same : c ≡ get_or (encode_utf8 c ++ r) 0 0 = char_from_byte (encode_utf8 c ++ r) r c refl (omega (arith, is, e, l)) some in
    let f : literal_char c ≡ false = ap literal_char (same ∙ (sym is ∙ e)) ∙ k in cc) (λ _. refl)

pub brace_is_none : literal_char 123 ≡ false
unfolding any_char is_ascii_any is_ascii_reg_name is_ascii_unreserved is_sub_delim is_gen_delim is_ucschar is_ucschar_plane is_iprivate
brace_is_none = refl

pub percent_is_none : literal_char 37 ≡ false
unfolding any_char is_ascii_any is_ascii_reg_name is_ascii_unreserved is_sub_delim is_gen_delim is_ucschar is_ucschar_plane is_iprivate
percent_is_none = refl

-- a piece that neither `{` nor `%` begins
pub other_piece : (x : ℕ) (s : List ℕ) → (x == 123) ≡ false → (x == 37) ≡ false
    → (piece_at x s ≡ literal (first_of (chars s))) × (len_at x s ≡ len_utf8 (first_of (chars s))) × (fault_at x s ≡ literal_fault s)
other_piece x s a b = (rw (a, b) refl, rw (a, b) refl, rw (a, b) refl)

pub record Fine (p : Piece) (t r : List ℕ) : Type 0 where
  pub begins : Begins p t r
  pub fault : piece_fault t ≡ None

pub literal_begins : (c : ℕ) (t r : List ℕ) → literal_char c ≡ true → IsUtf8 t → t ≡ encode_utf8 c ++ r → Fine (literal c) t r
literal_begins c t r h u e =
    let brace : (first_of t == 123) ≡ false = ap (λ x. first_of x == 123) e ∙ prefix_apart c 123 r h brace_is_none (omega arith) in
    let percent : (first_of t == 37) ≡ false = ap (λ x. first_of x == 37) e ∙ prefix_apart c 37 r h percent_is_none (omega arith) in
    let char : first_of (chars t) ≡ c = ap first_of (chars_past_char t r c u e) in
    let other = other_piece (first_of t) t brace percent in
    let len : piece_len t ≡ len_utf8 c = other.1 ∙ ap len_utf8 char in
    let past : drop (len_utf8 c) t ≡ r = ap (drop (len_utf8 c)) e
    ∙ drop_at (encode_utf8 c) r (len_utf8 c) (length-encode c) in
    record {
      begins = record {
        piece = other.0 ∙ ap literal char;
        some = omega (arith, len, (len_utf8_bounds c).0);
        rest = ap (λ n. drop n t) len ∙ past;
        len = omega (arith, ap length e, length-append (encode_utf8 c) r, length-encode c, len);
      };
      fault = other.2
          ∙ (ap (λ x. unless (literal_char x) (fault InvalidCharacter 0)) char ∙ ap (λ b. unless b (fault InvalidCharacter 0)) h);
    }

-- ---- the fault of the piece at the start, by its first byte
pub brace_fault : (t : List ℕ) → first_of t ≡ 123 → piece_fault t ≡ expression_fault t
brace_fault t e = ap (λ c. fault_at c t) e

pub percent_fault : (t : List ℕ) → first_of t ≡ 37 → piece_fault t ≡ triplet_fault t
percent_fault t e = ap (λ c. fault_at c t) e

pub other_fault : (t : List ℕ) → first_of t ≢ 123 → first_of t ≢ 37 → piece_fault t ≡ literal_fault t
other_fault t a b = (other_piece (first_of t) t (ne_eqb (first_of t) 123 a) (ne_eqb (first_of t) 37 b)).2

-- ---- a run of literals
pub record Passed (ps : List Piece) (at : ℕ) (t r : List ℕ) : Type 0 where
  pub fault : fault_from 0 at t ≡ fault_from 0 (at + (length t - length r)) r
  pub pieces : pieces_of t ≡ ps ++ pieces_of r
  pub len : length r ≤ length t

pub literals_passed : (cs : List ℕ) (at : ℕ) (t r : List ℕ) → list_all literal_char cs ≡ true → IsUtf8 t → encode_utf8_all cs ++ r ≡ t
    → Passed (map literal cs) at t r
literals_passed [] at t r h u e =
    let z : at ≡ at + (length t - length r) = omega (arith, ap length e) in
    record {
      fault = ap (λ n. fault_from 0 n t) z ∙ ap (fault_from 0 (at + (length t - length r))) (sym e);
      pieces = ap pieces_of (sym e);
      len = omega (arith, ap length e);
    }
literals_passed (c ∷ cs) at t r h u e =
    let k = both (literal_char c) (list_all literal_char cs) h in
    let s = encode_utf8_all cs ++ r in
    let is : t ≡ encode_utf8 c ++ s = sym e ∙ append_assoc (encode_utf8 c) (encode_utf8_all cs) r in
    let one = literal_begins c t s k.0 u is in
    let more = literals_passed cs (at + (length t - length s)) s r k.1 (IsUtf8-past_char t s c u is) refl in
    let z : at + (length t - length s) + (length s - length r) ≡ at + (length t - length r) = omega (arith, one.begins.len, more.len) in
    record {
      fault = begins_fault (literal c) at t s one.begins
          ∙ (ap (λ f. first (moved at f) (fault_from 0 (at + (length t - length s)) s)) one.fault ∙ (more.fault ∙ ap (λ n. fault_from 0 n r) z));
      pieces = begins_pieces (literal c) t s one.begins ∙ ap (λ ps. literal c ∷ ps) more.pieces;
      len = omega (arith, one.begins.len, more.len);
    }

-- ---- a triplet
pub triplet_begins : (t : List ℕ) → first_of t ≡ 37 → triplet_fault t ≡ None → Fine (triplet_of t) t (drop 3 t)
triplet_begins [] e h = cc
triplet_begins (x ∷ []) e h = cc
triplet_begins (x ∷ a ∷ []) e h = cc
triplet_begins (x ∷ a ∷ b ∷ cs) e h = subst (λ n. Fine (triplet a b) (n ∷ a ∷ b ∷ cs) cs) (sym e) (record {
  begins = record { piece = refl; some = omega arith; rest = refl; len = omega arith };
  fault = h;
})

-- ---- an expression
drop_body : (b r : List ℕ) (y : ℕ) → drop (length b + 1) (b ++ y ∷ r) ≡ r
drop_body [] r y = refl
drop_body (x ∷ b) r y = let z : suc (length b) + 1 ≡ suc (length b + 1) = omega arith in
    ap (λ n. drop n (x ∷ (b ++ y ∷ r))) z ∙ drop_body b r y

pub expression_begins : (t r : List ℕ) → 123 ∷ (body_of t ++ 125 ∷ r) ≡ t → Begins (expression_of (body_of t)) t r
expression_begins t r e =
    let brace : first_of t ≡ 123 = ap first_of (sym e) in
    let b = body_of t in
    let len : piece_len t ≡ length b + 2 = ap (λ x. len_at x t) brace in
    let z : length b + 2 ≡ suc (length b + 1) = omega arith in
    record {
      piece = ap (λ x. piece_at x t) brace;
      some = omega (arith, len);
      rest = ap (λ n. drop n t) len ∙ (ap (drop (length b + 2)) (sym e) ∙ (ap (λ n. drop n (123 ∷ (b ++ 125 ∷ r))) z ∙ drop_body b r 125));
      len = omega (arith, ap length (sym e), length-append b (125 ∷ r), len);
    }

-- ---- a fault at the start
pub fault_at_start : (at : ℕ) (t : List ℕ) (e : Error) → 0 < length t → 0 < piece_len t → moved at (piece_fault t) ≡ Some e
    → fault_from 0 at t ≡ Some e
fault_at_start at t e some len h = fault_step at t some len ∙ ap (λ f. first f (fault_from 0 (at + piece_len t) (drop (piece_len t) t))) h

-- ASCII characters of the class are literals, and stand for themselves
literals : (xs : List ℕ) → list_all is_ascii_any xs ≡ true → (list_all literal_char xs ≡ true) × (encode_utf8_all xs ≡ xs)
literals [] h = (refl, refl)
literals (x ∷ xs) h =
    let k = both (is_ascii_any x) (list_all is_ascii_any xs) h in
    let one = class_has_ascii iri_tests iri_is_spec Any x k.0 in
    let more = literals xs k.1 in
    (rw (one.1, more.0) refl, ap (λ l. l ++ encode_utf8_all xs) (encode_ascii x one.0) ∙ ap (λ l. x ∷ l) more.1)

pub run_passed : (t r : List ℕ) → r ≡ drop (run_of is_ascii_any t) t → length r < length t → IsPastLiterals t r
run_passed t r e h =
    let n = run_of is_ascii_any t in
    let k = literals (take n t) (run-all is_ascii_any t) in
    record {
      literals = take n t;
      all = k.0;
      text = ap (λ l. l ++ r) k.1 ∙ (ap (λ l. take n t ++ l) e ∙ take-append-drop n t);
      stops = λ same. absurd (omega arith);
    }

-- a literal at the start is passed
pub passed_some : (t r : List ℕ) → IsPastLiterals t r → literal_char (first_of (chars t)) ≡ true → length r < length t
passed_some t r k h =
    let l : length (encode_utf8_all k.literals) + length r ≡ length t =
    omega (arith, length-append (encode_utf8_all k.literals) r, ap length k.text) in
    elim (cases_lt (length r) (length t)) [
      | inl lt ↦ lt
      | inr ge ↦ let none = k.stops (omega (arith, l)) in cc
    ]

pub one_passed : (c : ℕ) (t r : List ℕ) → literal_char c ≡ true → t ≡ encode_utf8 c ++ r → IsPastLiterals t r
one_passed c t r h e = record {
  literals = c ∷ [];
  all = rw h refl;
  text = ap (λ l. l ++ r) (append-nil (encode_utf8 c)) ∙ sym e;
  stops = λ same. absurd (omega (arith, char_shorter c t r e));
}

zero_is_none : literal_char 0 ≡ false
unfolding any_char is_ascii_any is_ascii_reg_name is_ascii_unreserved is_sub_delim is_gen_delim is_ucschar is_ucschar_plane is_iprivate
zero_is_none = refl

pub none_passed : (t : List ℕ) → literal_char (first_of (chars t)) ≡ false → IsPastLiterals t t
none_passed t h = record { literals = []; all = refl; text = refl; stops = λ _. h }

pub nothing_passed : (t : List ℕ) → length t ≡ 0 → IsPastLiterals t t
nothing_passed [] h = none_passed [] (ap (λ l. literal_char (first_of l)) chars-nil ∙ zero_is_none)
nothing_passed (x ∷ xs) h = absurd (omega arith)

pub has_delimiter : (c : ℕ) (t r : List ℕ) → after c t ≡ Some r → lacks c t ≡ false
has_delimiter c [] r h = cc
has_delimiter c (x ∷ xs) r h = by_test x c (λ b. cond b (Some xs) (after c xs) ≡ Some r → (not b && lacks c xs) ≡ false) (λ _ _. refl)
    (λ _ k. has_delimiter c xs r k) h

pub no_delimiter : (c : ℕ) (t : List ℕ) → after c t ≡ None → lacks c t ≡ true
no_delimiter c [] h = refl
no_delimiter c (x ∷ xs) h = by_test x c (λ b. cond b (Some xs) (after c xs) ≡ None → (not b && lacks c xs) ≡ true) (λ _ k. cc)
    (λ _ k. no_delimiter c xs k) h

pub tail_drop : (t : List ℕ) → tail t ≡ drop 1 t
tail_drop [] = refl
tail_drop (x ∷ xs) = refl

-- ---- literals
pub prefix_range : (t xs ys : List ℕ) (n : ℕ) → xs ++ ys ≡ t → n ≡ length t - length ys → slice_range t 0 n ≡ xs
prefix_range t xs ys n e h =
    let z : length xs ≡ n = omega (arith, ap length e, length-append xs ys) in
    range_prefix t n ∙ (ap (take n) (sym e) ∙ take_at xs ys n z)

pub literals_past : (at : ℕ) (t r : List ℕ) → IsUtf8 t → IsPastLiterals t r → length r < length t → IsPast at t r
literals_past at t r u k h = record { fault = (literals_passed k.literals at t r k.all u k.text).fault; shorter = h }

pub literals_part : (b : Bor (List ℕ)) (at : ℕ) (t r : List ℕ) → IsUtf8 t → IsUtf8 b.now → IsPastLiterals t r → literal_char (first_of (chars t)) ≡ true
    → b.now ≡ slice_range t 0 (length t - length r) → IsPart (part.Literals b) at t r
literals_part b at t r u v k h e =
    let same : encode_utf8_all k.literals ≡ b.now =
    sym (e ∙ prefix_range t (encode_utf8_all k.literals) r (length t - length r) k.text refl) in
    let chars_are : k.literals ≡ chars b.now = chars_from_encodes k.literals b.now v same in
    let p = literals_passed k.literals at t r k.all u k.text in
    record { past = literals_past at t r u k (passed_some t r k h); pieces = p.pieces ∙ ap (λ cs. map literal cs ++ pieces_of r) chars_are; placed = tt }

-- ---- expressions
short : (o : Operator) → length (operator_text o) ≤ 1
short Simple = omega arith
short Reserved = omega arith
short Fragment = omega arith
short Label = omega arith
short PathSegment = omega arith
short PathParameter = omega arith
short FormQuery = omega arith
short FormContinuation = omega arith

pub operator_len : (b : List ℕ) → length (operator_text (operator_of b)) + length (after_operator b) ≡ length b
operator_len [] = refl
operator_len (c ∷ cs) = omega (arith, short (operator_of (c ∷ cs)), length-drop (length (operator_text (operator_of (c ∷ cs)))) (c ∷ cs))

-- what follows the brace that closes it
pub closed_rest : (c : ℕ) (o : Option (Bor (List ℕ))) (t r : List ℕ) → Follows o r → now_of o ≡ after c t → lacks c t ≡ false → after c t ≡ Some r
closed_rest c None t r f e h = let none = no_delimiter c t (sym e) in cc
closed_rest c (Some x) t r f e h = sym e ∙ ap Some (sym f)

-- its text, and its faults
pub body_text : (t r : List ℕ) → first_of t ≡ 123 → after 125 (tail t) ≡ Some r → 123 ∷ (body_of t ++ 125 ∷ r) ≡ t
body_text [] r e h = absurd (omega arith)
body_text (x ∷ xs) r e h =
    ap (λ n. n ∷ (before 125 xs ++ 125 ∷ r)) (sym e) ∙ ap (λ l. x ∷ l) (ap (λ o. before 125 xs ++ delimited 125 o) (sym h) ∙ joined 125 xs)

pub body_len : (t r : List ℕ) → first_of t ≡ 123 → after 125 (tail t) ≡ Some r → length (body_of t) + length r + 2 ≡ length t
body_len t r e h = omega (arith, ap length (body_text t r e h), length-append (body_of t) (125 ∷ r))

pub closed_fault : (at : ℕ) (t r : List ℕ) → after 125 (tail t) ≡ Some r → moved at (expression_fault t) ≡ moved (at + 1) (body_fault (body_of t))
closed_fault at t r h =
    ap (λ l. moved at (cond l (fault ExpressionNotClosed 0) (moved 1 (body_fault (body_of t))))) (has_delimiter 125 (tail t) r h)
    ∙ moved_moved at 1 (body_fault (body_of t))

pub open_fault : (at : ℕ) (t : List ℕ) → after 125 (tail t) ≡ None → moved at (expression_fault t) ≡ fault ExpressionNotClosed at
open_fault at t h =
    let z : at + 0 ≡ at = omega arith in
    ap (λ l. moved at (cond l (fault ExpressionNotClosed 0) (moved 1 (body_fault (body_of t))))) (no_delimiter 125 (tail t) h)
    ∙ ap (fault ExpressionNotClosed) z

-- a body whose first byte isn't reserved
pub free_body : (b : List ℕ) → 0 < length b → is_reserved_operator (get_or b 0 0) ≡ false → operator_fault b ≡ None
free_body [] n h = absurd (omega arith)
free_body (x ∷ xs) n h = ap (λ r. cond r (fault UnsupportedOperator 0) None) h

-- a body without a fault of its own has that of its varspecs
pub rest_fault : (at : ℕ) (b : List ℕ) → operator_fault b ≡ None
    → moved at (body_fault b) ≡ varspecs_fault (at + (length b - length (after_operator b))) (pieces 44 (after_operator b))
rest_fault at b h =
    let n = length (operator_text (operator_of b)) in
    let z : at + n ≡ at + (length b - length (after_operator b)) = omega (arith, operator_len b) in
    ap (λ f. moved at (first f (varspecs_fault n (pieces 44 (after_operator b))))) h ∙ sym (varspecs_moved at n (pieces 44 (after_operator b)))
    ∙ ap (λ m. varspecs_fault m (pieces 44 (after_operator b))) z

-- one that has no fault
pub closed_fine : (t : List ℕ) → expression_fault t ≡ None → (lacks 125 (tail t) ≡ false) × (body_fault (body_of t) ≡ None)
closed_fine t h = closed (lacks 125 (tail t)) _ (body_fault (body_of t)) h
  where
    closed : (l : Bool) (d : Error) (o : Option Error) → cond l (Some d) (moved 1 o) ≡ None → (l ≡ false) × (o ≡ None)
    closed true d o k = cc
    closed false d None k = (refl, refl)
    closed false d (Some f) k = cc

pub fine_varspecs : (b : List ℕ) → body_fault b ≡ None → varspecs_fault 0 (pieces 44 (after_operator b)) ≡ None
fine_varspecs b h =
    let n = length (operator_text (operator_of b)) in
    let vs = pieces 44 (after_operator b) in
    varspecs_anywhere n vs (neither (operator_fault b) (varspecs_fault n vs) h).1

-- an expression whose body is checked
pub expression_past : (at : ℕ) (t b r : List ℕ) → first_of t ≡ 123 → after 125 (tail t) ≡ Some r → b ≡ body_of t → moved (at + 1) (body_fault b) ≡ None
    → IsPast at t r
expression_past at t b r brace rest is fine =
    begins_past (expression_of (body_of t)) at t r (expression_begins t r (body_text t r brace rest))
    (brace_fault t brace ∙ unmoved at (expression_fault t) (closed_fault at t r rest ∙ ap (λ l. moved (at + 1) (body_fault l)) (sym is) ∙ fine))

pub expression_wrong : (at : ℕ) (t b r : List ℕ) (f : Option Error) → first_of t ≡ 123 → after 125 (tail t) ≡ Some r → b ≡ body_of t
    → moved (at + 1) (body_fault b) ≡ f → moved at (piece_fault t) ≡ f
expression_wrong at t b r f brace rest is h =
    ap (moved at) (brace_fault t brace) ∙ closed_fault at t r rest ∙ ap (λ l. moved (at + 1) (body_fault l)) (sym is) ∙ h

pub expression_part : (o : Operator) (v : VarSpecs) (text : Bor (List ℕ)) (at : ℕ) (t r : List ℕ) → first_of t ≡ 123 → piece_fault t ≡ None
    → after 125 (tail t) ≡ Some r → o ≡ operator_of (body_of t) → text.now ≡ after_operator (body_of t) → v.text ≡ Some text
    → v.end ≡ at + 1 + length (body_of t) → IsPart (part.Expression o v) at t r
expression_part o v text at t r brace fine rest operator varspecs is end =
    let b = body_of t in
    let begins = expression_begins t r (body_text t r brace rest) in
    let z : v.end - left_len v.text ≡ at + 1 + length (operator_text o) =
    omega (arith, end, operator_len b, ap length varspecs, ap left_len is, ap (λ p. length (operator_text p)) operator) in
    record {
      past = begins_past (expression_of b) at t r begins fine;
      pieces = begins_pieces (expression_of b) t r begins
          ∙ ap (λ p. expression p (map varspec_of (pieces 44 (after_operator b))) ∷ pieces_of r) (sym operator)
          ∙ ap (λ l. expression o (map varspec_of (pieces 44 l)) ∷ pieces_of r) (sym varspecs)
          ∙ ap (λ x. expression o (varspecs_of x) ∷ pieces_of r) (sym is);
      placed = z;
    }

-- ---- triplets
triplet_taken : (t : List ℕ) → first_of t ≡ 37 → triplet_fault t ≡ None
    → (triplet_of (take 3 t) ≡ triplet_of t) × (take 3 t ≡ template_text (triplet_of t ∷ []))
triplet_taken [] e h = cc
triplet_taken (x ∷ []) e h = cc
triplet_taken (x ∷ a ∷ []) e h = cc
triplet_taken (x ∷ a ∷ b ∷ cs) e h = (refl, ap (λ n. n ∷ a ∷ b ∷ []) e)

pub triplet_hex : (t : List ℕ) → triplet_fault t ≡ None → (3 ≤ length t) × (is_ascii_hexdigit (get_or t 2 0) ≡ true)
triplet_hex [] h = cc
triplet_hex (x ∷ []) h = cc
triplet_hex (x ∷ a ∷ []) h = cc
triplet_hex (x ∷ a ∷ b ∷ cs) h =
    (omega arith, (passed (is_ascii_hexdigit b) None _ (passed (is_ascii_hexdigit a) (unless (is_ascii_hexdigit b) (fault InvalidPercentEncoding 2)) _ h).1).0)

pub triplet_part : (b : Bor (List ℕ)) (at : ℕ) (t r : List ℕ) → first_of t ≡ 37 → triplet_fault t ≡ None → b.now ≡ take 3 t → r ≡ drop 3 t
    → IsPart (part.Triplet b) at t r
triplet_part b at t r e h is rest =
    let fine = triplet_begins t e h in
    let begins : Begins (triplet_of t) t r = subst (λ l. Begins (triplet_of t) t l) (sym rest) fine.begins in
    let taken = triplet_taken t e h in
    let same : triplet_of t ≡ triplet_of b.now = sym taken.0 ∙ ap triplet_of (sym is) in
    record {
      past = begins_past (triplet_of t) at t r begins fine.fault;
      pieces = begins_pieces (triplet_of t) t r begins ∙ ap (λ p. p ∷ pieces_of r) same;
      placed = is ∙ taken.1 ∙ ap (λ p. template_text (p ∷ [])) same;
    }

pub some_piece : (t : List ℕ) → 0 < piece_len t
some_piece t =
    by_test (first_of t) 123 (λ b. 0 < cond b (length (body_of t) + 2) (cond (first_of t == 37) 3 (len_utf8 (first_of (chars t)))))
    (λ _. omega arith)
    (λ _. by_test (first_of t) 37 (λ b. 0 < cond b 3 (len_utf8 (first_of (chars t)))) (λ _. omega arith)
    (λ _. omega (arith, (len_utf8_bounds (first_of (chars t))).0)))

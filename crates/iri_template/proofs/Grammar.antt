-- A text has no fault exactly where pieces spell it, and then they are the pieces that are read.
use Rattle.iri_template.proofs.Common.{◌==◌, encode_utf8, is_ascii_hexdigit, list_all, utf8_valid_len, chars, IsUtf8, is_utf8, both, ne_eqb}
use Rattle.iri_template.proofs.Common.{nat_tests, is_utf8-from_IsUtf8, any_char, is_ascii_any, is_ucschar, is_ucschar_plane, is_iprivate}
use Rattle.iri_template.proofs.Common.{before, after, lacks, delimited, by_test, joined, over, over_from, pieces, text_after, is_name_char}
use Rattle.iri_template.proofs.Common.{is_varname, Piece, literal, triplet, expression, VarSpec, literal_char, is_varspec, operator_text}
use Rattle.iri_template.proofs.Common.{varspec_text, modifier_text, piece_text, template_text, operator_at, operator_of, after_operator}
use Rattle.iri_template.proofs.Common.{varspec_of, expression_of, body_of, first_of, pieces_of, pieces_from, fault, moved, first}
use Rattle.iri_template.proofs.Common.{operator_fault, triplet_fault, piece_fault, unless, fault_at, varspecs_fault, fault_from, text_fault}
use Rattle.iri_template.proofs.Common.{template_fault, Error, ExpressionNotClosed, InvalidPercentEncoding, InvalidUtf8, UnsupportedOperator}
use Rattle.iri_template.proofs.Common.{Operator, Simple, Reserved, Fragment, Label, PathSegment, PathParameter, FormQuery, FormContinuation}
use Rattle.std.proofs.Common.{◌≡◌, ◌≢◌, ◌⊎◌, ℕ, zero, suc, ◌+◌, ◌-◌, ◌<◌, ◌≤◌, inl, inr, true, false, cond, Bool, not, ◌&&◌, ◌||◌, List, []}
use Rattle.std.proofs.Common.{◌∷◌, ◌++◌, length, map, drop, Option, Some, None, refl, sym, ◌∙◌, ap, subst, arith, append_assoc}
use Rattle.std.specs.Char.{IsScalar}
use Rattle.std.proofs.lemmas.Bool.{cases_eq, or_cases, or_left}
use Rattle.std.proofs.lemmas.Str.{IsUtf8-nil, IsUtf8-append, IsUtf8-encode, chars_from_encodes, IsUtf8-from_is_utf8}
use Rattle.std.proofs.lemmas.List.Folds.{list_all-append}
use Rattle.std.proofs.lemmas.Grind.{flat_map-append}
use lib.Utf8.{scalar, scalars, encodes}
use Rattle.iri_grammar.specs.declared.class.Class.TheVariants.{Any}
use Rattle.iri_grammar.proofs.units.ClassLaws.{ascii_test_below}
use Rattle.iri_grammar.proofs.splits.CutLaws.{before-delimited, after-delimited, all-lacks, lacks-append}
use Rattle.iri_grammar.proofs.hosts.Ipv6Laws.{one_piece, joined_pieces, pieces_before}
use Rattle.iri_grammar.proofs.hosts.PiecesLaws.{pieces_cut}
use Rattle.iri_grammar.proofs.authorities.AuthorityTexts.{delimited-utf8}
use Rattle.iri_grammar.proofs.hosts.LiteralChars.{all-join, all-weaken}
use Rattle.iri_grammar.proofs.units.FirstUnits.{text_after_ascii, hex_is_ascii}
use Rattle.iri_template.specs.Template.{has_some, is_piece, body_text, Spells, IsTemplate}
use Rattle.iri_template.specs.Fault.{is_reserved_operator, body_fault, expression_fault}
use Rattle.iri_template.proofs.FaultLemmas.{neither, unmoved, passed, of_text}
use Rattle.iri_template.proofs.VarSpecLemmas.{inner, varspec_bytes, varspecs_fine, varspecs_are}
use Rattle.iri_template.proofs.Prefixes.{Begins, Fine, other_piece, begins_fault, begins_pieces, literal_begins, triplet_begins}
use Rattle.iri_template.proofs.Prefixes.{expression_begins, has_delimiter}
use Rattle.iri_template.proofs.Walks.{nothing_left, fine_there, none_anywhere}
use Rattle.iri_grammar.specs.Pieces as split

-- ---- operators
Good : ℕ → Operator → Type 0
Good c o = (operator_text o ≡ []) ⊎ (operator_text o ≡ c ∷ [])

pick : (c d : ℕ) (o rest : Operator) → operator_text o ≡ d ∷ [] → Good c rest → Good c (cond (c == d) o rest)
unfolding Good
pick c d o rest e g = by_test c d (λ b. Good c (cond b o rest)) (λ s. inr (e ∙ ap (λ n. n ∷ []) (sym s))) (λ _. g)

good : (c : ℕ) → Good c (operator_at c)
unfolding Good
good c =
    pick c 43 Reserved _ refl (pick c 35 Fragment _ refl
    (pick c 46 Label _ refl (pick c 47 PathSegment _ refl
    (pick c 59 PathParameter _ refl (pick c 63 FormQuery _ refl (pick c 38 FormContinuation Simple refl (inl refl)))))))

operator_joined : (t : List ℕ) → operator_text (operator_of t) ++ after_operator t ≡ t
unfolding Good
operator_joined [] = refl
operator_joined (c ∷ cs) = elim (good c) [ inl e ↦ rw e refl | inr e ↦ rw e refl ]

-- the first byte of a name is no operator
pub record IsPlain (c : ℕ) : Type 0 where
  pub operator : operator_at c ≡ Simple
  pub reserved : is_reserved_operator c ≡ false

-- a byte that is no operator
pub no_operator : (c : ℕ) → c ≢ 43 → c ≢ 35 → c ≢ 46 → c ≢ 47 → c ≢ 59 → c ≢ 63 → c ≢ 38 → operator_at c ≡ Simple
no_operator c a b d e f g h =
    rw (ne_eqb c 43 a, ne_eqb c 35 b, ne_eqb c 46 d, ne_eqb c 47 e, ne_eqb c 59 f, ne_eqb c 63 g, ne_eqb c 38 h) refl

name_plain : (c : ℕ) → is_name_char c ≡ true → c ≢ 46 → IsPlain c
unfolding is_name_char is_reserved_operator
name_plain c h n = record {
  operator = no_operator c (grind (arith, nat_tests)) (grind (arith, nat_tests)) n (grind (arith, nat_tests)) (grind (arith, nat_tests))
      (grind (arith, nat_tests)) (grind (arith, nat_tests));
  reserved = grind (arith, nat_tests);
}

percent_plain : IsPlain 37
unfolding is_reserved_operator
percent_plain = record { operator = refl; reserved = refl }

-- ---- pieces between commas
pieces_joined : (c : ℕ) (p : List ℕ) (ps : List (List ℕ)) → list_all (lacks c) (p ∷ ps) ≡ true → pieces c (split.joined c (p ∷ ps)) ≡ p ∷ ps
pieces_joined c p [] h = one_piece c p (both (lacks c p) true h).0
pieces_joined c p (q ∷ ps) h =
    let k = both (lacks c p) (list_all (lacks c) (q ∷ ps)) h in
    pieces_before c p (split.joined c (q ∷ ps)) k.0 ∙ ap (λ rs. p ∷ rs) (pieces_joined c q ps k.1)

wider : (x : List ℕ) → list_all inner x ≡ true → list_all (λ c. inner c || c == 44) x ≡ true
wider x h = all-weaken inner (λ c. inner c || c == 44) (λ c k. or_left (inner c) (c == 44) k) x h

joined_bytes : (ps : List (List ℕ)) → list_all (list_all inner) ps ≡ true
    → (lacks 125 (split.joined 44 ps) ≡ true) × (list_all (λ c. inner c || c == 44) (split.joined 44 ps) ≡ true)
    × (list_all (lacks 44) ps ≡ true)
joined_bytes [] h = (refl, refl, refl)
joined_bytes (p ∷ []) h =
    let k = (both (list_all inner p) true h).0 in
    (all-lacks inner 125 p refl k, wider p k, rw (all-lacks inner 44 p refl k) refl)
joined_bytes (p ∷ q ∷ ps) h =
    let k = both (list_all inner p) (list_all (list_all inner) (q ∷ ps)) h in
    let more = joined_bytes (q ∷ ps) k.1 in (
      lacks-append 125 p (44 ∷ split.joined 44 (q ∷ ps)) (all-lacks inner 125 p refl k.0) more.0,
      all-join (λ c. inner c || c == 44) p (44 ∷ split.joined 44 (q ∷ ps)) (wider p k.0) more.1,
      rw (all-lacks inner 44 p refl k.0) more.2,
    )

texts_bytes : (vs : List VarSpec) → list_all is_varspec vs ≡ true → list_all (list_all inner) (map varspec_text vs) ≡ true
texts_bytes [] h = refl
texts_bytes (v ∷ vs) h = let k = both (is_varspec v) (list_all is_varspec vs) h in rw (varspec_bytes v k.0) (texts_bytes vs k.1)

-- ---- the body of an expression
char_first : (c : ℕ) (cs : List ℕ) → c ≢ 46 → over is_name_char (c ∷ cs) ≡ true → IsPlain c
unfolding over_from
char_first c cs n h =
    by_test c 37 (λ b. cond b (over_from is_name_char 2 cs) (is_name_char c && over_from is_name_char 0 cs) ≡ true → IsPlain c)
    (λ e _. subst IsPlain (sym e) percent_plain)
    (λ _ k. name_plain c (both (is_name_char c) (over_from is_name_char 0 cs) k).0 n) h

-- it begins with a name
name_first : (x m : List ℕ) → is_varname x ≡ true → IsPlain (first_of (x ++ m)) × (0 < length (x ++ m))
unfolding is_varname
name_first [] m h = cc
name_first (c ∷ cs) m h =
    let k = both (not (c == 46)) (over is_name_char (c ∷ cs)) h in
    let dot : c ≢ 46 = λ e. let z : (c == 46) ≡ true = grind (arith, nat_tests) in
    let clash : not true ≡ true = ap not (sym z) ∙ k.0 in cc in
    (char_first c cs dot k.1, omega arith)

pub record IsBodyOf (o : Operator) (vs : List VarSpec) (b : List ℕ) : Type 0 where
  pub operator : operator_of b ≡ o
  pub rest : map varspec_of (pieces 44 (after_operator b)) ≡ vs
  pub fault : body_fault b ≡ None
  pub closed : lacks 125 b ≡ true
  pub ascii : IsUtf8 b

low_scalar : (c : ℕ) → c < 128 → IsScalar c
low_scalar c h = grind (arith, nat_tests)

ascii_text : (x : List ℕ) → list_all (λ c. inner c || c == 44) x ≡ true → IsUtf8 x
ascii_text [] h = IsUtf8-nil
ascii_text (c ∷ cs) h =
    let k = both (inner c || c == 44) (list_all (λ d. inner d || d == 44) cs) h in
    let low : c < 128 = grind (arith, nat_tests) in
    delimited-utf8 c cs low (ascii_text cs k.1)

-- a body whose operator, and what stands after it, are known
body_of_parts : (o : Operator) (vs : List VarSpec) (b j : List ℕ) → operator_of b ≡ o → after_operator b ≡ j → operator_fault b ≡ None
    → map varspec_of (pieces 44 j) ≡ vs → varspecs_fault (length (operator_text o)) (pieces 44 j) ≡ None → lacks 125 b ≡ true → IsUtf8 b → IsBodyOf o vs b
body_of_parts o vs b j e a n m f l u = record {
  operator = e;
  rest = ap (λ k. map varspec_of (pieces 44 k)) a ∙ m;
  fault = ap (λ k. first k (varspecs_fault (length (operator_text (operator_of b))) (pieces 44 (after_operator b)))) n
      ∙ (ap (λ p. varspecs_fault (length (operator_text p)) (pieces 44 (after_operator b))) e
      ∙ (ap (λ k. varspecs_fault (length (operator_text o)) (pieces 44 k)) a ∙ f));
  closed = l;
  ascii = u;
}

-- an operator that is written, and what follows it
written_body : (o : Operator) (c : ℕ) (vs : List VarSpec) (j : List ℕ) → operator_text o ≡ c ∷ [] → operator_at c ≡ o
    → is_reserved_operator c ≡ false → c < 128 → (c == 125) ≡ false → map varspec_of (pieces 44 j) ≡ vs
    → varspecs_fault 1 (pieces 44 j) ≡ None → lacks 125 j ≡ true → IsUtf8 j → IsBodyOf o vs (c ∷ j)
written_body o c vs j e a r low b m f l u =
    body_of_parts o vs (c ∷ j) j a (ap (λ k. drop (length k) (c ∷ j)) (ap operator_text a ∙ e)) (ap (λ q. cond q (fault UnsupportedOperator 0) None) r) m
    (ap (λ k. varspecs_fault (length k) (pieces 44 j)) e ∙ f) (ap (λ q. not q && lacks 125 j) b ∙ l) (delimited-utf8 c j low u)

-- no operator is written
simple_body : (vs : List VarSpec) (j : List ℕ) → IsPlain (first_of j) → 0 < length j → map varspec_of (pieces 44 j) ≡ vs
    → varspecs_fault 0 (pieces 44 j) ≡ None → lacks 125 j ≡ true → IsUtf8 j → IsBodyOf Simple vs j
simple_body vs [] p n m f l u = absurd (omega arith)
simple_body vs (c ∷ cs) p n m f l u = body_of_parts Simple vs (c ∷ cs) (c ∷ cs) p.operator
    (ap (λ k. drop (length k) (c ∷ cs)) (ap operator_text p.operator)) (ap (λ q. cond q (fault UnsupportedOperator 0) None) p.reserved) m f l u

first_joined : (v : VarSpec) (vs : List VarSpec) → is_varspec v ≡ true
    → IsPlain (first_of (split.joined 44 (map varspec_text (v ∷ vs)))) × (0 < length (split.joined 44 (map varspec_text (v ∷ vs))))
first_joined v [] h = name_first v.name _ (both (is_varname v.name) _ h).0
first_joined v (w ∷ vs) h =
    let rest = 44 ∷ split.joined 44 (map varspec_text (w ∷ vs)) in
    let k = name_first v.name (modifier_text v.modifier ++ rest) (both (is_varname v.name) _ h).0 in
    let e : v.name ++ (modifier_text v.modifier ++ rest) ≡ (v.name ++ modifier_text v.modifier) ++ rest =
    sym (append_assoc v.name (modifier_text v.modifier) rest) in
    (subst (λ l. IsPlain (first_of l)) e k.0, subst (λ l. 0 < length l) e k.1)

free : (c : ℕ) → (c == 61 || c == 44 || c == 33 || c == 64 || c == 124) ≡ false → is_reserved_operator c ≡ false
unfolding is_reserved_operator
free c h = h

pub body_fine : (o : Operator) (vs : List VarSpec) → has_some vs ≡ true → list_all is_varspec vs ≡ true → IsBodyOf o vs (body_text o vs)
body_fine o [] h k = cc
body_fine o (v ∷ vs) h k = go o
  where
    j : List ℕ
    j = split.joined 44 (map varspec_text (v ∷ vs))

    bytes : (lacks 125 j ≡ true) × (list_all (λ c. inner c || c == 44) j ≡ true) × (list_all (lacks 44) (map varspec_text (v ∷ vs)) ≡ true)
    bytes = joined_bytes (map varspec_text (v ∷ vs)) (texts_bytes (v ∷ vs) k)

    cut : pieces 44 j ≡ map varspec_text (v ∷ vs)
    cut = pieces_joined 44 (varspec_text v) (map varspec_text vs) bytes.2

    read : map varspec_of (pieces 44 j) ≡ v ∷ vs
    read = ap (map varspec_of) cut ∙ (varspecs_fine 0 (v ∷ vs) k).1

    fine : (at : ℕ) → varspecs_fault at (pieces 44 j) ≡ None
    fine at = ap (varspecs_fault at) cut ∙ (varspecs_fine at (v ∷ vs) k).0

    text : IsUtf8 j
    text = ascii_text j bytes.1

    go : (p : Operator) → IsBodyOf p (v ∷ vs) (body_text p (v ∷ vs))
    go Simple = let f = first_joined v vs (both (is_varspec v) (list_all is_varspec vs) k).0 in
        simple_body (v ∷ vs) j f.0 f.1 read (fine 0) bytes.0 text
    go Reserved = written_body Reserved 43 (v ∷ vs) j refl refl (free 43 refl) (omega arith) refl read (fine 1) bytes.0 text
    go Fragment = written_body Fragment 35 (v ∷ vs) j refl refl (free 35 refl) (omega arith) refl read (fine 1) bytes.0 text
    go Label = written_body Label 46 (v ∷ vs) j refl refl (free 46 refl) (omega arith) refl read (fine 1) bytes.0 text
    go PathSegment = written_body PathSegment 47 (v ∷ vs) j refl refl (free 47 refl) (omega arith) refl read (fine 1) bytes.0 text
    go PathParameter = written_body PathParameter 59 (v ∷ vs) j refl refl (free 59 refl) (omega arith) refl read (fine 1) bytes.0 text
    go FormQuery = written_body FormQuery 63 (v ∷ vs) j refl refl (free 63 refl) (omega arith) refl read (fine 1) bytes.0 text
    go FormContinuation = written_body FormContinuation 38 (v ∷ vs) j refl refl (free 38 refl) (omega arith) refl read (fine 1) bytes.0 text

pub body_is : (b : List ℕ) → body_fault b ≡ None → (is_piece (expression_of b) ≡ true)
    × (piece_text (expression_of b) ≡ 123 ∷ (b ++ 125 ∷ []))
body_is b h =
    let k = neither (operator_fault b) (varspecs_fault (length (operator_text (operator_of b))) (pieces 44 (after_operator b))) h in
    let vs = varspecs_are (length (operator_text (operator_of b))) (pieces 44 (after_operator b)) k.1 in
    let some : has_some (map varspec_of (pieces 44 (after_operator b))) ≡ true =
    ap (λ l. has_some (map varspec_of l)) (pieces_cut 44 (after_operator b)) in (
      rw (some, vs.0) refl,
      ap (λ l. 123 ∷ (l ++ 125 ∷ []))
          (ap (λ l. operator_text (operator_of b) ++ split.joined 44 l) vs.1
          ∙ (ap (λ l. operator_text (operator_of b) ++ l) (joined_pieces 44 (after_operator b)) ∙ operator_joined b)),
    )

-- ---- a template that pieces spell
skip_nothing : pieces_of [] ≡ []
unfolding pieces_from
skip_nothing = refl

scalar_plane : (c : ℕ) → is_ucschar_plane c ≡ true → IsScalar c
unfolding is_ucschar_plane
scalar_plane c h = grind (arith, nat_tests)

scalar_ucschar : (c : ℕ) → is_ucschar c ≡ true → IsScalar c
unfolding is_ucschar
scalar_ucschar c h = grind (arith, nat_tests, scalar_plane)

scalar_iprivate : (c : ℕ) → is_iprivate c ≡ true → IsScalar c
unfolding is_iprivate
scalar_iprivate c h = grind (arith, nat_tests)

pub record IsRead (ps : List Piece) (t : List ℕ) : Type 0 where
  pub text : IsUtf8 t
  pub fault : text_fault t ≡ None
  pub pieces : pieces_of t ≡ ps

literal_scalar : (c : ℕ) → literal_char c ≡ true → IsScalar c
unfolding any_char
literal_scalar c h = elim (or_cases (is_ascii_any c || is_ucschar c) (is_iprivate c) h) [
  | inl k ↦ elim (or_cases (is_ascii_any c) (is_ucschar c) k) [
    | inl a ↦ low_scalar c (ascii_test_below Any c a)
    | inr u ↦ scalar_ucschar c u
  ]
  | inr p ↦ scalar_iprivate c p
]

one_more : (p : Piece) (ps : List Piece) (t r : List ℕ) → IsUtf8 t → Fine p t r → IsRead ps r → IsRead (p ∷ ps) t
one_more p ps t r u f k = record {
  text = u;
  fault = begins_fault p 0 t r f.begins ∙ (ap (λ e. first (moved 0 e) (fault_from 0 (0 + (length t - length r)) r)) f.fault
      ∙ fine_there (0 + (length t - length r)) r k.fault);
  pieces = begins_pieces p t r f.begins ∙ ap (λ qs. p ∷ qs) k.pieces;
}

-- an expression whose body is this
body_begins : (o : Operator) (vs : List VarSpec) (b r : List ℕ) → IsBodyOf o vs b → Fine (expression o vs) (123 ∷ (b ++ 125 ∷ r)) r
body_begins o vs b r k =
    let t = 123 ∷ (b ++ 125 ∷ r) in
    let body : body_of t ≡ b = before-delimited 125 b (Some r) k.closed in
    let there : after 125 (b ++ 125 ∷ r) ≡ Some r = after-delimited 125 b (Some r) k.closed in
    let begins = expression_begins t r (ap (λ l. 123 ∷ (l ++ 125 ∷ r)) body) in
    let same : expression_of (body_of t) ≡ expression o vs =
    ap expression_of body ∙ (ap (λ q. expression q (map varspec_of (pieces 44 (after_operator b)))) k.operator
    ∙ ap (expression o) k.rest) in
    record {
      begins = subst (λ p. Begins p t r) same begins;
      fault = ap (λ l. cond l (fault ExpressionNotClosed 0) (moved 1 (body_fault (body_of t)))) (has_delimiter 125 (b ++ 125 ∷ r) r there)
          ∙ (ap (λ l. moved 1 (body_fault l)) body ∙ ap (moved 1) k.fault);
    }

pub spelled_is_read : (ps : List Piece) → list_all is_piece ps ≡ true → IsRead ps (template_text ps)
spelled_is_read [] h = record { text = IsUtf8-nil; fault = nothing_left 0 [] refl; pieces = skip_nothing }
spelled_is_read (literal c ∷ ps) h =
    let k = both (literal_char c) (list_all is_piece ps) h in
    let more = spelled_is_read ps k.1 in
    let r = template_text ps in
    let u = IsUtf8-append (encode_utf8 c) r (IsUtf8-encode c (literal_scalar c k.0)) more.text in
    one_more (literal c) ps (encode_utf8 c ++ r) r u (literal_begins c (encode_utf8 c ++ r) r k.0 u refl) more
spelled_is_read (triplet a b ∷ ps) h =
    let k = both (is_ascii_hexdigit a && is_ascii_hexdigit b) (list_all is_piece ps) h in
    let hex = both (is_ascii_hexdigit a) (is_ascii_hexdigit b) k.0 in
    let more = spelled_is_read ps k.1 in
    let r = template_text ps in
    let u = delimited-utf8 37 (a ∷ b ∷ r) (omega arith) (delimited-utf8 a (b ∷ r) (hex_is_ascii a hex.0) (delimited-utf8 b r (hex_is_ascii b hex.1) more.text)) in
    one_more (triplet a b) ps (37 ∷ a ∷ b ∷ r) r u (triplet_begins (37 ∷ a ∷ b ∷ r) refl (rw (hex.0, hex.1) refl)) more
spelled_is_read (expression o vs ∷ ps) h =
    let k = both (has_some vs && list_all is_varspec vs) (list_all is_piece ps) h in
    let specs = both (has_some vs) (list_all is_varspec vs) k.0 in
    let more = spelled_is_read ps k.1 in
    let r = template_text ps in
    let b = body_text o vs in
    let body = body_fine o vs specs.0 specs.1 in
    let same : 123 ∷ (b ++ 125 ∷ r) ≡ (123 ∷ (b ++ 125 ∷ [])) ++ r = ap (λ l. 123 ∷ l) (sym (append_assoc b (125 ∷ []) r)) in
    let u = delimited-utf8 123 (b ++ 125 ∷ r) (omega arith) (IsUtf8-append b (125 ∷ r) body.ascii (delimited-utf8 125 r (omega arith) more.text)) in
    subst (λ t. IsRead (expression o vs ∷ ps) t) same
    (one_more (expression o vs) ps (123 ∷ (b ++ 125 ∷ r)) r u (body_begins o vs b r body) more)

-- ---- a template without a fault
-- the piece at its start
pub record Splits (t : List ℕ) : Type 0 where
  pub piece : Piece
  pub rest : List ℕ
  pub fine : is_piece piece ≡ true
  pub begins : Begins piece t rest
  pub joined : piece_text piece ++ rest ≡ t
  pub text : IsUtf8 rest

literal_splits : (t : List ℕ) → IsUtf8 t → 0 < length t → literal_char (first_of (chars t)) ≡ true → Splits t
literal_splits t ([], (ok, e)) n h = absurd (omega (arith, ap length e))
literal_splits t (c ∷ cs, (ok, e)) n h =
    let u : IsUtf8 t = (c ∷ cs, (ok, e)) in
    let is : chars t ≡ c ∷ cs = sym (chars_from_encodes (c ∷ cs) t u e) in
    let fine : literal_char c ≡ true = ap (λ l. literal_char (first_of l)) (sym is) ∙ h in
    record {
      piece = literal c;
      rest = encodes cs;
      fine = fine;
      begins = (literal_begins c t (encodes cs) fine u (sym e)).begins;
      joined = e;
      text = (cs, ((both (scalar c) (scalars cs) ok).1, refl));
    }

triplet_splits : (t : List ℕ) → IsUtf8 t → first_of t ≡ 37 → triplet_fault t ≡ None → Splits t
triplet_splits [] u e h = cc
triplet_splits (x ∷ []) u e h = cc
triplet_splits (x ∷ a ∷ []) u e h = cc
triplet_splits (x ∷ a ∷ b ∷ cs) u e h =
    let k = passed (is_ascii_hexdigit a) (unless (is_ascii_hexdigit b) (fault InvalidPercentEncoding 2)) _ h in
    let hex : (is_ascii_hexdigit a ≡ true) × (is_ascii_hexdigit b ≡ true) = (k.0, (passed (is_ascii_hexdigit b) None _ k.1).0) in
    record {
      piece = triplet a b;
      rest = cs;
      fine = rw (hex.0, hex.1) refl;
      begins = (triplet_begins (x ∷ a ∷ b ∷ cs) e h).begins;
      joined = ap (λ n. n ∷ a ∷ b ∷ cs) (sym e);
      text = text_after_ascii b cs (text_after_ascii a (b ∷ cs) (text_after_ascii x (a ∷ b ∷ cs) u (omega (arith, e))) (hex_is_ascii a hex.0))
          (hex_is_ascii b hex.1);
    }

pub delimiter_there : (c : ℕ) (t : List ℕ) → lacks c t ≡ false → (r : List ℕ) × (after c t ≡ Some r)
delimiter_there c [] h = cc
delimiter_there c (x ∷ xs) h =
    by_test x c (λ b. (not b && lacks c xs) ≡ false → (r : List ℕ) × (cond b (Some xs) (after c xs) ≡ Some r)) (λ _ _. (xs, refl))
    (λ _ k. delimiter_there c xs k) h

expression_splits : (t : List ℕ) → IsUtf8 t → first_of t ≡ 123 → expression_fault t ≡ None → Splits t
expression_splits [] u e h = absurd (omega (arith, e))
expression_splits (x ∷ xs) u e h =
    let k = closed (lacks 125 xs) _ (moved 1 (body_fault (before 125 xs))) h in
    let at = delimiter_there 125 xs k.0 in
    let is = body_is (before 125 xs) (unmoved 1 (body_fault (before 125 xs)) k.1) in
    let whole : before 125 xs ++ 125 ∷ at.0 ≡ xs = ap (λ o. before 125 xs ++ delimited 125 o) (sym at.1) ∙ joined 125 xs in
    let text : 123 ∷ (before 125 xs ++ 125 ∷ at.0) ≡ x ∷ xs = ap (λ n. n ∷ (before 125 xs ++ 125 ∷ at.0)) (sym e) ∙ ap (λ l. x ∷ l) whole in
    record {
      piece = expression_of (before 125 xs);
      rest = at.0;
      fine = is.0;
      begins = expression_begins (x ∷ xs) at.0 text;
      joined = ap (λ l. l ++ at.0) is.1 ∙ (ap (λ l. 123 ∷ l) (append_assoc (before 125 xs) (125 ∷ []) at.0) ∙ text);
      text = text_after 125 xs at.0 (omega arith) (text_after_ascii x xs u (omega (arith, e))) at.1;
    }
  where
    closed : (l : Bool) (d : Error) (o : Option Error) → cond l (Some d) o ≡ None → (l ≡ false) × (o ≡ None)
    closed true d o j = cc
    closed false d o j = (refl, j)

piece_splits : (t : List ℕ) → IsUtf8 t → 0 < length t → piece_fault t ≡ None → Splits t
piece_splits t u n h =
    elim (cases_eq (first_of t) 123) [
      | inl brace ↦ expression_splits t u brace (sym (ap (λ c. fault_at c t) brace) ∙ h)
      | inr other ↦ elim (cases_eq (first_of t) 37) [
        | inl percent ↦ triplet_splits t u percent (sym (ap (λ c. fault_at c t) percent) ∙ h)
        | inr neither_one ↦
            let a : (first_of t == 123) ≡ false = grind (arith, nat_tests) in
            let b : (first_of t == 37) ≡ false = grind (arith, nat_tests) in
            literal_splits t u n (passed (literal_char (first_of (chars t))) None _ (sym (other_piece (first_of t) t a b).2 ∙ h)).0
      ]
    ]

pub first_fine : (t : List ℕ) → 0 < length t → text_fault t ≡ None → piece_fault t ≡ None
unfolding fault_from
first_fine [] n h = absurd (omega arith)
first_fine (x ∷ xs) n h = unmoved 0 (piece_fault (x ∷ xs)) (neither (moved 0 (piece_fault (x ∷ xs))) _ h).0

within : (n : ℕ) (t : List ℕ) → length t ≤ n → IsUtf8 t → text_fault t ≡ None → Spells (pieces_of t) t
within n [] l u h = record { pieces = ap (list_all is_piece) skip_nothing; text = ap template_text skip_nothing }
within zero (x ∷ xs) l u h = absurd (omega arith)
within (suc n) (x ∷ xs) l u h =
    let t = x ∷ xs in
    let s = piece_splits t u (omega arith) (first_fine t (omega arith) h) in
    let r = s.rest in
    let rest_fine = none_anywhere (0 + (length t - length r)) r
    (neither (moved 0 (piece_fault t)) (fault_from 0 (0 + (length t - length r)) r)
    (sym (begins_fault s.piece 0 t r s.begins) ∙ h)).1 in
    let more = within n r (omega (arith, s.begins.len, s.begins.some)) s.text rest_fine in
    let are = begins_pieces s.piece t r s.begins in
    record {
      pieces = ap (list_all is_piece) are ∙ rw (s.fine, more.pieces) refl;
      text = ap template_text are ∙ (ap (λ l. piece_text s.piece ++ l) more.text ∙ s.joined);
    }

-- ---- the law
pub no_fault_is_template : (bs : List ℕ) → template_fault bs ≡ None → Spells (pieces_of bs) bs
no_fault_is_template bs h =
    let k = passed (is_utf8 bs) (text_fault bs) _ h in
    within (length bs) bs (omega arith) (IsUtf8-from_is_utf8 bs k.0) k.1

pub template_has_no_fault : (ps : List Piece) (t : List ℕ) → Spells ps t → template_fault t ≡ None
template_has_no_fault ps t s =
    let k = subst (IsRead ps) s.text (spelled_is_read ps s.pieces) in
    ap (λ b. cond b (text_fault t) (fault InvalidUtf8 (utf8_valid_len t))) (is_utf8-from_IsUtf8 t k.text) ∙ k.fault

pub one_reading : (ps : List Piece) (t : List ℕ) → Spells ps t → pieces_of t ≡ ps
one_reading ps t s = (subst (IsRead ps) s.text (spelled_is_read ps s.pieces)).pieces

-- a template and another after it
pub templates_joined : (a b : List ℕ) → template_fault a ≡ None → template_fault b ≡ None → template_fault (a ++ b) ≡ None
templates_joined a b h k =
    let x = no_fault_is_template a h in
    let y = no_fault_is_template b k in
    let ps = pieces_of a in
    let qs = pieces_of b in
    template_has_no_fault (ps ++ qs) (a ++ b) (record {
      pieces = list_all-append is_piece ps qs ∙ rw (x.pieces, y.pieces) refl;
      text = flat_map-append piece_text ps qs ∙ (ap (λ l. l ++ template_text qs) x.text ∙ ap (λ l. a ++ l) y.text);
    })

pub joined_templates : (a b : List ℕ) → IsUtf8 a → IsUtf8 b → text_fault a ≡ None → text_fault b ≡ None → text_fault (a ++ b) ≡ None
joined_templates a b u v h k = sym (of_text (a ++ b) (IsUtf8-append a b u v)) ∙ templates_joined a b (of_text a u ∙ h) (of_text b v ∙ k)

pub template_is_text : (bs : List ℕ) → IsTemplate bs → IsUtf8 bs
template_is_text bs (ps, s) = (subst (IsRead ps) s.text (spelled_is_read ps s.pieces)).text

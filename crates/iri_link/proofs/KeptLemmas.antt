-- What the link-values of a field value keep: names are tokens in lower case, values are texts that a quoted string can have.
use Rattle.iri_link.proofs.Common.{◌≡◌, ℕ, ◌<◌, Bool, true, List, [], ◌∷◌, ◌++◌, Option, Some, None, map, refl, sym, ap}
use Rattle.iri_link.proofs.Common.{◌∙◌, subst, arith, append_assoc, list_all, All, str_to_ascii_lowercase, IsUtf8, both}
use Rattle.iri_link.proofs.Common.{nat_tests, append-nil, IsUtf8-nil, delimited-utf8, All-append, All-nil, All-cons, is_blank, is_pair_char}
use Rattle.iri_link.proofs.Common.{is_plain_char, is_blanks, is_token_char, is_token, IsQuoted, done, plain, pair, LinkParam, LinkValue}
use Rattle.iri_link.proofs.Common.{IsValue, token, quoted, IsParam, bare, valued, IsParams, none, empty, param, IsLink, link, IsElement}
use Rattle.iri_link.proofs.Common.{no_element, element, IsField, last, more}
use Rattle.std.specs.Prelude.{⊤}
use Rattle.std.specs.Char.{to_ascii_lowercase}
use Rattle.std.proofs.lemmas.Str.Ascii.{lowercase-lowercase}
use Rattle.iri_grammar.proofs.splits.CharBoundaries.{text_after_delimiter, text_before_delimiter}
use Rattle.iri_grammar.proofs.units.FirstUnits.{text_after_ascii}
use Rattle.iri_link.proofs.LaxParams.{lowered_token}
use Rattle.iri_link.proofs.RunLemmas.{blank-low, token-low}
use Rattle.iri_link.proofs.Utf8Lemmas.{value-utf8}

-- a value of characters that a quoted string can have
pub record IsKeptText (v : List ℕ) : Type 0 where
  pub chars : list_all is_pair_char v ≡ true
  pub utf8 : IsUtf8 v

abbrev pub IsKeptValue : Option (List ℕ) → Type 0
IsKeptValue None = ⊤
IsKeptValue (Some v) = IsKeptText v

-- a parameter as a field value gives it
pub record IsKeptParam (p : LinkParam) : Type 0 where
  pub token : is_token p.name ≡ true
  pub small : str_to_ascii_lowercase p.name ≡ p.name
  pub value : IsKeptValue p.value

abbrev pub HasKeptParams : LinkValue → Type 0
HasKeptParams l = All IsKeptParam l.params

-- ---- characters
token-pair : (c : ℕ) → is_token_char c ≡ true → is_pair_char c ≡ true
token-pair c h = grind (arith, nat_tests)

plain-pair : (c : ℕ) → is_plain_char c ≡ true → is_pair_char c ≡ true
plain-pair c h = (both (is_pair_char c) _ h).0

-- ---- names
lowered-twice : (n : List ℕ) → str_to_ascii_lowercase (str_to_ascii_lowercase n) ≡ str_to_ascii_lowercase n
lowered-twice [] = refl
lowered-twice (c ∷ cs) = ap (λ x. x ∷ map to_ascii_lowercase (map to_ascii_lowercase cs)) (lowercase-lowercase c) ∙ ap (λ l. to_ascii_lowercase c ∷ l) (lowered-twice cs)

-- ---- runs of ASCII characters
run_after : (p : ℕ → Bool) → ((c : ℕ) → p c ≡ true → c < 128) → (xs z : List ℕ) → list_all p xs ≡ true → IsUtf8 (xs ++ z) → IsUtf8 z
run_after p low [] z h u = u
run_after p low (c ∷ cs) z h u =
    let k = both (p c) (list_all p cs) h in run_after p low cs z k.1 (text_after_ascii c (cs ++ z) u (low c k.0))

run_utf8 : (p : ℕ → Bool) → ((c : ℕ) → p c ≡ true → c < 128) → (xs : List ℕ) → list_all p xs ≡ true → IsUtf8 xs
run_utf8 p low [] h = IsUtf8-nil
run_utf8 p low (c ∷ cs) h = let k = both (p c) (list_all p cs) h in delimited-utf8 c cs (low c k.0) (run_utf8 p low cs k.1)

pub token_chars : (v : List ℕ) → is_token v ≡ true → list_all is_token_char v ≡ true
token_chars [] h = cc
token_chars (c ∷ cs) h = h

pub token-utf8 : (v : List ℕ) → is_token v ≡ true → IsUtf8 v
token-utf8 v h = run_utf8 is_token_char token-low v (token_chars v h)

token_after : (v z : List ℕ) → is_token v ≡ true → IsUtf8 (v ++ z) → IsUtf8 z
token_after v z h = run_after is_token_char token-low v z (token_chars v h)

blanks_after : (a z : List ℕ) → is_blanks a ≡ true → IsUtf8 (a ++ z) → IsUtf8 z
blanks_after = run_after is_blank blank-low

-- ---- values
token-pairs : (v : List ℕ) → list_all is_token_char v ≡ true → list_all is_pair_char v ≡ true
token-pairs [] h = refl
token-pairs (c ∷ cs) h = let k = both (is_token_char c) (list_all is_token_char cs) h in rw (token-pair c k.0) (token-pairs cs k.1)

quoted-pairs : (t v : List ℕ) → IsQuoted t v → list_all is_pair_char v ≡ true
quoted-pairs t v done = refl
quoted-pairs t v (plain c u w h r) = rw (plain-pair c h) (quoted-pairs u w r)
quoted-pairs t v (pair c u w h r) = rw h (quoted-pairs u w r)

value-kept : (t v z : List ℕ) → IsValue t v → IsUtf8 (t ++ z) → IsKeptText v × IsUtf8 z
value-kept t v z (token w h) u = (record { chars = token-pairs w (token_chars w h); utf8 = token-utf8 w h }, token_after w z h u)
value-kept t v z (quoted w x q) u =
    let all : IsUtf8 (w ++ 34 ∷ z) = subst IsUtf8 (append_assoc w (34 ∷ []) z) (text_after_ascii 34 ((w ++ 34 ∷ []) ++ z) u (omega arith)) in
    (record { chars = quoted-pairs w x q; utf8 = value-utf8 w x (text_before_delimiter 34 w z (omega arith) all) q }, text_after_delimiter 34 w z (omega arith) all)

-- ---- parameters
param-kept : (p z : List ℕ) (q : LinkParam) → IsParam p q → IsUtf8 (p ++ z) → IsKeptParam q × IsUtf8 z
param-kept p z q (bare n h) u = (record { token = lowered_token n ∙ h; small = lowered-twice n; value = tt }, token_after n z h u)
param-kept p z q (valued n a b t v h ha hb hv) u =
    let e : (n ++ (a ++ 61 ∷ (b ++ t))) ++ z ≡ n ++ (a ++ 61 ∷ (b ++ (t ++ z))) =
    append_assoc n (a ++ 61 ∷ (b ++ t)) z ∙ ap (λ l. n ++ l) (append_assoc a (61 ∷ (b ++ t)) z ∙ ap (λ l. a ++ 61 ∷ l) (append_assoc b t z)) in
    let rest = token_after n (a ++ 61 ∷ (b ++ (t ++ z))) h (subst IsUtf8 e u) in
    let k = value-kept t v z hv (blanks_after b (t ++ z) hb (text_after_delimiter 61 a (b ++ (t ++ z)) (omega arith) rest)) in
    (record { token = lowered_token n ∙ h; small = lowered-twice n; value = k.0 }, k.1)

params-kept : (p z : List ℕ) (ps : List LinkParam) → IsParams p ps → IsUtf8 (p ++ z) → All IsKeptParam ps × IsUtf8 z
params-kept p z ps none u = (All-nil IsKeptParam, u)
params-kept p z ps (empty a b t rs ha hb h) u =
    let e : (a ++ 59 ∷ (b ++ t)) ++ z ≡ a ++ 59 ∷ (b ++ (t ++ z)) = append_assoc a (59 ∷ (b ++ t)) z ∙ ap (λ l. a ++ 59 ∷ l) (append_assoc b t z) in
    params-kept t z rs h (blanks_after b (t ++ z) hb (text_after_delimiter 59 a (b ++ (t ++ z)) (omega arith) (subst IsUtf8 e u)))
params-kept p z ps (param a b x t q rs ha hb hx h) u =
    let e : (a ++ 59 ∷ (b ++ (x ++ t))) ++ z ≡ a ++ 59 ∷ (b ++ (x ++ (t ++ z))) =
    append_assoc a (59 ∷ (b ++ (x ++ t))) z ∙ ap (λ l. a ++ 59 ∷ l) (append_assoc b (x ++ t) z ∙ ap (λ l. b ++ l) (append_assoc x t z)) in
    let k = param-kept x (t ++ z) q hx (blanks_after b (x ++ (t ++ z)) hb (text_after_delimiter 59 a (b ++ (x ++ (t ++ z))) (omega arith) (subst IsUtf8 e u))) in
    let i = params-kept t z rs h k.1 in
    (All-cons IsKeptParam q rs k.0 i.0, i.1)

-- ---- link-values
link-kept : (x z : List ℕ) (l : LinkValue) → IsLink x l → IsUtf8 (x ++ z) → HasKeptParams l × IsUtf8 z
link-kept x z l (link t p ps closed h) u =
    params-kept p z ps h (text_after_delimiter 62 (60 ∷ t) (p ++ z) (omega arith) (subst IsUtf8 (ap (λ l. 60 ∷ l) (append_assoc t (62 ∷ p) z)) u))

element-kept : (x z : List ℕ) (ls : List LinkValue) → IsElement x ls → IsUtf8 (x ++ z) → All HasKeptParams ls × IsUtf8 z
element-kept x z ls (no_element a h) u = (All-nil HasKeptParams, blanks_after a z h u)
element-kept x z ls (element a w b l ha hw hb) u =
    let e : (a ++ (w ++ b)) ++ z ≡ a ++ (w ++ (b ++ z)) = append_assoc a (w ++ b) z ∙ ap (λ l. a ++ l) (append_assoc w b z) in
    let k = link-kept w (b ++ z) l hw (blanks_after a (w ++ (b ++ z)) ha (subst IsUtf8 e u)) in
    (All-cons HasKeptParams l [] k.0 (All-nil HasKeptParams), blanks_after b z hb k.1)

pub field-kept : (x : List ℕ) (ls : List LinkValue) → IsField x ls → IsUtf8 x → All HasKeptParams ls
field-kept x ls (last y ms h) u = (element-kept y [] ms h (subst IsUtf8 (sym (append-nil y)) u)).0
field-kept x ls (more y z ms ns h k) u =
    let e = element-kept y (44 ∷ z) ms h u in
    All-append HasKeptParams ms ns e.0 (field-kept z ns k (text_after_ascii 44 z e.1 (omega arith)))

-- Parts shown in a mode.
use Rattle.iri_normal.proofs.Common.{option_map, ◌≡◌, ℕ, Bool, true, false, cond, ◌&&◌, ◌||◌, List, [], ◌∷◌, ◌++◌, Option, Some, Bor, refl}
use Rattle.iri_normal.proofs.Common.{sym, ◌∙◌, ap, subst, arith, ◌==◌, to_ascii_lowercase, list_all, encode_ascii, nat_tests, or-true}
use Rattle.iri_normal.proofs.Common.{lt-ltb, low_scalar, Tests, IsSpec, reg_name_char, is_ascii_reg_name, is_ascii_unreserved, is_sub_delim}
use Rattle.iri_normal.proofs.Common.{is_scheme, is_scheme_char, delimited, both, is_host, is_ip_literal, is_empty, scheme_text}
use Rattle.iri_normal.proofs.Common.{authority_text, scheme-chars, now_of, IsText, ended, letter, over-from_text, normal_host}
use Rattle.iri_normal.proofs.Common.{is_ascii_host, normal_nil, normal_plain, normal, pct, reg_name_percent, lowered, becomes_slash}
use Rattle.iri_normal.proofs.Common.{part_in, in_form}
use Rattle.iri_grammar.proofs.splits.SplitUnique.{scheme_char-below as scheme-low}

-- ---- a scheme is a host, and put into lower case as one
scheme-percent : (c : ℕ) → is_scheme_char c ≡ true → (c == 37) ≡ false
unfolding is_scheme_char
scheme-percent c h = grind (arith, nat_tests)

scheme-ascii_name : (c : ℕ) → is_scheme_char c ≡ true → is_ascii_reg_name c ≡ true
unfolding is_scheme_char is_ascii_reg_name is_ascii_unreserved is_sub_delim
scheme-ascii_name c h = grind (arith, nat_tests)

scheme-name : (s : Tests) (c : ℕ) → is_scheme_char c ≡ true → reg_name_char s c ≡ true
unfolding reg_name_char
scheme-name s c h = ap (λ b. b || s.ucs c) (scheme-ascii_name c h)

scheme-text : (s : Tests) (xs : List ℕ) → list_all is_scheme_char xs ≡ true → IsText (reg_name_char s) xs
scheme-text s [] h = ended
scheme-text s (x ∷ xs) h =
    let k = both (is_scheme_char x) (list_all is_scheme_char xs) h in
    let low = scheme-low x k.0 in
    subst (λ l. IsText (reg_name_char s) (l ++ xs)) (encode_ascii x low)
    (letter x xs (low_scalar x (omega arith)) (scheme-name s x k.0) (scheme-percent x k.0) (scheme-text s xs k.1))

pub scheme-host : (s : Tests) (x : List ℕ) → IsSpec s → is_scheme x ≡ true → is_host s x ≡ true
scheme-host s x k h = rw (over-from_text (reg_name_char s) x (reg_name_percent s k) (scheme-text s x (scheme-chars x h)))
    (or-true (is_ip_literal x))

ascii-all : (xs : List ℕ) → list_all is_scheme_char xs ≡ true → is_ascii_host xs ≡ true
unfolding is_ascii_host
ascii-all [] h = refl
ascii-all (x ∷ xs) h =
    let k = both (is_scheme_char x) (list_all is_scheme_char xs) h in
    rw (lt-ltb x 128 (scheme-low x k.0), scheme-percent x k.0) (ascii-all xs k.1)

lowered-all : (s : Tests) (xs : List ℕ) → list_all is_scheme_char xs ≡ true → normal s to_ascii_lowercase xs ≡ lowered xs
lowered-all s [] h = normal_nil s to_ascii_lowercase
lowered-all s (x ∷ xs) h =
    let k = both (is_scheme_char x) (list_all is_scheme_char xs) h in
    normal_plain s to_ascii_lowercase x xs (scheme-percent x k.0) ∙ ap (λ l. to_ascii_lowercase x ∷ l) (lowered-all s xs k.1)

pub scheme-lowered : (s : Tests) (x : List ℕ) → is_scheme x ≡ true → normal_host s x ≡ lowered x
unfolding normal_host
scheme-lowered s x h =
    let k = scheme-chars x h in
    ap (λ b. cond b (normal s to_ascii_lowercase x) (pct s x)) (ascii-all x k) ∙ lowered-all s x k

-- ---- parts that stand, with their delimiters
pub scheme-in : (n : Bool) (f : List ℕ → List ℕ) (o : Option (Bor (List ℕ))) (a : Bor (List ℕ)) → o ≡ Some a
    → cond n (f a.now) a.now ++ 58 ∷ [] ≡ scheme_text (part_in n f (now_of o))
scheme-in true f o a e = ap (λ (p : Option (Bor (List ℕ))). scheme_text (option_map f (now_of p))) (sym e)
scheme-in false f o a e = ap (λ (p : Option (Bor (List ℕ))). scheme_text (now_of p)) (sym e)

pub authority-in : (n : Bool) (f : List ℕ → List ℕ) (o : Option (Bor (List ℕ))) (a : Bor (List ℕ)) → o ≡ Some a
    → (47 ∷ 47 ∷ []) ++ cond n (f a.now) a.now ≡ authority_text (part_in n f (now_of o))
authority-in true f o a e = ap (λ (p : Option (Bor (List ℕ))). authority_text (option_map f (now_of p))) (sym e)
authority-in false f o a e = ap (λ (p : Option (Bor (List ℕ))). authority_text (now_of p)) (sym e)

pub delimited-in : (s : Tests) (n : Bool) (m : List ℕ) (c : ℕ) (o : Option (Bor (List ℕ))) (a : Bor (List ℕ)) → m ≡ c ∷ [] → o ≡ Some a
    → m ++ in_form s n a.now ≡ delimited c (part_in n (pct s) (now_of o))
delimited-in s true m c o a h e = ap (λ l. l ++ pct s a.now) h
    ∙ ap (λ (p : Option (Bor (List ℕ))). delimited c (option_map (pct s) (now_of p))) (sym e)
delimited-in s false m c o a h e = ap (λ l. l ++ a.now) h ∙ ap (λ (p : Option (Bor (List ℕ))). delimited c (now_of p)) (sym e)

-- ---- an empty path beside an authority
empty-append : (a b : List ℕ) → is_empty (a ++ b) ≡ (is_empty a && is_empty b)
empty-append [] b = refl
empty-append (x ∷ a) b = refl

pub slash-told : (d o : Option (List ℕ)) (prefix path port authority : List ℕ) → d ≡ Some port → o ≡ Some authority
    → becomes_slash d o (prefix ++ path) ≡ (is_empty prefix && is_empty path)
slash-told d o prefix path port authority e h = rw (e, h) (empty-append prefix path)

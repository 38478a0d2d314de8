-- What is written of a path: as it stands, or with its triplets in normal form.
use Rattle.iri_normal.proofs.Common.{◌≡◌, ℕ, true, false, cond, ◌&&◌, ◌||◌, List, [], ◌∷◌, ◌++◌, Option, Some, None, Bor, refl, sym, ◌∙◌}
use Rattle.iri_normal.proofs.Common.{arith, ap, subst, append_assoc, ◌==◌, is_some, is_ascii_hexdigit, append-nil, eqb-true, Tests, IsSpec}
use Rattle.iri_normal.proofs.Common.{path_char, now_of, is_path, both, is_empty, pct_delimiter, slash, pct, normal, whole_triplets}
use Rattle.iri_normal.proofs.Common.{two_digits, dots, guard, normal_path, ends_at_slash, path-whole, Bool, length, in_form}
use Rattle.iri_normal.proofs.segments.Slashes.{end_slash}
use Rattle.iri_normal.proofs.normal_forms.Paths.{dots-over}
use Rattle.iri_normal.proofs.targets.Targets.{slash_in_path}
use Rattle.iri_percent.specs.Units.{read_from}

-- ---- parts without a stray `%`, and a path in two pieces
pub pct_nil : (s : Tests) → pct s [] ≡ []
unfolding normal read_from
pct_nil s = refl

pct_at : (s : Tests) (init p : List ℕ) → pct s ((init ++ 47 ∷ []) ++ p) ≡ pct s (init ++ 47 ∷ []) ++ pct s p
pct_at s init p =
    ap (pct s) (append_assoc init (47 ∷ []) p)
    ∙ (pct_delimiter s 47 init p slash
    ∙ sym (ap (λ l. l ++ pct s p) (pct_delimiter s 47 init [] slash ∙ ap (λ l. pct s init ++ 47 ∷ l) (pct_nil s))
    ∙ append_assoc (pct s init) (47 ∷ []) (pct s p)))

pub pct_two : (s : Tests) (f p : List ℕ) → ends_at_slash f ≡ true → pct s (f ++ p) ≡ pct s f ++ pct s p
pct_two s [] p h = sym (ap (λ l. l ++ pct s p) (pct_nil s))
pct_two s (x ∷ xs) p h =
    let r = end_slash (x ∷ xs) h (omega arith) in
    subst (λ (f : List ℕ). pct s (f ++ p) ≡ pct s f ++ pct s p) (sym r.whole) (pct_at s r.prefix p)

-- the triplet normal form of a path in two pieces that is cut where a segment ends
pub pct_parts : (s : Tests) (f p : List ℕ) → (is_empty p || ends_at_slash f) ≡ true → pct s (f ++ p) ≡ pct s f ++ pct s p
pct_parts s f [] h = ap (pct s) (append-nil f) ∙ sym (ap (λ l. pct s f ++ l) (pct_nil s) ∙ append-nil (pct s f))
pct_parts s f (x ∷ xs) h = pct_two s f (x ∷ xs) h

slash_no_digit : (y q : ℕ) → (y == 47) ≡ true → (is_ascii_hexdigit y && is_ascii_hexdigit q) ≡ false
slash_no_digit y q h = subst (λ (c : ℕ). (is_ascii_hexdigit c && is_ascii_hexdigit q) ≡ false) (sym (eqb-true y 47 h)) refl

digits_same : (y : ℕ) (ys p : List ℕ) → ends_at_slash (y ∷ ys) ≡ true → two_digits ((y ∷ ys) ++ p) ≡ two_digits (y ∷ ys)
digits_same y [] [] h = refl
digits_same y [] (q ∷ qs) h = slash_no_digit y q h
digits_same y (z ∷ zs) p h = refl

pub whole_two : (f p : List ℕ) → ends_at_slash f ≡ true → whole_triplets (f ++ p) ≡ true
    → (whole_triplets f ≡ true) × (whole_triplets p ≡ true)
unfolding whole_triplets
whole_two [] p h w = (refl, w)
whole_two (x ∷ []) p h w =
    subst (λ (c : ℕ). (cond (c == 37) (two_digits p) true && whole_triplets p) ≡ true
    → ((cond (c == 37) (two_digits []) true && true) ≡ true) × (whole_triplets p ≡ true))
    (sym (eqb-true x 47 h)) (λ k. (refl, k)) w
whole_two (x ∷ y ∷ ys) p h w =
    let parts = both (cond (x == 37) (two_digits ((y ∷ ys) ++ p)) true) (whole_triplets ((y ∷ ys) ++ p)) w in
    let r = whole_two (y ∷ ys) p h parts.1 in
    let first : cond (x == 37) (two_digits (y ∷ ys)) true ≡ true =
    subst (λ b. cond (x == 37) b true ≡ true) (digits_same y ys p h) parts.0 in
    (rw first r.0, r.1)

-- such a path has no stray `%` in either piece where it has none
pub whole_parts : (f p : List ℕ) → (is_empty p || ends_at_slash f) ≡ true → whole_triplets (f ++ p) ≡ true
    → (whole_triplets f ≡ true) × (whole_triplets p ≡ true)
unfolding whole_triplets
whole_parts f [] h w = (subst (λ (l : List ℕ). whole_triplets l ≡ true) (append-nil f) w, refl)
whole_parts f (x ∷ xs) h w = whole_two f (x ∷ xs) h w

-- a path without its dot segments has no stray `%`
pub dots_whole : (s : Tests) → IsSpec s → (p : List ℕ) → is_path s p ≡ true → whole_triplets (dots p) ≡ true
dots_whole s l p h = path-whole s (dots p) l (dots-over (path_char s) p (slash_in_path s) h)

pub is_some-now_of : (o : Option (Bor (List ℕ))) → is_some (now_of o) ≡ is_some o
is_some-now_of None = refl
is_some-now_of (Some x) = refl

pub path_is : (s : Tests) (a : Option (List ℕ)) (p : List ℕ) → guard (pct s (dots p)) (is_some a) ≡ normal_path s a p
unfolding normal_path
path_is s a p = refl

-- ---- the text of a path's segments, put together from the pieces that are written
-- ---- forms
pub form-nil : (s : Tests) (normal : Bool) → in_form s normal [] ≡ []
form-nil s true = pct_nil s
form-nil s false = refl

pub form-nothing : (s : Tests) (normal : Bool) (t : List ℕ) → length t ≡ 0 → in_form s normal t ≡ []
form-nothing s normal [] h = form-nil s normal
form-nothing s normal (x ∷ xs) h = absurd (omega arith)

pub form-append : (s : Tests) (normal : Bool) (a b : List ℕ) → ends_at_slash a ≡ true
    → in_form s normal (a ++ b) ≡ in_form s normal a ++ in_form s normal b
form-append s true a b h = pct_two s a b h
form-append s false a b h = refl

-- ---- a path as it stands
pub form-parts : (s : Tests) (normal : Bool) (f p : List ℕ) → (is_empty p || ends_at_slash f) ≡ true
    → in_form s normal f ++ in_form s normal p ≡ in_form s normal (f ++ p)
form-parts s true f p h = sym (pct_parts s f p h)
form-parts s false f p h = refl

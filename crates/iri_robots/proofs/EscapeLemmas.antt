-- Escapes, counted byte by byte.
use Rattle.iri_robots.proofs.Common.{◌≡◌, ℕ, ◌+◌, ◌-◌, ◌<◌, ◌||◌, Bool, true, false, cond, List, [], ◌∷◌, ◌++◌, drop, Some, None, refl, sym}
use Rattle.iri_robots.proofs.Common.{◌∙◌, ap, arith, ◌==◌, nat_lt, nat_tests, compared, escapes}
use Rattle.std.proofs.Common.{zero-add, subst}
use Rattle.iri_grammar.proofs.splits.CutLaws.{by_test}
use Rattle.iri_robots.specs.Patterns.{begins_escape}
use Rattle.iri_robots.specs.inside.EscapeScans.{begun_then, begun_after, ends_escape, Counts}
use Rattle.iri_robots.specs.declared.escape.Begun.{Begun}
use Rattle.iri_robots.specs.declared.escape.Begun.TheVariants.{Nothing, Percent, PercentTwo}
use Rattle.iri_robots.specs.declared.escape.Scan.{Scan}
use Rattle.iri_robots.proofs.Forms.{compared_nil}

-- ---- one byte
at_byte : (b k : ℕ) (P : ℕ → Type 0) → P k → ((b == k) ≡ false → P b) → P b
at_byte b k P at other = by_test b k (λ t. (b == k) ≡ t → P b) (λ e _. subst P (sym e) at) (λ _ e. other e) refl

other_way : (b k : ℕ) → (b == k) ≡ false → (k == b) ≡ false
other_way b k e = grind (arith, nat_tests)

-- a byte that begins no triplet
plain : (b : ℕ) (rest : List ℕ) → (b == 37) ≡ false → escapes (b ∷ rest) ≡ cond (b == 36) 1 0 + escapes rest
unfolding escapes
plain b rest e =
    at_byte b 36 (λ b. (37 == b) ≡ false → cond (begins_escape (b ∷ rest)) 1 0 + escapes rest ≡ cond (b == 36) 1 0 + escapes rest) (λ h. refl)
    (λ f h. rw (h, other_way b 36 f, f) refl) (other_way b 37 e)

-- what follows a `%` or `%2` and ends no triplet
past_percent : (b : ℕ) (rest : List ℕ) → (b == 50) ≡ false → escapes (37 ∷ b ∷ rest) ≡ escapes (b ∷ rest)
unfolding escapes
past_percent b rest e = rw (other_way b 50 e) (zero-add _)

past_two : (b : ℕ) (rest : List ℕ) → (b == 65) ≡ false → (b == 52) ≡ false → escapes (37 ∷ 50 ∷ b ∷ rest) ≡ escapes (b ∷ rest)
unfolding escapes
past_two b rest e f = rw (other_way b 65 e, other_way b 52 f) (zero-add _ ∙ zero-add _)

-- a byte that ends an escape counts, and what is begun then goes on
abbrev GoesOn : Begun → List ℕ → ℕ → Type 0
GoesOn begun rest b =
    escapes (begun_then begun (b ∷ rest)) ≡ cond (ends_escape begun b) 1 0 + escapes (begun_then (begun_after begun b) rest)

after_percent : (rest : List ℕ) → GoesOn Percent rest 37
unfolding escapes
after_percent rest = refl

at_star : (rest : List ℕ) → GoesOn PercentTwo rest 65
unfolding escapes
at_star rest = ap (λ n. 1 + n) (zero-add _ ∙ zero-add _)

at_dollar : (rest : List ℕ) → GoesOn PercentTwo rest 52
unfolding escapes
at_dollar rest = ap (λ n. 1 + n) (zero-add _ ∙ zero-add _)

or_none : (v : Bool) → ◌≡◌ {A = ℕ} (cond v 1 0) (cond (v || (false || false)) 1 0)
or_none true = refl
or_none false = refl

other_third : (b : ℕ) (rest : List ℕ) → (b == 65) ≡ false → (b == 52) ≡ false → (b == 37) ≡ false → GoesOn PercentTwo rest b
other_third b rest e f h = rw (e, f, h) (past_two b rest e f ∙ plain b rest h ∙ ap (λ n. n + escapes rest) (or_none (b == 36)))

goes_on : (begun : Begun) (b : ℕ) (rest : List ℕ) → GoesOn begun rest b
goes_on Nothing b rest = at_byte b 37 (GoesOn Nothing rest) (sym (zero-add _)) (λ e. rw e (plain b rest e))
goes_on Percent b rest =
    at_byte b 37 (GoesOn Percent rest) (after_percent rest)
    (λ e. at_byte b 50 (λ b. (b == 37) ≡ false → GoesOn Percent rest b) (λ h. sym (zero-add _))
    (λ f h. rw (h, f) (past_percent b rest f ∙ plain b rest h)) e)
goes_on PercentTwo b rest =
    at_byte b 65 (GoesOn PercentTwo rest) (at_star rest)
    (λ e. at_byte b 52 (λ b. (b == 65) ≡ false → GoesOn PercentTwo rest b) (λ _. at_dollar rest)
    (λ f e. at_byte b 37 (λ b. (b == 65) ≡ false → (b == 52) ≡ false → GoesOn PercentTwo rest b)
    (λ _ _. past_two 37 rest refl refl ∙ sym (zero-add _)) (λ h e f. other_third b rest e f h) e f) e)

-- ---- one byte, of a scan
pub reads_plain : (a : Scan) (b : ℕ) → ends_escape a.begun b ≡ false
    → Counts a (b ∷ []) (Some (record { room = a.room; begun = begun_after a.begun b }))
reads_plain a b e rest =
    let one = goes_on a.begun b rest ∙ ap (λ v. cond v 1 0 + escapes (begun_then (begun_after a.begun b) rest)) e in
    omega (arith, one)

pub reads_escape : (a : Scan) (b : ℕ) → ends_escape a.begun b ≡ true → 0 < a.room
    → Counts a (b ∷ []) (Some (record { room = a.room - 1; begun = begun_after a.begun b }))
reads_escape a b e some rest =
    let one = goes_on a.begun b rest ∙ ap (λ v. cond v 1 0 + escapes (begun_then (begun_after a.begun b) rest)) e in
    omega (arith, one, some)

pub reads_too_many : (a : Scan) (b : ℕ) → ends_escape a.begun b ≡ true → a.room ≡ 0 → Counts a (b ∷ []) None
reads_too_many a b e none rest =
    let one = goes_on a.begun b rest ∙ ap (λ v. cond v 1 0 + escapes (begun_then (begun_after a.begun b) rest)) e in
    omega (arith, one, none)

-- ---- bytes from a place on
abbrev pub AreCounted : Scan → List ℕ → Scan → ℕ → Type 0
AreCounted a bytes b i = (rest : List ℕ)
    → a.room + escapes (begun_then b.begun (drop i bytes ++ rest)) ≡ b.room + escapes (begun_then a.begun (bytes ++ rest))

-- ---- the end of a pattern
nothing_left : (begun : Begun) → escapes (begun_then begun (compared [])) ≡ 0
unfolding escapes
nothing_left Nothing = rw compared_nil refl
nothing_left Percent = rw compared_nil refl
nothing_left PercentTwo = rw compared_nil refl

pub no_more : (most room : ℕ) (begun : Begun) (left pattern : List ℕ) → left ≡ []
    → most + escapes (begun_then begun (compared left)) ≡ room + escapes (compared pattern)
    → false ≡ nat_lt most (escapes (compared pattern))
no_more most room begun left pattern end counted =
    let none = ap (λ t. escapes (begun_then begun (compared t))) end ∙ nothing_left begun in
    grind (arith, nat_tests)

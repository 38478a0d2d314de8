-- What stays of a directory without more and more of its last segments.
use Rattle.iri_normal.proofs.Common.{◌≡◌, ℕ, zero, suc, ◌+◌, ◌<◌, true, false, List, [], ◌∷◌, ◌++◌, ◌∙◌, refl, sym, ap, subst, arith, length}
use Rattle.iri_normal.proofs.Common.{append_assoc, append-nil, eqb-true, length-append, slice_index, take, take-append_seam, IsUtf8, IsCharBoundary, lacks}
use Rattle.iri_normal.proofs.Common.{ends_at_slash, popped, popped_times, without_last}
use Rattle.iri_normal.proofs.removal.Buffers.{last-cut, popped-ends, popped-output, two_ends}
use Rattle.iri_normal.proofs.removal.LongPaths.{times-ends}
use Rattle.iri_normal.proofs.removal.Output.{without_last-all}
use Rattle.iri_normal.proofs.segments.Slashes.{end_slash}
use Rattle.std.proofs.lemmas.Str.{IsCharBoundary-after_ascii}
use Rattle.iri_normal.specs.inside.Parents.{IsLengthOf}
use Rattle.std.proofs.lemmas.Bool.{ne_eqb}
use Rattle.std.proofs.lemmas.Option.{same_Some}
use Rattle.std.specs.Option.{ForSome}
use Rattle.std.specs.Prelude.{slice_get, slice_set}

times-one : (n : ℕ) (d : List ℕ) → popped_times 1 (popped_times n d) ≡ popped_times (suc n) d
times-one zero d = refl
times-one (suc n) d = times-one n (popped d)

pub times-next : (n : ℕ) (d : List ℕ) → popped_times 1 (popped_times n d) ≡ popped_times (n + 1) d
times-next n d = let e : suc n ≡ n + 1 = omega arith in times-one n d ∙ ap (λ k. popped_times k d) e

-- an element more, where those before it hold
pub each-more : {X : Type 0} (Q : ℕ → X → Type 0) (xs : List X) (i : ℕ) (y : X) → i < length xs → Q i y
    → ((k : ℕ) → k < i → ForSome (slice_get xs k) (Q k)) → (k : ℕ) → k < i + 1 → ForSome (slice_get (slice_set xs i y) k) (Q k)
each-more Q [] i y l q h k m = absurd (omega arith)
each-more Q (x ∷ xs) zero y l q h zero m = λ v e. subst (Q 0) (same_Some y v e) q
each-more Q (x ∷ xs) zero y l q h (suc k) m = absurd (omega arith)
each-more Q (x ∷ xs) (suc i) y l q h zero m = h 0 (omega arith)
each-more Q (x ∷ xs) (suc i) y l q h (suc k) m =
    each-more (λ n. Q (suc n)) xs i y (omega arith) q (λ n b. h (suc n) (omega arith)) k (omega arith)

pub known : (len : ℕ) (t : List ℕ) → 0 < len → IsLengthOf len t → len ≡ length t
known len t l h = h (ne_eqb len 0 (λ e. omega (arith, l, e)))

-- where more than a slash stays, it begins the directory
record Front (d p : List ℕ) : Type 0 where
  rest : List ℕ
  whole : d ≡ p ++ rest

popped-front : (d : List ℕ) → ends_at_slash d ≡ true → 1 < length (popped d) → Front d (popped d)
popped-front [] h l = absurd (omega arith)
popped-front (x ∷ xs) h l =
    let r = end_slash (x ∷ xs) h (omega arith) in
    let f = r.prefix in
    let same : popped (x ∷ xs) ≡ without_last f ++ 47 ∷ [] = ap popped r.whole ∙ popped-output f in
    elim (lacks 47 f) as (λ b. lacks 47 f ≡ b → Front (x ∷ xs) (popped (x ∷ xs))) [
      | true ↦ λ e. absurd (omega (arith, l, ap length (same ∙ ap (λ o. o ++ 47 ∷ []) (without_last-all f e))))
      | false ↦ λ e. let c = last-cut f e in record {
        rest = c.rest ++ 47 ∷ [];
        whole = r.whole ∙ (ap (λ o. o ++ 47 ∷ []) c.whole
            ∙ (two_ends (without_last f) c.rest (47 ∷ []) ∙ ap (λ p. p ++ (c.rest ++ 47 ∷ [])) (sym same)));
      }
    ] refl

times-front : (n : ℕ) (d : List ℕ) → ends_at_slash d ≡ true → 1 < length (popped_times n d) → Front d (popped_times n d)
times-front zero d h l = record { rest = []; whole = sym (append-nil d) }
times-front (suc n) d h l =
    let p = popped_times n (popped d) in
    let r = times-front n (popped d) (popped-ends d) l in
    let c = popped-front d h (omega (arith, l, ap length r.whole, length-append p r.rest)) in
    record { rest = r.rest ++ c.rest; whole = c.whole ∙ (ap (λ o. o ++ c.rest) r.whole ∙ append_assoc p r.rest c.rest) }

-- so its length says what it is
pub parent-taken : (n len : ℕ) (d : List ℕ) → ends_at_slash d ≡ true → 1 < len → len ≡ length (popped_times n d)
    → take len d ≡ popped_times n d
parent-taken n len d h l e =
    let r = times-front n d h (omega (arith, l, e)) in
    ap (λ k. take k d) e ∙ (ap (take (length (popped_times n d))) r.whole ∙ take-append_seam (popped_times n d) r.rest)

one-slash : (t : List ℕ) → ends_at_slash t ≡ true → 1 ≡ length t → 47 ∷ [] ≡ t
one-slash [] h e = absurd (omega (arith, e))
one-slash (x ∷ []) h e = ap (λ y. y ∷ []) (sym (eqb-true x 47 h))
one-slash (x ∷ y ∷ ys) h e = absurd (omega (arith, e))

pub parent-slash : (n : ℕ) (d : List ℕ) → ends_at_slash d ≡ true → 1 ≡ length (popped_times n d) → 47 ∷ [] ≡ popped_times n d
parent-slash n d h e = one-slash (popped_times n d) (times-ends n d h) e

slash-after : (a b : List ℕ) → slice_index (a ++ 47 ∷ b) (length a) ≡ 47
slash-after [] b = refl
slash-after (x ∷ xs) b = slash-after xs b

-- and the directory can be cut there
pub parent-boundary : (n len : ℕ) (d : List ℕ) → IsUtf8 d → ends_at_slash d ≡ true → 1 < len → len ≡ length (popped_times n d)
    → IsCharBoundary d len
parent-boundary n len d u h l e =
    let p = popped_times n d in
    let r = times-front n d h (omega (arith, l, e)) in
    let s = end_slash p (times-ends n d h) (omega (arith, l, e)) in
    let whole : d ≡ s.prefix ++ 47 ∷ r.rest = r.whole ∙ (ap (λ o. o ++ r.rest) s.whole ∙ append_assoc s.prefix (47 ∷ []) r.rest) in
    let size : length s.prefix + 1 ≡ len = omega (arith, e, ap length s.whole, length-append s.prefix (47 ∷ [])) in
    let byte : slice_index d (length s.prefix) ≡ 47 = ap (λ t. slice_index t (length s.prefix)) whole ∙ slash-after s.prefix r.rest in
    let within : length s.prefix < length d = omega (arith, ap length whole, length-append s.prefix (47 ∷ r.rest)) in
    subst (IsCharBoundary d) size (IsCharBoundary-after_ascii d (length s.prefix) u within (omega (arith, byte)))

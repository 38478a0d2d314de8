-- How a path begins, and whether it is guarded.
use Rattle.iri_normal.proofs.Common.{◌≡◌, ℕ, Bool, true, false, cond, not, ◌&&◌, List, [], ◌∷◌, ◌++◌, refl, sym, ◌∙◌, ap, Tests, IsSpec}
use Rattle.iri_normal.proofs.Common.{starts_with_slashes, guard, in_form, whole_triplets, ◌==◌, take}
use Rattle.iri_normal.specs.declared.beginning.Begun.{Begun}
use Rattle.iri_normal.proofs.triplets.PathTriplets.{pct-heads}
use Rattle.iri_normal.specs.declared.beginning.Begun.TheVariants.{Nothing, Slash, Slashes, Other}
use Rattle.iri_normal.specs.inside.Beginning.{after_byte, begun_by, is_slashes}

-- ---- the guard before a path in either form
pub form-heads : (s : Tests) (normal : Bool) (t : List ℕ) → IsSpec s → whole_triplets t ≡ true
    → starts_with_slashes (in_form s normal t) ≡ starts_with_slashes t
form-heads s true t k w = pct-heads s t k w
form-heads s false t k w = refl

-- ---- the guard
-- none is wanted
pub unguarded-form : (s : Tests) (normal stands : Bool) (t : List ℕ) → IsSpec s → whole_triplets t ≡ true
    → (not stands && starts_with_slashes t) ≡ false → in_form s normal t ≡ guard (in_form s normal t) stands
unguarded-form s normal true t k w h = refl
unguarded-form s normal false t k w h = sym (ap (λ b. cond (not b) (in_form s normal t) (47 ∷ 46 ∷ in_form s normal t))
    (form-heads s normal t k w ∙ h))

-- `/.` is put before it
pub guarded-form : (s : Tests) (normal stands : Bool) (t : List ℕ) → IsSpec s → whole_triplets t ≡ true
    → (not stands && starts_with_slashes t) ≡ true → (47 ∷ 46 ∷ []) ++ in_form s normal t ≡ guard (in_form s normal t) stands
guarded-form s normal true t k w h = cc
guarded-form s normal false t k w h = sym (ap (λ b. cond (not b) (in_form s normal t) (47 ∷ 46 ∷ in_form s normal t))
    (form-heads s normal t k w ∙ h))

-- ---- a text that begins with two slashes
slashes-stay : (t : List ℕ) → begun_by Slashes t ≡ Slashes
slashes-stay [] = refl
slashes-stay (x ∷ xs) = slashes-stay xs

other-stays : (t : List ℕ) → begun_by Other t ≡ Other
other-stays [] = refl
other-stays (x ∷ xs) = other-stays xs

pub begins-slashes : (t : List ℕ) → is_slashes (begun_by Nothing t) ≡ starts_with_slashes t
begins-slashes [] = refl
begins-slashes (x ∷ []) =
    elim (x == 47) as (λ b. is_slashes (cond b Slash Other) ≡ (b && false)) [ true ↦ refl | false ↦ refl ]
begins-slashes (x ∷ y ∷ ys) =
    elim (x == 47) as (λ b. is_slashes (begun_by (cond b Slash Other) (y ∷ ys)) ≡ (b && y == 47)) [
      | true ↦ elim (y == 47) as (λ b. is_slashes (begun_by (cond b Slashes Other) ys) ≡ b) [
        | true ↦ ap is_slashes (slashes-stay ys)
        | false ↦ ap is_slashes (other-stays ys)
      ]
      | false ↦ ap is_slashes (other-stays (y ∷ ys))
    ]

-- its first two bytes tell it
pub begun-two : (b : Begun) (t : List ℕ) → begun_by b (take 2 t) ≡ begun_by b t
begun-two b [] = refl
begun-two b (x ∷ []) = refl
begun-two Nothing (x ∷ y ∷ ys) =
    elim (x == 47) as (λ v. after_byte (cond v Slash Other) y ≡ begun_by (after_byte (cond v Slash Other) y) ys) [
      | true ↦ elim (y == 47) as (λ w. cond w Slashes Other ≡ begun_by (cond w Slashes Other) ys) [
        | true ↦ sym (slashes-stay ys)
        | false ↦ sym (other-stays ys)
      ]
      | false ↦ sym (other-stays ys)
    ]
begun-two Slash (x ∷ y ∷ ys) =
    elim (x == 47) as (λ v. after_byte (cond v Slashes Other) y ≡ begun_by (after_byte (cond v Slashes Other) y) ys) [
      | true ↦ sym (slashes-stay ys)
      | false ↦ sym (other-stays ys)
    ]
begun-two Slashes (x ∷ y ∷ ys) = sym (slashes-stay ys)
begun-two Other (x ∷ y ∷ ys) = sym (other-stays ys)

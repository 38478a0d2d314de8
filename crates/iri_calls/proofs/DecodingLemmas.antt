-- A decoding has at most as many bytes as its text, and is written fragment by fragment.
use Rattle.iri_calls.proofs.Common.{◌≡◌, ◌+◌, ℕ, List, [], ◌∷◌, length, refl, ap, sym, ◌∙◌, arith, length-append, flat_map, over, over_at}
use Rattle.iri_percent.specs.Decoding.{decoding, Fragment, fragments, fragment_bytes}
use Rattle.iri_percent.proofs.coding.Fragments.{fragments-joined}
use Rattle.iri_calls.specs.inside.PlacedLaws.{over_at-none, over_at-both, over_at_start}

-- These fragments are left, and the bytes of those before them stand in the buffer.
pub record Writing (t old : List ℕ) (left : List Fragment) (at : ℕ) (now : List ℕ) : Type 0 where
  pub out : over_at at (flat_map fragment_bytes left) now ≡ over (decoding t) old
  pub count : at + length (flat_map fragment_bytes left) ≡ length (decoding t)

pub writing_begun : (t old : List ℕ) (left : List Fragment) → left ≡ fragments t → Writing t old left 0 old
writing_begun t old left e =
    let all : flat_map fragment_bytes left ≡ decoding t = ap (flat_map fragment_bytes) e ∙ fragments-joined t in
    record { out = over_at_start 0 (flat_map fragment_bytes left) old refl ∙ ap (λ z. over z old) all; count = omega (arith, ap length all) }

module _ (t old : List ℕ) (at : ℕ) (now : List ℕ) where
  pub writing_next : (x : Fragment) (left : List Fragment) → Writing t old (x ∷ left) at now
      → Writing t old left (at + length (fragment_bytes x)) (over_at at (fragment_bytes x) now)
  writing_next x left w =
      let total : (at + length (fragment_bytes x)) + length (flat_map fragment_bytes left) ≡ length (decoding t) =
      omega (arith, w.count, length-append (fragment_bytes x) (flat_map fragment_bytes left)) in
      record {
        out = over_at-both at (at + length (fragment_bytes x)) (fragment_bytes x) (flat_map fragment_bytes left) now (omega arith) ∙ w.out;
        count = total;
      }

  pub writing_end : Writing t old [] at now → (now ≡ over (decoding t) old) × (at ≡ length (decoding t))
  writing_end w = (sym (over_at-none at now) ∙ w.out, omega (arith, w.count))

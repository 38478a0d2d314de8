use Rattle.iri_percent.proofs.Common.{◌≡◌, ℕ, true, false, List, refl, sym, ap, ◌∙◌, IsUtf8, is_utf8, IsUtf8-from_is_utf8}
use Rattle.iri_percent.proofs.decode.PercentDecodedWhatwgBytes.into_string.Goals as goal

not_utf8 : (bytes : List ℕ) → (IsUtf8 bytes → false ≡ true) → is_utf8 bytes ≡ false
not_utf8 bytes refused = elim (is_utf8 bytes) as (λ b. is_utf8 bytes ≡ b
    → b ≡ false) [ true ↦ λ e. let h = refused (IsUtf8-from_is_utf8 bytes e) in cc | false ↦ λ _. refl ] refl

pub returns-in-Err-from_utf8 : goal.returns-in-Err-from_utf8
returns-in-Err-from_utf8 c =
    let same = c.in-Ok.ensures.decoded in (
      c.from_vec.ensures ∙ (ap (λ v. v.items) c.into_bytes-in-Err-from_utf8.ensures.value
          ∙ (ap (λ v. v.items) c.in-Err-from_utf8.ensures.err ∙ same)),
      ap is_utf8 (sym same) ∙ not_utf8 c.in-Ok.bytes.items c.in-Err-from_utf8.ensures.succeeds,
    )

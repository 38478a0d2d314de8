-- The values that names get one after the other.
use Rattle.iri_docs.proofs.Common.{◌≡◌, ℕ, List, [], ◌∷◌, ◌++◌, if◌then◌else◌, bytes_eq, refl, ShownValue}
use Rattle.iri_docs.specs.Documents.{value_among}

-- one more variable after others
pub value_among-append : (before : ShownValue) (es : List (List ℕ × ShownValue)) (e : List ℕ × ShownValue) (n : List ℕ)
    → value_among before (es ++ e ∷ []) n ≡ (if bytes_eq n e.0 then e.1 else value_among before es n)
value_among-append before [] e n = refl
value_among-append before (first ∷ es) e n = value_among-append (if bytes_eq n first.0 then first.1 else before) es e n

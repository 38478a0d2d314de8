-- The answers that a loop has collected, and those that are still to come.
use Rattle.std.proofs.Common.{◌≡◌, ℕ, List, [], ◌∷◌, ◌++◌, String, Global, string_bytes, Result, Ok, Err, refl, sym, ap, ◌∙◌, append_assoc}
use Rattle.iri_docs.specs.Documents.{result_map, followed}
use Rattle.iri_docs.specs.declared.doc_error.DocError.{DocError}

abbrev pub after : {A : Type 0} → List A → Result (List A) DocError → Result (List A) DocError
after done rest = result_map (λ more. done ++ more) rest

pub after-followed : {A : Type 0} (done : List A) (x : A) (r : Result (List A) DocError)
    → after done (followed (Ok x) r) ≡ after (done ++ x ∷ []) r
after-followed done x (Ok xs) = ap Ok (sym (append_assoc done (x ∷ []) xs))
after-followed done x (Err e) = refl

-- one more answer
pub one_more : {A : Type 0} (done : List A) (x : A) (first : Result A DocError) (rest : Result (List A) DocError) → first ≡ Ok x
    → after done (followed first rest) ≡ after (done ++ x ∷ []) rest
one_more done x first rest is = ap (λ r. after done (followed r rest)) is ∙ after-followed done x rest

-- a pair of an object
pub is_pair : (k : List ℕ) (key text : String Global) (first : Result (List ℕ) DocError) → first ≡ Ok (string_bytes text)
    → string_bytes key ≡ k
    → result_map {B = List ℕ × List ℕ} (λ s. (k, s)) first ≡ Ok (string_bytes key, string_bytes text)
is_pair k key text first is same = ap (result_map {B = List ℕ × List ℕ} (λ s. (k, s))) is ∙ ap (λ q. Ok (q, string_bytes text)) (sym same)

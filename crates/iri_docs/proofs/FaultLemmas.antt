-- The fault of variables.
use Rattle.iri_docs.proofs.Common.{result_err, ShownValue, followed, result_map, variable, variables}
use Rattle.std.proofs.Common.{◌≡◌, ℕ, List, Some, None, Result, Ok, Err, refl, sym, ap, ◌∙◌, inl, inr, true≢false}
use Rattle.std.specs.Result.{is_ok}
use Rattle.serde_json.specs.Data.{Data, Members, no_members, member}
use Rattle.iri_docs.specs.Answered.{TellsFault}
use Rattle.iri_docs.specs.FirstFault.{HasFirstFault}
use Rattle.iri_docs.specs.declared.doc_error.DocError.{DocError}

abbrev Entries : Type 0
Entries = Result (List (List ℕ × ShownValue)) DocError

abbrev pub error_or : {A E : Type 0} → E → Result A E → E
error_or e (Ok x) = e
error_or e (Err f) = f

rest_fault : (x : List ℕ × ShownValue) (rest : Entries) (e : DocError) → followed (Ok x) rest ≡ Err e → rest ≡ Err e
rest_fault x (Ok xs) e is = absurd (true≢false (ap is_ok is))
rest_fault x (Err f) e is = is

at_first : (r : Result (List ℕ × ShownValue) DocError) (k : List ℕ) (d : Data) (ms : Members) (e : DocError) → variable k d ≡ r
    → followed r (variables ms) ≡ Err e → (variables ms ≡ Err e → HasFirstFault ms e) → HasFirstFault (member k d ms) e
at_first (Ok v) k d ms e variable_is is later = inr (v, variable_is, later (rest_fault v (variables ms) e is))
at_first (Err f) k d ms e variable_is is later = inl (variable_is ∙ ap Err (ap (error_or f) is))

pub first_fault_of : (ms : Members) (e : DocError) → variables ms ≡ Err e → HasFirstFault ms e
first_fault_of no_members e is = true≢false (ap is_ok is)
first_fault_of (member k d ms) e is = at_first _ k d ms e refl is (first_fault_of ms e)

-- ---- the fault alone of an answer
pub fault_is : {A E : Type 0} (r : Result A E) (e : E) → Some e ≡ result_err r → r ≡ Err e
fault_is (Ok x) e h = cc
fault_is (Err f) e h = let k : Some e ≡ Some f = h in cc

pub no_fault : {A E : Type 0} (r : Result A E) (e : E) → None ≡ result_err r → r ≡ Err e → ⊥
no_fault (Ok x) e h is = true≢false (ap is_ok is)
no_fault (Err f) e h is = let k : None ≡ Some f = h in cc

pub fault_mapped : {A B : Type 0} (f : A → B) (r : Result A DocError) → result_err (result_map f r) ≡ result_err r
fault_mapped f (Ok x) = refl
fault_mapped f (Err e) = refl

-- ---- what is told of it
pub tells_err : {A B E : Type 0} (r : Result B E) (e : E) → r ≡ Err e → TellsFault {A = A} (Err e) r
tells_err r e is f also = ap Err (ap (error_or e) (sym is ∙ also))

pub tells_fault : {A B E : Type 0} (r : Result B E) (e : E) → Some e ≡ result_err r → TellsFault {A = A} (Err e) r
tells_fault r e h = tells_err r e (fault_is r e h)

pub tells_ok : {A B E : Type 0} (x : Result A E) (r : Result B E) (v : B) → r ≡ Ok v → TellsFault x r
tells_ok x r v is f also = absurd (true≢false (ap is_ok (sym is ∙ also)))

pub tells_none : {A B : Type 0} (x : Result A DocError) (r : Result B DocError) → None ≡ result_err r → TellsFault x r
tells_none x r h f is = absurd (no_fault r f h is)

-- what is told of a value is told of what is made of it
pub mapped_err : {A B : Type 0} (f : A → B) (r : Result A DocError) (e : DocError) → result_map f r ≡ Err e → r ≡ Err e
mapped_err f (Ok x) e is = absurd (true≢false (ap is_ok is))
mapped_err f (Err g) e is = ap Err (ap (error_or g) is)

pub retold : {A B C D : Type 0} (f : C → D) (r : Result C DocError) (e : DocError) → TellsFault {A = A} (Err e) r
    → TellsFault {A = B} (Err e) (result_map f r)
retold f r e told g is = ap Err (ap (error_or e) (told g (mapped_err f r g is)))

-- Two targets are led to one exactly where their texts in normal form are the same.
use Rattle.iri_resolve.proofs.Common.{◌≡◌, Bool, true, false, List, Some, sym, ◌∙◌, ap, bytes_eq, bytes_eq-Decides, Tests, IsSpec, Parts}
use Rattle.iri_resolve.proofs.Common.{recompose, CanonMode, form, replayed_in, Step}
use Rattle.iri_resolve.proofs.SchemeSteps.{joined_in-exactly, texts_in-exactly}
use Rattle.iri_normal.proofs.normal_forms.SchemeRules.{form-is}
use Rattle.iri_normal.specs.NormalForm.{normal_form_in}
use Rattle.iri_normal.specs.Modes.{mode_of}
use Rattle.iri_resolve.specs.Steps.{AreApartIn, LeadToNormalIn}
use Rattle.iri_resolve.proofs.StepsKept.{Valid}

-- the texts of two normal forms are those of two forms
told : (s : Tests) (c : CanonMode) (t u : Parts) (b : Bool) → bytes_eq (recompose (form s (mode_of c) false t)) (recompose (form s (mode_of c) false u)) ≡ b
    → bytes_eq (recompose (normal_form_in s c t)) (recompose (normal_form_in s c u)) ≡ b
told s c t u b h = ap (λ z. bytes_eq (recompose z) (recompose (normal_form_in s c u))) (sym (form-is s c false t))
    ∙ (ap (λ z. bytes_eq (recompose (form s (mode_of c) false t)) (recompose z)) (sym (form-is s c false u)) ∙ h)

pub apart : (s : Tests) (c : CanonMode) (t u : Parts) → IsSpec s → Valid s t → Valid s u
    → bytes_eq (recompose (form s (mode_of c) false t)) (recompose (form s (mode_of c) false u)) ≡ false → AreApartIn s c t u
apart s c t u k v w h j =
    let e = (joined_in-exactly s c t u k v.fits v.scheme w.fits w.scheme).0 j in
    let same = (bytes_eq-Decides (recompose (normal_form_in s c t)) (recompose (normal_form_in s c u))).1 (ap recompose e) in
    let no : true ≡ false = sym same ∙ told s c t u false h in
    cc

pub to-one : (s : Tests) (c : CanonMode) (t u : Parts) (l m : List Step) → IsSpec s → Valid s t → Valid s u
    → bytes_eq (recompose (form s (mode_of c) false t)) (recompose (form s (mode_of c) false u)) ≡ true
    → replayed_in s c t l ≡ Some (normal_form_in s c t) → replayed_in s c u m ≡ Some (normal_form_in s c u)
    → LeadToNormalIn s c t u l m
to-one s c t u l m k v w h a b =
    let e = (texts_in-exactly s c t u k v.fits v.scheme w.fits w.scheme).0
    ((bytes_eq-Decides (recompose (normal_form_in s c t)) (recompose (normal_form_in s c u))).0 (told s c t u true h)) in
    (a, b ∙ ap Some (sym e))

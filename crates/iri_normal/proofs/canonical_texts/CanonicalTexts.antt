-- Canonical texts: their split, and the first faults of base and reference.
use Rattle.iri_normal.proofs.Common.{◌≡◌, ℕ, Bool, List, Option, Some, None, refl, sym, ◌∙◌, ap, IsSome, Tests, IsSpec, Parts, Fits, Splits}
use Rattle.iri_normal.proofs.Common.{IsReference, IsAbsolute, recompose, split_of, split_is, CanonMode, Default, Scheme, target}
use Rattle.iri_normal.proofs.Common.{target_under, mode_of, normal_form_in, canonical_parts_in, canonical, canonical_in, true, false, cond}
use Rattle.iri_normal.proofs.Common.{Result, Ok, Err, subst, absolute-law, reference-law, absolute_fault, reference_fault}
use Rattle.iri_grammar.specs.Fault.{bytes_fault}
use Rattle.iri_grammar.specs.Parts.{IsIri}
use Rattle.iri_grammar.specs.declared.error.ErrorKind.{ErrorKind}
use Rattle.iri_grammar.specs.declared.error.ErrorKind.TheVariants.{InvalidUtf8}
use Rattle.iri_normal.proofs.normal_forms.PartsFit.{normal_in-fits, normal_in-stable}
use Rattle.iri_normal.proofs.normal_forms.SchemeRules.{form-is}
use Rattle.iri_normal.proofs.targets.Targets.{target-fits}
use Rattle.iri_normal.specs.Canonicalized.{IsCanonicalTextIn, CausedBy}
use Rattle.iri_normal.specs.Normalized.{written_text}
use Rattle.iri_normal.specs.declared.canonical.CanonError.{CanonError}
use Rattle.iri_owned.specs.OwnedText.{OwnedText}
use Rattle.std.specs.Prelude.{IfOk, MatchResult}
use Rattle.std.specs.Str.{is_utf8}

-- ---- the canonical text in either normal form: it is valid, splits into the normal parts, and is its own canonical form
-- ---- the canonical text
pub canonical_in-text : (s : Tests) (m : CanonMode) (base reference : List ℕ)
    → recompose (canonical_parts_in s m base reference) ≡ canonical_in s m base reference
unfolding canonical
canonical_in-text s Default base reference = refl
canonical_in-text s Scheme base reference = refl

-- a normal form doesn't look at whether the path is the base's, taken whole
pub written-canonical : (s : Tests) (m : CanonMode) (whole : Bool) (base reference : List ℕ)
    → written_text s (record { parts = target (split_of base) (split_of reference); whole = whole; mode = mode_of m })
    ≡ canonical_in s m base reference
written-canonical s m whole base reference =
    ap recompose (form-is s m whole (target (split_of base) (split_of reference))) ∙ canonical_in-text s m base reference

parts-fit : (s : Tests) (m : CanonMode) (base reference : List ℕ) → IsSpec s → IsAbsolute s base → IsReference s reference
    → Fits s (canonical_parts_in s m base reference) × IsSome (canonical_parts_in s m base reference).scheme
parts-fit s m base reference k b r =
    let eb = split_is s base b.0 k b.1 in
    let er = split_is s reference r.0 k r.1 in
    let t = target-fits s b.0 r.0 b.1.fits b.2 r.1.fits in
    rw (eb, er) (normal_in-fits s m (target b.0 r.0) k t.0 t.1)

pub canonical_in-splits : (s : Tests) (m : CanonMode) (base reference : List ℕ) → IsSpec s → IsAbsolute s base → IsReference s reference
    → Splits s (canonical_in s m base reference) (canonical_parts_in s m base reference)
canonical_in-splits s m base reference k b r = record { fits = (parts-fit s m base reference k b r).0; text = canonical_in-text s m base reference }

pub canonical_in-iri : (s : Tests) (m : CanonMode) (base reference : List ℕ) → IsSpec s → IsAbsolute s base → IsReference s reference
    → IsIri s (canonical_in s m base reference)
canonical_in-iri s m base reference k b r = (
  canonical_parts_in s m base reference,
  canonical_in-splits s m base reference k b r,
  (parts-fit s m base reference k b r).1,
)

pub canonical_in-split : (s : Tests) (m : CanonMode) (base reference : List ℕ) → IsSpec s → IsAbsolute s base → IsReference s reference
    → split_of (canonical_in s m base reference) ≡ canonical_parts_in s m base reference
canonical_in-split s m base reference k b r = split_is s (canonical_in s m base reference) (canonical_parts_in s m base reference) k
    (canonical_in-splits s m base reference k b r)

-- a reference with a scheme is its own target
pub own-target : (base r : Parts) → IsSome r.scheme → target base r ≡ r
unfolding target
own-target base r i = at r.scheme i
  where
    at : (o : Option (List ℕ)) → IsSome o → target_under base r o r.authority ≡ r
    at None j = cc
    at (Some x) j = refl

parts-stable : (s : Tests) (m : CanonMode) (base reference : List ℕ) → IsSpec s → IsAbsolute s base → IsReference s reference
    → normal_form_in s m (canonical_parts_in s m base reference) ≡ canonical_parts_in s m base reference
parts-stable s m base reference k b r =
    let eb = split_is s base b.0 k b.1 in
    let er = split_is s reference r.0 k r.1 in
    let t = target-fits s b.0 r.0 b.1.fits b.2 r.1.fits in
    rw (eb, er) (normal_in-stable s m (target b.0 r.0) k t.0)

pub canonical_in-own : (s : Tests) (m : CanonMode) (base reference other : List ℕ) → IsSpec s → IsAbsolute s base → IsReference s reference
    → canonical_in s m other (canonical_in s m base reference) ≡ canonical_in s m base reference
canonical_in-own s m base reference other k b r =
    let parts = canonical_parts_in s m base reference in
    let text = canonical_in s m base reference in
    let t : target (split_of other) parts ≡ parts = own-target (split_of other) parts (parts-fit s m base reference k b r).1 in
    sym (canonical_in-text s m other text)
    ∙ (ap (λ p. recompose (normal_form_in s m (target (split_of other) p))) (canonical_in-split s m base reference k b r)
    ∙ (ap (λ p. recompose (normal_form_in s m p)) t
    ∙ (ap recompose (parts-stable s m base reference k b r) ∙ canonical_in-text s m base reference)))

-- ---- the canonical text of a valid reference against a valid base
absolute : (s : Tests) → IsSpec s → (b : List ℕ) → absolute_fault s b ≡ None → IsAbsolute s b
absolute s l b h = (absolute-law s l b).0 h

reference : (s : Tests) → IsSpec s → (r : List ℕ) → reference_fault s r ≡ None → IsReference s r
reference s l r h = (reference-law s l r).0 h

pub fault_none : (f : List ℕ → Option ErrorKind) (bs : List ℕ) → bytes_fault f bs ≡ None → f bs ≡ None
fault_none f bs = elim (is_utf8 bs) as (λ b. cond b (f bs) (Some InvalidUtf8) ≡ None → f bs ≡ None) [ true ↦ λ h. h | false ↦ λ h. cc ]

is_canonical : (s : Tests) (m : CanonMode) → IsSpec s → (b r t : List ℕ) → bytes_fault (absolute_fault s) b ≡ None
    → bytes_fault (reference_fault s) r ≡ None → t ≡ canonical_in s m b r → IsCanonicalTextIn s m b r t
is_canonical s m l b r t hb hr e =
    let a = absolute s l b (fault_none (absolute_fault s) b hb) in
    let k = reference s l r (fault_none (reference_fault s) r hr) in
    subst (IsCanonicalTextIn s m b r) (sym e)
    (record {
      canonical_is = refl;
      valid = canonical_in-iri s m b r l a k;
      splits = canonical_in-split s m b r l a k;
      own = λ other _. canonical_in-own s m b r other l a k;
    })

-- the text that an answer holds
pub all_canonical : (s : Tests) (m : CanonMode) → IsSpec s → (b v r : List ℕ) → v ≡ b → bytes_fault (absolute_fault s) b ≡ None
    → (x : Result OwnedText CanonError)
    → MatchResult x (λ t. (bytes_fault (reference_fault s) r ≡ None) × (t.text ≡ canonical_in s m v r))
    (λ e. CausedBy e None (bytes_fault (reference_fault s) r)) → IfOk x (λ t. IsCanonicalTextIn s m b r t.text)
all_canonical s m l b v r e hb (Ok t) h = is_canonical s m l b r t.text hb h.0 (h.1 ∙ ap (λ x. canonical_in s m x r) e)
all_canonical s m l b v r e hb (Err x) h = tt

use Rattle.iri_normal.proofs.Common.{◌≡◌, ◌≤◌, ◌+◌, ◌++◌, ℕ, ◌∙◌, None, List, ap, arith, length, subst, sym, take, string_bytes, IsUtf8}
use Rattle.iri_normal.proofs.Common.{∥∥₁_elim, props, take-append_seam, length-append, absolute-law, iri-law, reference-law, Tests, IsSpec}
use Rattle.iri_normal.proofs.Common.{absolute_fault, iri_fault, reference_fault, split_text, CanonMode, canonical_in, base_text}
use Rattle.std.proofs.lemmas.Str.{IsCharBoundary-from_take, IsUtf8-string_bytes}
use Rattle.std.specs.String.Boundary.{IsSplitPoint}
use Rattle.iri_normal.proofs.canonical_texts.CanonicalTexts.{canonical_in-iri}
use Rattle.iri_normal.proofs.resolver.FixedBaseResolver.canonical_into_in.Goals as goal

-- a string may be cut where its old text ended
seam : (old new directory : List ℕ) (n : ℕ) → new ≡ old ++ directory → n ≡ length old → IsUtf8 old → IsUtf8 new → IsSplitPoint new n
seam old new directory n e k u v =
    let cut : take n new ≡ old = ap (λ i. take i new) k ∙ (ap (take (length old)) e ∙ take-append_seam old directory) in
    let long : length new ≡ length old + length directory = ap length e ∙ length-append old directory in
    let within : n ≤ length new = omega (arith, k, long) in
    let b = IsCharBoundary-from_take new n v within (subst IsUtf8 (sym cut) u) in (b.0, λ _. b.1)

pub truncate-requires : goal.truncate-requires
truncate-requires g c =
    let p = c.in-Err.ensures.prefix in
    λ _. seam (string_bytes c.args.dest.now) (string_bytes c.append.new.dest) p.prefix (length c.as_str-len.result.now) p.appended
    (ap length c.as_str-len.ensures.value) (IsUtf8-string_bytes c.args.dest.now) (IsUtf8-string_bytes c.append.new.dest)

canonical_valid : (s : Tests) → IsSpec s → (mode : CanonMode) (b r : List ℕ) → ∥ absolute_fault s b ≡ None ∥₁
    → ∥ reference_fault s r ≡ None ∥₁ → iri_fault s (canonical_in s mode b r) ≡ None
canonical_valid s l mode b r hb hr =
    let base : absolute_fault s b ≡ None = ∥∥₁_elim hb (hlevel props) (λ e. e) in
    let reference : reference_fault s r ≡ None = ∥∥₁_elim hr (hlevel props) (λ e. e) in
    (iri-law s l (canonical_in s mode b r)).1
    (canonical_in-iri s mode b r l ((absolute-law s l b).0 base) ((reference-law s l r).0 reference))

pub returns-in-Ok-clause-valid : goal.returns-in-Ok-clause-valid
returns-in-Ok-clause-valid g c = canonical_valid g.S.Spec.tests g.met.S.Spec.lawful c.args.mode (base_text c.args.self.now)
    (split_text c.args.reference.now) c.args.self.now.base.view.valid c.args.reference.now.view.valid

pub returns-in-Err-clause-valid : goal.returns-in-Err-clause-valid
returns-in-Err-clause-valid g c = canonical_valid g.S.Spec.tests g.met.S.Spec.lawful c.args.mode (base_text c.args.self.now)
    (split_text c.args.reference.now) c.args.self.now.base.view.valid c.args.reference.now.view.valid

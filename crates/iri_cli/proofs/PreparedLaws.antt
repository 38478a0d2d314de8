-- A prepared base is an absolute URI again, is no longer than the base, and has the same canonical texts.
use Rattle.std.specs.Prelude.{option_map}
use Rattle.iri_cli.proofs.Common.{◌≡◌, ℕ, ◌≤◌, true, false, cond, ◌&&◌, List, [], ◌∷◌, ◌++◌, Option, Some, None, length, refl, ap, sym, ◌∙◌}
use Rattle.iri_cli.proofs.Common.{arith, append_assoc, append-nil, is_some, IsSome, Tests, IsSpec, Parts, IsAbsolute, path_rules, recompose}
use Rattle.iri_cli.proofs.Common.{is_empty, starts_with_slash, split_of, CanonMode, canonical_in, bytes_fault, absolute_fault}
use Rattle.iri_cli.proofs.Common.{reference_fault, absolute-law, of_bytes, reference-utf8, refusal, answer_in, answer_by}
use Rattle.iri_grammar.specs.ErrorTexts.{description}
use Rattle.iri_grammar.proofs.faults.FaultLaws.{none-is}
use Rattle.iri_grammar.specs.Parts.{Fits, Splits, scheme_text, authority_text}
use Rattle.iri_grammar.specs.Cut.{delimited}
use Rattle.iri_grammar.specs.Authority.{is_authority}
use Rattle.iri_grammar.specs.Components.{if_there}
use Rattle.iri_grammar.proofs.splits.SplitUnique.{split_is}
use Rattle.iri_normal.specs.DotRemoval.{dots}
use Rattle.iri_normal.specs.Target.{target, target_under, target_path, merge_prefix, to_last_slash}
use Rattle.iri_percent.specs.NormalHost.{normal_authority, normal_authority_in}
use Rattle.iri_percent.specs.SchemeRules.{dropped_port}
use Rattle.iri_percent.specs.declared.canon_mode.CanonMode.TheVariants.{Default, Scheme}
use Rattle.iri_normal.specs.NormalForm.{becomes_slash, normal_path, normal_form, normal_form_in, form}
use Rattle.iri_normal.specs.declared.mode.Mode.TheVariants.{ByScheme}
use Rattle.iri_normal.proofs.canonical_texts.CanonicalTexts.{canonical_in-text}
use Rattle.iri_normal.proofs.normal_forms.Authorities.{authority-fits, authority-stable}
use Rattle.iri_normal.proofs.normal_forms.SchemeRules.{dropped-lowered, without, without-normal}
use Rattle.iri_normal.proofs.normal_forms.PartsFit.{form-fits, scheme-stable, authorities-stable}
use Rattle.iri_normal.specs.Prefix.{prefix_in}
use Rattle.iri_normal.proofs.normal_forms.Lengths.{length-parts, length-scheme, length-authorities}
use Rattle.iri_normal.proofs.normal_forms.Paths.{stands-still as same_there}
use Rattle.iri_cli.specs.run.Prepared.{prepared_path, prepared_parts, prepared}
use Rattle.iri_cli.proofs.PreparedPaths.{IsRooted, rooted_beside, whole_dots, same_empty, merged_dots, path_over, rules_kept, path_short}
use Rattle.iri_cli.proofs.BytesLemmas.{base_absolute}

-- ---- the prepared base is valid
rules-fit : (f g : List ℕ → List ℕ) (scheme authority : Option (List ℕ)) (path : List ℕ) → IsSome scheme
    → path_rules scheme authority path ≡ true
    → path_rules (option_map f scheme) (option_map g authority) (prepared_path (is_some authority) path) ≡ true
rules-fit f g None authority path i h = cc
rules-fit f g (Some x) None path i h = rules_kept x None path h
rules-fit f g (Some x) (Some a) path i h = rules_kept x (Some a) path h

pub prepared_fits : (s : Tests) (t : Parts) → IsSpec s → Fits s t → IsSome t.scheme → Fits s (prepared_parts s t)
unfolding normal_form form
prepared_fits s t k f i =
    let n = (form-fits s t k f i).0 in record {
      scheme = n.scheme;
      authority = n.authority;
      path = path_over s t.authority t.path f.path;
      query = f.query;
      fragment = f.fragment;
      rules = rules-fit _ _ t.scheme t.authority t.path i f.rules;
    }

pub prepared_splits : (s : Tests) (base : List ℕ) → IsSpec s → IsAbsolute s base
    → Splits s (prepared s base) (prepared_parts s (split_of base))
unfolding prepared
prepared_splits s base k b =
    let e = split_is s base b.0 k b.1 in
    record { fits = rw e (prepared_fits s b.0 k b.1.fits b.2); text = refl }

pub prepared_absolute : (s : Tests) (base : List ℕ) → IsSpec s → IsAbsolute s base → IsAbsolute s (prepared s base)
prepared_absolute s base k b =
    let e = split_is s base b.0 k b.1 in (
      prepared_parts s (split_of base),
      prepared_splits s base k b,
      rw e (form-fits s b.0 k b.1.fits b.2).1,
      rw e b.3,
    )

-- ---- its canonical texts
normal_there : (s : Tests) (t : Parts) → is_some (normal_form s t).authority ≡ is_some t.authority
unfolding normal_form form
normal_there s t = same_there _ t.authority

same_dots : (s : Tests) (t : Parts) (path : List ℕ) → IsRooted t.authority t.path
    → dots (target_path (prepared_parts s t) path) ≡ dots (target_path t path)
same_dots s t [] h = whole_dots (is_some t.authority) t.path
same_dots s t (x ∷ xs) h =
    let base = prepared_path (is_some t.authority) t.path in
    elim (starts_with_slash (x ∷ xs)) as (λ b. dots (cond b (x ∷ xs) (merge_prefix (prepared_parts s t) ++ x ∷ xs))
    ≡ dots (cond b (x ∷ xs) (merge_prefix t ++ x ∷ xs))) [
      | true ↦ refl
      | false ↦ ap (λ b. dots (cond (b && is_empty base) (47 ∷ []) (to_last_slash base) ++ x ∷ xs)) (normal_there s t)
          ∙ merged_dots t.authority t.path (x ∷ xs) h
    ]

normal_same : (s : Tests) (t : Parts) (path : List ℕ) → IsRooted t.authority t.path
    → normal_path s (normal_form s t).authority (target_path (prepared_parts s t) path)
    ≡ normal_path s t.authority (target_path t path)
unfolding normal_path
normal_same s t path h = rw (same_dots s t path h, normal_there s t) refl

form_under : (s : Tests) (t r : Parts) (scheme authority : Option (List ℕ)) → IsSpec s → Fits s t
    → normal_form s (target_under (prepared_parts s t) r scheme authority) ≡ normal_form s (target_under t r scheme authority)
unfolding normal_form form
form_under s t r (Some x) authority k f = refl
form_under s t r None (Some a) k f = rw (scheme-stable t.scheme) refl
form_under s t r None None k f =
    let rooted = rooted_beside t.scheme t.authority t.path f.rules in
    rw (scheme-stable t.scheme, authorities-stable s t.authority k f.authority, normal_same s t r.path rooted) refl

-- an authority loses its port where its normal form does
authority_again : (s : Tests) (d : Option (List ℕ)) (x : List ℕ) → IsSpec s → is_authority s x ≡ true
    → normal_authority_in s d (normal_authority s x) ≡ normal_authority_in s d x
authority_again s d x k h =
    sym (without-normal s d (normal_authority s x) k (authority-fits s x k h))
    ∙ (ap (without d) (authority-stable s x k h) ∙ without-normal s d x k h)

authority_same : (s : Tests) (d o : Option (List ℕ)) → IsSpec s → if_there (is_authority s) o ≡ true
    → option_map (normal_authority_in s d) (option_map (normal_authority s) o) ≡ option_map (normal_authority_in s d) o
authority_same s d None k h = refl
authority_same s d (Some x) k h = ap Some (authority_again s d x k h)

some_merged : (t : Parts) (x : ℕ) (xs : List ℕ) → is_empty (target_path t (x ∷ xs)) ≡ false
some_merged t x xs = elim (starts_with_slash (x ∷ xs)) as (λ b. is_empty (cond b (x ∷ xs) (merge_prefix t ++ x ∷ xs))
    ≡ false) [ true ↦ refl | false ↦ some_after (merge_prefix t) ]
  where
    some_after : (f : List ℕ) → is_empty (f ++ x ∷ xs) ≡ false
    some_after [] = refl
    some_after (y ∷ ys) = refl

empty_same : (s : Tests) (t : Parts) (path : List ℕ) → IsRooted t.authority t.path
    → (is_some t.authority && is_empty (target_path (prepared_parts s t) path)) ≡ (is_some t.authority && is_empty (target_path t path))
empty_same s t [] h = same_empty t.authority t.path h
empty_same s t (x ∷ xs) h = ap (λ b. is_some t.authority && b) (some_merged (prepared_parts s t) x xs ∙ sym (some_merged t x xs))

slash_same : (s : Tests) (d : Option (List ℕ)) (t : Parts) (path : List ℕ) → IsRooted t.authority t.path
    → becomes_slash d (normal_form s t).authority (target_path (prepared_parts s t) path) ≡ becomes_slash d t.authority (target_path t path)
slash_same s None t path h = refl
slash_same s (Some d) t path h = ap (λ b. b && is_empty (target_path (prepared_parts s t) path)) (normal_there s t) ∙ empty_same s t path h

scheme_under : (s : Tests) (t r : Parts) (scheme authority : Option (List ℕ)) → IsSpec s → Fits s t
    → form s ByScheme false (target_under (prepared_parts s t) r scheme authority)
    ≡ form s ByScheme false (target_under t r scheme authority)
unfolding normal_form form
scheme_under s t r (Some x) authority k f = refl
scheme_under s t r None (Some a) k f = rw (dropped-lowered t.scheme, scheme-stable t.scheme) refl
scheme_under s t r None None k f =
    let d = dropped_port Scheme t.scheme in
    let rooted = rooted_beside t.scheme t.authority t.path f.rules in
    rw (
      dropped-lowered t.scheme,
      scheme-stable t.scheme,
      authority_same s d t.authority k f.authority,
      slash_same s d t r.path rooted,
      normal_same s t r.path rooted,
    )
    refl

same_under : (s : Tests) (m : CanonMode) (t r : Parts) (scheme authority : Option (List ℕ)) → IsSpec s → Fits s t
    → normal_form_in s m (target_under (prepared_parts s t) r scheme authority) ≡ normal_form_in s m (target_under t r scheme authority)
same_under s Default t r scheme authority k f = form_under s t r scheme authority k f
same_under s Scheme t r scheme authority k f = scheme_under s t r scheme authority k f

pub same_canonical : (s : Tests) (m : CanonMode) (base reference : List ℕ) → IsSpec s → IsAbsolute s base
    → canonical_in s m (prepared s base) reference ≡ canonical_in s m base reference
unfolding target
same_canonical s m base reference k b =
    let e = split_is s (prepared s base) (prepared_parts s (split_of base)) k (prepared_splits s base k b) in
    let eb = split_is s base b.0 k b.1 in
    let f : Fits s (split_of base) = rw eb b.1.fits in
    let r = split_of reference in
    sym (canonical_in-text s m (prepared s base) reference)
    ∙ ap (λ p. recompose (normal_form_in s m (target p r))) e
    ∙ ap recompose (same_under s m (split_of base) r r.scheme r.authority k f)
    ∙ canonical_in-text s m base reference

pub same_answer : (s : Tests) (m : CanonMode) (base line : List ℕ) → IsSpec s → refusal s base ≡ None
    → answer_in s m (prepared s base) line ≡ answer_in s m base line
unfolding answer_in
same_answer s m base line k taken =
    ap (answer_by (bytes_fault (reference_fault s) line)) (same_canonical s m base line k (base_absolute s k base taken))

-- ---- it is taken where the base is
pub prepared_taken : (s : Tests) (base : List ℕ) → IsSpec s → refusal s base ≡ None → refusal s (prepared s base) ≡ None
unfolding refusal
prepared_taken s base k taken =
    let text = prepared s base in
    let valid = prepared_absolute s base k (base_absolute s k base taken) in
    ap (option_map description) ((of_bytes (absolute_fault s) (IsAbsolute s text) text (λ r. reference-utf8 s text (r.0, r.1))
    (absolute-law s k text)).1 valid)

-- ---- it is no longer than the base
shorter : (s : Tests) (t : Parts) → IsSpec s → Fits s t → IsSome t.scheme → length (recompose (prepared_parts s t)) ≤ length (recompose t)
unfolding normal_form form
shorter s t k f i =
    let scheme = length-scheme t.scheme in
    let authority = length-authorities s t.authority k f.authority in
    let path = path_short t.scheme t.authority t.path i f.rules in
    omega (arith, length-parts (prepared_parts s t), length-parts t)

pub prepared_short : (s : Tests) (base : List ℕ) → IsSpec s → IsAbsolute s base → length (prepared s base) ≤ length base
unfolding prepared
prepared_short s base k b =
    let e = split_is s base b.0 k b.1 in
    let short = shorter s b.0 k b.1.fits b.2 in
    rw e (omega (arith, ap length b.1.text))

-- ---- what is written
abbrev pub shown_text : Tests → List ℕ → List ℕ
shown_text s base = prefix_in s true (split_of base)
    ++ (prepared_path (is_some (split_of base).authority) (split_of base).path ++ delimited 63 (split_of base).query)

pub prepared_text : (s : Tests) (base : List ℕ) → IsSpec s → IsAbsolute s base → shown_text s base ≡ prepared s base
unfolding prepared recompose normal_form form
prepared_text s base k b =
    let t = split_of base in
    let none : t.fragment ≡ None = rw (split_is s base b.0 k b.1) (none-is b.0.fragment b.3) in
    let scheme = scheme_text (normal_form s t).scheme in
    let authority = authority_text (normal_form s t).authority in
    let path = prepared_path (is_some t.authority) t.path in
    append_assoc scheme authority (path ++ delimited 63 t.query)
    ∙ ap (λ q. scheme ++ (authority ++ (path ++ q)))
    (sym (ap (λ f. delimited 63 t.query ++ delimited 35 f) none ∙ append-nil (delimited 63 t.query)))

-- The written form is read back.
use Rattle.iri_link.proofs.Common.{◌≡◌, ℕ, true, cond, List, [], ◌∷◌, ◌++◌, Option, Some, None, map, refl, sym, ap, ◌∙◌, subst, arith, ◌==◌}
use Rattle.iri_link.proofs.Common.{◌||◌, list_all, All, flat_map, str_to_ascii_lowercase, IsUtf8, append-nil, All-head, All-tail, All-cons}
use Rattle.iri_link.proofs.Common.{All-nil, IsUtf8-append, IsUtf8-nil, Tests, IsSpec, lacks, delimited-utf8, HasReference, HasLinks}
use Rattle.iri_link.proofs.Common.{CanonMode, resolved_in, IsReadIn, both, by_test, is_pair_char, is_token, IsQuoted, done, plain, pair, LinkParam}
use Rattle.iri_link.proofs.Common.{LinkValue, quoted, IsParam, bare, valued, IsParams, none, param, link, IsElement, empty, element}
use Rattle.iri_link.proofs.Common.{IsField, last, more, escaped, written_param, written_link, written}
use Rattle.iri_grammar.specs.Parts.{IsAbsolute}
use Rattle.iri_grammar.proofs.authorities.AuthorityTexts.{one_byte-utf8}
use Rattle.iri_grammar.proofs.faults.FaultLaws.{reference-law, reference-utf8}
use Rattle.iri_normal.specs.NormalForm.{canonical_in}
use Rattle.iri_normal.proofs.canonical_texts.CanonicalTexts.{canonical_in-iri, canonical_in-own}
use Rattle.iri_link.proofs.GrammarLemmas.{one_list}
use Rattle.iri_link.proofs.ReferenceLemmas.{reference-closed}
use Rattle.iri_link.proofs.Utf8Lemmas.{escaped-utf8}
use Rattle.iri_link.specs.Written.{written_value}
use Rattle.iri_link.proofs.KeptLemmas.{IsKeptValue, IsKeptParam, HasKeptParams, token-utf8, field-kept}

escaped_read : (v : List ℕ) → list_all is_pair_char v ≡ true → IsQuoted (escaped v) v
escaped_read [] h = done
escaped_read (c ∷ cs) h =
    let k = both (is_pair_char c) (list_all is_pair_char cs) h in
    by_test c 34 (λ b. (c == 34) ≡ b → IsQuoted (cond (b || c == 92) (92 ∷ c ∷ escaped cs) (c ∷ escaped cs)) (c ∷ cs))
    (λ _ _. pair c (escaped cs) cs k.0 (escaped_read cs k.1))
    (λ _ e. by_test c 92 (λ b. (c == 92) ≡ b → IsQuoted (cond b (92 ∷ c ∷ escaped cs) (c ∷ escaped cs)) (c ∷ cs))
    (λ _ _. pair c (escaped cs) cs k.0 (escaped_read cs k.1))
    (λ _ f. plain c (escaped cs) cs (rw (k.0, e, f) refl) (escaped_read cs k.1)) refl) refl

param_read : (n : List ℕ) (v : Option (List ℕ)) → is_token n ≡ true → str_to_ascii_lowercase n ≡ n → IsKeptValue v → IsParam (n ++ written_value v) (record { name = n; value = v })
param_read n None t s k =
    subst (λ z. IsParam z (record { name = n; value = None })) (sym (append-nil n)) (subst (λ z. IsParam n (record { name = z; value = None })) s (bare n t))
param_read n (Some v) t s k =
    subst (λ z. IsParam (n ++ 61 ∷ 34 ∷ (escaped v ++ 34 ∷ [])) (record { name = z; value = Some v })) s
    (valued n [] [] (34 ∷ (escaped v ++ 34 ∷ [])) v t refl refl (quoted (escaped v) v (escaped_read v k.chars)))

params_read : (ps : List LinkParam) → All IsKeptParam ps → IsParams (flat_map written_param ps) ps
params_read [] h = none
params_read (q ∷ ps) h =
    let k = All-head IsKeptParam q ps h in
    param [] (32 ∷ []) (q.name ++ written_value q.value) (flat_map written_param ps) q ps refl refl (param_read q.name q.value k.token k.small k.value) (params_read ps (All-tail IsKeptParam q ps h))

link_read : (l : LinkValue) → lacks 62 l.target ≡ true → HasKeptParams l → IsElement (written_link l) (l ∷ [])
link_read l closed k =
    subst (λ z. IsElement z (l ∷ [])) (append-nil (written_link l))
    (element [] (written_link l) [] l refl (link l.target (flat_map written_param l.params) l.params closed (params_read l.params k)) refl)

blank_element : (x : List ℕ) (ls : List LinkValue) → IsElement x ls → IsElement (32 ∷ x) ls
blank_element x ls (empty a h) = empty (32 ∷ a) h
blank_element x ls (element a y b l h k i) = element (32 ∷ a) y b l h k i

blank_field : (x : List ℕ) (ls : List LinkValue) → IsField x ls → IsField (32 ∷ x) ls
blank_field x ls (last y ms h) = last (32 ∷ y) ms (blank_element y ms h)
blank_field x ls (more y z ms ns h k) = more (32 ∷ y) z ms ns (blank_element y ms h) k

-- what is kept of a field value is one list
pub one_kept : (s : Tests) (mode : CanonMode) (base x : List ℕ) (kept others : List LinkValue) → IsReadIn s mode base x kept → IsReadIn s mode base x others → kept ≡ others
one_kept s mode base x kept others a b =
    a.resolves ∙ (ap (map (resolved_in s mode base)) (one_list s x a.links b.links a.has.field b.has.field) ∙ sym b.resolves)

module _ (s : Tests) (k : IsSpec s) where
  one_read : (l : LinkValue) → HasReference s l → HasKeptParams l → IsElement (written_link l) (l ∷ [])
  one_read l valid kept = link_read l (reference-closed s k l.target valid) kept

  -- ---- as UTF-8
  value_utf8 : (v : Option (List ℕ)) → IsKeptValue v → IsUtf8 (written_value v)
  value_utf8 None h = IsUtf8-nil
  value_utf8 (Some v) h =
      delimited-utf8 61 (34 ∷ (escaped v ++ 34 ∷ [])) (omega arith)
      (delimited-utf8 34 (escaped v ++ 34 ∷ []) (omega arith) (IsUtf8-append (escaped v) (34 ∷ []) (escaped-utf8 v h.utf8) (one_byte-utf8 34 (omega arith))))

  params_utf8 : (ps : List LinkParam) → All IsKeptParam ps → IsUtf8 (flat_map written_param ps)
  params_utf8 [] h = IsUtf8-nil
  params_utf8 (p ∷ ps) h =
      let kept = All-head IsKeptParam p ps h in
      IsUtf8-append (written_param p) (flat_map written_param ps)
      (delimited-utf8 59 (32 ∷ (p.name ++ written_value p.value)) (omega arith)
      (delimited-utf8 32 (p.name ++ written_value p.value) (omega arith) (IsUtf8-append p.name (written_value p.value) (token-utf8 p.name kept.token) (value_utf8 p.value kept.value))))
      (params_utf8 ps (All-tail IsKeptParam p ps h))

  link_utf8 : (l : LinkValue) → HasReference s l → HasKeptParams l → IsUtf8 (written_link l)
  link_utf8 l valid kept =
      delimited-utf8 60 (l.target ++ 62 ∷ flat_map written_param l.params) (omega arith)
      (IsUtf8-append l.target (62 ∷ flat_map written_param l.params) (reference-utf8 s l.target ((reference-law s k l.target).0 valid))
      (delimited-utf8 62 (flat_map written_param l.params) (omega arith) (params_utf8 l.params kept)))

  -- link-values whose targets are references, and whose parameters are those of a field value
  written_as_field : (ls : List LinkValue) → All (HasReference s) ls → All HasKeptParams ls → IsField (written ls) ls × IsUtf8 (written ls)
  written_as_field [] v p = (last [] [] (empty [] refl), IsUtf8-nil)
  written_as_field (l ∷ []) v p =
      let a = All-head (HasReference s) l [] v in
      let b = All-head HasKeptParams l [] p in
      (last (written_link l) (l ∷ []) (one_read l a b), link_utf8 l a b)
  written_as_field (l ∷ m ∷ ls) v p =
      let a = All-head (HasReference s) l (m ∷ ls) v in
      let b = All-head HasKeptParams l (m ∷ ls) p in
      let w = written (m ∷ ls) in
      let i = written_as_field (m ∷ ls) (All-tail (HasReference s) l (m ∷ ls) v) (All-tail HasKeptParams l (m ∷ ls) p) in (
        more (written_link l) (32 ∷ w) (l ∷ []) (m ∷ ls) (one_read l a b) (blank_field w (m ∷ ls) i.0),
        IsUtf8-append (written_link l) (44 ∷ 32 ∷ w) (link_utf8 l a b) (delimited-utf8 44 (32 ∷ w) (omega arith) (delimited-utf8 32 w (omega arith) i.1)),
      )

  written_has : (ls : List LinkValue) → All (HasReference s) ls → All HasKeptParams ls → HasLinks s (written ls) ls
  written_has ls v p = let k = written_as_field ls v p in record { utf8 = k.1; field = k.0; valid = v }

  -- the written form of the link-values of a field value
  pub written_again : (x : List ℕ) (ls : List LinkValue) → HasLinks s x ls → HasLinks s (written ls) ls
  written_again x ls h = written_has ls h.valid (field-kept x ls h.field h.utf8)

  -- ---- with canonical targets
  module _ (mode : CanonMode) (base other : List ℕ) (absolute : IsAbsolute s base) where
    resolved_again : (l : LinkValue) → HasReference s l → HasReference s (resolved_in s mode base l) × (resolved_in s mode base l ≡ resolved_in s mode other (resolved_in s mode base l))
    resolved_again l h =
        let r = (reference-law s k l.target).0 h in
        let i = canonical_in-iri s mode base l.target k absolute r in
        ((reference-law s k (canonical_in s mode base l.target)).1 (i.0, i.1), ap (λ t. record { target = t; params = l.params }) (sym (canonical_in-own s mode base l.target other k absolute r)))

    resolved_kept : (ls : List LinkValue) → All (HasReference s) ls → All HasKeptParams ls
        → HasLinks s (written (map (resolved_in s mode base) ls)) (map (resolved_in s mode base) ls) × (map (resolved_in s mode base) ls ≡ map (resolved_in s mode other) (map (resolved_in s mode base) ls))
    resolved_kept ls v p = let i = each ls v p in (written_has (map (resolved_in s mode base) ls) i.0 i.1, i.2)
      where
        each : (ms : List LinkValue) → All (HasReference s) ms → All HasKeptParams ms
            → All (HasReference s) (map (resolved_in s mode base) ms) × All HasKeptParams (map (resolved_in s mode base) ms) × (map (resolved_in s mode base) ms ≡ map (resolved_in s mode other) (map (resolved_in s mode base) ms))
        each [] v p = (All-nil (HasReference s), All-nil HasKeptParams, refl)
        each (l ∷ ms) v p =
            let r = resolved_again l (All-head (HasReference s) l ms v) in
            let i = each ms (All-tail (HasReference s) l ms v) (All-tail HasKeptParams l ms p) in
            let rs = map (resolved_in s mode base) ms in (
              All-cons (HasReference s) (resolved_in s mode base l) rs r.0 i.0,
              All-cons HasKeptParams (resolved_in s mode base l) rs (All-head HasKeptParams l ms p) i.1,
              ap (λ z. z ∷ rs) r.1 ∙ ap (λ z. resolved_in s mode other (resolved_in s mode base l) ∷ z) i.2,
            )

    -- what is read of a field value is read again of its written form, against any base
    pub read_again : (x : List ℕ) (kept : List LinkValue) → IsReadIn s mode base x kept → IsReadIn s mode other (written kept) kept
    read_again x kept r =
        let h = r.has in
        let m = resolved_kept r.links h.valid (field-kept x r.links h.field h.utf8) in
        subst (λ ls. IsReadIn s mode other (written ls) ls) (sym r.resolves) (record { links = map (resolved_in s mode base) r.links; has = m.0; resolves = m.1 })

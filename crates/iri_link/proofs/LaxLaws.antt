-- What the strict reading takes is read alike.
use Rattle.iri_link.proofs.Common.{◌≡◌, ℕ, not, cond, true, false, List, [], ◌∷◌, Option, Some, None, map, refl, sym, ap, ◌∙◌, subst, ◌==◌, by_test, test_apart, All, All-head, All-tail}
use Rattle.iri_link.proofs.Common.{Tests, is_blank, is_token_char, LinkParam, LinkValue, HasReference, Phase, before_link, in_target, after_param}
use Rattle.iri_link.proofs.Common.{after_semicolon, in_name, after_name, after_equals, in_token, in_quoted, fault_from, field_fault, target_fault}
use Rattle.std.specs.Prelude.{filter, is_none}
use Rattle.iri_grammar.specs.Parts.{is_empty}
use Rattle.iri_link.specs.Phases.{in_pair, next}
use Rattle.iri_link.specs.Readings.{Reading, after, links_in, more, of_links, of_value}
unfoldable use Rattle.iri_link.specs.Readings.{reading}
use Rattle.iri_link.specs.declared.error.LinkKind.TheVariants.{NoTarget, NoParam, NoValue}
use Rattle.iri_link.specs.LaxReadings.{reads, has_reference, is_name_char, is_value_char, is_writable, is_writable_value, lax_links_in, lax_param, with_writable}
unfoldable use Rattle.iri_link.specs.LaxReadings.{lax_reading}
use Rattle.iri_link.proofs.FieldLemmas.{faultless_text, links_of_faultless, none_of, target_in}
use Rattle.iri_link.proofs.KeptLemmas.{HasKeptParams, IsKeptParam, IsKeptValue, field-kept}
use Rattle.iri_link.proofs.LaxLemmas.{param-bare}
use Rattle.iri_link.proofs.PhaseLemmas.{by_blank, with_text}
use Rattle.iri_link.proofs.RunLemmas.{when}
use Rattle.iri_link.proofs.TargetLemmas.{some-lacks}

-- what may follow a parameter, or nothing of it
by_follow : (c : ℕ) (P : ℕ → Type 0) → P 32 → P 9 → P 59 → P 44 → (is_blank c ≡ false → (c == 59) ≡ false → (c == 44) ≡ false → P c) → P c
by_follow c P a b d e other =
    when (is_blank c) (P c) (by_blank c P a b)
    (λ n. by_test c 59 (λ v. (c == 59) ≡ v → P c) (λ is _. subst P (sym is) d)
    (λ _ m. by_test c 44 (λ v. (c == 44) ≡ v → P c) (λ is _. subst P (sym is) e) (λ _ k. other n m k) refl) refl)

-- a character of a token in a name and in a value
record InBoth (c : ℕ) : Type 0 where
  blank : is_blank c ≡ false
  name : is_name_char c ≡ true
  value : is_value_char c ≡ true
  mark : (c == 34) ≡ false

token-both : (c : ℕ) → is_token_char c ≡ true → InBoth c
token-both c h =
    let a = test_apart is_token_char 32 c refl h in
    let b = test_apart is_token_char 9 c refl h in
    let d = test_apart is_token_char 61 c refl h in
    let e = test_apart is_token_char 59 c refl h in
    let f = test_apart is_token_char 44 c refl h in
    record { blank = rw (a, b) refl; name = rw (a, b, d, e, f) refl; value = rw (e, f) refl; mark = test_apart is_token_char 34 c refl h }

-- blanks at the end of a value go
blank_gone : (d : ℕ) (r q : Reading) → r ≡ with_text [] q → cond (not (is_empty r.text)) (more d r) r ≡ with_text [] q
blank_gone d r q e = rw e refl

value-trailing : (s : Tests) (t : List ℕ) → fault_from s after_param t ≡ None → lax_reading (reads in_token) t ≡ with_text [] (lax_reading (reads after_param) t)
unfolding fault_from lax_reading
value-trailing s [] h = refl
value-trailing s (c ∷ cs) h =
    by_follow c (λ d. fault_from s after_param (d ∷ cs) ≡ None → lax_reading (reads in_token) (d ∷ cs) ≡ with_text [] (lax_reading (reads after_param) (d ∷ cs)))
    (λ g. blank_gone 32 (lax_reading (reads in_token) cs) (lax_reading (reads after_param) cs) (value-trailing s cs g))
    (λ g. blank_gone 9 (lax_reading (reads in_token) cs) (lax_reading (reads after_param) cs) (value-trailing s cs g))
    (λ _. sym (param-bare (59 ∷ cs))) (λ _. sym (param-bare (44 ∷ cs)))
    (λ b m n g. let w : fault_from s after_param (c ∷ cs) ≡ Some (record { kind = NoParam; rest = c ∷ cs }) = rw (b, m, n) refl in cc) h

-- ---- byte by byte
abbrev Alike : Tests → Phase → List ℕ → Type 0
Alike s p t = fault_from s p t ≡ None → lax_reading (reads p) t ≡ reading p t

same_link : (s : Tests) (cs : List ℕ) → Alike s in_target cs → Alike s before_link (60 ∷ cs)
unfolding fault_from reading lax_reading
same_link s cs again h =
    let k = none_of (target_fault s cs) (fault_from s in_target cs) h in
    let o = (target_in s cs k.0).1 in
    let has = some-lacks 62 cs o.0 o.1 in
    rw has (ap (λ r. of_links (record { target = r.text; params = r.params } ∷ r.links)) (again k.1))

blank_last : (s : Tests) (cs : List ℕ) (d : ℕ) → Alike s after_param cs → fault_from s after_param cs ≡ None
    → cond (not (is_empty (lax_reading (reads in_token) cs).text)) (more d (lax_reading (reads in_token) cs)) (lax_reading (reads in_token) cs) ≡ reading after_param cs
blank_last s cs d again g =
    blank_gone d (lax_reading (reads in_token) cs) (lax_reading (reads after_param) cs) (value-trailing s cs g) ∙ (param-bare cs ∙ again g)

same : (s : Tests) (p : Phase) (t : List ℕ) → Alike s p t
unfolding fault_from reading lax_reading
same s p [] h = refl
same s before_link (c ∷ cs) h =
    by_test c 60 (λ v. (c == 60) ≡ v → Alike s before_link (c ∷ cs)) (λ is _. subst (λ d. Alike s before_link (d ∷ cs)) (sym is) (same_link s cs (same s in_target cs)))
    (λ _ k. when (is_blank c) (Alike s before_link (c ∷ cs))
    (by_blank c (λ d. Alike s before_link (d ∷ cs)) (λ g. same s before_link cs g) (λ g. same s before_link cs g))
    (λ b. by_test c 44 (λ v. (c == 44) ≡ v → Alike s before_link (c ∷ cs)) (λ is _. subst (λ d. Alike s before_link (d ∷ cs)) (sym is) (λ g. same s before_link cs g))
    (λ _ m g. let w : fault_from s before_link (c ∷ cs) ≡ Some (record { kind = NoTarget; rest = c ∷ cs }) = rw (b, m, k) refl in cc) refl)) refl h
same s in_target (c ∷ cs) h = ap (after in_target c) (same s (next in_target c) cs h)
same s in_quoted (c ∷ cs) h = ap (after in_quoted c) (same s (next in_quoted c) cs h)
same s in_pair (c ∷ cs) h = ap (after in_pair c) (same s in_quoted cs h)
same s after_param (c ∷ cs) h =
    by_follow c (λ d. Alike s after_param (d ∷ cs)) (same s after_param cs) (same s after_param cs) (same s after_semicolon cs) (same s before_link cs)
    (λ b m n g. let w : fault_from s after_param (c ∷ cs) ≡ Some (record { kind = NoParam; rest = c ∷ cs }) = rw (b, m, n) refl in cc) h
same s after_semicolon (c ∷ cs) h =
    when (is_token_char c) (Alike s after_semicolon (c ∷ cs))
    (λ t g. let i = token-both c t in
    let f : fault_from s after_semicolon (c ∷ cs) ≡ fault_from s in_name cs = rw t refl in
    rw (t, i.name, i.blank) (ap (lax_param c) (same s in_name cs (sym f ∙ g))))
    (λ t. by_follow c (λ d. Alike s after_semicolon (d ∷ cs)) (same s after_semicolon cs) (same s after_semicolon cs) (same s after_semicolon cs) (same s before_link cs)
    (λ b m n g. let w : fault_from s after_semicolon (c ∷ cs) ≡ Some (record { kind = NoParam; rest = c ∷ cs }) = rw (t, b, m, n) refl in cc)) h
same s in_name (c ∷ cs) h =
    when (is_token_char c) (Alike s in_name (c ∷ cs))
    (λ t g. let i = token-both c t in
    let f : fault_from s in_name (c ∷ cs) ≡ fault_from s in_name cs = rw t refl in
    rw (t, i.name) (ap (more c) (same s in_name cs (sym f ∙ g))))
    (λ t. by_test c 61 (λ v. (c == 61) ≡ v → Alike s in_name (c ∷ cs))
    (λ is _. subst (λ d. Alike s in_name (d ∷ cs)) (sym is) (λ g. ap (λ r. of_value (Some r.text) r) (same s after_equals cs g)))
    (λ _ k. by_follow c (λ d. Alike s in_name (d ∷ cs)) (same s after_name cs) (same s after_name cs) (same s after_semicolon cs) (same s before_link cs)
    (λ b m n g. let w : fault_from s in_name (c ∷ cs) ≡ Some (record { kind = NoParam; rest = c ∷ cs }) = rw (t, k, b, m, n) refl in cc)) refl) h
same s after_name (c ∷ cs) h =
    by_test c 61 (λ v. (c == 61) ≡ v → Alike s after_name (c ∷ cs))
    (λ is _. subst (λ d. Alike s after_name (d ∷ cs)) (sym is) (λ g. ap (λ r. of_value (Some r.text) r) (same s after_equals cs g)))
    (λ _ k. by_follow c (λ d. Alike s after_name (d ∷ cs)) (same s after_name cs) (same s after_name cs) (same s after_semicolon cs) (same s before_link cs)
    (λ b m n g. let w : fault_from s after_name (c ∷ cs) ≡ Some (record { kind = NoParam; rest = c ∷ cs }) = rw (k, b, m, n) refl in cc)) refl h
same s after_equals (c ∷ cs) h =
    by_test c 34 (λ v. (c == 34) ≡ v → Alike s after_equals (c ∷ cs))
    (λ is _. subst (λ d. Alike s after_equals (d ∷ cs)) (sym is) (λ g. same s in_quoted cs (none_of _ (fault_from s in_quoted cs) g).1))
    (λ _ k. when (is_token_char c) (Alike s after_equals (c ∷ cs))
    (λ t g. let i = token-both c t in
    let f : fault_from s after_equals (c ∷ cs) ≡ fault_from s in_token cs = rw (k, t) refl in
    rw (t, k, i.value, i.blank) (ap (more c) (same s in_token cs (sym f ∙ g))))
    (λ t. when (is_blank c) (Alike s after_equals (c ∷ cs)) (by_blank c (λ d. Alike s after_equals (d ∷ cs)) (same s after_equals cs) (same s after_equals cs))
    (λ b g. let w : fault_from s after_equals (c ∷ cs) ≡ Some (record { kind = NoValue; rest = c ∷ cs }) = rw (k, t, b) refl in cc))) refl h
same s in_token (c ∷ cs) h =
    when (is_token_char c) (Alike s in_token (c ∷ cs))
    (λ t g. let i = token-both c t in
    let f : fault_from s in_token (c ∷ cs) ≡ fault_from s in_token cs = rw t refl in
    rw (t, i.value, i.blank) (ap (more c) (same s in_token cs (sym f ∙ g))))
    (λ t. by_follow c (λ d. Alike s in_token (d ∷ cs)) (blank_last s cs 32 (same s after_param cs)) (blank_last s cs 9 (same s after_param cs))
    (same s after_semicolon cs) (same s before_link cs)
    (λ b m n g. let w : fault_from s in_token (c ∷ cs) ≡ Some (record { kind = NoParam; rest = c ∷ cs }) = rw (t, b, m, n) refl in cc)) h

-- ---- what can be written stays
value_written : (v : Option (List ℕ)) → IsKeptValue v → is_writable_value v ≡ true
value_written None h = refl
value_written (Some v) h = h.chars

params_written : (ps : List LinkParam) → All IsKeptParam ps → filter is_writable ps ≡ ps
params_written [] h = refl
params_written (p ∷ ps) h =
    let k = All-head IsKeptParam p ps h in
    let w : is_writable p ≡ true = rw k.token (value_written p.value k.value) in
    rw w (ap (λ l. p ∷ l) (params_written ps (All-tail IsKeptParam p ps h)))

links_written : (ls : List LinkValue) → All HasKeptParams ls → map with_writable ls ≡ ls
links_written [] k = refl
links_written (l ∷ ls) k =
    ap (λ p. record { target = l.target; params = p } ∷ map with_writable ls) (params_written l.params (All-head HasKeptParams l ls k))
    ∙ ap (λ r. l ∷ r) (links_written ls (All-tail HasKeptParams l ls k))

references : (s : Tests) (ls : List LinkValue) → All (HasReference s) ls → filter (has_reference s) ls ≡ ls
references s [] v = refl
references s (l ∷ ls) v =
    let valid : has_reference s l ≡ true = ap is_none (All-head (HasReference s) l ls v) in
    rw valid (ap (λ r. l ∷ r) (references s ls (All-tail (HasReference s) l ls v)))

pub left-alike : (s : Tests) (x : List ℕ) → field_fault s x ≡ None → map with_writable (lax_reading (reads before_link) x).links ≡ links_in x
left-alike s x h =
    let f = links_of_faultless s x h in
    ap (λ r. map with_writable r.links) (same s before_link x (faultless_text s x h).1) ∙ links_written (links_in x) (field-kept x (links_in x) f.field f.utf8)

pub lax-alike : (s : Tests) (x : List ℕ) → field_fault s x ≡ None → lax_links_in s x ≡ links_in x
lax-alike s x h = ap (filter (has_reference s)) (left-alike s x h) ∙ references s (links_in x) (links_of_faultless s x h).valid

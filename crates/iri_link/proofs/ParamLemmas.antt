-- Parameters, read piece by piece.
use Rattle.iri_link.proofs.Common.{IsValue, token, quoted, unquoted, ◌≡◌, ℕ, length, true, false, List, [], ◌∷◌, ◌++◌, Option, Some, None, refl, sym, ap, ◌∙◌, subst, append_assoc}
use Rattle.iri_link.proofs.Common.{◌==◌, str_to_ascii_lowercase, Tests, by_test, is_blank, is_token_char, is_token}
use Rattle.iri_link.proofs.Common.{bare, valued, after_param, after_semicolon, in_name, after_name}
use Rattle.iri_link.proofs.Common.{after_equals, fault_from, first_passes, IsRun, LinkParam, IsParam}
use Rattle.iri_link.specs.inside.ReadParams.{ReadsEquals}
use Rattle.iri_link.specs.declared.error.LinkKind.TheVariants.{NoParam, NoValue}
use Rattle.iri_link.proofs.PhaseLemmas.{fault-blanks, name-given, name-equals, value-given, string-given}
use Rattle.iri_link.proofs.QuotedLemmas.{IsCutQuoted, unquoted-token}

-- t is a value and a rest
pub record ReadsValue (t rest v : List ℕ) : Type 0 where
  pub prefix : List ℕ
  pub whole : t ≡ prefix ++ rest
  pub value : IsValue prefix v
  pub goes : (s : Tests) → fault_from s after_equals t ≡ fault_from s after_param rest

-- t is a parameter and a rest
pub record ReadsParam (t rest : List ℕ) (q : LinkParam) : Type 0 where
  pub prefix : List ℕ
  pub whole : t ≡ prefix ++ rest
  pub param : IsParam prefix q
  pub goes : (s : Tests) → fault_from s in_name t ≡ fault_from s after_param rest

-- ---- `=`
pub equals_read : (t a next following b rest : List ℕ) → IsRun is_blank t a next → next ≡ 61 ∷ following → IsRun is_blank following b rest → ReadsEquals t rest
equals_read t a next following b rest h e k = record {
  a = a;
  b = b;
  whole = h.whole ∙ ap (λ l. a ++ l) (e ∙ ap (λ l. 61 ∷ l) k.whole);
  before = h.all;
  following = k.all;
  ends = k.ends;
  goes = λ s.
      ap (fault_from s after_name) h.whole ∙ (fault-blanks s after_name refl a next h.all
      ∙ (ap (fault_from s after_name) e ∙ (ap (λ o. o.0) (name-equals s following)
      ∙ (ap (fault_from s after_equals) k.whole ∙ fault-blanks s after_equals refl b rest k.all))));
}

-- where no `=` follows, a name ends a parameter
named-ends : (s : Tests) (t : List ℕ) → first_passes is_blank t ≡ false → first_passes (λ c. c == 61) t ≡ false → fault_from s after_name t ≡ fault_from s after_param t
unfolding fault_from
named-ends s [] h k = refl
named-ends s (c ∷ cs) h k =
    by_test c 59 (λ b. (c == 59) ≡ b → fault_from s after_name (c ∷ cs) ≡ fault_from s after_param (c ∷ cs)) (λ _ e. rw (k, h, e) refl)
    (λ _ e. by_test c 44 (λ b. (c == 44) ≡ b → fault_from s after_name (c ∷ cs) ≡ fault_from s after_param (c ∷ cs)) (λ _ f. rw (k, h, e, f) refl) (λ _ f. rw (k, h, e, f) refl) refl) refl

pub no_equals : (s : Tests) (t a next : List ℕ) → IsRun is_blank t a next → first_passes (λ c. c == 61) next ≡ false → fault_from s after_name t ≡ fault_from s after_param t
no_equals s t a next h e =
    ap (fault_from s after_name) h.whole ∙ (fault-blanks s after_name refl a next h.all
    ∙ (named-ends s next h.ends e ∙ (sym (fault-blanks s after_param refl a next h.all) ∙ sym (ap (fault_from s after_param) h.whole))))

-- ---- one parameter
pub token-from_run : (t run rest : List ℕ) → IsRun is_token_char t run rest → first_passes is_token_char t ≡ true → is_token run ≡ true
token-from_run t [] rest h b = let n : first_passes is_token_char t ≡ false = ap (first_passes is_token_char) h.whole ∙ h.ends in cc
token-from_run t (c ∷ run) rest h b = h.all

-- ---- values
pub no_value : (s : Tests) (t : List ℕ) → first_passes (λ c. c == 34) t ≡ false → first_passes is_blank t ≡ false → first_passes is_token_char t ≡ false
    → fault_from s after_equals t ≡ Some (record { kind = NoValue; rest = t })
unfolding fault_from
no_value s [] a b d = refl
no_value s (c ∷ cs) a b d = rw (a, d, b) refl

pub token_value : (t run rest : List ℕ) → IsRun is_token_char t run rest → first_passes is_token_char t ≡ true → ReadsValue t rest (unquoted run)
token_value t run rest h b =
    let is : IsValue run run = token run (token-from_run t run rest h b) in
    record {
      prefix = run;
      whole = h.whole;
      value = subst (IsValue run) (sym (unquoted-token run h.all)) is;
      goes = λ s. ap (fault_from s after_equals) h.whole ∙ ap (λ o. o.0) (value-given s run run rest is h.ends);
    }

pub string_value : (t inner raw rest : List ℕ) → t ≡ 34 ∷ inner → IsCutQuoted inner raw rest → ReadsValue t rest (unquoted raw)
string_value t inner raw rest e h =
    let whole : t ≡ (34 ∷ (raw ++ 34 ∷ [])) ++ rest = e ∙ ap (λ l. 34 ∷ l) (h.whole ∙ sym (append_assoc raw (34 ∷ []) rest)) in
    record {
      prefix = 34 ∷ (raw ++ 34 ∷ []);
      whole = whole;
      value = quoted raw (unquoted raw) h.text;
      goes = λ s. ap (fault_from s after_equals) whole ∙ ap (λ o. o.0) (string-given s raw (unquoted raw) rest h.text);
    }

-- ---- names and values
pub name_goes : (s : Tests) (t run rest : List ℕ) → IsRun is_token_char t run rest → fault_from s in_name t ≡ fault_from s after_name rest
name_goes s t run rest h = ap (fault_from s in_name) h.whole ∙ ap (λ o. o.0) (name-given s run rest h.all h.ends)

pub bare_read : (t run rest n : List ℕ) (v : Option (List ℕ)) → IsRun is_token_char t run rest → first_passes is_token_char t ≡ true → n ≡ str_to_ascii_lowercase run → v ≡ None
    → ((s : Tests) → fault_from s after_name rest ≡ fault_from s after_param rest) → ReadsParam t rest (record { name = n; value = v })
bare_read t run rest n v h b e f goes = record {
  prefix = run;
  whole = h.whole;
  param = rw (e, f) (bare run (token-from_run t run rest h b));
  goes = λ s. name_goes s t run rest h ∙ goes s;
}

pub valued_read : (t run mid following rest n v : List ℕ) (o : Option (List ℕ)) → IsRun is_token_char t run mid → first_passes is_token_char t ≡ true → n ≡ str_to_ascii_lowercase run → o ≡ Some v
    → ReadsEquals mid following → ReadsValue following rest v → ReadsParam t rest (record { name = n; value = o })
valued_read t run mid following rest n v o h b e f k r = record {
  prefix = run ++ (k.a ++ 61 ∷ (k.b ++ r.prefix));
  whole =
      h.whole ∙ (ap (λ l. run ++ l) (k.whole ∙ (ap (λ l. k.a ++ 61 ∷ (k.b ++ l)) r.whole ∙ (ap (λ l. k.a ++ 61 ∷ l) (sym (append_assoc k.b r.prefix rest)) ∙ sym (append_assoc k.a (61 ∷ (k.b ++ r.prefix)) rest))))
      ∙ sym (append_assoc run (k.a ++ 61 ∷ (k.b ++ r.prefix)) rest));
  param = rw (e, f) (valued run k.a k.b r.prefix v (token-from_run t run mid h b) k.before k.following r.value);
  goes = λ s. name_goes s t run mid h ∙ (k.goes s ∙ r.goes s);
}

-- ---- what follows a parameter, and a name that begins
pub semicolon_begun : (s : Tests) (t : List ℕ) → first_passes is_token_char t ≡ true → fault_from s after_semicolon t ≡ fault_from s in_name t
unfolding fault_from
semicolon_begun s [] h = cc
semicolon_begun s (c ∷ cs) h = rw h refl

pub semicolon_ready : (s : Tests) (t : List ℕ) → first_passes is_blank t ≡ false → first_passes is_token_char t ≡ false → fault_from s after_semicolon t ≡ fault_from s after_param t
unfolding fault_from
semicolon_ready s [] h k = refl
semicolon_ready s (c ∷ cs) h k =
    by_test c 59 (λ b. (c == 59) ≡ b → fault_from s after_semicolon (c ∷ cs) ≡ fault_from s after_param (c ∷ cs)) (λ e _. let n : (c == 44) ≡ false = ap (λ d. d == 44) e in let m : (c == 59) ≡ true = ap (λ d. d == 59) e in rw (k, h, m, n) refl)
    (λ _ e. by_test c 44 (λ b. (c == 44) ≡ b → fault_from s after_semicolon (c ∷ cs) ≡ fault_from s after_param (c ∷ cs)) (λ _ f. rw (k, h, e, f) refl) (λ _ f. rw (k, h, e, f) refl) refl) refl

pub ready_semicolon : (s : Tests) (t : List ℕ) → fault_from s after_param (59 ∷ t) ≡ fault_from s after_semicolon t
unfolding fault_from
ready_semicolon s t = refl

pub no_param : (s : Tests) (t : List ℕ) → first_passes is_blank t ≡ false → first_passes (λ c. c == 59) t ≡ false → first_passes (λ c. c == 44) t ≡ false
    → (length t == 0) ≡ false → fault_from s after_param t ≡ Some (record { kind = NoParam; rest = t })
unfolding fault_from
no_param s [] h k e some = cc
no_param s (c ∷ cs) h k e some = rw (h, k, e) refl

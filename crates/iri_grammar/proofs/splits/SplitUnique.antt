-- A text has at most one split, and it is UTF-8; it is a URI or a relative reference, and never both.
use Rattle.iri_grammar.proofs.Common.{◌≡◌, ◌↔◌, inl, inr, ℕ, ◌<◌, Bool, true, false, List, [], ◌∷◌, Option, Some, None, refl, sym, ◌∙◌, ap}
use Rattle.iri_grammar.proofs.Common.{subst, arith, IsSome, IsNone, IsUtf8, IsUtf8-from_ascii, IsUtf8-append, nat_tests, Tests, IsSpec}
use Rattle.iri_grammar.proofs.Common.{path_char, query_char, fragment_char, is_ascii_path, is_ascii_pchar, is_ascii_query}
use Rattle.iri_grammar.proofs.Common.{is_ascii_reg_name, is_ascii_unreserved, is_sub_delim, text_over, if_there, is_scheme, is_scheme_char}
use Rattle.iri_grammar.proofs.Common.{is_query, is_authority, lacks, delimited, Parts, Fits, Splits, IsReference, IsIri, IsRelative}
use Rattle.iri_grammar.proofs.Common.{recompose, scheme_text, authority_text, split_of}
use Rattle.std.proofs.Common.{◌⊎◌}
use Rattle.iri_grammar.proofs.splits.SplitLaws.{Delimiters, split_parts, scheme-chars}
use Rattle.iri_grammar.proofs.authorities.AuthorityTexts.{IsForeign, authority-lacks, hash-foreign, slash-foreign, delimiter-foreign, over_text-lacks}
use Rattle.iri_grammar.proofs.authorities.AuthorityTexts.{text_over-utf8, authority-utf8, nothing-utf8, one_byte-utf8, delimited-utf8, all_below}

-- ---- the parts of a tuple that fits
authorities-lack : (s : Tests) (c : ℕ) (o : Option (List ℕ)) → IsForeign s c → if_there (is_authority s) o ≡ true
    → if_there (lacks c) o ≡ true
authorities-lack s c None f h = refl
authorities-lack s c (Some xs) f h = authority-lacks s c xs f h

pub path_apart : (s : Tests) → IsSpec s → (path_char s 35 ≡ false) × (path_char s 63 ≡ false)
unfolding path_char is_ascii_path is_ascii_pchar is_ascii_reg_name is_ascii_unreserved is_sub_delim
path_apart s k = (rw (k.ucs_ascii 35 (omega arith)) refl, rw (k.ucs_ascii 63 (omega arith)) refl)

query_apart : (s : Tests) → IsSpec s → query_char s 35 ≡ false
unfolding query_char is_ascii_query is_ascii_pchar is_ascii_reg_name is_ascii_unreserved is_sub_delim
query_apart s k = rw (k.ucs_ascii 35 (omega arith), k.priv_ascii 35 (omega arith)) refl

pub queries-lack : (s : Tests) (o : Option (List ℕ)) → IsSpec s → if_there (is_query s) o ≡ true → if_there (lacks 35) o ≡ true
queries-lack s None k h = refl
queries-lack s (Some xs) k h = over_text-lacks (query_char s) 35 xs (omega arith) (query_apart s k) refl refl h

pub fits-delimiters : (s : Tests) (p : Parts) → IsSpec s → Fits s p → Delimiters p
fits-delimiters s p k f =
    let a = path_apart s k in
    record {
      scheme = f.scheme;
      authority_hash = authorities-lack s 35 p.authority (hash-foreign s k) f.authority;
      authority_delimiter = authorities-lack s 63 p.authority (delimiter-foreign s k) f.authority;
      authority_slash = authorities-lack s 47 p.authority (slash-foreign s k) f.authority;
      path_hash = over_text-lacks (path_char s) 35 p.path (omega arith) a.0 refl refl f.path;
      path_delimiter = over_text-lacks (path_char s) 63 p.path (omega arith) a.1 refl refl f.path;
      query_hash = queries-lack s p.query k f.query;
      rules = f.rules;
    }

-- the split is the function
pub split_is : (s : Tests) (t : List ℕ) (p : Parts) → IsSpec s → Splits s t p → split_of t ≡ p
split_is s t p k h = ap split_of (sym h.text) ∙ split_parts p.scheme p.authority p.path p.query p.fragment (fits-delimiters s p k h.fits)

pub one_split : (s : Tests) → IsSpec s → (t : List ℕ) (a b : Parts) → Splits s t a → Splits s t b → a ≡ b
one_split s k t a b ha hb = sym (split_is s t a k ha) ∙ split_is s t b k hb

-- ---- kinds of references
by_scheme : (s : Tests) (t : List ℕ) (p : Parts) (o : Option (List ℕ)) → p.scheme ≡ o → Splits s t p → IsIri s t ⊎ IsRelative s t
by_scheme s t p None e h = inr (p, h, rw e refl)
by_scheme s t p (Some x) e h = inl (p, h, rw e refl)

pub reference-kinds : (s : Tests) (t : List ℕ) → IsReference s t ↔ (IsIri s t ⊎ IsRelative s t)
reference-kinds s t = (λ h. by_scheme s t h.0 h.0.scheme refl h.1, λ k. elim k [ inl i ↦ (i.0, i.1) | inr r ↦ (r.0, r.1) ])

some_or_none : (o : Option (List ℕ)) → IsSome o → IsNone o → ⊥
some_or_none None i n = cc
some_or_none (Some x) i n = cc

pub never_both : (s : Tests) → IsSpec s → (t : List ℕ) → IsIri s t → IsRelative s t → ⊥
never_both s k t i r = some_or_none r.0.scheme (subst (λ p. IsSome p.scheme) (one_split s k t i.0 r.0 i.1 r.1) i.2) r.2

-- ---- a text with a split is UTF-8
pub scheme_char-below : (c : ℕ) → is_scheme_char c ≡ true → c < 128
unfolding is_scheme_char
scheme_char-below c h = grind (arith, nat_tests)

pub scheme-utf8 : (xs : List ℕ) → is_scheme xs ≡ true → IsUtf8 xs
scheme-utf8 xs h = IsUtf8-from_ascii xs (all_below is_scheme_char scheme_char-below xs (scheme-chars xs h))

scheme_text-utf8 : (o : Option (List ℕ)) → if_there is_scheme o ≡ true → IsUtf8 (scheme_text o)
scheme_text-utf8 None h = nothing-utf8
scheme_text-utf8 (Some xs) h = IsUtf8-append xs (58 ∷ []) (scheme-utf8 xs h) (one_byte-utf8 58 (omega arith))

authority_text-utf8 : (s : Tests) (o : Option (List ℕ)) → if_there (is_authority s) o ≡ true → IsUtf8 (authority_text o)
authority_text-utf8 s None h = nothing-utf8
authority_text-utf8 s (Some xs) h = delimited-utf8 47 (47 ∷ xs) (omega arith) (delimited-utf8 47 xs (omega arith) (authority-utf8 s xs h))

pub part-utf8 : (p : ℕ → Bool) (c : ℕ) (o : Option (List ℕ)) → c < 128 → if_there (text_over p) o ≡ true → IsUtf8 (delimited c o)
part-utf8 p c None l h = nothing-utf8
part-utf8 p c (Some xs) l h = delimited-utf8 c xs l (text_over-utf8 p xs h)

recompose-utf8 : (s : Tests) (p : Parts) → Fits s p → IsUtf8 (recompose p)
unfolding recompose
recompose-utf8 s p f =
    IsUtf8-append (scheme_text p.scheme) _ (scheme_text-utf8 p.scheme f.scheme)
    (IsUtf8-append (authority_text p.authority) _ (authority_text-utf8 s p.authority f.authority)
    (IsUtf8-append p.path _ (text_over-utf8 (path_char s) p.path f.path)
    (IsUtf8-append (delimited 63 p.query) _ (part-utf8 (query_char s) 63 p.query (omega arith) f.query)
    (part-utf8 (fragment_char s) 35 p.fragment (omega arith) f.fragment))))

pub splits-utf8 : (s : Tests) (t : List ℕ) (p : Parts) → Splits s t p → IsUtf8 t
splits-utf8 s t p h = subst (λ z. IsUtf8 z) h.text (recompose-utf8 s p h.fits)

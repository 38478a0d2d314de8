-- Prefixes of bases and targets.
use Rattle.iri_normal.proofs.Common.{◌≡◌, ℕ, ◌≤◌, ◌+◌, Bool, List, [], ◌++◌, Option, Some, None, true, false, length, take, refl, sym, ◌∙◌}
use Rattle.iri_normal.proofs.Common.{ap, subst, arith, append_assoc, append-nil, length-append, take-append_seam, Tests, IsSpec, path_char}
use Rattle.iri_normal.proofs.Common.{delimited, IsUtf8, IsCharBoundary, Parts, Fits, Splits, path_rules, recompose, scheme_text}
use Rattle.iri_normal.proofs.Common.{authority_text, split_of, recompose_split, ended, over-from_text, pct, path_percent, is_normalizing}
use Rattle.iri_normal.proofs.Common.{form, part_in, path_in, IsPrefix, prefix_in, target, Mode, Plain, Normal, Preserving, ByScheme}
use Rattle.iri_grammar.proofs.splits.SplitUnique.{splits-utf8}
use Rattle.iri_normal.specs.Modes.{is_by_scheme}
use Rattle.std.proofs.lemmas.Str.{IsCharBoundary-from_take}

-- a target with neither scheme nor authority of its own has the base's prefix
pub prefix-kept : (s : Tests) (b r : Parts) (o : Option (List ℕ)) → r.scheme ≡ None → r.authority ≡ None → IsPrefix s b o
    → IsPrefix s (target b r) o
unfolding target
prefix-kept s b r o h k p = rw (h, k) p

-- what follows the prefix of a text
abbrev pub rest : Parts → List ℕ
rest p = p.path ++ (delimited 63 p.query ++ delimited 35 p.fragment)

pub prefix-cut : (p : Parts) → recompose p ≡ (scheme_text p.scheme ++ authority_text p.authority) ++ rest p
unfolding recompose
prefix-cut p = sym (append_assoc (scheme_text p.scheme) (authority_text p.authority) (rest p))

pub text-cut : (t : List ℕ) → t ≡ (scheme_text (split_of t).scheme ++ authority_text (split_of t).authority) ++ rest (split_of t)
text-cut t = sym (recompose_split t) ∙ prefix-cut (split_of t)

-- the recomposition of a form from its prefix on, without scheme rules
put : (a b tail p : List ℕ) → p ≡ a ++ b → p ++ tail ≡ a ++ (b ++ tail)
put a b tail p e = ap (λ l. l ++ tail) e ∙ append_assoc a b tail

pub prefix-form : (s : Tests) (mode : Mode) (whole : Bool) (t : Parts) (p : List ℕ) → is_by_scheme mode ≡ false
    → p ≡ prefix_in s (is_normalizing mode) t → p ++ (path_in s mode whole t.authority t.path
    ++ (delimited 63 (part_in (is_normalizing mode) (pct s) t.query) ++ delimited 35 (part_in (is_normalizing mode) (pct s) t.fragment)))
    ≡ recompose (form s mode whole t)
unfolding form recompose
prefix-form s Plain whole t p h e = put _ _ _ p e
prefix-form s Normal whole t p h e = put _ _ _ p e
prefix-form s Preserving whole t p h e = put _ _ _ p e
prefix-form s ByScheme whole t p h e = cc

-- scheme and authority with nothing after them
abbrev alone : Parts → Parts
alone p = record { scheme = p.scheme; authority = p.authority; path = []; query = None; fragment = None }

alone-rules : (scheme authority : Option (List ℕ)) → path_rules scheme authority [] ≡ true
alone-rules scheme (Some a) = refl
alone-rules (Some x) None = refl
alone-rules None None = refl

alone-text : (p : Parts) → recompose (alone p) ≡ scheme_text p.scheme ++ authority_text p.authority
unfolding recompose
alone-text p = ap (λ l. scheme_text p.scheme ++ l) (append-nil (authority_text p.authority))

alone-splits : (s : Tests) (p : Parts) → IsSpec s → Fits s p → Splits s (scheme_text p.scheme ++ authority_text p.authority) (alone p)
alone-splits s p k f = record {
  fits = record {
    scheme = f.scheme;
    authority = f.authority;
    path = over-from_text (path_char s) [] (path_percent s k) ended;
    query = refl;
    fragment = refl;
    rules =
        alone-rules p.scheme p.authority;
  };
  text = alone-text p;
}

-- where a text is cut after its prefix
cut-length : (s : Tests) (t : List ℕ) → length t ≡ length (prefix_in s false (split_of t)) + length (rest (split_of t))
cut-length s t = ap length (text-cut t) ∙ length-append (prefix_in s false (split_of t)) (rest (split_of t))

pub cut-inside : (s : Tests) (t : List ℕ) → length (prefix_in s false (split_of t)) ≤ length t
cut-inside s t = omega (arith, cut-length s t)

pub cut-directory : (s : Tests) (t : List ℕ) → take (length (prefix_in s false (split_of t))) t ≡ prefix_in s false (split_of t)
cut-directory s t = ap (take (length (prefix_in s false (split_of t)))) (text-cut t)
    ∙ take-append_seam (prefix_in s false (split_of t)) (rest (split_of t))

pub cut-boundary : (s : Tests) (t : List ℕ) → IsSpec s → Fits s (split_of t) → IsUtf8 t
    → IsCharBoundary t (length (prefix_in s false (split_of t)))
cut-boundary s t k f u =
    let directory = prefix_in s false (split_of t) in
    IsCharBoundary-from_take t (length directory) u (cut-inside s t)
    (subst IsUtf8 (sym (cut-directory s t)) (splits-utf8 s directory (alone (split_of t)) (alone-splits s (split_of t) k f)))

-- the prefix of parts that are given one by one
pub prefix-parts : (s : Tests) (scheme authority : Option (List ℕ)) (q p : Parts) → scheme ≡ q.scheme → authority ≡ q.authority → q ≡ p
    → scheme_text scheme ++ authority_text authority ≡ prefix_in s false p
prefix-parts s scheme authority q p h k e =
    ap (λ x. scheme_text x ++ authority_text authority) h
    ∙ (ap (λ x. scheme_text q.scheme ++ authority_text x) k ∙ ap (prefix_in s false) e)

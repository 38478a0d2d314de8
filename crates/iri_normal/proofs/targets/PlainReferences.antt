-- References in which nothing changes.
use Rattle.iri_normal.proofs.Common.{◌≡◌, ℕ, Bool, true, false, cond, not, ◌||◌, List, [], ◌∷◌, ◌++◌, Option, Some, None, refl, sym, ◌∙◌}
use Rattle.iri_normal.proofs.Common.{ap, ◌≤◌, append_assoc, append-nil, arith, drop, length, subst, to_ascii_lowercase, ◌==◌, is_some}
use Rattle.iri_normal.proofs.Common.{MatchOption, list_all, or_parts, not-true, or-true, Tests, IsSpec, if_there, is_fragment, is_query}
use Rattle.iri_normal.proofs.Common.{is_scheme, is_scheme_char, lacks, delimited, Parts, Fits, authority_text, is_empty, path_rules}
use Rattle.iri_normal.proofs.Common.{recompose, scheme_text, starts_with_slash, starts_with_slashes, split_of, both, lacks-append}
use Rattle.iri_normal.proofs.Common.{scheme-chars, normal_authority, pct, whole_triplets, pct_delimiter, whole_plain, fragment-whole}
use Rattle.iri_normal.proofs.Common.{path-whole, query-whole, has_dot_segment, guard, lowered, option_map, canonical, normal_form, eqb-true}
use Rattle.iri_normal.proofs.Common.{absolute_fault, absolute-law, split_is, normal_nil, IsSome, normal_path, IsPrefix, prefix_in}
use Rattle.iri_normal.proofs.Common.{ends_at_slash, merge_prefix, target, target_path, Normal}
use Rattle.iri_grammar.proofs.authorities.AuthorityTexts.{all_below}
use Rattle.iri_grammar.proofs.hosts.LiteralChars.{all-join}
use Rattle.iri_grammar.proofs.splits.SplitLaws.{scheme-lacks, delimited-lacks}
use Rattle.iri_grammar.proofs.splits.SplitUnique.{scheme_char-below}
use Rattle.iri_grammar.specs.Seen.{is_plain_authority, is_small}
use Rattle.iri_normal.proofs.segments.DotKinds.{nothing-is_no_dot}
use Rattle.iri_normal.proofs.normal_forms.Prefixes.{prefix-form, rest, text-cut}
use Rattle.iri_normal.proofs.segments.CutPaths.{dot_in_parts}
use Rattle.iri_normal.proofs.removal.Stability.{no_dots_same}
use Rattle.iri_normal.proofs.triplets.PathTriplets.{pct-heads}
use Rattle.iri_normal.specs.Target.{or_base}
use Rattle.iri_normal.specs.inside.Unchanged.{EndsCanonical, EndsParts, PutsPath, IsLowered, KeepsPrefix, LacksTriplets, StandBefore}
use Rattle.iri_normal.specs.inside.Unchanged.{is_plain_prefix, lacks_triplets_and_dots}
use Rattle.iri_percent.proofs.forms.PlainTexts.{pct-prefix, pct-same, pct-delimited, plain-ascii, plain-lacks, plain_authority}
use Rattle.iri_percent.proofs.forms.PlainTexts.{small-lowered}
use Rattle.iri_percent.proofs.units.OfParts.{lacks-whole, whole-append}
use Rattle.iri_percent.specs.Triplets.{as_it_is}
use Rattle.iri_percent.specs.Units.{IsOutsideTriplets}
use Rattle.std.proofs.Math.Seq.{drop-append_seam}
use Rattle.std.proofs.lemmas.List.{map-append, nil_from_length}
use Rattle.std.proofs.lemmas.Str.{IsAscii-append}
use Rattle.std.proofs.lemmas.Str.Ascii.{IsAscii-cons, IsAscii-nil}
use Rattle.std.specs.Prelude.{IsNone}
use Rattle.std.specs.Str.{IsAscii}

-- ---- tests
pub none-noted : (a b : Bool) → not (a || b) ≡ true → (a ≡ false) × (b ≡ false)
none-noted a b h = or_parts a b (not-true (a || b) h)

-- ---- scheme and authority that stay
scheme-percent : (o : Option (List ℕ)) → if_there is_scheme o ≡ true → lacks 37 (scheme_text o) ≡ true
unfolding is_scheme_char
scheme-percent None h = refl
scheme-percent (Some x) h = lacks-append 37 x (58 ∷ []) (scheme-lacks 37 x refl h) refl

authority-percent : (o : Option (List ℕ)) → if_there is_plain_authority o ≡ true → lacks 37 (authority_text o) ≡ true
authority-percent None h = refl
authority-percent (Some a) h = plain-lacks a h

-- ---- scheme and authority in lower case
scheme-ascii : (x : List ℕ) → is_scheme x ≡ true → IsAscii x
scheme-ascii x h = all_below is_scheme_char scheme_char-below x (scheme-chars x h)

scheme_text-ascii : (o : Option (List ℕ)) → if_there is_scheme o ≡ true → IsAscii (scheme_text o)
scheme_text-ascii None h = IsAscii-nil
scheme_text-ascii (Some x) h = IsAscii-append x (58 ∷ []) (scheme-ascii x h) (IsAscii-cons 58 [] (omega arith) IsAscii-nil)

authority_text-ascii : (o : Option (List ℕ)) → if_there is_plain_authority o ≡ true → IsAscii (authority_text o)
authority_text-ascii None h = IsAscii-nil
authority_text-ascii (Some a) h = IsAscii-cons 47 (47 ∷ a) (omega arith) (IsAscii-cons 47 a (omega arith) (plain-ascii a h))

scheme_text-lowered : (o : Option (List ℕ)) → scheme_text (option_map lowered o) ≡ lowered (scheme_text o)
scheme_text-lowered None = refl
scheme_text-lowered (Some x) = sym (map-append to_ascii_lowercase x (58 ∷ []))

authority_text-lowered : (s : Tests) (o : Option (List ℕ)) → if_there is_plain_authority o ≡ true
    → authority_text (option_map (normal_authority s) o) ≡ lowered (authority_text o)
authority_text-lowered s None h = refl
authority_text-lowered s (Some a) h = ap (λ x. 47 ∷ 47 ∷ x) (plain_authority s a h)

prefix-lowered : (s : Tests) (r : Parts) → if_there is_plain_authority r.authority ≡ true → prefix_in s true r ≡ lowered (prefix_in s false r)
prefix-lowered s r h =
    ap (λ x. x ++ authority_text (option_map (normal_authority s) r.authority)) (scheme_text-lowered r.scheme)
    ∙ (ap (λ x. lowered (scheme_text r.scheme) ++ x) (authority_text-lowered s r.authority h)
    ∙ sym (map-append to_ascii_lowercase (scheme_text r.scheme) (authority_text r.authority)))

prefix-percent : (s : Tests) (r : Parts) → Fits s r → if_there is_plain_authority r.authority ≡ true → lacks 37 (prefix_in s false r) ≡ true
prefix-percent s r f h =
    lacks-append 37 (scheme_text r.scheme) (authority_text r.authority) (scheme-percent r.scheme f.scheme) (authority-percent r.authority h)

scheme_text-small : (o : Option (List ℕ)) → if_there (list_all is_small) o ≡ true → list_all is_small (scheme_text o) ≡ true
scheme_text-small None h = refl
scheme_text-small (Some x) h = all-join is_small x (58 ∷ []) h refl

authority_text-small : (o : Option (List ℕ)) → if_there (list_all is_small) o ≡ true → list_all is_small (authority_text o) ≡ true
authority_text-small None h = refl
authority_text-small (Some a) h = h

pub plain-prefix : (s : Tests) (r : Parts) → Fits s r → if_there (list_all is_small) r.scheme ≡ true → if_there (list_all is_small) r.authority ≡ true
    → if_there is_plain_authority r.authority ≡ true → KeepsPrefix s r
plain-prefix s r f a b p = (
  prefix-lowered s r p ∙ small-lowered (prefix_in s false r)
      (all-join is_small (scheme_text r.scheme) (authority_text r.authority) (scheme_text-small r.scheme a) (authority_text-small r.authority b)),
  prefix-percent s r f p,
)

-- ---- paths without dot segments
path-form : (s : Tests) (a : Option (List ℕ)) (p : List ℕ) → IsSpec s → has_dot_segment p ≡ false → whole_triplets p ≡ true
    → (is_some a || not (starts_with_slashes p)) ≡ true → normal_path s a p ≡ pct s p
unfolding normal_path
path-form s a p k d w g =
    ap (λ q. guard (pct s q) (is_some a)) (no_dots_same p d)
    ∙ (ap (λ b. cond (is_some a || not b) (pct s p) (47 ∷ 46 ∷ pct s p)) (pct-heads s p k w)
    ∙ ap (λ b. cond b (pct s p) (47 ∷ 46 ∷ pct s p)) g)

no_dots : (directory path : List ℕ) → has_dot_segment directory ≡ false → ends_at_slash directory ≡ true → has_dot_segment path ≡ false
    → has_dot_segment (directory ++ path) ≡ false
no_dots directory path f e d = dot_in_parts directory path (ap (λ b. is_empty path || b) e ∙ or-true (is_empty path)) ∙ rw (f, d) refl

-- ---- what follows scheme and authority
query_delimiter : IsOutsideTriplets 63
query_delimiter = record { percent = refl; digit = refl }

fragment_delimiter : IsOutsideTriplets 35
fragment_delimiter = record { percent = refl; digit = refl }

rest-form : (s : Tests) (p : List ℕ) (q f : Option (List ℕ)) → pct s (p ++ (delimited 63 q ++ delimited 35 f))
    ≡ pct s p ++ (delimited 63 (option_map (pct s) q) ++ delimited 35 (option_map (pct s) f))
rest-form s p None f = pct-delimited s 35 p f fragment_delimiter
rest-form s p (Some q) f = pct_delimiter s 63 p (q ++ delimited 35 f) query_delimiter ∙ ap (λ l. pct s p ++ 63 ∷ l) (pct-delimited s 35 q f fragment_delimiter)

delimited-whole : (m : ℕ) (t : List ℕ → Bool) (o : Option (List ℕ)) → (m == 37) ≡ false → ((x : List ℕ) → t x ≡ true → whole_triplets x ≡ true)
    → if_there t o ≡ true → whole_triplets (delimited m o) ≡ true
delimited-whole m t None n w h = lacks-whole [] refl
delimited-whole m t (Some x) n w h = whole_plain m x n ∙ w x h

rest-whole : (s : Tests) (r : Parts) → IsSpec s → Fits s r → whole_triplets (rest r) ≡ true
rest-whole s r k f =
    whole-append r.path (delimited 63 r.query ++ delimited 35 r.fragment) (path-whole s r.path k f.path)
    (whole-append (delimited 63 r.query) (delimited 35 r.fragment)
    (delimited-whole 63 (is_query s) r.query refl (λ x h. query-whole s x k h) f.query)
    (delimited-whole 35 (is_fragment s) r.fragment refl (λ x h. fragment-whole s x k h) f.fragment))

rest-lacks : (r : Parts) → LacksTriplets r → lacks 37 (rest r) ≡ true
rest-lacks r h =
    lacks-append 37 r.path (delimited 63 r.query ++ delimited 35 r.fragment) h.0
    (lacks-append 37 (delimited 63 r.query) (delimited 35 r.fragment) (delimited-lacks 37 63 r.query refl h.1) (delimited-lacks 37 35 r.fragment refl h.2))

-- ---- the canonical text
-- prefix and path of the base, the prefix of the reference and the rest of it
shift : (p f h q tail : List ℕ) → q ++ f ≡ p ++ (f ++ h) → q ++ ((f ++ tail)) ≡ p ++ (f ++ (h ++ tail))
shift p f h q tail e =
    sym (append_assoc q f tail) ∙ (ap (λ l. l ++ tail) e ∙ (append_assoc p (f ++ h) tail ∙ ap (λ l. p ++ l) (append_assoc f h tail)))

whole-form : (s : Tests) (base r : Parts) (prefix directory own : List ℕ) → IsSpec s → Fits s r → StandBefore s base r prefix directory own
    → has_dot_segment r.path ≡ false → recompose (normal_form s (target base r))
    ≡ prefix ++ (directory ++ (own ++ (pct s r.path ++ (delimited 63 (option_map (pct s) r.query) ++ delimited 35 (option_map (pct s) r.fragment)))))
unfolding normal_form
whole-form s base r prefix directory own k f b n =
    let u = target base r in
    let plain = both (lacks 37 directory) (not (has_dot_segment directory)) b.plain in
    let dots = no_dots directory r.path (not-true (has_dot_segment directory) plain.1) b.ends n in
    let whole = whole-append directory r.path (lacks-whole directory plain.0) (path-whole s r.path k f.path) in
    let path : normal_path s u.authority u.path ≡ directory ++ pct s r.path =
    ap (normal_path s u.authority) b.path
    ∙ (path-form s u.authority (directory ++ r.path) k dots whole b.unguarded ∙ pct-prefix s directory r.path plain.0) in
    let tail = delimited 63 (option_map (pct s) r.query) ++ delimited 35 (option_map (pct s) r.fragment) in
    sym (prefix-form s Normal false u (prefix_in s true u) refl refl)
    ∙ (ap (λ x. prefix_in s true u ++ (x ++ (delimited 63 (option_map (pct s) u.query) ++ delimited 35 (option_map (pct s) u.fragment)))) path
    ∙ (ap (λ x. prefix_in s true u ++ ((directory ++ pct s r.path) ++ (delimited 63 (option_map (pct s) x)
    ++ delimited 35 (option_map (pct s) u.fragment)))) b.query
    ∙ (ap (λ x. prefix_in s true u ++ ((directory ++ pct s r.path) ++ (delimited 63 (option_map (pct s) r.query)
    ++ delimited 35 (option_map (pct s) x)))) b.fragment
    ∙ (ap (λ x. prefix_in s true u ++ x) (append_assoc directory (pct s r.path) tail)
    ∙ shift prefix directory own (prefix_in s true u) (pct s r.path ++ tail) b.text))))

pub unchanged : (s : Tests) (base t prefix directory : List ℕ) → IsSpec s → Fits s (split_of t)
    → StandBefore s (split_of base) (split_of t) prefix directory (prefix_in s false (split_of t)) → has_dot_segment (split_of t).path ≡ false
    → EndsCanonical s base t prefix directory
unfolding canonical
unchanged s base t prefix directory k f b n =
    let r = split_of t in
    let own = prefix_in s false r in
    let form = ap (pct s) (text-cut t) ∙ (pct-prefix s own (rest r) b.percent ∙ ap (λ x. own ++ x) (rest-form s r.path r.query r.fragment)) in
    record {
      text = whole-form s (split_of base) r prefix directory own k f b n ∙ ap (λ x. prefix ++ (directory ++ x)) (sym form);
      whole = ap whole_triplets (text-cut t) ∙ whole-append own (rest r) (lacks-whole own b.percent) (rest-whole s r k f);
      bare = λ h. ap (lacks 37) (text-cut t) ∙ lacks-append 37 own (rest r) b.percent (rest-lacks r h);
    }

-- so it is of each reference with these parts
pub parts-unchanged : (s : Tests) (base : List ℕ) (r : Parts) (prefix directory : List ℕ) → IsSpec s → Fits s r
    → StandBefore s (split_of base) r prefix directory (prefix_in s false r) → EndsParts s base r prefix directory
parts-unchanged s base r prefix directory k f b t e n =
    unchanged s base t prefix directory k (subst (Fits s) (sym e) f)
    (subst (λ p. StandBefore s (split_of base) p prefix directory (prefix_in s false p)) (sym e) b) (ap (λ (p : Parts). has_dot_segment p.path) e ∙ n)

-- ---- a reference that takes the base's path
record TakesPath (s : Tests) (has_query : Bool) (r : Parts) : Type 0 where
  fits : Fits s r
  scheme : r.scheme ≡ None
  authority : r.authority ≡ None
  empty : [] ≡ r.path
  query : has_query ≡ is_some r.query

-- the query that it takes is the base's, or its own
query-put : (s : Tests) (q base : Option (List ℕ)) → (is_some q ≡ false → if_there (lacks 37) base ≡ true)
    → delimited 63 (option_map (pct s) (or_base q base)) ≡ cond (is_some q) [] (delimited 63 base) ++ delimited 63 (option_map (pct s) q)
query-put s None None h = refl
query-put s None (Some x) h = ap (λ y. 63 ∷ y) (pct-same s x (h refl)) ∙ sym (append-nil (63 ∷ x))
query-put s (Some q) base h = refl

-- its text is its query and its fragment
own-text : (s : Tests) (t : List ℕ) → (split_of t).scheme ≡ None → (split_of t).authority ≡ None → rest (split_of t) ≡ t
own-text s t h k = sym (text-cut t ∙ rw (h, k) refl)

own-form : (s : Tests) (r : Parts) → [] ≡ r.path
    → pct s (rest r) ≡ delimited 63 (option_map (pct s) r.query) ++ delimited 35 (option_map (pct s) r.fragment)
own-form s r e =
    let tail = delimited 63 (option_map (pct s) r.query) ++ delimited 35 (option_map (pct s) r.fragment) in
    rest-form s r.path r.query r.fragment
    ∙ (ap (λ p. pct s p ++ tail) (sym e) ∙ ap (λ p. p ++ tail) (normal_nil s as_it_is))

takes-path : (s : Tests) (base t prefix directory : List ℕ) (has_query : Bool) → IsSpec s → TakesPath s has_query (split_of t)
    → PutsPath s (split_of base) has_query prefix directory → EndsCanonical s base t prefix directory
unfolding canonical normal_form target
takes-path s base t prefix directory has_query k h p =
    let b = split_of base in
    let r = split_of t in
    let u = target b r in
    let q = delimited 63 (option_map (pct s) r.query) in
    let f = delimited 35 (option_map (pct s) r.fragment) in
    let stays = both (is_some b.authority) (lacks_triplets_and_dots b.path b.path) p.path_stays in
    let plain = both (lacks 37 b.path) (not (has_dot_segment b.path)) stays.1 in
    let own = own-text s t h.scheme h.authority in
    let before : prefix_in s true u ≡ prefix = rw (h.scheme, h.authority) (sym p.prefix_stays.1) in
    let path : normal_path s u.authority u.path ≡ b.path = rw (h.scheme, h.authority, sym h.empty)
    (path-form s b.authority b.path k (not-true (has_dot_segment b.path) plain.1) (lacks-whole b.path plain.0) (rw stays.0 refl)
    ∙ pct-same s b.path plain.0) in
    let query : delimited 63 (option_map (pct s) u.query) ≡ cond (is_some r.query) [] (delimited 63 b.query) ++ q =
    rw (h.scheme, h.authority, sym h.empty) (query-put s r.query b.query (λ e. p.query_stays (h.query ∙ e))) in
    let fragment : delimited 35 (option_map (pct s) u.fragment) ≡ f = rw (h.scheme, h.authority) refl in
    let text : directory ≡ b.path ++ cond (is_some r.query) [] (delimited 63 b.query) =
    p.text ∙ ap (λ c. b.path ++ cond c [] (delimited 63 b.query)) h.query in
    record {
      text = sym (prefix-form s Normal false u (prefix_in s true u) refl refl)
          ∙ (ap (λ x. x ++ (normal_path s u.authority u.path ++ (delimited 63 (option_map (pct s) u.query)
          ++ delimited 35 (option_map (pct s) u.fragment)))) before
          ∙ (ap (λ x. prefix ++ (x ++ (delimited 63 (option_map (pct s) u.query) ++ delimited 35 (option_map (pct s) u.fragment)))) path
          ∙ (ap (λ x. prefix ++ (b.path ++ (x ++ delimited 35 (option_map (pct s) u.fragment)))) query
          ∙ (ap (λ x. prefix ++ (b.path ++ ((cond (is_some r.query) [] (delimited 63 b.query) ++ q) ++ x))) fragment
          ∙ (ap (λ x. prefix ++ (b.path ++ x)) (append_assoc (cond (is_some r.query) [] (delimited 63 b.query)) q f)
          ∙ (ap (λ x. prefix ++ x) (sym (append_assoc b.path (cond (is_some r.query) [] (delimited 63 b.query)) (q ++ f)))
          ∙ (ap (λ x. prefix ++ (x ++ (q ++ f))) (sym text)
          ∙ (ap (λ x. prefix ++ (directory ++ x)) (sym (own-form s r h.empty))
          ∙ ap (λ x. prefix ++ (directory ++ pct s x)) own))))))));
      whole = ap whole_triplets (sym own) ∙ rest-whole s r k h.fits;
      bare = λ l. ap (lacks 37) (sym own) ∙ rest-lacks r l;
    }

pub path-put : (s : Tests) (base : List ℕ) (r : Parts) (prefix directory : List ℕ) (has_query : Bool) → IsSpec s → Fits s r → r.scheme ≡ None
    → r.authority ≡ None → [] ≡ r.path → has_query ≡ is_some r.query → PutsPath s (split_of base) has_query prefix directory
    → EndsParts s base r prefix directory
path-put s base r prefix directory has_query k f h a e q p t same n =
    takes-path s base t prefix directory has_query k (subst (TakesPath s has_query) (sym same)
    (record { fits = f; scheme = h; authority = a; empty = e; query = q })) p

-- what follows the prefix of a base
cut-rest : (a b c d : List ℕ) → a ≡ c → a ++ b ≡ c ++ d → b ≡ d
cut-rest a b c d e h =
    sym (drop-append_seam c b) ∙ (ap (λ x. drop (length c) (x ++ b)) (sym e) ∙ (ap (drop (length c)) h ∙ drop-append_seam c d))

no_fragment : (o : Option (List ℕ)) → IsNone o → delimited 35 o ≡ []
no_fragment None h = refl
no_fragment (Some x) h = cc

pub base-rest : (s : Tests) (t first second : List ℕ) → IsSpec s → absolute_fault s t ≡ None → t ≡ first ++ second
    → first ≡ prefix_in s false (split_of t) → second ≡ (split_of t).path ++ delimited 63 (split_of t).query
base-rest s t first second k h w e =
    let b = split_of t in
    let r = (absolute-law s k t).0 h in
    let none = no_fragment b.fragment (subst (λ (p : Parts). IsNone p.fragment) (sym (split_is s t r.0 k r.1)) r.3) in
    cut-rest first second (prefix_in s false b) (rest b) e (sym w ∙ text-cut t)
    ∙ ap (λ x. b.path ++ x) (ap (λ x. delimited 63 b.query ++ x) none ∙ append-nil (delimited 63 b.query))

-- ---- what stands before
-- a reference with a scheme
own-stands : (s : Tests) (b r : Parts) (x own : List ℕ) → r.scheme ≡ Some x → Fits s r → prefix_in s true r ≡ own
    → lacks 37 (prefix_in s false r) ≡ true → StandBefore s b r [] [] own
unfolding target
own-stands s b r x own e f p l =
    let same : target b r ≡ r = rw e refl in
    record {
      path = ap (λ (q : Parts). q.path) same;
      query = ap (λ (q : Parts). q.query) same;
      fragment = ap (λ (q : Parts). q.fragment) same;
      plain = rw nothing-is_no_dot refl;
      ends = refl;
      unguarded = ap (λ (q : Parts). is_some q.authority || not (starts_with_slashes r.path)) same
          ∙ own-rules x r.authority r.path (ap (λ o. path_rules o r.authority r.path) (sym e) ∙ f.rules);
      text = ap (λ (q : Parts). prefix_in s true q ++ []) same ∙ (append-nil (prefix_in s true r) ∙ p);
      percent = l;
    }
  where
    own-rules : (x : List ℕ) (a : Option (List ℕ)) (p : List ℕ) → path_rules (Some x) a p ≡ true → (is_some a || not (starts_with_slashes p)) ≡ true
    own-rules x (Some a) p h = refl
    own-rules x None p h = h

-- its own prefix stays
own-before : (s : Tests) (b r : Parts) (x : List ℕ) → r.scheme ≡ Some x → Fits s r → KeepsPrefix s r
    → StandBefore s b r [] [] (prefix_in s false r)
own-before s b r x e f p = own-stands s b r x (prefix_in s false r) e f p.0 p.1

pub own-put : (s : Tests) (base : List ℕ) (r : Parts) → IsSpec s → Fits s r → IsSome r.scheme → KeepsPrefix s r → EndsParts s base r [] []
own-put s base r k f h p = at r.scheme refl h
  where
    at : (o : Option (List ℕ)) → r.scheme ≡ o → IsSome o → EndsParts s base r [] []
    at None e none = cc
    at (Some x) e some = parts-unchanged s base r [] [] k f (own-before s (split_of base) r x e f p)

-- an authority of its own, under the base's scheme
own-authority : (s : Tests) (r : Parts) → r.scheme ≡ None → KeepsPrefix s r
    → authority_text (option_map (normal_authority s) r.authority) ≡ prefix_in s false r
own-authority s r h p =
    ap (λ o. scheme_text (option_map lowered o) ++ authority_text (option_map (normal_authority s) r.authority)) (sym h) ∙ p.0

authority-before : (s : Tests) (b r : Parts) (x a : List ℕ) → b.scheme ≡ Some x → lowered x ≡ x → r.scheme ≡ None → r.authority ≡ Some a
    → KeepsPrefix s r → StandBefore s b r (x ++ 58 ∷ []) [] (prefix_in s false r)
unfolding target
authority-before s b r x a e l h k p =
    let own = authority_text (option_map (normal_authority s) r.authority) in
    let before : prefix_in s true (target b r) ≡ scheme_text (option_map lowered b.scheme) ++ own = rw (h, k) refl in
    record {
      path = rw (h, k) refl;
      query = rw (h, k) refl;
      fragment = rw (h, k) refl;
      plain = rw nothing-is_no_dot refl;
      ends = refl;
      unguarded = rw (h, k) refl;
      text = append-nil (prefix_in s true (target b r))
          ∙ (before ∙ (ap (λ o. scheme_text (option_map lowered o) ++ own) e
          ∙ (ap (λ y. (y ++ 58 ∷ []) ++ own) l ∙ ap (λ y. (x ++ 58 ∷ []) ++ y) (own-authority s r h p))));
      percent = p.1;
    }

pub authority-put : (s : Tests) (base : List ℕ) (r : Parts) (x a : List ℕ) → IsSpec s → Fits s r → (split_of base).scheme ≡ Some x
    → list_all is_small x ≡ true → r.scheme ≡ None → r.authority ≡ Some a → KeepsPrefix s r → EndsParts s base r x (58 ∷ [])
authority-put s base r x a k f e small h j p t same n =
    let before = authority-before s (split_of base) r x a e (small-lowered x small) h j p in
    let ends = parts-unchanged s base r (x ++ 58 ∷ []) [] k f before t same n in
    record { text = ends.text ∙ append_assoc x (58 ∷ []) (pct s t); whole = ends.whole; bare = ends.bare }

-- its own prefix is put into lower case
pub lowered-before : (s : Tests) (t first second x : List ℕ) → IsSpec s → Fits s (split_of t) → (split_of t).scheme ≡ Some x
    → if_there is_plain_authority (split_of t).authority ≡ true → has_dot_segment (split_of t).path ≡ false → t ≡ first ++ second
    → first ≡ prefix_in s false (split_of t) → length first ≤ 64 → IsLowered s t first second
unfolding canonical
lowered-before s t first second x k f e a n w p short =
    let r = split_of t in
    let own = prefix_in s false r in
    let percent = prefix-percent s r f a in
    let last : second ≡ rest r = cut-rest first second own (rest r) p (sym w ∙ text-cut t) in
    record {
      text = λ base. whole-form s (split_of base) r [] [] (lowered own) k f
          (own-stands s (split_of base) r x (lowered own) e f (prefix-lowered s r a) percent) n
          ∙ (ap (λ y. lowered own ++ y) (sym (rest-form s r.path r.query r.fragment))
          ∙ (ap (λ y. lowered y ++ pct s (rest r)) (sym p) ∙ ap (λ y. lowered first ++ pct s y) (sym last)));
      ascii = subst IsAscii (sym p) (IsAscii-append (scheme_text r.scheme) (authority_text r.authority) (scheme_text-ascii r.scheme f.scheme)
          (authority_text-ascii r.authority a));
      short = short;
      whole = ap whole_triplets last ∙ rest-whole s r k f;
      bare = λ h. ap (lacks 37) last ∙ rest-lacks r h;
    }

-- a reference with neither scheme nor authority
record HasPath (r : Parts) : Type 0 where
  scheme : r.scheme ≡ None
  authority : r.authority ≡ None
  some : is_empty r.path ≡ false

path-rooted : (b : Parts) (p : List ℕ) → is_empty p ≡ false → starts_with_slash p ≡ true → target_path b p ≡ p
path-rooted b [] n h = cc
path-rooted b (x ∷ xs) n h = rw h refl

path-merged : (b : Parts) (p : List ℕ) → is_empty p ≡ false → starts_with_slash p ≡ false → target_path b p ≡ merge_prefix b ++ p
path-merged b [] n h = cc
path-merged b (x ∷ xs) n h = rw h refl

-- what the base puts before it
base-before : (s : Tests) (b r : Parts) (p f : List ℕ) → HasPath r → IsPrefix s b (Some p) → lacks_triplets_and_dots f f ≡ true → ends_at_slash f ≡ true
    → target_path b r.path ≡ f ++ r.path → (is_some b.authority || not (starts_with_slashes (f ++ r.path))) ≡ true
    → StandBefore s b r p f (prefix_in s false r)
unfolding target
base-before s b r p f h i plain e path g =
    record {
      path = rw (h.scheme, h.authority) path;
      query = rw (h.scheme, h.authority, h.some) refl;
      fragment = rw (h.scheme, h.authority) refl;
      plain = plain;
      ends = e;
      unguarded = rw (h.scheme, h.authority) g;
      text = rw (h.scheme, h.authority) (sym (ap (λ l. p ++ l) (append-nil f) ∙ ap (λ l. l ++ f) i.1));
      percent = rw (h.scheme, h.authority) refl;
    }

rooted-rules : (b : Option (List ℕ)) (r : Parts) → r.scheme ≡ None → r.authority ≡ None → path_rules r.scheme r.authority r.path ≡ true
    → (is_some b || not (starts_with_slashes r.path)) ≡ true
rooted-rules b r h k f =
    let rules = ap (λ o. path_rules o r.authority r.path) (sym h) ∙ f in
    let own = ap (λ o. path_rules None o r.path) (sym k) ∙ rules in
    rw (both (not (starts_with_slashes r.path)) _ own).0 (or-true (is_some b))

pub rooted-before : (s : Tests) (b r : Parts) (p : List ℕ) → r.scheme ≡ None → r.authority ≡ None → is_empty r.path ≡ false
    → starts_with_slash r.path ≡ true → Fits s r → IsPrefix s b (Some p) → StandBefore s b r p [] (prefix_in s false r)
rooted-before s b r p h k n st f i =
    base-before s b r p [] (record { scheme = h; authority = k; some = n }) i (rw nothing-is_no_dot refl) refl (path-rooted b r.path n st)
    (rooted-rules b.authority r h k f.rules)

pub merged-before : (s : Tests) (b r : Parts) (p f : List ℕ) → r.scheme ≡ None → r.authority ≡ None → is_empty r.path ≡ false
    → starts_with_slash r.path ≡ false → IsPrefix s b (Some p) → f ≡ merge_prefix b → ends_at_slash f ≡ true → is_plain_prefix b f ≡ true
    → StandBefore s b r p f (prefix_in s false r)
merged-before s b r p f h k n st i m e plain =
    let both-of = both (is_some b.authority) (lacks_triplets_and_dots f f) plain in
    base-before s b r p f (record { scheme = h; authority = k; some = n }) i both-of.1 e
    (path-merged b r.path n st ∙ ap (λ x. x ++ r.path) (sym m)) (rw both-of.0 refl)

pub nothing : (xs : List ℕ) → (length xs == 0) ≡ true → [] ≡ xs
nothing xs h = sym (nil_from_length xs (eqb-true (length xs) 0 h))

pub not-empty : (xs : List ℕ) → (length xs == 0) ≡ false → is_empty xs ≡ false
not-empty [] h = cc
not-empty (x ∷ xs) h = refl

-- what a found text is said to be, said in other words
pub matched : {A : Type 0} (r : Option A) (P Q : A → Type 0) → ((a : A) → P a → Q a) → MatchOption r (Unit {0}) P → MatchOption r (Unit {0}) Q
matched None P Q f h = h
matched (Some a) P Q f h = f a h

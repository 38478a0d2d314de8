-- The laws of the split: recomposing it gives the text, and parts that bear no foreign delimiter are the split of their recomposition.
use Rattle.iri_grammar.proofs.Common.{◌≡◌, ℕ, Bool, true, false, cond, not, ◌&&◌, ◌||◌, List, [], ◌∷◌, ◌++◌, take, Option, Some, None, refl}
use Rattle.iri_grammar.proofs.Common.{sym, ◌∙◌, ap, subst, arith, append_assoc, ◌==◌, is_some, nat_tests, list_all, not-true, or_all}
use Rattle.iri_grammar.proofs.Common.{if_there, is_letter, is_scheme, is_scheme_char, before, from, after, lacks, delimited, Parts}
use Rattle.iri_grammar.proofs.Common.{recompose, scheme_text, authority_text, starts_with_slash, starts_with_slashes, is_empty, path_rules}
use Rattle.iri_grammar.proofs.Common.{split_of, relative_split_of, parts_of, hier_of, scheme_of, after_scheme, authority_of, path_of}
use Rattle.iri_grammar.proofs.splits.CutLaws.{by_test, both, joined, joined_from, before-delimited, after-delimited, before-at, from-at}
use Rattle.iri_grammar.proofs.splits.CutLaws.{lacks-append, lacks-other, test_apart, all-lacks}

pub letter-is_scheme_char : (x : ℕ) → is_letter x ≡ true → is_scheme_char x ≡ true
unfolding is_letter is_scheme_char
letter-is_scheme_char x h = grind (arith, nat_tests)

pub scheme-lacks : (c : ℕ) (xs : List ℕ) → is_scheme_char c ≡ false → is_scheme xs ≡ true → lacks c xs ≡ true
scheme-lacks c [] n h = cc
scheme-lacks c (x ∷ xs) n h =
    let parts = both (is_letter x) (list_all is_scheme_char xs) h in
    lacks-other c x xs (test_apart is_scheme_char c x n (letter-is_scheme_char x parts.0)) (all-lacks is_scheme_char c xs n parts.1)

-- ---- what the parts of a tuple that fits have no delimiter of
pub record Delimiters (t : Parts) : Type 0 where
  pub scheme : if_there is_scheme t.scheme ≡ true
  pub authority_hash : if_there (lacks 35) t.authority ≡ true
  pub authority_delimiter : if_there (lacks 63) t.authority ≡ true
  pub authority_slash : if_there (lacks 47) t.authority ≡ true
  pub path_hash : lacks 35 t.path ≡ true
  pub path_delimiter : lacks 63 t.path ≡ true
  pub query_hash : if_there (lacks 35) t.query ≡ true
  pub rules : path_rules t.scheme t.authority t.path ≡ true

pub authority_text-lacks : (c : ℕ) (a : Option (List ℕ)) → (47 == c) ≡ false → if_there (lacks c) a ≡ true
    → lacks c (authority_text a) ≡ true
authority_text-lacks c None n h = refl
authority_text-lacks c (Some a) n h = lacks-other c 47 (47 ∷ a) n (lacks-other c 47 a n h)

pub delimited-lacks : (c d : ℕ) (q : Option (List ℕ)) → (d == c) ≡ false → if_there (lacks c) q ≡ true → lacks c (delimited d q) ≡ true
delimited-lacks c d None n h = refl
delimited-lacks c d (Some q) n h = lacks-other c d q n h

-- ---- the scheme before
hier : Option (List ℕ) → List ℕ → List ℕ
hier a p = authority_text a ++ p

-- what stands before the first colon is no scheme, or there is no colon
no_scheme : List ℕ → Bool
no_scheme h = not (is_scheme (before 58 h)) || not (is_some (after 58 h))

no_scheme_of : (b : Bool) (o : Option (List ℕ)) (x : List ℕ) → (not b || not (is_some o)) ≡ true
    → cond (b && is_some o) (Some x) None ≡ None
no_scheme_of true None x h = refl
no_scheme_of true (Some y) x h = cc
no_scheme_of false o x h = refl

no_after_scheme : (b : Bool) (o : Option (List ℕ)) (x : List ℕ) → (not b || not (is_some o)) ≡ true → cond b (or_all x o) x ≡ x
no_after_scheme true None x h = refl
no_after_scheme true (Some y) x h = cc
no_after_scheme false o x h = refl

pub colon_ends : is_scheme_char 58 ≡ false
unfolding is_scheme_char
colon_ends = refl

pub slash_ends : is_scheme_char 47 ≡ false
unfolding is_scheme_char
slash_ends = refl

pub hash_ends : is_scheme_char 35 ≡ false
unfolding is_scheme_char
hash_ends = refl

scheme-given : (s h : List ℕ) → is_scheme s ≡ true → (scheme_of (s ++ 58 ∷ h) ≡ Some s) × (after_scheme (s ++ 58 ∷ h) ≡ h)
scheme-given s h k =
    let l = scheme-lacks 58 s colon_ends k in
    let b = before-delimited 58 s (Some h) l in
    let a = after-delimited 58 s (Some h) l in
    (rw (b, a, k) refl, rw (b, a, k) refl)

or_weaken : (a b n : Bool) → (not b || n) ≡ true → (not (a && b) || n) ≡ true
or_weaken true b n h = h
or_weaken false b n h = refl

pub scheme-chars : (xs : List ℕ) → is_scheme xs ≡ true → list_all is_scheme_char xs ≡ true
scheme-chars [] h = refl
scheme-chars (x ∷ xs) h = let k = both (is_letter x) (list_all is_scheme_char xs) h in rw (letter-is_scheme_char x k.0) k.1

-- a text that ends or goes on with no character of a scheme
abbrev stops : List ℕ → Bool
stops [] = true
stops (x ∷ xs) = not (is_scheme_char x)

-- a character that is none of a scheme, and no colon, stands before
stopped : (x : ℕ) (xs : List ℕ) → is_scheme_char x ≡ false → (x == 58) ≡ false
    → (not (list_all is_scheme_char (before 58 (x ∷ xs))) || not (is_some (after 58 (x ∷ xs)))) ≡ true
stopped x xs n c = rw (c, n) refl

stop_or_no_colon : (p r : List ℕ) → lacks 58 (before 47 p) ≡ true → stops r ≡ true → lacks 58 (take 1 r) ≡ true
    → (not (list_all is_scheme_char (before 58 (p ++ r))) || not (is_some (after 58 (p ++ r)))) ≡ true
stop_or_no_colon [] [] h k l = refl
stop_or_no_colon [] (x ∷ xs) h k l = stopped x xs (not-true (is_scheme_char x) k) (not-true (x == 58) (both (not (x == 58)) true l).0)
stop_or_no_colon (x ∷ xs) r h k l =
    by_test x 47 (λ b. lacks 58 (cond b [] (x ∷ before 47 xs)) ≡ true
    → (not (list_all is_scheme_char (before 58 (x ∷ (xs ++ r)))) || not (is_some (after 58 (x ∷ (xs ++ r))))) ≡ true)
    (λ e _. subst (λ n. (not (list_all is_scheme_char (before 58 (n ∷ (xs ++ r)))) || not (is_some (after 58 (n ∷ (xs ++ r))))) ≡ true)
    (sym e) (stopped 47 (xs ++ r) slash_ends refl))
    (λ _ m. by_test x 58 (λ b. (not b && lacks 58 (before 47 xs)) ≡ true
    → (not (list_all is_scheme_char (cond b [] (x ∷ before 58 (xs ++ r))))
    || not (is_some (cond b (Some (xs ++ r)) (after 58 (xs ++ r))))) ≡ true)
    (λ _ w. cc)
    (λ _ w. or_weaken (is_scheme_char x) (list_all is_scheme_char (before 58 (xs ++ r))) (not (is_some (after 58 (xs ++ r))))
    (stop_or_no_colon xs r w k l))
    m)
    h

no_scheme_path : (p r : List ℕ) → lacks 58 (before 47 p) ≡ true → stops r ≡ true → lacks 58 (take 1 r) ≡ true → no_scheme (p ++ r) ≡ true
unfolding no_scheme
no_scheme_path p r h k l =
    elim (is_scheme (before 58 (p ++ r))) as (λ b. is_scheme (before 58 (p ++ r)) ≡ b
    → (not b || not (is_some (after 58 (p ++ r)))) ≡ true) [
      | true ↦ λ e. let a = scheme-chars (before 58 (p ++ r)) e in rw a at (stop_or_no_colon p r h k l)
      | false ↦ λ _. refl
    ] refl

tail_stops : (q f : Option (List ℕ)) → (stops (delimited 63 q ++ delimited 35 f) ≡ true) × (lacks 58 (take 1 (delimited 63 q ++ delimited 35 f)) ≡ true)
unfolding is_scheme_char
tail_stops None None = (refl, refl)
tail_stops None (Some f) = (refl, refl)
tail_stops (Some q) f = (refl, refl)

no_scheme_authority : (a p : List ℕ) → no_scheme (47 ∷ 47 ∷ (a ++ p)) ≡ true
unfolding no_scheme is_letter
no_scheme_authority a p = refl

edge : (p : List ℕ) → (is_empty p || starts_with_slash p) ≡ true → (before 47 p ≡ []) × (from 47 p ≡ p)
edge [] h = (refl, refl)
edge (x ∷ xs) h = rw h (refl, refl)

-- the scheme, and what follows it
scheme-split : (s : Option (List ℕ)) (h : List ℕ) → if_there is_scheme s ≡ true → (s ≡ None → no_scheme h ≡ true)
    → (scheme_of (scheme_text s ++ h) ≡ s) × (after_scheme (scheme_text s ++ h) ≡ h)
unfolding no_scheme
scheme-split None h k n = (
  no_scheme_of (is_scheme (before 58 h)) (after 58 h) (before 58 h) (n refl),
  no_after_scheme (is_scheme (before 58 h)) (after 58 h) h (n refl),
)
scheme-split (Some s) h k n = rw append_assoc (scheme-given s h k)

-- the authority, and the path
authority-split : (s a : Option (List ℕ)) (p : List ℕ) → if_there (lacks 47) a ≡ true → path_rules s a p ≡ true
    → (authority_of (authority_text a ++ p) ≡ a) × (path_of (authority_text a ++ p) ≡ p)
authority-split s (Some a) p l r =
    let e = edge p r in (ap Some (before-at 47 a p l e.0), from-at 47 a p l e.1)
authority-split (Some s) None p l r = let n : starts_with_slashes p ≡ false = not-true (starts_with_slashes p) r in rw n (refl, refl)
authority-split None None p l r = let n : starts_with_slashes p ≡ false =
    not-true (starts_with_slashes p) (both (not (starts_with_slashes p)) (lacks 58 (before 47 p)) r).0 in rw n (refl, refl)

no_scheme-rules : (s a : Option (List ℕ)) (p : List ℕ) (q f : Option (List ℕ)) → path_rules s a p ≡ true → s ≡ None
    → no_scheme (authority_text a ++ (p ++ (delimited 63 q ++ delimited 35 f))) ≡ true
no_scheme-rules s (Some a) p q f r e = no_scheme_authority a (p ++ (delimited 63 q ++ delimited 35 f))
no_scheme-rules None None p q f r e =
    let t = tail_stops q f in no_scheme_path p (delimited 63 q ++ delimited 35 f)
    (both (not (starts_with_slashes p)) (lacks 58 (before 47 p)) r).1 t.0 t.1
no_scheme-rules (Some s) None p q f r e = cc

-- the parts of what was put together
pub split_parts : (s a : Option (List ℕ)) (p : List ℕ) (q f : Option (List ℕ))
    → Delimiters (record { scheme = s; authority = a; path = p; query = q; fragment = f })
    → split_of (recompose (record { scheme = s; authority = a; path = p; query = q; fragment = f }))
    ≡ record { scheme = s; authority = a; path = p; query = q; fragment = f }
unfolding split_of recompose
split_parts s a p q f m =
    let hier = authority_text a ++ p in
    let rest = authority_text a ++ (p ++ (delimited 63 q ++ delimited 35 f)) in
    let no_delimiter = lacks-append 63 (authority_text a) p (authority_text-lacks 63 a refl m.authority_delimiter) m.path_delimiter in
    let no_hash = lacks-append 35 hier (delimited 63 q)
    (lacks-append 35 (authority_text a) p (authority_text-lacks 35 a refl m.authority_hash) m.path_hash)
    (delimited-lacks 35 63 q refl m.query_hash) in
    let b35 = before-delimited 35 (hier ++ delimited 63 q) f no_hash in
    let a35 = after-delimited 35 (hier ++ delimited 63 q) f no_hash in
    let b63 = before-delimited 63 hier q no_delimiter in
    let a63 = after-delimited 63 hier q no_delimiter in
    let sp = scheme-split s rest m.scheme (no_scheme-rules s a p q f m.rules) in
    let ah = authority-split s a p m.authority_slash m.rules in
    let grouped : rest ≡ (hier ++ delimited 63 q) ++ delimited 35 f = simp append_assoc in
    rw (sp.0, sp.1, grouped, b35, a35, b63, a63, ah.0, ah.1) refl

scheme_joined : (b : Bool) (o : Option (List ℕ)) (y x : List ℕ) → y ++ delimited 58 o ≡ x
    → scheme_text (cond (b && is_some o) (Some y) None) ++ cond b (or_all x o) x ≡ x
scheme_joined true None y x h = refl
scheme_joined true (Some r) y x h = append_assoc y (58 ∷ []) r ∙ h
scheme_joined false o y x h = refl

authority_joined : (h : List ℕ) → authority_text (authority_of h) ++ path_of h ≡ h
authority_joined [] = refl
authority_joined (x ∷ []) =
    elim (x == 47) as (λ b. authority_text (cond (b && false) (Some []) None) ++ cond (b && false) [] (x ∷ []) ≡ x ∷ []) [
      | true ↦ refl
      | false ↦ refl
    ]
authority_joined (x ∷ y ∷ xs) =
    by_test x 47 (λ b. authority_text (cond (b && (y == 47)) (Some (before 47 xs)) None) ++ cond (b && (y == 47)) (from 47 xs) (x ∷ y ∷ xs)
    ≡ x ∷ y ∷ xs)
    (λ e. by_test y 47 (λ b. authority_text (cond b (Some (before 47 xs)) None) ++ cond b (from 47 xs) (x ∷ y ∷ xs) ≡ x ∷ y ∷ xs)
    (λ d. rw (e, d) (ap (λ zs. 47 ∷ 47 ∷ zs) (joined_from 47 xs)))
    (λ _. refl))
    (λ _. refl)

-- what follows a scheme is put together from its parts
recompose-parts_of : (sch : Option (List ℕ)) (r : List ℕ) → recompose (parts_of sch r) ≡ scheme_text sch ++ r
unfolding recompose
recompose-parts_of sch r =
    let f = before 35 r in
    let h = hier_of r in
    let regroup : (b c d e : List ℕ) → b ++ (c ++ (d ++ e)) ≡ ((b ++ c) ++ d) ++ e = λ b c d e. simp append_assoc in
    ap (λ z. scheme_text sch ++ z)
    (regroup (authority_text (authority_of h)) (path_of h) (delimited 63 (after 63 f)) (delimited 35 (after 35 r))
    ∙ (ap (λ z. (z ++ delimited 63 (after 63 f)) ++ delimited 35 (after 35 r)) (authority_joined h)
    ∙ (ap (λ z. z ++ delimited 35 (after 35 r)) (joined 63 f) ∙ joined 35 r)))

-- each text is put together from its split, and from its split as a relative reference
pub recompose_split : (t : List ℕ) → recompose (split_of t) ≡ t
unfolding split_of
recompose_split t = recompose-parts_of (scheme_of t) (after_scheme t)
    ∙ scheme_joined (is_scheme (before 58 t)) (after 58 t) (before 58 t) t (joined 58 t)

pub recompose_relative_split : (t : List ℕ) → recompose (relative_split_of t) ≡ t
unfolding relative_split_of
recompose_relative_split t = recompose-parts_of None t

-- both are the same where no scheme stands
no_scheme-all : (b : Bool) (o : Option (List ℕ)) (x y : List ℕ) → cond (b && is_some o) (Some y) None ≡ None → cond b (or_all x o) x ≡ x
no_scheme-all true None x y h = refl
no_scheme-all true (Some z) x y h = cc
no_scheme-all false o x y h = refl

pub relative_split_is : (t : List ℕ) → (split_of t).scheme ≡ None → relative_split_of t ≡ split_of t
unfolding split_of relative_split_of
relative_split_is t h = let e = no_scheme-all (is_scheme (before 58 t)) (after 58 t) t (before 58 t) h in rw (h, e) refl

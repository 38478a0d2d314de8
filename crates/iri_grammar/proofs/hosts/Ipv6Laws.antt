-- The test for IPv6 texts tells exactly the texts that are lists of groups.
use Rattle.iri_grammar.proofs.Common.{◌≡◌, ◌↔◌, ℕ, ◌+◌, inl, inr, Bool, true, false, cond, not, ◌&&◌, List, [], ◌∷◌, ◌++◌, Option}
use Rattle.iri_grammar.proofs.Common.{Some, None, refl, sym, ◌∙◌, ap, subst, arith, ◌==◌, nat_lt, is_ascii_hexdigit}
use Rattle.iri_grammar.proofs.Common.{list_all, nat_tests, before, after, lacks, tail, begins, pieces, onto, more_pieces, is_ipv4}
use Rattle.iri_grammar.proofs.Common.{are_four_octets, before_double, after_double, group_texts, is_ipv6_around, is_ipv6, append-nil}
use Rattle.iri_grammar.proofs.Common.{append_assoc, not-true, eqb-true}
use Rattle.std.proofs.Common.{ap₂}
use Rattle.iri_grammar.proofs.splits.CutLaws.{all-lacks, by_test, both, and_three}
use Rattle.iri_grammar.specs.Pieces.{joined}
use Rattle.iri_grammar.proofs.hosts.PiecesLaws.{pieces_cut}
use Rattle.iri_grammar.specs.Ipv6.{IsFullIpv6, IsShortenedIpv6, IsIpv6, is_group, are_groups, are_groups_or_ipv4, group_count}
use Rattle.iri_grammar.proofs.hosts.LiteralChars.{hex_of_group, is_ipv4_char, ipv4-chars, groups-all, mixed-all}

-- a text without a delimiter is one piece
pub one_piece : (c : ℕ) (t : List ℕ) → lacks c t ≡ true → pieces c t ≡ t ∷ []
one_piece c [] h = refl
one_piece c (x ∷ xs) h =
    by_test x c (λ b. (not b && lacks c xs) ≡ true → cond b ([] ∷ pieces c xs) (onto x (pieces c xs)) ≡ (x ∷ xs) ∷ [])
    (λ _ k. cc)
    (λ _ k. ap (onto x) (one_piece c xs k))
    h

-- a group has no dot
pub group_is_no_ipv4 : (p : List ℕ) → is_group p ≡ true → is_ipv4 p ≡ false
group_is_no_ipv4 p h = ap are_four_octets (one_piece 46 p (all-lacks is_ascii_hexdigit 46 p refl (hex_of_group p h)))

-- ---- pieces put together
joined_onto : (c x : ℕ) (p : List ℕ) (ps : List (List ℕ)) → joined c (onto x (p ∷ ps)) ≡ x ∷ joined c (p ∷ ps)
joined_onto c x p [] = refl
joined_onto c x p (q ∷ ps) = refl

pub joined_pieces : (c : ℕ) (t : List ℕ) → joined c (pieces c t) ≡ t
joined_pieces c [] = refl
joined_pieces c (x ∷ xs) =
    by_test x c (λ b. joined c (cond b ([] ∷ pieces c xs) (onto x (pieces c xs))) ≡ x ∷ xs)
    (λ e. rw (pieces_cut c xs) (ap (λ ys. c ∷ ys) (rw pieces_cut at (joined_pieces c xs)) ∙ ap (λ n. n ∷ xs) (sym e)))
    (λ _. rw (pieces_cut c xs) (joined_onto c x (before c xs) (more_pieces c (after c xs))
    ∙ ap (λ ys. x ∷ ys) (rw pieces_cut at (joined_pieces c xs))))

joined_parts : (t : List ℕ) → joined 58 (group_texts t) ≡ t
joined_parts [] = refl
joined_parts (x ∷ xs) = joined_pieces 58 (x ∷ xs)

pub pieces_before : (c : ℕ) (p t : List ℕ) → lacks c p ≡ true → pieces c (p ++ c ∷ t) ≡ p ∷ pieces c t
pieces_before c [] t h = by_test c c (λ b. cond b ([] ∷ pieces c t) (onto c (pieces c t)) ≡ [] ∷ pieces c t) (λ _. refl)
    (λ other. absurd (other refl))
pieces_before c (x ∷ xs) t h =
    by_test x c (λ b. (not b && lacks c xs) ≡ true
    → cond b ([] ∷ pieces c (xs ++ c ∷ t)) (onto x (pieces c (xs ++ c ∷ t))) ≡ (x ∷ xs) ∷ pieces c t)
    (λ _ k. cc)
    (λ _ k. ap (onto x) (pieces_before c xs t k))
    h

-- a part is some text without a colon
is_part : List ℕ → Bool
is_part [] = false
is_part (x ∷ xs) = lacks 58 (x ∷ xs)

lacking : (p : List ℕ) → is_part p ≡ true → lacks 58 p ≡ true
unfolding is_part
lacking [] h = cc
lacking (x ∷ xs) h = h

pieces_joined : (p : List ℕ) (ps : List (List ℕ)) → list_all is_part (p ∷ ps) ≡ true → pieces 58 (joined 58 (p ∷ ps)) ≡ p ∷ ps
pieces_joined p [] h = one_piece 58 p (lacking p (both (is_part p) true h).0)
pieces_joined p (q ∷ ps) h =
    let k = both (is_part p) (list_all is_part (q ∷ ps)) h in
    pieces_before 58 p (joined 58 (q ∷ ps)) (lacking p k.0) ∙ ap (λ rs. p ∷ rs) (pieces_joined q ps k.1)

parts_joined : (ps : List (List ℕ)) → list_all is_part ps ≡ true → group_texts (joined 58 ps) ≡ ps
unfolding is_part
parts_joined [] h = refl
parts_joined ([] ∷ ps) h = cc
parts_joined ((x ∷ xs) ∷ []) h = pieces_joined (x ∷ xs) [] h
parts_joined ((x ∷ xs) ∷ q ∷ ps) h = pieces_joined (x ∷ xs) (q ∷ ps) h

-- ---- texts cut at their first `::`
pub double_before : (p r : List ℕ) → lacks 58 p ≡ true → (before_double (p ++ 58 ∷ 58 ∷ r) ≡ p) × (after_double (p ++ 58 ∷ 58 ∷ r) ≡ Some r)
double_before [] r h = (refl, refl)
double_before (x ∷ xs) r h =
    let k = both (not (x == 58)) (lacks 58 xs) h in
    let rest = double_before xs r k.1 in
    (rw (not-true (x == 58) k.0) (ap (λ ys. x ∷ ys) rest.0), rw (not-true (x == 58) k.0) rest.1)

pub none_before : (p r : List ℕ) → lacks 58 p ≡ true → begins 58 r ≡ false
    → (before_double (p ++ 58 ∷ r) ≡ p ++ 58 ∷ before_double r) × (after_double (p ++ 58 ∷ r) ≡ after_double r)
none_before [] r h b = (rw b refl, rw b refl)
none_before (x ∷ xs) r h b =
    let k = both (not (x == 58)) (lacks 58 xs) h in
    let rest = none_before xs r k.1 b in
    (rw (not-true (x == 58) k.0) (ap (λ ys. x ∷ ys) rest.0), rw (not-true (x == 58) k.0) rest.1)

pub none_alone : (p : List ℕ) → lacks 58 p ≡ true → (before_double p ≡ p) × (after_double p ≡ None)
none_alone [] h = (refl, refl)
none_alone (x ∷ xs) h =
    let k = both (not (x == 58)) (lacks 58 xs) h in
    let rest = none_alone xs k.1 in
    (rw (not-true (x == 58) k.0) (ap (λ ys. x ∷ ys) rest.0), rw (not-true (x == 58) k.0) rest.1)

-- the first `::` and what follows it, where it is there
doubled : Option (List ℕ) → List ℕ
doubled None = []
doubled (Some back) = 58 ∷ 58 ∷ back

begins_plain : (p ys : List ℕ) → is_part p ≡ true → begins 58 (p ++ ys) ≡ false
unfolding is_part
begins_plain [] ys h = cc
begins_plain (x ∷ xs) ys h = not-true (x == 58) (both (not (x == 58)) (lacks 58 xs) h).0

begins_parts : (p : List ℕ) (ps : List (List ℕ)) (ys : List ℕ) → is_part p ≡ true → begins 58 (joined 58 (p ∷ ps) ++ ys) ≡ false
begins_parts p [] ys h = begins_plain p ys h
begins_parts p (q ∷ ps) ys h = rw (append_assoc p (58 ∷ joined 58 (q ∷ ps)) ys) (begins_plain p _ h)

-- parts have no `::`
cut_parts : (ps : List (List ℕ)) (back : Option (List ℕ)) → list_all is_part ps ≡ true
    → (before_double (joined 58 ps ++ doubled back) ≡ joined 58 ps) × (after_double (joined 58 ps ++ doubled back) ≡ back)
unfolding doubled
cut_parts [] None h = (refl, refl)
cut_parts [] (Some r) h = (refl, refl)
cut_parts (p ∷ []) None h = rw (append-nil p) (none_alone p (lacking p (both (is_part p) true h).0))
cut_parts (p ∷ []) (Some r) h = double_before p r (lacking p (both (is_part p) true h).0)
cut_parts (p ∷ q ∷ ps) back h =
    let k = both (is_part p) (list_all is_part (q ∷ ps)) h in
    let l = both (is_part q) (list_all is_part ps) k.1 in
    let rest = cut_parts (q ∷ ps) back k.1 in
    let here = none_before p (joined 58 (q ∷ ps) ++ doubled back) (lacking p k.0) (begins_parts q ps (doubled back) l.0) in
    let same = append_assoc p (58 ∷ joined 58 (q ∷ ps)) (doubled back) in
    (ap before_double same ∙ here.0 ∙ ap (λ ys. p ++ 58 ∷ ys) rest.0, ap after_double same ∙ here.1 ∙ rest.1)

double_back : (t : List ℕ) → before_double t ++ doubled (after_double t) ≡ t
unfolding doubled
double_back [] = refl
double_back (x ∷ xs) =
    elim (x == 58 && begins 58 xs) as (λ b. (x == 58 && begins 58 xs) ≡ b
    → cond b [] (x ∷ before_double xs) ++ doubled (cond b (Some (tail xs)) (after_double xs)) ≡ x ∷ xs) [
      | true ↦ λ e. let k = both (x == 58) (begins 58 xs) e in
          ap₂ (λ n ys. n ∷ ys) (sym (eqb-true x 58 k.0)) (colon_tail xs k.1)
      | false ↦ λ _. ap (λ ys. x ∷ ys) (double_back xs)
    ] refl
  where
    colon_tail : (ys : List ℕ) → begins 58 ys ≡ true → 58 ∷ tail ys ≡ ys
    colon_tail [] h = cc
    colon_tail (y ∷ ys) h = ap (λ n. n ∷ ys) (sym (eqb-true y 58 h))

-- ---- groups and IPv4 texts are parts
group_part : (p : List ℕ) → is_group p ≡ true → is_part p ≡ true
unfolding is_part is_group
group_part [] h = cc
group_part (x ∷ xs) h = all-lacks is_ascii_hexdigit 58 (x ∷ xs) refl (hex_of_group (x ∷ xs) h)

ipv4_part : (p : List ℕ) → is_ipv4 p ≡ true → is_part p ≡ true
unfolding is_part
ipv4_part [] h = cc
ipv4_part (x ∷ xs) h = all-lacks is_ipv4_char 58 (x ∷ xs) refl (ipv4-chars (x ∷ xs) h)

groups_parts : (ps : List (List ℕ)) → are_groups ps ≡ true → list_all is_part ps ≡ true
groups_parts = groups-all is_part group_part

mixed_parts : (ps : List (List ℕ)) → are_groups_or_ipv4 ps ≡ true → list_all is_part ps ≡ true
mixed_parts = mixed-all is_part group_part ipv4_part

-- ---- the law
passes_full : (t : List ℕ) → IsFullIpv6 t → is_ipv6 t ≡ true
unfolding doubled
passes_full t f =
    let parts = mixed_parts f.parts f.groups in
    let cut = cut_parts f.parts None parts in
    let test : is_ipv6 (joined 58 f.parts ++ []) ≡ true = rw (cut.1, cut.0, parts_joined f.parts parts, f.groups, f.count) refl in
    subst (λ z. is_ipv6 z ≡ true) (append-nil (joined 58 f.parts) ∙ sym f.text) test

passes_shortened : (t : List ℕ) → IsShortenedIpv6 t → is_ipv6 t ≡ true
unfolding doubled
passes_shortened t s =
    let prefixes = groups_parts s.prefix s.prefix_groups in
    let backs = mixed_parts s.back s.back_groups in
    let cut = cut_parts s.prefix (Some (joined 58 s.back)) prefixes in
    let few : nat_lt (group_count s.prefix + group_count s.back) 8 ≡ true = grind (arith, nat_tests, s.count) in
    let test : is_ipv6 (joined 58 s.prefix ++ (58 ∷ 58 ∷ joined 58 s.back)) ≡ true =
    rw (cut.1, cut.0, parts_joined s.prefix prefixes, parts_joined s.back backs, s.prefix_groups, s.back_groups, few) refl in
    subst (λ z. is_ipv6 z ≡ true) (sym s.text) test

tells : (t : List ℕ) (back : Option (List ℕ)) → before_double t ++ doubled back ≡ t → is_ipv6_around (before_double t) back ≡ true → IsIpv6 t
unfolding doubled
tells t None e h =
    let k = both (are_groups_or_ipv4 (group_texts (before_double t))) (group_count (group_texts (before_double t)) == 8) h in
    inl (record {
      parts = group_texts (before_double t);
      groups = k.0;
      text = sym (joined_parts (before_double t) ∙ sym (append-nil (before_double t)) ∙ e);
      count = grind (arith, nat_tests, k.1);
    })
tells t (Some back) e h =
    let k = and_three (are_groups (group_texts (before_double t))) (are_groups_or_ipv4 (group_texts back)) _ h in
    inr (record {
      prefix = group_texts (before_double t);
      back = group_texts back;
      prefix_groups = k.0;
      back_groups = k.1;
      text = sym (rw (joined_parts (before_double t), joined_parts back) e);
      count = grind (arith, nat_tests, k.2);
    })

pub ipv6_law : (t : List ℕ) → (is_ipv6 t ≡ true) ↔ IsIpv6 t
ipv6_law t = (tells t (after_double t) (double_back t), λ i. elim i [ inl f ↦ passes_full t f | inr s ↦ passes_shortened t s ])

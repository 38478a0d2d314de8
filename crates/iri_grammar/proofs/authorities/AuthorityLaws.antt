-- An authority has one reading.
use Rattle.iri_grammar.proofs.Common.{◌≡◌, ◌↔◌, ℕ, true, false, cond, not, ◌&&◌, ◌||◌, List, [], ◌∷◌, ◌++◌, Option, Some, None, refl, sym}
use Rattle.iri_grammar.proofs.Common.{◌∙◌, ap, subst, arith, append_assoc, ◌==◌, is_ascii_digit, and-false, append-nil, Tests, IsSpec}
use Rattle.iri_grammar.proofs.Common.{userinfo_char, reg_name_char, is_ascii_userinfo, is_ascii_reg_name, is_ascii_unreserved, is_sub_delim}
use Rattle.iri_grammar.proofs.Common.{before, after, lacks, delimited, is_userinfo, is_port, if_there, is_end, is_ip_literal, is_ipv6}
use Rattle.iri_grammar.proofs.Common.{is_ipvfuture, is_host, is_reg_name, recompose_authority, userinfo_text, authority_parts, userinfo_of}
use Rattle.iri_grammar.proofs.Common.{after_userinfo, host_of, port_of, is_authority}
use Rattle.iri_grammar.proofs.Common.{inl, inr}
use Rattle.std.proofs.lemmas.Bool.{or_cases}
use Rattle.iri_grammar.proofs.splits.CutLaws.{both, joined, before-delimited, after-delimited, lacks-append, lacks-other, all-lacks}
use Rattle.iri_grammar.specs.Authority.{AuthorityParts, ReadsAuthority}
use Rattle.iri_grammar.proofs.authorities.AuthorityTexts.{over_text-lacks, whole, port-digits}
use Rattle.iri_grammar.proofs.hosts.LiteralChars.{is_literal_char, ip_literal-chars}

-- ---- the host has no `@`, and no colon with only digits after it
at_apart : (s : Tests) → IsSpec s → (userinfo_char s 64 ≡ false) × (reg_name_char s 64 ≡ false) × (reg_name_char s 58 ≡ false)
unfolding userinfo_char reg_name_char is_ascii_userinfo is_ascii_reg_name is_ascii_unreserved is_sub_delim
at_apart s k = (rw (k.ucs_ascii 64 (omega arith)) refl, rw (k.ucs_ascii 64 (omega arith)) refl, rw (k.ucs_ascii 58 (omega arith)) refl)

no_at_in_literal : is_literal_char 64 ≡ false
unfolding is_literal_char is_ascii_userinfo is_ascii_reg_name is_ascii_unreserved is_sub_delim
no_at_in_literal = refl

host_no_at : (s : Tests) → IsSpec s → (h : List ℕ) → is_host s h ≡ true → lacks 64 h ≡ true
host_no_at s k h t =
    elim (or_cases (is_ip_literal h) (is_reg_name s h) t) [
      | inl e ↦ all-lacks is_literal_char 64 h no_at_in_literal (ip_literal-chars h e)
      | inr r ↦ over_text-lacks (reg_name_char s) 64 h (omega arith) (at_apart s k).1 refl refl r
    ]

not_digits : (b : List ℕ) (c : ℕ) (r : List ℕ) → is_ascii_digit c ≡ false → is_port (b ++ c ∷ r) ≡ false
not_digits [] c r h = rw h refl
not_digits (x ∷ b) c r h = elim (is_ascii_digit x) as (λ d. (d && is_port (b ++ c ∷ r)) ≡ false) [
  | true ↦ not_digits b c r h
  | false ↦ refl
]

-- a text that ends with a bracket
bracket_end : (b : List ℕ) → (host_of (b ++ 93 ∷ []) ≡ b ++ 93 ∷ []) × (port_of (b ++ 93 ∷ []) ≡ None)
bracket_end [] = (refl, refl)
bracket_end (x ∷ b) =
    let r = bracket_end b in
    let rest = not_digits b 93 [] refl in
    (rw (rest, and-false (x == 58)) (ap (λ ys. x ∷ ys) r.0), rw (rest, and-false (x == 58)) r.1)

no_colon : (h : List ℕ) → lacks 58 h ≡ true → (host_of h ≡ h) × (port_of h ≡ None)
no_colon [] t = (refl, refl)
no_colon (x ∷ xs) t =
    elim (x == 58) as (λ b. (not b && lacks 58 xs) ≡ true
    → (cond (b && is_port xs) [] (x ∷ host_of xs) ≡ x ∷ xs) × (cond (b && is_port xs) (Some xs) (port_of xs) ≡ None)) [
      | true ↦ λ k. cc
      | false ↦ λ k. let r = no_colon xs k in (ap (λ ys. x ∷ ys) r.0, r.1)
    ] t

literal_end : (h : List ℕ) → is_ip_literal h ≡ true → (b : List ℕ) × (b ++ 93 ∷ [] ≡ h)
literal_end [] t = cc
literal_end (x ∷ xs) t =
    let one = both (x == 91 && is_end (after 93 xs)) (is_ipv6 (before 93 xs) || is_ipvfuture (before 93 xs)) t in
    let two = both (x == 91) (is_end (after 93 xs)) one.0 in
    (x ∷ before 93 xs, ap (λ ys. x ∷ ys) (ap (λ o. before 93 xs ++ delimited 93 o) (sym (ended (after 93 xs) two.1)) ∙ joined 93 xs))
  where
    ended : (o : Option (List ℕ)) → is_end o ≡ true → o ≡ Some []
    ended None e = cc
    ended (Some []) e = refl
    ended (Some (y ∷ ys)) e = cc

host_alone : (s : Tests) → IsSpec s → (h : List ℕ) → is_host s h ≡ true → (host_of h ≡ h) × (port_of h ≡ None)
host_alone s k h t =
    elim (or_cases (is_ip_literal h) (is_reg_name s h) t) [
      | inl e ↦ let l = literal_end h e in subst (λ z. (host_of z ≡ z) × (port_of z ≡ None)) l.1 (bracket_end l.0)
      | inr r ↦ no_colon h (over_text-lacks (reg_name_char s) 58 h (omega arith) (at_apart s k).2 refl refl r)
    ]

host_then_port : (h d : List ℕ) → is_port d ≡ true → (host_of (h ++ 58 ∷ d) ≡ h) × (port_of (h ++ 58 ∷ d) ≡ Some d)
host_then_port [] d t = (rw t refl, rw t refl)
host_then_port (x ∷ h) d t =
    let r = host_then_port h d t in
    let rest = not_digits h 58 d refl in
    (rw (rest, and-false (x == 58)) (ap (λ ys. x ∷ ys) r.0), rw (rest, and-false (x == 58)) r.1)

host_port : (s : Tests) → IsSpec s → (h : List ℕ) (p : Option (List ℕ)) → is_host s h ≡ true → if_there is_port p ≡ true
    → (host_of (h ++ delimited 58 p) ≡ h) × (port_of (h ++ delimited 58 p) ≡ p)
host_port s k h None t d = subst (λ z. (host_of z ≡ h) × (port_of z ≡ None)) (sym (append-nil h)) (host_alone s k h t)
host_port s k h (Some p) t d = host_then_port h p d

port_no_at : (p : Option (List ℕ)) → if_there is_port p ≡ true → lacks 64 (delimited 58 p) ≡ true
port_no_at None d = refl
port_no_at (Some p) d = lacks-other 64 58 p refl (all-lacks is_ascii_digit 64 p refl d)

-- ---- the reading
no_userinfo : (t : List ℕ) → lacks 64 t ≡ true → after 64 t ≡ None
no_userinfo t l = sym (ap (after 64) (append-nil t)) ∙ after-delimited 64 t None l

read_back : (s : Tests) → IsSpec s → (u : Option (List ℕ)) (h : List ℕ) (p : Option (List ℕ)) → if_there (is_userinfo s) u ≡ true
    → is_host s h ≡ true → if_there is_port p ≡ true
    → authority_parts (userinfo_text u ++ (h ++ delimited 58 p)) ≡ record { userinfo = u; host = h; port = p }
unfolding authority_parts
read_back s k None h p f t d =
    let rest = h ++ delimited 58 p in
    let gone = no_userinfo rest (lacks-append 64 h (delimited 58 p) (host_no_at s k h t) (port_no_at p d)) in
    let r = host_port s k h p t d in
    rw (gone, r.0, r.1) refl
read_back s k (Some u) h p f t d =
    let rest = h ++ delimited 58 p in
    let plain = over_text-lacks (userinfo_char s) 64 u (omega arith) (at_apart s k).0 refl refl f in
    let prefix = before-delimited 64 u (Some rest) plain in
    let back = after-delimited 64 u (Some rest) plain in
    let r = host_port s k h p t d in
    rw (append_assoc u (64 ∷ []) rest, prefix, back, r.0, r.1) refl

-- of a name and a port
name_port : (h : List ℕ) (p : Option (List ℕ)) → lacks 58 h ≡ true → if_there is_port p ≡ true
    → (host_of (h ++ delimited 58 p) ≡ h) × (port_of (h ++ delimited 58 p) ≡ p)
name_port h None c d = subst (λ z. (host_of z ≡ h) × (port_of z ≡ None)) (sym (append-nil h)) (no_colon h c)
name_port h (Some p) c d = host_then_port h p d

pub name_parts : (h : List ℕ) (p : Option (List ℕ)) → lacks 64 h ≡ true → lacks 58 h ≡ true → if_there is_port p ≡ true
    → authority_parts (h ++ delimited 58 p) ≡ record { userinfo = None; host = h; port = p }
unfolding authority_parts
name_parts h p a c d =
    let gone = no_userinfo (h ++ delimited 58 p) (lacks-append 64 h (delimited 58 p) a (port_no_at p d)) in
    let r = name_port h p c d in
    rw (gone, r.0, r.1) refl

pub reading_is : (s : Tests) → IsSpec s → (t : List ℕ) (a : AuthorityParts) → ReadsAuthority s t a → authority_parts t ≡ a
unfolding recompose_authority
reading_is s k t a r = ap authority_parts (sym r.1) ∙ read_back s k a.userinfo a.host a.port r.0.userinfo r.0.host r.0.port

pub one_reading : (s : Tests) → IsSpec s → (t : List ℕ) (a b : AuthorityParts) → ReadsAuthority s t a → ReadsAuthority s t b → a ≡ b
one_reading s k t a b h i = sym (reading_is s k t a h) ∙ reading_is s k t b i

pub authority_recomposed : (t : List ℕ) → recompose_authority (authority_parts t) ≡ t
unfolding recompose_authority authority_parts
authority_recomposed t = whole t

pub reads : (s : Tests) (t : List ℕ) → is_authority s t ≡ true → ReadsAuthority s t (authority_parts t)
unfolding is_authority authority_parts
reads s t h =
    let k = both (if_there (is_userinfo s) (userinfo_of t)) (is_host s (host_of (after_userinfo t))) h in
    (record { userinfo = k.0; host = k.1; port = port-digits (after_userinfo t) }, authority_recomposed t)

pub passes : (s : Tests) → IsSpec s → (t : List ℕ) (a : AuthorityParts) → ReadsAuthority s t a → is_authority s t ≡ true
unfolding is_authority
passes s k t a r = rw (reading_is s k t a r, r.0.userinfo, r.0.host) refl

pub authority_law : (s : Tests) → IsSpec s → (t : List ℕ) → (is_authority s t ≡ true) ↔ ((a : AuthorityParts) × ReadsAuthority s t a)
authority_law s k t = (λ h. (authority_parts t, reads s t h), λ r. passes s k t r.0 r.1)

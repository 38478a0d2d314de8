-- Hosts and authorities in normal form.
use Rattle.iri_normal.proofs.Common.{◌≡◌, ℕ, Bool, true, false, cond, not, ◌&&◌, List, [], ◌∷◌, ◌++◌, map, refl, sym, ◌∙◌, ap, arith, ◌==◌}
use Rattle.iri_normal.proofs.Common.{nat_lt, is_ascii_hexdigit, to_ascii_lowercase, to_ascii_uppercase, encode_utf8, list_all, nat_tests}
use Rattle.iri_normal.proofs.Common.{lt-ltb, ltb-true, Tests, IsSpec, unreserved, lacks, octet, whole_triplets, normal, as_it_is, pct}
use Rattle.iri_normal.proofs.Common.{is_ascii_host, normal_host, Spells, none, more, normal_nil, normal_plain, normal_lone, normal_char}
use Rattle.iri_normal.proofs.Common.{Reading, done, plain, char, lone, read, as_it_is-case, lower-case, upper_hex, upper_octet, pct-stable}
use Rattle.iri_normal.proofs.Common.{◌||◌, Option, Some, None, append-nil, or-true, is_userinfo, is_port, if_there, is_host, is_reg_name}
use Rattle.iri_normal.proofs.Common.{is_ip_literal, is_dropped, normal_userinfo, normal_port_in, normal_authority_parts_in}
use Rattle.iri_normal.proofs.Common.{normal_authority, normal_authority_in, authority_in, userinfo-whole, host-whole, AuthorityParts}
use Rattle.iri_normal.proofs.Common.{recompose_authority, authority_parts, is_authority}
use Rattle.iri_grammar.proofs.authorities.AuthorityLaws.{reading_is, authority_law}
use Rattle.iri_grammar.proofs.hosts.LiteralChars.{is_literal_char, ip_literal-chars, all-weaken}
use Rattle.iri_grammar.specs.Authority.{FitsAuthority, ReadsAuthority}
use Rattle.iri_normal.proofs.normal_forms.IpLiterals.{literal-lower}
use Rattle.iri_percent.proofs.forms.ByUnits.{normal_plains}
use Rattle.iri_percent.proofs.forms.Classes.{pct-userinfo, pct-reg_name, lowered-reg_name}
use Rattle.iri_percent.proofs.forms.Stability.{IsCase, upper_spells, written_percent, normal-stable}
use Rattle.iri_percent.proofs.mapping.Productions.{authority-reads as reads, literal_low as literal-ascii}
use Rattle.iri_percent.proofs.units.AtStart.{hex_apart}
use Rattle.iri_percent.proofs.units.OfParts.{literal-lacks}
use Rattle.iri_percent.specs.NormalHost.{lowered_host, authority_without}
use Rattle.std.proofs.lemmas.Bool.{ltb-false}
use mathlib.Core.Bool.{and_assoc}
use Rattle.iri_normal.specs.NormalForm as P

-- ---- the normal form of a host is stable
abbrev is_ascii : ℕ → Bool
is_ascii x = nat_lt x 128

hex_ascii : (a : ℕ) → is_ascii_hexdigit a ≡ true → is_ascii a ≡ true
hex_ascii a h = grind (arith, nat_tests)

-- ---- the tests of a host's bytes
ascii-plain : (x : ℕ) (xs : List ℕ) → (x == 37) ≡ false → is_ascii_host (x ∷ xs) ≡ (is_ascii x && is_ascii_host xs)
unfolding is_ascii_host
ascii-plain x xs h = rw h refl

pub ascii-triplet : (a b : ℕ) (xs : List ℕ) → is_ascii_hexdigit a ≡ true → is_ascii_hexdigit b ≡ true
    → is_ascii_host (37 ∷ a ∷ b ∷ xs) ≡ (is_ascii (octet a b) && is_ascii_host xs)
unfolding is_ascii_host
ascii-triplet a b xs p q = ap (λ v. is_ascii (octet a b) && v)
    (ascii-plain a (b ∷ xs) (hex_apart a p) ∙ (rw (hex_ascii a p) (ascii-plain b xs (hex_apart b q) ∙ rw (hex_ascii b q) refl)))

pub ascii-spelled : (sp os xs : List ℕ) → Spells sp os → is_ascii_host (sp ++ xs) ≡ (list_all is_ascii os && is_ascii_host xs)
ascii-spelled sp os xs none = refl
ascii-spelled sp os xs (more a b sp' os' p q k) =
    ascii-triplet a b (sp' ++ xs) p q ∙ (ap (λ v. is_ascii (octet a b) && v) (ascii-spelled sp' os' xs k)
    ∙ sym (and_assoc (is_ascii (octet a b)) (list_all is_ascii os') (is_ascii_host xs)))

pub ascii-plains : (ys xs : List ℕ) → lacks 37 ys ≡ true → is_ascii_host (ys ++ xs) ≡ (list_all is_ascii ys && is_ascii_host xs)
ascii-plains [] xs h = refl
ascii-plains (y ∷ ys) xs h =
    elim (y == 37) as (λ b. (y == 37) ≡ b → (not b && lacks 37 ys) ≡ true
    → is_ascii_host (y ∷ (ys ++ xs)) ≡ ((is_ascii y && list_all is_ascii ys) && is_ascii_host xs)) [
      | true ↦ λ _ l. cc
      | false ↦ λ e l. ascii-plain y (ys ++ xs) e ∙ (ap (λ v. is_ascii y && v) (ascii-plains ys xs l)
          ∙ sym (and_assoc (is_ascii y) (list_all is_ascii ys) (is_ascii_host xs)))
    ] refl h

case-ascii : (f : ℕ → ℕ) (x : ℕ) → IsCase f → is_ascii (f x) ≡ is_ascii x
case-ascii f x i =
    elim (is_ascii x) as (λ b. is_ascii x ≡ b → is_ascii (f x) ≡ b) [
      | true ↦ λ e. lt-ltb (f x) 128 (i.below x (ltb-true x 128 e))
      | false ↦ λ e. ap is_ascii (i.past x (ltb-false x 128 e)) ∙ e
    ] refl

all-case : (f : ℕ → ℕ) (xs : List ℕ) → IsCase f → list_all is_ascii (map f xs) ≡ list_all is_ascii xs
all-case f [] i = refl
all-case f (x ∷ xs) i = rw (case-ascii f x i, all-case f xs i) refl

-- normal form doesn't change whether a host is ASCII
pub ascii-read : (s : Tests) (f : ℕ → ℕ) (t : List ℕ) → IsSpec s → IsCase f → Reading t → is_ascii_host (normal s f t) ≡ is_ascii_host t
ascii-read s f t k i done = ap is_ascii_host (normal_nil s f)
ascii-read s f t k i (plain x xs h r) =
    ap is_ascii_host (normal_plain s f x xs h) ∙ (ascii-plain (f x) (normal s f xs) (i.percent x h)
    ∙ (rw (case-ascii f x i, ascii-read s f xs k i r) (sym (ascii-plain x xs h))))
ascii-read s f t k i (lone a b xs p q n r) =
    ap is_ascii_host (normal_lone s f a b xs p q n)
    ∙ (ascii-triplet (to_ascii_uppercase a) (to_ascii_uppercase b) (normal s f xs) (upper_hex a p) (upper_hex b q)
    ∙ (rw (upper_octet a b p q, ascii-read s f xs k i r) (sym (ascii-triplet a b xs p q))))
ascii-read s f t k i (char c sp xs h sps r) =
    let rest = ascii-read s f xs k i r in
    ap is_ascii_host (normal_char s f c sp xs h sps)
    ∙ (elim (unreserved s c) as (λ b. unreserved s c ≡ b
    → is_ascii_host (cond b (map f (encode_utf8 c)) (map to_ascii_uppercase sp) ++ normal s f xs)
    ≡ (list_all is_ascii (encode_utf8 c) && is_ascii_host xs)) [
      | true ↦ λ u. ascii-plains (map f (encode_utf8 c)) (normal s f xs) (written_percent s f c k i u)
          ∙ rw (all-case f (encode_utf8 c) i, rest) refl
      | false ↦ λ _. ascii-spelled (map to_ascii_uppercase sp) (encode_utf8 c) (normal s f xs) (upper_spells sp (encode_utf8 c) sps)
          ∙ rw rest refl
    ] refl ∙ sym (ascii-spelled sp (encode_utf8 c) xs sps))

pub host-stable : (s : Tests) (h : List ℕ) → IsSpec s → whole_triplets h ≡ true → normal_host s (normal_host s h) ≡ normal_host s h
unfolding normal_host
host-stable s h k w =
    elim (is_ascii_host h) as (λ b. is_ascii_host h ≡ b
    → cond (is_ascii_host (cond b (lowered_host s h) (pct s h))) (lowered_host s (cond b (lowered_host s h) (pct s h)))
    (pct s (cond b (lowered_host s h) (pct s h))) ≡ cond b (lowered_host s h) (pct s h)) [
      | true ↦ λ e. rw (ascii-read s to_ascii_lowercase h k lower-case (read h w), e) (normal-stable s to_ascii_lowercase h k lower-case w)
      | false ↦ λ e. rw (ascii-read s as_it_is h k as_it_is-case (read h w), e) (pct-stable s h k w)
    ] refl

-- ---- the normal form of an authority is an authority, and stable
-- ---- hosts
ascii-nothing : is_ascii_host [] ≡ true
unfolding is_ascii_host
ascii-nothing = refl

literal-normal : (s : Tests) (h : List ℕ) → is_ip_literal h ≡ true → normal_host s h ≡ P.lowered h
unfolding normal_host
literal-normal s h e =
    let l = literal-lacks h e in
    let a : is_ascii_host h ≡ true = ap is_ascii_host (sym (append-nil h))
    ∙ (ascii-plains h [] l ∙ rw (all-weaken is_literal_char (λ x. nat_lt x 128) literal-ascii h (ip_literal-chars h e), ascii-nothing) refl) in
    let n : normal s to_ascii_lowercase h ≡ map to_ascii_lowercase h =
    ap (normal s to_ascii_lowercase) (sym (append-nil h))
    ∙ (normal_plains s to_ascii_lowercase h [] l
    ∙ (ap (λ z. map to_ascii_lowercase h ++ z) (normal_nil s to_ascii_lowercase) ∙ append-nil (map to_ascii_lowercase h))) in
    rw (a, n) refl

pub host-fits : (s : Tests) (h : List ℕ) → IsSpec s → is_host s h ≡ true → is_host s (normal_host s h) ≡ true
unfolding normal_host
host-fits s h k t =
    elim (is_ip_literal h) as (λ b. is_ip_literal h ≡ b → (b || is_reg_name s h) ≡ true → is_host s (normal_host s h) ≡ true) [
      | true ↦ λ e _. rw (literal-normal s h e, literal-lower h, e) refl
      | false ↦ λ _ r. rw (reg_name-fits r) (or-true (is_ip_literal (normal_host s h)))
    ] refl t
  where
    reg_name-fits : is_reg_name s h ≡ true → is_reg_name s (normal_host s h) ≡ true
    reg_name-fits r =
        elim (is_ascii_host h) as (λ b. is_reg_name s (cond b (normal s to_ascii_lowercase h) (pct s h)) ≡ true) [
          | true ↦ lowered-reg_name s h k r
          | false ↦ pct-reg_name s h k r
        ]

-- ---- the parts of an authority
pub userinfo-fits : (s : Tests) (o : Option (List ℕ)) → IsSpec s → if_there (is_userinfo s) o ≡ true
    → if_there (is_userinfo s) (normal_userinfo s o) ≡ true
userinfo-fits s None k h = refl
userinfo-fits s (Some u) k h = pct-userinfo s u k h

port-fits : (d o : Option (List ℕ)) → if_there is_port o ≡ true → if_there is_port (normal_port_in d o) ≡ true
port-fits d None h = refl
port-fits d (Some []) h = refl
port-fits d (Some (x ∷ xs)) h =
    elim (is_dropped d (x ∷ xs)) as (λ b. if_there is_port (cond b None (Some (x ∷ xs))) ≡ true) [ true ↦ refl | false ↦ h ]

parts-fit : (s : Tests) (d : Option (List ℕ)) (a : AuthorityParts) → IsSpec s → FitsAuthority s a
    → FitsAuthority s (normal_authority_parts_in s d a)
parts-fit s d a k f = record {
  userinfo = userinfo-fits s a.userinfo k f.userinfo;
  host = host-fits s a.host k f.host;
  port = port-fits d a.port f.port;
}

userinfo-stable : (s : Tests) (o : Option (List ℕ)) → IsSpec s → if_there (is_userinfo s) o ≡ true
    → normal_userinfo s (normal_userinfo s o) ≡ normal_userinfo s o
userinfo-stable s None k h = refl
userinfo-stable s (Some u) k h = ap Some (pct-stable s u k (userinfo-whole s u k h))

port-stable : (d o : Option (List ℕ)) → normal_port_in d (normal_port_in d o) ≡ normal_port_in d o
port-stable d None = refl
port-stable d (Some []) = refl
port-stable d (Some (x ∷ xs)) =
    elim (is_dropped d (x ∷ xs)) as (λ b. is_dropped d (x ∷ xs) ≡ b
    → normal_port_in d (cond b None (Some (x ∷ xs))) ≡ cond b None (Some (x ∷ xs))) [ true ↦ λ _. refl | false ↦ λ e. rw e refl ] refl

parts-stable : (s : Tests) (d : Option (List ℕ)) (a : AuthorityParts) → IsSpec s → FitsAuthority s a
    → normal_authority_parts_in s d (normal_authority_parts_in s d a) ≡ normal_authority_parts_in s d a
parts-stable s d a k f = rw (
  userinfo-stable s a.userinfo k f.userinfo,
  host-stable s a.host k (host-whole s a.host k f.host),
  port-stable d a.port,
) refl

-- ---- the authority
normal-reads : (s : Tests) (d : Option (List ℕ)) (t : List ℕ) → IsSpec s → is_authority s t ≡ true
    → ReadsAuthority s (normal_authority_in s d t) (normal_authority_parts_in s d (authority_parts t))
unfolding normal_authority authority_without
normal-reads s None t k h = (parts-fit s None (authority_parts t) k (reads s t k h), refl)
normal-reads s (Some d) t k h = (parts-fit s (Some d) (authority_parts t) k (reads s t k h), refl)

-- what an authority in normal form is read as
pub normal-parts : (s : Tests) (d : Option (List ℕ)) (t : List ℕ) → IsSpec s → is_authority s t ≡ true
    → authority_parts (normal_authority_in s d t) ≡ normal_authority_parts_in s d (authority_parts t)
normal-parts s d t k h = reading_is s k (normal_authority_in s d t) (normal_authority_parts_in s d (authority_parts t)) (normal-reads s d t k h)

pub authority_in-fits : (s : Tests) (d : Option (List ℕ)) (t : List ℕ) → IsSpec s → is_authority s t ≡ true
    → is_authority s (normal_authority_in s d t) ≡ true
authority_in-fits s d t k h = (authority_law s k (normal_authority_in s d t)).1
    (normal_authority_parts_in s d (authority_parts t), normal-reads s d t k h)

pub authority_in-stable : (s : Tests) (d : Option (List ℕ)) (t : List ℕ) → IsSpec s → is_authority s t ≡ true
    → normal_authority_in s d (normal_authority_in s d t) ≡ normal_authority_in s d t
authority_in-stable s d t k h =
    let p = normal_authority_parts_in s d (authority_parts t) in
    sym (authority_in s d (normal_authority_in s d t) p (sym (normal-parts s d t k h)))
    ∙ (ap recompose_authority (parts-stable s d (authority_parts t) k (reads s t k h)) ∙ authority_in s d t (authority_parts t) refl)

pub authority-fits : (s : Tests) (t : List ℕ) → IsSpec s → is_authority s t ≡ true → is_authority s (normal_authority s t) ≡ true
authority-fits s t k h = authority_in-fits s None t k h

pub authority-stable : (s : Tests) (t : List ℕ) → IsSpec s → is_authority s t ≡ true
    → normal_authority s (normal_authority s t) ≡ normal_authority s t
authority-stable s t k h = authority_in-stable s None t k h

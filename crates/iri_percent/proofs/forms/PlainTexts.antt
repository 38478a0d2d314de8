-- Texts that are in normal form as they stand, or in lower case.
use Rattle.iri_percent.proofs.Common.{◌≡◌, ℕ, zero, suc, true, false, not, ◌&&◌, List, [], ◌∷◌, ◌++◌, Option, Some, None, refl, sym, ◌∙◌}
use Rattle.iri_percent.proofs.Common.{ap, arith, map, append-nil, length, subst, option_map, list_all, IsAscii, is_ascii_digit}
use Rattle.iri_percent.proofs.Common.{to_ascii_lowercase, nat_tests, map-id, lt-ltb, Tests, ascii_test, if_there, is_port, AuthorityParts}
use Rattle.iri_percent.proofs.Common.{authority_parts, recompose_authority, userinfo_text, lacks, delimited, all-lacks, both, is_ascii_host}
use Rattle.iri_percent.proofs.Common.{normal_authority, normal_host, as_it_is, normal, pct, NoCandidate, case_of}
use Rattle.std.specs.Prelude.{is_some}
use Rattle.std.proofs.lemmas.List.{map-append}
use Rattle.iri_grammar.specs.Authority.{after_userinfo}
use Rattle.iri_grammar.specs.Seen.{is_kept_port, is_plain_authority, is_small}
use Rattle.iri_grammar.specs.declared.class.Class.TheVariants.{RegName}
use Rattle.iri_grammar.proofs.authorities.AuthorityLaws.{authority_recomposed}
use Rattle.iri_grammar.proofs.authorities.AuthorityTexts.{all_below, digit-below, port-digits}
use Rattle.iri_grammar.proofs.units.ClassLaws.{ascii_test_below, no_percent}
use Rattle.iri_grammar.proofs.splits.CutLaws.{lacks-append, test_apart}
use Rattle.iri_grammar.proofs.authorities.PlainAuthorities.{port_small}
use Rattle.iri_percent.specs.Units.{IsOutsideTriplets}
use Rattle.iri_percent.specs.NormalHost.{normal_authority_parts, normal_port, normal_userinfo}
use Rattle.iri_percent.proofs.forms.Changes.{run_all}
use Rattle.iri_percent.proofs.hosts.AsciiHosts.{host_case}
use Rattle.iri_percent.proofs.units.AtDelimiters.{pct_delimiter}
use Rattle.iri_percent.proofs.forms.ByUnits.{normal_nil, normal_plains}
use Rattle.iri_percent.proofs.units.AtStart.{lacks_first}

-- ---- without a triplet
lacks-stays : (t : List ℕ) → lacks 37 t ≡ true → NoCandidate false t (length t)
lacks-stays [] h k j = absurd (omega arith)
lacks-stays (x ∷ xs) h zero j = rw (lacks_first x xs h).0 refl
lacks-stays (x ∷ xs) h (suc k) j = lacks-stays xs (lacks_first x xs h).1 k (omega arith)

pub pct-same : (s : Tests) (t : List ℕ) → lacks 37 t ≡ true → pct s t ≡ t
pct-same s t h = run_all s false t (lacks-stays t h)

-- what has no triplet stays before what follows
pub pct-prefix : (s : Tests) (t r : List ℕ) → lacks 37 t ≡ true → pct s (t ++ r) ≡ t ++ pct s r
pct-prefix s t r h = normal_plains s as_it_is t r h ∙ ap (λ l. l ++ pct s r) (map-id t)

-- a part after its delimiter
pub pct-delimited : (s : Tests) (m : ℕ) (a : List ℕ) (o : Option (List ℕ)) → IsOutsideTriplets m
    → pct s (a ++ delimited m o) ≡ pct s a ++ delimited m (option_map (pct s) o)
pct-delimited s m a None k = ap (pct s) (append-nil a) ∙ sym (append-nil (pct s a))
pct-delimited s m a (Some b) k = pct_delimiter s m a b k

-- ---- letters in lower case
small_low : (x : ℕ) → is_small x ≡ true → to_ascii_lowercase x ≡ x
small_low x h = grind (arith, nat_tests)

pub small-lowered : (t : List ℕ) → list_all is_small t ≡ true → map to_ascii_lowercase t ≡ t
small-lowered [] h = refl
small-lowered (x ∷ xs) h =
    let k = both (is_small x) (list_all is_small xs) h in
    ap (λ y. y ∷ map to_ascii_lowercase xs) (small_low x k.0) ∙ ap (λ ys. x ∷ ys) (small-lowered xs k.1)

lowered-alone : (s : Tests) (t : List ℕ) → lacks 37 t ≡ true → normal s to_ascii_lowercase t ≡ map to_ascii_lowercase t
lowered-alone s t h =
    ap (normal s to_ascii_lowercase) (sym (append-nil t)) ∙ (normal_plains s to_ascii_lowercase t [] h
    ∙ (ap (λ l. map to_ascii_lowercase t ++ l) (normal_nil s to_ascii_lowercase) ∙ append-nil (map to_ascii_lowercase t)))

-- ---- names in ASCII without triplets
name-lacks : (t : List ℕ) → list_all (ascii_test RegName) t ≡ true → lacks 37 t ≡ true
name-lacks t h = all-lacks (ascii_test RegName) 37 t (no_percent RegName) h

name_ascii : (t : List ℕ) → list_all (ascii_test RegName) t ≡ true → is_ascii_host t ≡ true
unfolding is_ascii_host
name_ascii [] h = refl
name_ascii (x ∷ xs) h =
    let k = both (ascii_test RegName x) (list_all (ascii_test RegName) xs) h in
    rw (lt-ltb x 128 (ascii_test_below RegName x k.0), test_apart (ascii_test RegName) 37 x (no_percent RegName) k.0) (name_ascii xs k.1)

name-lowered : (s : Tests) (t : List ℕ) → list_all (ascii_test RegName) t ≡ true → normal_host s t ≡ map to_ascii_lowercase t
name-lowered s t h = host_case s t ∙ (ap (λ b. normal s (case_of b) t) (name_ascii t h) ∙ lowered-alone s t (name-lacks t h))

-- ---- plain authorities
record PlainParts (a : List ℕ) : Type 0 where
  userinfo : (authority_parts a).userinfo ≡ None
  name : list_all (ascii_test RegName) (authority_parts a).host ≡ true
  digits : if_there is_port (authority_parts a).port ≡ true
  kept : normal_port (authority_parts a).port ≡ (authority_parts a).port
  whole : (authority_parts a).host ++ delimited 58 (authority_parts a).port ≡ a

nothing-there : (o : Option (List ℕ)) → not (is_some o) ≡ true → o ≡ None
nothing-there None h = refl
nothing-there (Some x) h = cc

port-kept : (o : Option (List ℕ)) → is_kept_port o ≡ true → normal_port o ≡ o
port-kept None h = refl
port-kept (Some []) h = cc
port-kept (Some (x ∷ xs)) h = refl

plain-digits : (a : List ℕ) → if_there is_port (authority_parts a).port ≡ true
unfolding authority_parts
plain-digits a = port-digits (after_userinfo a)

plain-whole : (p : AuthorityParts) (a : List ℕ) → p.userinfo ≡ None → recompose_authority p ≡ a → p.host ++ delimited 58 p.port ≡ a
unfolding recompose_authority
plain-whole p a e h = ap (λ u. userinfo_text u ++ (p.host ++ delimited 58 p.port)) (sym e) ∙ h

plain-parts : (a : List ℕ) → is_plain_authority a ≡ true → PlainParts a
unfolding is_plain_authority
plain-parts a h =
    let p = authority_parts a in
    let k = both (not (is_some p.userinfo)) (list_all (ascii_test RegName) p.host && is_kept_port p.port) h in
    let m = both (list_all (ascii_test RegName) p.host) (is_kept_port p.port) k.1 in
    let none = nothing-there p.userinfo k.0 in
    record {
      userinfo = none;
      name = m.0;
      digits = plain-digits a;
      kept = port-kept p.port m.1;
      whole = plain-whole p a none (authority_recomposed a);
    }

port-lowered : (o : Option (List ℕ)) → if_there is_port o ≡ true → map to_ascii_lowercase (delimited 58 o) ≡ delimited 58 o
port-lowered o h = small-lowered (delimited 58 o) (port_small o h)

normal-plain : (s : Tests) (p : AuthorityParts) → p.userinfo ≡ None → recompose_authority (normal_authority_parts s p)
    ≡ normal_host s p.host ++ delimited 58 (normal_port p.port)
unfolding recompose_authority
normal-plain s p e = ap (λ u. userinfo_text (normal_userinfo s u) ++ (normal_host s p.host ++ delimited 58 (normal_port p.port))) e

-- such an authority is put into lower case
pub plain_authority : (s : Tests) (a : List ℕ) → is_plain_authority a ≡ true → normal_authority s a ≡ map to_ascii_lowercase a
unfolding normal_authority
plain_authority s a h =
    let p = authority_parts a in
    let k = plain-parts a h in
    normal-plain s p k.userinfo
    ∙ (ap (λ x. x ++ delimited 58 (normal_port p.port)) (name-lowered s p.host k.name)
    ∙ (ap (λ o. map to_ascii_lowercase p.host ++ delimited 58 o) k.kept
    ∙ (ap (λ l. map to_ascii_lowercase p.host ++ l) (sym (port-lowered p.port k.digits))
    ∙ (sym (map-append to_ascii_lowercase p.host (delimited 58 p.port)) ∙ ap (map to_ascii_lowercase) k.whole))))

port-lacks : (o : Option (List ℕ)) → if_there is_port o ≡ true → lacks 37 (delimited 58 o) ≡ true
port-lacks None h = refl
port-lacks (Some d) h = all-lacks is_ascii_digit 37 d refl h

pub plain-lacks : (a : List ℕ) → is_plain_authority a ≡ true → lacks 37 a ≡ true
plain-lacks a h =
    let p = authority_parts a in
    let k = plain-parts a h in
    ap (lacks 37) (sym k.whole) ∙ lacks-append 37 p.host (delimited 58 p.port) (name-lacks p.host k.name) (port-lacks p.port k.digits)

plain-chars : (h : List ℕ) (o : Option (List ℕ)) → list_all (ascii_test RegName) h ≡ true → if_there is_port o ≡ true → IsAscii (h ++ delimited 58 o)
plain-chars [] None n d i = omega arith
plain-chars [] (Some p) n d zero = omega arith
plain-chars [] (Some p) n d (suc i) = all_below is_ascii_digit digit-below p d i
plain-chars (x ∷ xs) o n d zero = ascii_test_below RegName x (both (ascii_test RegName x) (list_all (ascii_test RegName) xs) n).0
plain-chars (x ∷ xs) o n d (suc i) = plain-chars xs o (both (ascii_test RegName x) (list_all (ascii_test RegName) xs) n).1 d i

pub plain-ascii : (a : List ℕ) → is_plain_authority a ≡ true → IsAscii a
plain-ascii a h = let k = plain-parts a h in subst IsAscii k.whole (plain-chars (authority_parts a).host (authority_parts a).port k.name k.digits)

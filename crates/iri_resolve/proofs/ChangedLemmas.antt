-- A step changes something, and a decoded place is a character.
use Rattle.iri_resolve.proofs.Common.{option_map, option_and_then, ◌≡◌, ℕ, ◌-◌, Bool, true, false, cond, List, [], ◌∷◌, ◌++◌, Option, Some}
use Rattle.iri_resolve.proofs.Common.{None, length, refl, sym, ◌∙◌, ap, arith, append_assoc, length-append, ◌&&◌, is_some, nat_lt, take}
use Rattle.iri_resolve.proofs.Common.{is_ascii_uppercase, to_ascii_lowercase, to_ascii_uppercase, encode_utf8, bytes_eq, nat_tests}
use Rattle.iri_resolve.proofs.Common.{bytes_eq-Decides, AuthorityParts, authority_parts, recompose_authority, userinfo_text}
use Rattle.iri_resolve.proofs.Common.{authority_recomposed, Tests, Parts, is_empty, whole_plain, read, leads, whole-percent, length-spelled}
use Rattle.iri_resolve.proofs.Common.{octets, whole_triplets, is_dropped, dropped_port, CanonMode, is_small_digit, with_small_letter}
use Rattle.iri_resolve.proofs.Common.{with_small_host_letter, with_capital_digit, with_decoded, dots, guard, host_start, in_host}
use Rattle.iri_resolve.proofs.Common.{in_userinfo_or_host, without_dropped_port, without_empty_port, with_small_letter_in_host}
use Rattle.iri_resolve.proofs.Common.{with_dots_removed, with_slash, at_place, step_in, Part, Authority, Path, Query, Fragment, Step}
use Rattle.iri_resolve.proofs.Common.{SchemeLetter, HostLetter, HexDigit, Decode, EmptyPort, Dots, DefaultPort, SlashPath}
use Rattle.std.proofs.Common.{◌≢◌, length-take-le}
use Rattle.std.proofs.lemmas.List.{append_cancel_left, append_cancel_right}
use Rattle.iri_grammar.specs.Cut.{delimited}
use Rattle.iri_percent.proofs.units.WholeTriplets.{Reading, done, plain, char, lone, whole_triplet, whole_after}
use Rattle.iri_percent.proofs.forms.Seams.{lone-seam}
use Rattle.iri_percent.proofs.units.AtStart.{units_plain, units_lone, units_char}
use Rattle.iri_percent.proofs.units.Joined.{units-text}
use Rattle.iri_percent.proofs.units.ByCharacters.{char_placed}
use Rattle.iri_percent.specs.Units.{Plain, Char, Lone, units}
use Rattle.iri_resolve.proofs.ByteLaws.{ByteChange, small_letter, small_host_letter, capital_digit}
use Rattle.iri_resolve.proofs.ChangeLaws.{decoding, some_triplets, spelled-leads}
use Rattle.iri_resolve.specs.DecodedPlace.{IsCharacterAt}
use Rattle.iri_resolve.proofs.ChangeKeeps.{decode-inside}
use Rattle.iri_resolve.proofs.AuthoritySteps.{placed-gives, part-gives, in_host-is}

-- ---- a text
same_some : (x y : List ℕ) → Some x ≡ Some y → x ≡ y
same_some x y h = cc

byte_same : (a r : List ℕ) (x y : ℕ) → a ++ x ∷ r ≡ a ++ y ∷ r → x ≡ y
byte_same a r x y h = let e = append_cancel_left a (x ∷ r) (y ∷ r) h in cc

small_differs : (x : ℕ) → is_ascii_uppercase x ≡ true → to_ascii_lowercase x ≢ x
small_differs x h = grind (arith, nat_tests)

capital_differs : (x : ℕ) → is_small_digit x ≡ true → to_ascii_uppercase x ≢ x
capital_differs x h = grind (arith, nat_tests)

byte-differs : (test : ℕ → Bool) (f : ℕ → ℕ) (i : ℕ) (t u : List ℕ) → ((x : ℕ) → test x ≡ true → f x ≢ x) → ByteChange test f i t u → u ≢ t
byte-differs test f i t u go c e = go c.byte c.passes (byte_same (take i t) c.back (f c.byte) c.byte (sym c.new ∙ e ∙ c.old))

-- a change of a text that changes it
abbrev Changing : (ℕ → List ℕ → Option (List ℕ)) → Type 0
Changing change = (i : ℕ) (t u : List ℕ) → change i t ≡ Some u → u ≢ t

letter-changing : Changing with_small_letter
letter-changing i t u h = byte-differs is_ascii_uppercase to_ascii_lowercase i t u small_differs (small_letter i t u h)

host-changing : Changing with_small_host_letter
host-changing i t u h = byte-differs is_ascii_uppercase to_ascii_lowercase i t u small_differs (small_host_letter i t u h).change

digit-changing : Changing with_capital_digit
digit-changing i t u h = byte-differs is_small_digit to_ascii_uppercase i t u capital_differs (capital_digit i t u h).change

decode-changing : (s : Tests) → Changing (with_decoded s)
decode-changing s i t u h e =
    let d = decoding s i t u h in
    let g = some_triplets d.c d.sp (encode_utf8 d.c) d.spells refl in
    let long = length-spelled d.sp (encode_utf8 d.c) d.spells in
    let same : take i t ++ (encode_utf8 d.c ++ d.back) ≡ take i t ++ (d.sp ++ d.back) = sym d.new ∙ e ∙ d.old in
    let text : encode_utf8 d.c ≡ d.sp = append_cancel_right (encode_utf8 d.c) d.sp d.back
    (append_cancel_left (take i t) (encode_utf8 d.c ++ d.back) (d.sp ++ d.back) same) in
    absurd (omega (arith, ap length text, long, ap length g.text))

-- ---- an authority
other-host : (p : AuthorityParts) (g : List ℕ) → recompose_authority (record p { host = g }) ≡ recompose_authority p → g ≡ p.host
unfolding recompose_authority
other-host p g h = append_cancel_right g p.host (delimited 58 p.port)
    (append_cancel_left (userinfo_text p.userinfo) (g ++ delimited 58 p.port) (p.host ++ delimited 58 p.port) h)

other-userinfo : (p : AuthorityParts) (v w : List ℕ) → p.userinfo ≡ Some w
    → recompose_authority (record p { userinfo = Some v }) ≡ recompose_authority p → v ≡ w
unfolding recompose_authority
other-userinfo p v w e h =
    let r = p.host ++ delimited 58 p.port in
    let same : (v ++ 64 ∷ []) ++ r ≡ (w ++ 64 ∷ []) ++ r = h ∙ ap (λ o. userinfo_text o ++ r) e in
    append_cancel_right v w (64 ∷ []) (append_cancel_right (v ++ 64 ∷ []) (w ++ 64 ∷ []) r same)

host-changes : (change : ℕ → List ℕ → Option (List ℕ)) (i : ℕ) (a b : List ℕ) → Changing change
    → in_host change i (authority_parts a) ≡ Some b → b ≢ a
host-changes change i a b c h e =
    let p = authority_parts a in
    let r = in_host-is change i p b h in
    c (i - host_start p) p.host r.0 r.1 (other-host p r.0 (r.2 ∙ e ∙ sym (authority_recomposed a)))

authority-changes : (change : ℕ → List ℕ → Option (List ℕ)) (i : ℕ) (a b : List ℕ) → Changing change
    → in_userinfo_or_host change i (authority_parts a) ≡ Some b → b ≢ a
authority-changes change i a b c h e =
    let p = authority_parts a in
    elim (nat_lt i (host_start p)) as (λ v. cond v
    (option_map (λ u. recompose_authority (record p { userinfo = Some u })) (option_and_then (change i) p.userinfo)) (in_host change i p)
    ≡ Some b → ⊥) [
      | true ↦ λ m. part-gives (λ z. z ≢ a) (λ u. recompose_authority (record p { userinfo = Some u })) (change i) p.userinfo b m
          (λ w v o f d. c i w v f (other-userinfo p v w o (d ∙ sym (authority_recomposed a)))) e
      | false ↦ λ m. host-changes change i a b c m e
    ] h

letter-changes : (i : ℕ) (a b : List ℕ) → with_small_letter_in_host i (authority_parts a) ≡ Some b → b ≢ a
letter-changes i a b h e =
    elim (Rattle.iri_percent.specs.NormalHost.is_ascii_host (authority_parts a).host) as (λ v. cond v
    (in_host with_small_host_letter i (authority_parts a)) None ≡ Some b → ⊥) [
      | true ↦ λ m. host-changes with_small_host_letter i a b host-changing m e
      | false ↦ λ m. cc
    ] h

port-differs : (p : AuthorityParts) (x : List ℕ) → p.port ≡ Some x → recompose_authority (record p { port = None }) ≢ recompose_authority p
unfolding recompose_authority
port-differs p x q h =
    let u = userinfo_text p.userinfo in
    let same : u ++ (p.host ++ []) ≡ u ++ (p.host ++ 58 ∷ x) = h ∙ ap (λ o. u ++ (p.host ++ delimited 58 o)) q in
    absurd (omega (
      arith,
      ap length same,
      length-append u (p.host ++ []),
      length-append u (p.host ++ 58 ∷ x),
      length-append p.host [],
      length-append p.host (58 ∷ x),
    ))

port-changes : (p : AuthorityParts) (o : Option (List ℕ)) (b : List ℕ) → p.port ≡ o → without_empty_port p o ≡ Some b
    → b ≢ recompose_authority p
port-changes p None b q h e = cc
port-changes p (Some []) b q h e = let new : recompose_authority (record p { port = None }) ≡ b = cc in port-differs p [] q (new ∙ e)
port-changes p (Some (x ∷ xs)) b q h e = cc

dropped-changes : (d : Option (List ℕ)) (p : AuthorityParts) (o : Option (List ℕ)) (b : List ℕ) → p.port ≡ o
    → without_dropped_port d p o ≡ Some b → b ≢ recompose_authority p
dropped-changes d p None b q h e = cc
dropped-changes d p (Some x) b q h e =
    elim (is_dropped d x) as (λ v. cond v (Some (recompose_authority (record p { port = None }))) None ≡ Some b → ⊥) [
      | true ↦ λ k. let new : recompose_authority (record p { port = None }) ≡ b = cc in port-differs p x q (new ∙ e)
      | false ↦ λ k. cc
    ] h

slash-changes : (d : Option (List ℕ)) (t : Parts) (p : List ℕ) → with_slash d t ≡ Some p → p ≢ t.path
slash-changes None t p h e = cc
slash-changes (Some d) t p h e = at t.authority t.path h e
  where
    at : (a : Option (List ℕ)) (q : List ℕ) → cond (is_some a && is_empty q) (Some (47 ∷ [])) None ≡ Some p → p ≡ q → ⊥
    at None q k f = cc
    at (Some a) [] k f = cc
    at (Some a) (x ∷ xs) k f = cc

-- ---- each step
place-changes : (change : ℕ → List ℕ → Option (List ℕ)) (t u : Parts) (part : Part) (i : ℕ) → Changing change
    → at_place change t part i ≡ Some u → u ≢ t
place-changes change t u Authority i c h = part-gives (λ z. z ≢ t) (λ a. record t { authority = Some a })
    (λ a. in_userinfo_or_host change i (authority_parts a)) t.authority u h
    (λ a b o f e. authority-changes change i a b c f (same_some b a (ap (λ z. z.authority) e ∙ o)))
place-changes change t u Path i c h = placed-gives (λ z. z ≢ t) (λ p. record t { path = p }) (change i t.path) u h
    (λ b f e. c i t.path b f (ap (λ z. z.path) e))
place-changes change t u Query i c h = part-gives (λ z. z ≢ t) (λ p. record t { query = Some p }) (change i) t.query u h
    (λ a b o f e. c i a b f (same_some b a (ap (λ z. z.query) e ∙ o)))
place-changes change t u Fragment i c h = part-gives (λ z. z ≢ t) (λ p. record t { fragment = Some p }) (change i) t.fragment u h
    (λ a b o f e. c i a b f (same_some b a (ap (λ z. z.fragment) e ∙ o)))

dots-change : (t : Parts) (u : List ℕ) → with_dots_removed t ≡ Some u → u ≢ t.path
dots-change t u h e =
    let p = guard (dots t.path) (is_some t.authority) in
    elim (bytes_eq p t.path) as (λ b. bytes_eq p t.path ≡ b → cond b None (Some p) ≡ Some u → ⊥) [
      | true ↦ λ _ k. cc
      | false ↦ λ f k.
          let same : p ≡ u = cc in
          let yes = (bytes_eq-Decides p t.path).1 (same ∙ e) in
          let no : true ≡ false = sym yes ∙ f in
          cc
    ] refl h

pub step-changes : (s : Tests) (m : CanonMode) (t u : Parts) (x : Step) → step_in s m t x ≡ Some u → u ≢ t
unfolding step_in
step-changes s m t u (SchemeLetter i) h = part-gives (λ z. z ≢ t) (λ x. record t { scheme = Some x }) (with_small_letter i) t.scheme u h
    (λ a b o f e. letter-changing i a b f (same_some b a (ap (λ z. z.scheme) e ∙ o)))
step-changes s m t u (HostLetter i) h = part-gives (λ z. z ≢ t) (λ a. record t { authority = Some a })
    (λ a. with_small_letter_in_host i (authority_parts a)) t.authority u h
    (λ a b o f e. letter-changes i a b f (same_some b a (ap (λ z. z.authority) e ∙ o)))
step-changes s m t u (HexDigit part i) h = place-changes with_capital_digit t u part i digit-changing h
step-changes s m t u (Decode part i) h = place-changes (with_decoded s) t u part i (decode-changing s) h
step-changes s m t u EmptyPort h = part-gives (λ z. z ≢ t) (λ a. record t { authority = Some a })
    (λ a. without_empty_port (authority_parts a) (authority_parts a).port) t.authority u h
    (λ a b o f e. port-changes (authority_parts a) (authority_parts a).port b refl f
    (same_some b a (ap (λ z. z.authority) e ∙ o) ∙ sym (authority_recomposed a)))
step-changes s m t u Dots h = placed-gives (λ z. z ≢ t) (λ p. record t { path = p }) (with_dots_removed t) u h
    (λ b f e. dots-change t b f (ap (λ z. z.path) e))
step-changes s m t u DefaultPort h = part-gives (λ z. z ≢ t) (λ a. record t { authority = Some a })
    (λ a. without_dropped_port (dropped_port m t.scheme) (authority_parts a) (authority_parts a).port) t.authority u h
    (λ a b o f e. dropped-changes (dropped_port m t.scheme) (authority_parts a) (authority_parts a).port b refl f
    (same_some b a (ap (λ z. z.authority) e ∙ o) ∙ sym (authority_recomposed a)))
step-changes s m t u SlashPath h = placed-gives (λ z. z ≢ t) (λ p. record t { path = p }) (with_slash (dropped_port m t.scheme) t) u h
    (λ b f e. slash-changes (dropped_port m t.scheme) t b f (ap (λ z. z.path) e))

-- ---- a decoded place
units-nil : units [] ≡ []
unfolding Rattle.iri_percent.specs.Units.read_from
units-nil = refl

units-seam : (t r : List ℕ) → Reading t → whole_triplets t ≡ true → leads (octets r) ≡ true → units (t ++ r) ≡ units t ++ units r
units-seam t r done w l = ap (λ z. z ++ units r) (sym units-nil)
units-seam t r (plain x xs h k) w l = units_plain x (xs ++ r) h ∙ ap (λ z. Plain x ∷ z) (units-seam xs r k (sym (whole_plain x xs h) ∙ w) l)
    ∙ ap (λ z. z ++ units r) (sym (units_plain x xs h))
units-seam t r (char c sp xs h sps k) w l =
    ap units (append_assoc sp xs r) ∙ units_char c sp (xs ++ r) h sps
    ∙ ap (λ z. Char c sp ∷ z) (units-seam xs r k (sym (whole_after sp (encode_utf8 c) xs sps) ∙ w) l)
    ∙ ap (λ z. z ++ units r) (sym (units_char c sp xs h sps))
units-seam t r (lone a b xs p q n k) w l =
    let after : whole_triplets xs ≡ true = sym (whole_triplet a b xs p q) ∙ w in
    units_lone a b (xs ++ r) p q (lone-seam a b xs r p q after l n) ∙ ap (λ z. Lone a b ∷ z) (units-seam xs r k after l)
    ∙ ap (λ z. z ++ units r) (sym (units_lone a b xs p q n))

pub decoded-place : (s : Tests) (t u : List ℕ) (i : ℕ) → whole_triplets t ≡ true → with_decoded s i t ≡ Some u → IsCharacterAt s i t
decoded-place s t u i w h =
    let d = decoding s i t u h in
    let a = take i t in
    let p = some_triplets d.c d.sp (encode_utf8 d.c) d.spells refl in
    let prefix : whole_triplets a ≡ true = whole-percent a (p.rest ++ d.back)
    (ap whole_triplets (sym (d.old ∙ ap (λ z. a ++ (z ++ d.back)) p.text)) ∙ w) in
    let l = decode-inside s i t u h in
    let split = ap units d.old ∙ units-seam a (d.sp ++ d.back) (read a prefix) prefix (spelled-leads d.c d.sp d.back d.spells)
    ∙ ap (λ z. units a ++ z) (units_char d.c d.sp d.back d.is_scalar d.spells) in
    let r = char_placed d.c d.sp t (units a) (units d.back) split in
    record {
      c = d.c;
      spelling = d.sp;
      before = r.prefix;
      after = r.back;
      split = r.split;
      place = r.at ∙ ap length (units-text a) ∙ length-take-le i t (omega (arith, l));
      free = d.free;
    }

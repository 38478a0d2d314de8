-- Changes of an authority keep it an authority, and its normal form.
use Rattle.iri_resolve.proofs.Common.{option_map, option_and_then, ◌≡◌, ℕ, ◌-◌, true, false, cond, ◌||◌, List, [], ◌∷◌, ◌++◌, Option, Some}
use Rattle.iri_resolve.proofs.Common.{None, refl, sym, ◌∙◌, ap, arith, subst, nat_lt, take, is_ascii_uppercase, to_ascii_lowercase}
use Rattle.iri_resolve.proofs.Common.{nat_tests, AuthorityParts, FitsAuthority, authority_parts, recompose_authority, is_authority}
use Rattle.iri_resolve.proofs.Common.{reading_is, passes, if_there, is_userinfo, is_host, whole_triplets, normal, as_it_is, pct}
use Rattle.iri_resolve.proofs.Common.{is_ascii_host, normal_host, normal_authority_parts, normal_authority, normal_plain, read}
use Rattle.iri_resolve.proofs.Common.{octets_other, userinfo-whole, host-whole, userinfo_percent, reads, with_small_host_letter, host_start}
use Rattle.iri_resolve.proofs.Common.{in_host, in_userinfo_or_host, without_empty_port, with_small_letter_in_host, leads, normal-seam}
use Rattle.iri_resolve.proofs.Common.{in_userinfo, Tests, IsSpec, unreserved, userinfo_char}
use Rattle.std.proofs.Math.Bool.{or-true}
use Rattle.std.proofs.lemmas.Bool.{not-false}
use Rattle.iri_grammar.specs.Classes.{reg_name_char, is_ascii_unreserved}
use Rattle.iri_grammar.specs.Host.{is_reg_name}
use Rattle.iri_grammar.specs.IpLiteral.{is_ip_literal}
use Rattle.iri_percent.proofs.forms.Stability.{lower-case}
use Rattle.iri_percent.proofs.units.OfParts.{literal-lacks, reg_name_percent}
use Rattle.iri_normal.proofs.normal_forms.Authorities.{ascii-read}
use Rattle.iri_normal.proofs.normal_forms.IpLiterals.{literal-lower}
use Rattle.iri_normal.specs.NormalForm.{lowered}
use Rattle.iri_resolve.proofs.ByteLaws.{ByteChange, small_host_letter, IsAsGood, byte_change-over, capital_low}
use Rattle.iri_resolve.proofs.ChangeKeeps.{TripletChange}
use Rattle.iri_percent.proofs.forms.Classes.{in_reg_name, upper_unreserved}

-- ---- what changes of an authority keep
pub record AuthorityChange (s : Tests) (a b : List ℕ) : Type 0 where
  pub parts : AuthorityParts
  pub fits : FitsAuthority s parts
  pub text : recompose_authority parts ≡ b
  pub form : normal_authority_parts s parts ≡ normal_authority_parts s (authority_parts a)

pub authority-kept : (s : Tests) (a b : List ℕ) → IsSpec s → AuthorityChange s a b
    → (is_authority s b ≡ true) × (normal_authority s b ≡ normal_authority s a)
unfolding normal_authority
authority-kept s a b k c = (
  passes s k b c.parts (c.fits, c.text),
  ap (λ p. recompose_authority (normal_authority_parts s p)) (reading_is s k b c.parts (c.fits, c.text)) ∙ ap recompose_authority c.form,
)

-- ---- hosts
-- whether a host is ASCII shows in its form in lower case
pub ascii-same : (s : Tests) (h g : List ℕ) → IsSpec s → whole_triplets h ≡ true → whole_triplets g ≡ true
    → normal s to_ascii_lowercase g ≡ normal s to_ascii_lowercase h → is_ascii_host g ≡ is_ascii_host h
ascii-same s h g k w v e = sym (ascii-read s to_ascii_lowercase g k lower-case (read g v)) ∙ ap is_ascii_host e
    ∙ ascii-read s to_ascii_lowercase h k lower-case (read h w)

-- a host keeps its normal form where its form in lower case and, past ASCII, its triplet normal form stay
host-form : (s : Tests) (h g : List ℕ) → IsSpec s → whole_triplets h ≡ true → whole_triplets g ≡ true
    → normal s to_ascii_lowercase g ≡ normal s to_ascii_lowercase h → (is_ascii_host h ≡ false → pct s g ≡ pct s h)
    → normal_host s g ≡ normal_host s h
unfolding normal_host
host-form s h g k w v e d =
    rw (ascii-same s h g k w v e) (elim (is_ascii_host h) as (λ b. is_ascii_host h ≡ b
    → cond b (normal s to_ascii_lowercase g) (pct s g) ≡ cond b (normal s to_ascii_lowercase h) (pct s h)) [
      | true ↦ λ _. e
      | false ↦ λ n. d n
    ] refl)

pub host-kept : (s : Tests) (change : ℕ → List ℕ → Option (List ℕ)) (i : ℕ) (h g : List ℕ) → IsSpec s → TripletChange s change
    → change i h ≡ Some g → is_host s h ≡ true → (is_host s g ≡ true) × (normal_host s g ≡ normal_host s h)
host-kept s change i h g k c e t =
    let name : is_reg_name s h ≡ true = elim (is_ip_literal h) as (λ b. is_ip_literal h ≡ b → (b || is_reg_name s h) ≡ true
    → is_reg_name s h ≡ true) [
      | true ↦ λ l _. let no : false ≡ true = sym (c.percent i h g e) ∙ literal-lacks h l in cc
      | false ↦ λ _ r. r
    ] refl t in
    let good : is_host s g ≡ true = rw (c.over (reg_name_char s) i h g (reg_name_percent s k) (in_reg_name s) e name)
    (or-true (is_ip_literal g)) in
    let w = host-whole s h k t in
    let v = host-whole s g k good in
    (good, host-form s h g k w v (c.form to_ascii_lowercase i h g e w v) (λ _. c.form as_it_is i h g e w v))

-- ---- changes of triplets
userinfo-case : (s : Tests) (change : ℕ → List ℕ → Option (List ℕ)) (i : ℕ) (a b : List ℕ) (u v : List ℕ) → IsSpec s
    → TripletChange s change → FitsAuthority s (authority_parts a) → (authority_parts a).userinfo ≡ Some u → change i u ≡ Some v
    → recompose_authority (record (authority_parts a) { userinfo = Some v }) ≡ b → AuthorityChange s a b
userinfo-case s change i a b u v k c f e h t =
    let old : is_userinfo s u ≡ true = ap (if_there (is_userinfo s)) (sym e) ∙ f.userinfo in
    let new : is_userinfo s v ≡ true = c.over (userinfo_char s) i u v (userinfo_percent s k) (in_userinfo s) h old in
    record {
      parts = record (authority_parts a) { userinfo = Some v };
      fits = record { userinfo = new; host = f.host; port = f.port };
      text = t;
      form = rw (e, c.form as_it_is i u v h (userinfo-whole s u k old) (userinfo-whole s v k new)) refl;
    }

host-case : (s : Tests) (a b : List ℕ) (g : List ℕ) → FitsAuthority s (authority_parts a) → is_host s g ≡ true
    → normal_host s g ≡ normal_host s (authority_parts a).host → recompose_authority (record (authority_parts a) { host = g }) ≡ b
    → AuthorityChange s a b
host-case s a b g f h n t = record {
  parts = record (authority_parts a) { host = g };
  fits = record { userinfo = f.userinfo; host = h; port = f.port };
  text = t;
  form = rw n refl;
}

-- what was placed
pub placed-is : {X : Type 0} (f : List ℕ → X) (o : Option (List ℕ)) (b : X) → option_map f o ≡ Some b → (x : List ℕ) × (o ≡ Some x) × (f x ≡ b)
placed-is f None b h = cc
placed-is f (Some x) b h = (x, refl, cc)

pub in_part-is : (change : List ℕ → Option (List ℕ)) (o : Option (List ℕ)) (v : List ℕ) → option_and_then change o ≡ Some v
    → (u : List ℕ) × (o ≡ Some u) × (change u ≡ Some v)
in_part-is change None v h = cc
in_part-is change (Some u) v h = (u, refl, h)

-- what holds of each text that is put holds of what was placed
pub placed-gives : {X : Type 0} (P : X → Type 0) (put : List ℕ → X) (o : Option (List ℕ)) (x : X) → option_map put o ≡ Some x
    → ((b : List ℕ) → o ≡ Some b → P (put b)) → P x
placed-gives P put o x h go = let r = placed-is put o x h in subst P r.2 (go r.0 r.1)

pub part-gives : {X : Type 0} (P : X → Type 0) (put : List ℕ → X) (change : List ℕ → Option (List ℕ)) (o : Option (List ℕ)) (x : X)
    → option_map put (option_and_then change o) ≡ Some x → ((a b : List ℕ) → o ≡ Some a → change a ≡ Some b → P (put b)) → P x
part-gives P put change o x h go = placed-gives P put (option_and_then change o) x h (λ b e. let q = in_part-is change o b e in go q.0 b q.1 q.2)

pub in_host-is : (change : ℕ → List ℕ → Option (List ℕ)) (i : ℕ) (p : AuthorityParts) (b : List ℕ) → in_host change i p ≡ Some b
    → (g : List ℕ) × (change (i - host_start p) p.host ≡ Some g) × (recompose_authority (record p { host = g }) ≡ b)
in_host-is change i p b h =
    elim (nat_lt i (host_start p)) as (λ v. cond v None
    (option_map (λ h. recompose_authority (record p { host = h })) (change (i - host_start p) p.host)) ≡ Some b
    → (g : List ℕ) × (change (i - host_start p) p.host ≡ Some g) × (recompose_authority (record p { host = g }) ≡ b)) [
      | true ↦ λ k. cc
      | false ↦ λ k. placed-is (λ h. recompose_authority (record p { host = h })) (change (i - host_start p) p.host) b k
    ] h

pub triplets-changed : (s : Tests) (change : ℕ → List ℕ → Option (List ℕ)) (i : ℕ) (a b : List ℕ) → IsSpec s → TripletChange s change
    → is_authority s a ≡ true → in_userinfo_or_host change i (authority_parts a) ≡ Some b → AuthorityChange s a b
triplets-changed s change i a b k c t h =
    let p = authority_parts a in
    let f = reads s a k t in
    elim (nat_lt i (host_start p)) as (λ v. cond v
    (option_map (λ u. recompose_authority (record p { userinfo = Some u })) (option_and_then (change i) p.userinfo)) (in_host change i p) ≡ Some b
    → AuthorityChange s a b) [
      | true ↦ λ m. part-gives (AuthorityChange s a) (λ u. recompose_authority (record p { userinfo = Some u })) (change i) p.userinfo b m
          (λ u v o e. userinfo-case s change i a (recompose_authority (record p { userinfo = Some v })) u v k c f o e refl)
      | false ↦ λ m.
          let r = in_host-is change i p b m in
          let q = host-kept s change (i - host_start p) p.host r.0 k c r.1 f.host in
          host-case s a b r.0 f q.0 q.1 r.2
    ] h

-- ---- a letter of the host
capital-good : (s : Tests) (x : ℕ) → is_ascii_uppercase x ≡ true → IsAsGood (reg_name_char s) x (to_ascii_lowercase x)
unfolding is_ascii_unreserved unreserved
capital-good s x h = record {
  low = (capital_low x h).0;
  still_low = (capital_low x h).1;
  plain = grind (arith, nat_tests);
  still_plain = grind (arith, nat_tests);
  digit = λ d. grind (arith, nat_tests);
  class = λ _. in_reg_name s (to_ascii_lowercase x) (ap (λ b. b || s.ucs (to_ascii_lowercase x)) (upper_unreserved x h));
}

lowered-changed : (a b : List ℕ) (x : ℕ) → lowered (a ++ to_ascii_lowercase x ∷ b) ≡ lowered (a ++ x ∷ b)
lowered-changed [] b x = ap (λ y. y ∷ lowered b) (lower-case.twice x)
lowered-changed (y ∷ a) b x = ap (λ ys. to_ascii_lowercase y ∷ ys) (lowered-changed a b x)

pub lowered-change : (i : ℕ) (t u : List ℕ) → ByteChange is_ascii_uppercase to_ascii_lowercase i t u → lowered u ≡ lowered t
lowered-change i t u c = ap lowered c.new ∙ lowered-changed (take i t) c.back c.byte ∙ ap lowered (sym c.old)

letter-form : (s : Tests) (a b : List ℕ) (x : ℕ) → whole_triplets a ≡ true → is_ascii_uppercase x ≡ true
    → normal s to_ascii_lowercase (a ++ to_ascii_lowercase x ∷ b) ≡ normal s to_ascii_lowercase (a ++ x ∷ b)
letter-form s a b x w h =
    let n = (capital-good s x h).plain in
    let m = (capital-good s x h).still_plain in
    normal-seam s to_ascii_lowercase a (to_ascii_lowercase x ∷ b) w (ap leads (octets_other (to_ascii_lowercase x) b m))
    ∙ ap (λ z. normal s to_ascii_lowercase a ++ z)
    (normal_plain s to_ascii_lowercase (to_ascii_lowercase x) b m ∙ ap (λ y. y ∷ normal s to_ascii_lowercase b) (lower-case.twice x)
    ∙ sym (normal_plain s to_ascii_lowercase x b n))
    ∙ sym (normal-seam s to_ascii_lowercase a (x ∷ b) w (ap leads (octets_other x b n)))

-- a capital outside triplets in a host that becomes small
pub letter-kept : (s : Tests) (i : ℕ) (h g : List ℕ) → IsSpec s → with_small_host_letter i h ≡ Some g → is_host s h ≡ true
    → (is_host s g ≡ true) × (normal s to_ascii_lowercase g ≡ normal s to_ascii_lowercase h)
letter-kept s i h g k m o =
    let c = small_host_letter i h g m in
    let good : is_host s g ≡ true = elim (is_ip_literal h) as (λ v. is_ip_literal h ≡ v → (v || is_reg_name s h) ≡ true
    → is_host s g ≡ true) [
      | true ↦ λ l _. rw (sym (literal-lower g) ∙ ap is_ip_literal (lowered-change i h g c.change) ∙ literal-lower h ∙ l) refl
      | false ↦ λ _ r. rw (byte_change-over (reg_name_char s) is_ascii_uppercase to_ascii_lowercase i h g (capital-good s) c.change r)
          (or-true (is_ip_literal g))
    ] refl o in (
      good,
      ap (normal s to_ascii_lowercase) c.change.new
          ∙ letter-form s (take i h) c.change.back c.change.byte (not-false (whole_triplets (take i h)) c.place) c.change.passes
          ∙ ap (normal s to_ascii_lowercase) (sym c.change.old),
    )

pub letter-changed : (s : Tests) (i : ℕ) (a b : List ℕ) → IsSpec s → is_authority s a ≡ true
    → with_small_letter_in_host i (authority_parts a) ≡ Some b → AuthorityChange s a b
letter-changed s i a b k t h =
    let p = authority_parts a in
    let f = reads s a k t in
    elim (is_ascii_host p.host) as (λ v. is_ascii_host p.host ≡ v → cond v (in_host with_small_host_letter i p) None ≡ Some b
    → AuthorityChange s a b) [
      | true ↦ λ e m.
          let r = in_host-is with_small_host_letter i p b m in
          let q = letter-kept s (i - host_start p) p.host r.0 k r.1 f.host in
          host-case s a b r.0 f q.0 (host-form s p.host r.0 k (host-whole s p.host k f.host) (host-whole s r.0 k q.0) q.1
          (λ n. let no : true ≡ false = sym e ∙ n in cc)) r.2
      | false ↦ λ _ m. cc
    ] refl h

-- ---- the empty port
port-gone : (s : Tests) (a b : List ℕ) (o : Option (List ℕ)) → FitsAuthority s (authority_parts a) → (authority_parts a).port ≡ o
    → without_empty_port (authority_parts a) o ≡ Some b → AuthorityChange s a b
port-gone s a b None f e h = cc
port-gone s a b (Some []) f e h = record {
  parts = record (authority_parts a) { port = None };
  fits = record { userinfo = f.userinfo; host = f.host; port = refl };
  text = cc;
  form = rw e refl;
}
port-gone s a b (Some (x ∷ xs)) f e h = cc

pub port-changed : (s : Tests) (a b : List ℕ) → IsSpec s → is_authority s a ≡ true
    → without_empty_port (authority_parts a) (authority_parts a).port ≡ Some b → AuthorityChange s a b
port-changed s a b k t h = port-gone s a b (authority_parts a).port (reads s a k t) refl h

-- Triplet normal form, unit by unit.
use Rattle.iri_percent.proofs.Common.{◌≡◌, ℕ, true, false, cond, List, [], ◌∷◌, ◌++◌, Some, None, refl, sym, ◌∙◌, ap, subst, ◌==◌, map}
use Rattle.iri_percent.proofs.Common.{list_all, is_ascii_hexdigit, to_ascii_uppercase, encode_utf8, scalar, Tests, unreserved, lacks, both}
use Rattle.iri_percent.proofs.Common.{TextUnit, Plain, Char, Lone, octet, octets, first_char, units, normal, written, decoded}
use Rattle.iri_percent.proofs.Common.{unreserved_only, flat_map}
use Rattle.iri_percent.proofs.units.ByBytes.{normal-by_bytes}
use Rattle.iri_percent.proofs.units.AtStart.{Spells, none, more, spelled, octets_triplet, BeginsChar, first_char_is, is_continuation}
use Rattle.iri_percent.proofs.units.AtStart.{encode_bytes, continuation_none, units_plain, units_lone, units_char, lacks_first}

pub normal_nil : (s : Tests) (f : ℕ → ℕ) → normal s f [] ≡ []
unfolding normal Rattle.iri_percent.specs.Units.read_from
normal_nil s f = refl

by_units : (s : Tests) (f : ℕ → ℕ) (t : List ℕ) (u : TextUnit) (xs : List ℕ) → units t ≡ u ∷ units xs
    → normal s f t ≡ written s f u ++ normal s f xs
by_units s f t u xs h = normal-by_bytes s f t ∙ ap (flat_map (written s f)) h ∙ ap (λ l. written s f u ++ l) (sym (normal-by_bytes s f xs))

pub normal_plain : (s : Tests) (f : ℕ → ℕ) (x : ℕ) (xs : List ℕ) → (x == 37) ≡ false → normal s f (x ∷ xs) ≡ f x ∷ normal s f xs
normal_plain s f x xs h = by_units s f (x ∷ xs) (Plain x) xs (units_plain x xs h)

pub normal_plains : (s : Tests) (f : ℕ → ℕ) (ys xs : List ℕ) → lacks 37 ys ≡ true → normal s f (ys ++ xs) ≡ map f ys ++ normal s f xs
normal_plains s f [] xs h = refl
normal_plains s f (y ∷ ys) xs h =
    let k = lacks_first y ys h in
    normal_plain s f y (ys ++ xs) k.0 ∙ ap (λ l. f y ∷ l) (normal_plains s f ys xs k.1)

pub normal_lone : (s : Tests) (f : ℕ → ℕ) (a b : ℕ) (xs : List ℕ) → is_ascii_hexdigit a ≡ true → is_ascii_hexdigit b ≡ true
    → first_char (octets (37 ∷ a ∷ b ∷ xs)) ≡ None
    → normal s f (37 ∷ a ∷ b ∷ xs) ≡ 37 ∷ to_ascii_uppercase a ∷ to_ascii_uppercase b ∷ normal s f xs
normal_lone s f a b xs p q n = by_units s f (37 ∷ a ∷ b ∷ xs) (Lone a b) xs (units_lone a b xs p q n)

pub normal_char : (s : Tests) (f : ℕ → ℕ) (c : ℕ) (sp xs : List ℕ) → scalar c ≡ true → Spells sp (encode_utf8 c)
    → normal s f (sp ++ xs) ≡ cond (unreserved s c) (map f (encode_utf8 c)) (map to_ascii_uppercase sp) ++ normal s f xs
normal_char s f c sp xs h k = by_units s f (sp ++ xs) (Char c sp) xs (units_char c sp xs h k)

pub normal_decoded : (s : Tests) (f : ℕ → ℕ) (c : ℕ) (sp xs : List ℕ) → scalar c ≡ true → unreserved s c ≡ true → Spells sp (encode_utf8 c)
    → normal s f (sp ++ xs) ≡ map f (encode_utf8 c) ++ normal s f xs
normal_decoded s f c sp xs h u k = normal_char s f c sp xs h k
    ∙ ap (λ b. cond b (map f (encode_utf8 c)) (map to_ascii_uppercase sp) ++ normal s f xs) u

-- triplets of octets that only continue a character
continued : (s : Tests) (f : ℕ → ℕ) (sp os xs : List ℕ) → Spells sp os → list_all is_continuation os ≡ true
    → normal s f (sp ++ xs) ≡ map to_ascii_uppercase sp ++ normal s f xs
continued s f sp os xs none h = refl
continued s f sp os xs (more a b sp' os' p q k) h =
    let t = both (is_continuation (octet a b)) (list_all is_continuation os') h in
    let n : first_char (octets (37 ∷ a ∷ b ∷ (sp' ++ xs))) ≡ None =
    ap first_char (octets_triplet a b (sp' ++ xs) p q) ∙ continuation_none (octet a b) (octets (sp' ++ xs)) t.0 in
    normal_lone s f a b (sp' ++ xs) p q n ∙ ap (λ l. 37 ∷ to_ascii_uppercase a ∷ to_ascii_uppercase b ∷ l) (continued s f sp' os' xs k t.1)

not_decoded : (s : Tests) (c : ℕ) → unreserved_only s (Some c) ≡ None → unreserved s c ≡ false
not_decoded s c h = elim (unreserved s c) as (λ b. cond b (Some c) None ≡ None → b ≡ false) [ true ↦ λ k. cc | false ↦ λ _. refl ] h

-- the first triplet of a character that is not decoded
kept_char : (s : Tests) (f : ℕ → ℕ) (c a b : ℕ) (sp tail xs : List ℕ) → scalar c ≡ true → unreserved s c ≡ false
    → Spells (37 ∷ a ∷ b ∷ sp) (encode_utf8 c) → Spells sp tail → list_all is_continuation tail ≡ true
    → normal s f (37 ∷ a ∷ b ∷ (sp ++ xs)) ≡ 37 ∷ to_ascii_uppercase a ∷ to_ascii_uppercase b ∷ normal s f (sp ++ xs)
kept_char s f c a b sp tail xs h u whole part k =
    normal_char s f c (37 ∷ a ∷ b ∷ sp) xs h whole
    ∙ ap (λ v. cond v (map f (encode_utf8 c)) (map to_ascii_uppercase (37 ∷ a ∷ b ∷ sp)) ++ normal s f xs) u
    ∙ ap (λ t. 37 ∷ to_ascii_uppercase a ∷ to_ascii_uppercase b ∷ t) (sym (continued s f sp tail xs part k))

-- a character that is not decoded stands at the start
pub record PrefixTriplet (c a b : ℕ) (xs : List ℕ) : Type 0 where
  pub sp : List ℕ
  pub tail : List ℕ
  pub rest : List ℕ
  pub text : xs ≡ sp ++ rest
  pub whole : Spells (37 ∷ a ∷ b ∷ sp) (encode_utf8 c)
  pub part : Spells sp tail
  pub continue : list_all is_continuation tail ≡ true

pub prefix_triplet : (c a b : ℕ) (xs : List ℕ) → is_ascii_hexdigit a ≡ true → is_ascii_hexdigit b ≡ true
    → BeginsChar (octets (37 ∷ a ∷ b ∷ xs)) c → PrefixTriplet c a b xs
prefix_triplet c a b xs p q g =
    let l = encode_bytes c in
    let w : octet a b ∷ octets xs ≡ l.lead ∷ (l.tail ++ g.rest) =
    sym (octets_triplet a b xs p q) ∙ g.split ∙ ap (λ os. os ++ g.rest) l.split in
    let first : octet a b ≡ l.lead = cc in
    let after : octets xs ≡ l.tail ++ g.rest = cc in
    let r = spelled l.tail g.rest xs after in
    let same : octet a b ∷ l.tail ≡ encode_utf8 c = ap (λ o. o ∷ l.tail) first ∙ sym l.split in
    record {
      sp = r.sp;
      tail = l.tail;
      rest = r.xs;
      text = r.text;
      whole = subst (λ os. Spells (37 ∷ a ∷ b ∷ r.sp) os) same (more a b r.sp l.tail p q r.spells);
      part = r.spells;
      continue = l.continue;
    }

-- a triplet where no unreserved character begins
pub normal_kept : (s : Tests) (f : ℕ → ℕ) (a b : ℕ) (xs : List ℕ) → is_ascii_hexdigit a ≡ true → is_ascii_hexdigit b ≡ true
    → decoded s (octets (37 ∷ a ∷ b ∷ xs)) ≡ None → normal s f (37 ∷ a ∷ b ∷ xs)
    ≡ 37 ∷ to_ascii_uppercase a ∷ to_ascii_uppercase b ∷ normal s f xs
normal_kept s f a b xs p q n =
    elim (first_char (octets (37 ∷ a ∷ b ∷ xs))) as (λ o. first_char (octets (37 ∷ a ∷ b ∷ xs)) ≡ o → unreserved_only s o ≡ None
    → normal s f (37 ∷ a ∷ b ∷ xs) ≡ 37 ∷ to_ascii_uppercase a ∷ to_ascii_uppercase b ∷ normal s f xs) [
      | None ↦ λ e _. normal_lone s f a b xs p q e
      | Some c ↦ λ e k.
          let g = first_char_is (octets (37 ∷ a ∷ b ∷ xs)) c e in
          at c k g.is_scalar (prefix_triplet c a b xs p q g)
    ] refl n
  where
    at : (c : ℕ) → unreserved_only s (Some c) ≡ None → scalar c ≡ true → PrefixTriplet c a b xs
        → normal s f (37 ∷ a ∷ b ∷ xs) ≡ 37 ∷ to_ascii_uppercase a ∷ to_ascii_uppercase b ∷ normal s f xs
    at c k h r = subst (λ t. normal s f (37 ∷ a ∷ b ∷ t) ≡ 37 ∷ to_ascii_uppercase a ∷ to_ascii_uppercase b ∷ normal s f t) (sym r.text)
        (kept_char s f c a b r.sp r.tail r.rest h (not_decoded s c k) r.whole r.part r.continue)

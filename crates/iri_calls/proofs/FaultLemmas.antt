-- The part that a fault names isn't what the fault asks.
use Rattle.iri_calls.proofs.Common.{◌≡◌, ◌≤◌, ◌+◌, ◌-◌, ◌∙◌, ℕ, zero, suc, Bool, true, false, cond, List, [], ◌∷◌, ◌++◌, Option, Some, None}
use Rattle.iri_calls.proofs.Common.{length, take, drop, refl, sym, ap, subst, arith, append_assoc, length-append, IsUtf8, is_utf8}
use Rattle.iri_calls.proofs.Common.{false_from_ne_true, common_steps, is_utf8-from_IsUtf8, IsUtf8-from_is_utf8, Tests, before, delimited}
use Rattle.iri_calls.proofs.Common.{bytes_fault, fragment_fault, Parts, recompose, scheme_text, authority_text, missing_scheme_fault}
use Rattle.iri_calls.proofs.Common.{ErrorKind, InvalidScheme, InvalidUserInfo, InvalidHost, InvalidPath, InvalidQuery, InvalidFragment}
use Rattle.iri_calls.proofs.Common.{UnexpectedFragment, UnexpectedRelative, InvalidUtf8, bytes_at, slots_of, width, Slot}
use Rattle.std.proofs.Common.{◌⊎◌, not, ◌&&◌, ◌||◌, inl, inr, is_some, append-nil, if◌then◌else◌}
use Rattle.std.proofs.lemmas.List.{take-append-drop}
use Rattle.std.specs.Str.Lossy.{utf8_valid_len, valid_len_up_to}
use Rattle.std.proofs.Math.Bool.{and-false}
use Rattle.std.proofs.lemmas.Str.{IsUtf8-append, IsUtf8-nil, utf8_valid_len_le}
use Rattle.iri_grammar.specs.Authority.{authority_parts, recompose_authority, userinfo_text}
use Rattle.iri_grammar.specs.Characters.{at_sign, colon, number_sign, question_mark, slash}
use Rattle.iri_grammar.specs.Components.{is_scheme, is_userinfo, is_path, is_query, is_fragment}
use Rattle.iri_grammar.specs.Cut.{from, lacks}
use Rattle.iri_grammar.specs.Fault.{first, unless, part_fault, authority_fault, userinfo_fault, query_fault, scheme_fault}
use Rattle.iri_grammar.specs.Host.{is_host}
use Rattle.iri_grammar.specs.Parts.{path_rules, starts_with_slashes}
use Rattle.iri_grammar.specs.WholeFault.{colon_allowed, fault_before_fragment, parts_fault}
use Rattle.iri_grammar.proofs.authorities.AuthorityLaws.{authority_recomposed}
use Rattle.iri_grammar.proofs.splits.CutLaws.{joined_from}
use Rattle.iri_calls.specs.FaultParts.{IsFaulty, before_colon, faulty_slot, is_in_production, named_slot}
use Rattle.iri_calls.specs.Slots.{place, within_authority}
use Rattle.iri_calls.proofs.SlotLemmas.{after-delimiter, of-scheme, of-authority, of-userinfo}

-- ---- which of several is the fault
one_of : (a b : Option ErrorKind) (k : ErrorKind) → first a b ≡ Some k → (a ≡ Some k) ⊎ (b ≡ Some k)
one_of None b k h = inr h
one_of (Some e) b k h = inl h

abbrev kind_or : Option ErrorKind → ErrorKind → ErrorKind
kind_or None k = k
kind_or (Some e) k = e

failed : (b : Bool) (e k : ErrorKind) → unless b e ≡ Some k → (b ≡ false) × (k ≡ e)
failed true e k h = cc
failed false e k h = (refl, sym (ap (λ o. kind_or o e) h))

in-part : (f : List ℕ → Option ErrorKind) (o : Option (List ℕ)) (k : ErrorKind) → part_fault f o ≡ Some k
    → (x : List ℕ) × (o ≡ Some x) × (f x ≡ Some k)
in-part f None k h = cc
in-part f (Some x) k h = (x, refl, h)

-- ---- where the parts stand
-- these bytes stand in a slot
record Holds (t : List ℕ) (slot : Slot) (x : List ℕ) : Type 0 where
  bytes : bytes_at t slot ≡ x
  within : slot.offset + slot.len ≤ length t

holds : (t pre x post : List ℕ) (slot : Slot) → pre ++ (x ++ post) ≡ t → slot.offset ≡ length pre → slot.len ≡ length x → Holds t slot x
holds t pre x post slot e o l =
    let past : drop (length pre) (pre ++ (x ++ post)) ≡ x ++ post = grind (arith, common_steps) in
    let front : take (length x) (x ++ post) ≡ x = grind (arith, common_steps) in
    record {
      bytes = ap (λ n. take slot.len (drop n t)) o ∙ ap (λ n. take n (drop (length pre) t)) l ∙ ap (λ u. take (length x) (drop (length pre) u)) (sym e)
          ∙ ap (take (length x)) past ∙ front;
      within = omega (arith, o, l, ap length e, length-append pre (x ++ post), length-append x post);
    }

module _ (t : List ℕ) (p : Parts) (whole : recompose p ≡ t) where
  path_stands : Holds t (slots_of p).path p.path
  unfolding recompose
  path_stands =
      let a = scheme_text p.scheme in
      let b = authority_text p.authority in
      let rest = delimited question_mark p.query ++ delimited number_sign p.fragment in
      holds t (a ++ b) p.path rest (slots_of p).path (append_assoc a b (p.path ++ rest) ∙ whole)
      (omega (arith, of-scheme p.scheme, of-authority p.authority, length-append a b)) refl

  query_stands : (q : List ℕ) → p.query ≡ Some q → Holds t (slots_of p).query q
  unfolding recompose
  query_stands q e =
      let a = scheme_text p.scheme in
      let b = authority_text p.authority in
      let f = delimited number_sign p.fragment in
      let mark = question_mark ∷ [] in
      let there : a ++ (b ++ (p.path ++ (mark ++ (q ++ f)))) ≡ t = ap (λ o. a ++ (b ++ (p.path ++ (delimited question_mark o ++ f)))) (sym e) ∙ whole in
      subst (λ o. Holds t (place (width 1 p.scheme + width 2 p.authority + length p.path) 1 o) q) (sym e)
      (holds t (a ++ (b ++ (p.path ++ mark))) q f
      (record { offset = width 1 p.scheme + width 2 p.authority + length p.path + 1; len = length q })
      (append_assoc a (b ++ (p.path ++ mark)) (q ++ f) ∙ ap (λ z. a ++ z) (append_assoc b (p.path ++ mark) (q ++ f)
      ∙ ap (λ z. b ++ z) (append_assoc p.path mark (q ++ f))) ∙ there)
      (omega (
        arith,
        of-scheme p.scheme,
        of-authority p.authority,
        length-append a (b ++ (p.path ++ mark)),
        length-append b (p.path ++ mark),
        length-append p.path mark,
      )) refl)

  fragment_stands : (f : List ℕ) → p.fragment ≡ Some f → Holds t (slots_of p).fragment f
  unfolding recompose
  fragment_stands f e =
      let a = scheme_text p.scheme in
      let b = authority_text p.authority in
      let q = delimited question_mark p.query in
      let mark = number_sign ∷ [] in
      let there : a ++ (b ++ (p.path ++ (q ++ (mark ++ (f ++ []))))) ≡ t =
      ap (λ z. a ++ (b ++ (p.path ++ (q ++ (number_sign ∷ z))))) (append-nil f)
      ∙ ap (λ o. a ++ (b ++ (p.path ++ (q ++ delimited number_sign o)))) (sym e) ∙ whole in
      subst (λ o. Holds t (place (width 1 p.scheme + width 2 p.authority + length p.path + width 1 p.query) 1 o) f) (sym e)
      (holds t (a ++ (b ++ (p.path ++ (q ++ mark)))) f []
      (record { offset = width 1 p.scheme + width 2 p.authority + length p.path + width 1 p.query + 1; len = length f })
      (append_assoc a (b ++ (p.path ++ (q ++ mark))) (f ++ []) ∙ ap (λ z. a ++ z) (append_assoc b (p.path ++ (q ++ mark)) (f ++ [])
      ∙ ap (λ z. b ++ z) (append_assoc p.path (q ++ mark) (f ++ []) ∙ ap (λ z. p.path ++ z) (append_assoc q mark (f ++ [])))) ∙ there)
      (omega (
        arith,
        of-scheme p.scheme,
        of-authority p.authority,
        after-delimiter question_mark p.query,
        length-append a (b ++ (p.path ++ (q ++ mark))),
        length-append b (p.path ++ (q ++ mark)),
        length-append p.path (q ++ mark),
        length-append q mark,
      )) refl)

  -- an authority stands whole, and in it what stands there
  authority_stands : (a pre x post : List ℕ) (slot : Slot) → p.authority ≡ Some a → pre ++ (x ++ post) ≡ a
      → slot.offset ≡ width 1 p.scheme + 2 + length pre → slot.len ≡ length x → Holds t slot x
  unfolding recompose
  authority_stands a pre x post slot e within o l =
      let sch = scheme_text p.scheme in
      let slashes = slash ∷ slash ∷ [] in
      let rest = p.path ++ (delimited question_mark p.query ++ delimited number_sign p.fragment) in
      let there : sch ++ (slashes ++ (a ++ rest)) ≡ t = ap (λ z. sch ++ (authority_text z ++ rest)) (sym e) ∙ whole in
      let inner : pre ++ (x ++ (post ++ rest)) ≡ a ++ rest =
      ap (λ z. pre ++ z) (sym (append_assoc x post rest)) ∙ sym (append_assoc pre (x ++ post) rest) ∙ ap (λ z. z ++ rest) within in
      holds t (sch ++ (slashes ++ pre)) x (post ++ rest) slot
      (append_assoc sch (slashes ++ pre) (x ++ (post ++ rest)) ∙ ap (λ z. sch ++ (slashes ++ z)) inner ∙ there)
      (omega (arith, o, of-scheme p.scheme, length-append sch (slashes ++ pre))) l

  userinfo_stands : (a u : List ℕ) → p.authority ≡ Some a → (authority_parts a).userinfo ≡ Some u → Holds t (slots_of p).within.userinfo u
  unfolding recompose_authority
  userinfo_stands a u e is =
      let parts = authority_parts a in
      let later = parts.host ++ delimited colon parts.port in
      let there : u ++ ((at_sign ∷ []) ++ later) ≡ a =
      sym (append_assoc u (at_sign ∷ []) later) ∙ ap (λ o. userinfo_text o ++ later) (sym is) ∙ authority_recomposed a in
      subst (λ o. Holds t (within_authority (width 1 p.scheme) o).userinfo u) (sym e)
      (subst (λ o. Holds t (place (width 1 p.scheme + 2) 0 o) u) (sym is)
      (authority_stands a [] u ((at_sign ∷ []) ++ later) (record { offset = width 1 p.scheme + 2 + 0; len = length u }) e there (omega arith) refl))

  host_stands : (a : List ℕ) → p.authority ≡ Some a → Holds t (slots_of p).within.host (authority_parts a).host
  unfolding recompose_authority
  host_stands a e =
      let parts = authority_parts a in
      subst (λ o. Holds t (within_authority (width 1 p.scheme) o).host parts.host) (sym e)
      (authority_stands a (userinfo_text parts.userinfo) parts.host (delimited colon parts.port)
      (record { offset = width 1 p.scheme + 2 + width 1 parts.userinfo + 0; len = length parts.host }) e (authority_recomposed a)
      (omega (arith, of-userinfo parts.userinfo)) refl)

-- ---- what isn't UTF-8
longer : (t : List ℕ) (n m : ℕ) (b : Bool) → is_utf8 (take n t) ≡ b → IsUtf8 (take m t) → IsUtf8 (take (if b then n else m) t)
longer t n m true e h = IsUtf8-from_is_utf8 (take n t) e
longer t n m false e h = h

front : (t : List ℕ) (n : ℕ) → IsUtf8 (take (valid_len_up_to t n) t)
front t zero = IsUtf8-nil
front t (suc n) = longer t (suc n) (valid_len_up_to t n) (is_utf8 (take (suc n) t)) refl (front t n)

abbrev past : List ℕ → Slot
past t = record { offset = utf8_valid_len t; len = length t - utf8_valid_len t }

not_utf8 : (s : Tests) (t : List ℕ) (p : Parts) → is_utf8 t ≡ false → IsFaulty s InvalidUtf8 t p (past t)
unfolding utf8_valid_len
not_utf8 s t p e =
    let v = utf8_valid_len t in
    let all : take (length t - v) (drop v t) ≡ drop v t = grind (arith, common_steps) in
    let both : take v t ++ drop v t ≡ t = take-append-drop v t in
    record {
      within = omega (arith, utf8_valid_len_le t);
      faulty = ap is_utf8 all ∙ false_from_ne_true (is_utf8 (drop v t)) (λ h.
          let is : is_utf8 t ≡ true = is_utf8-from_IsUtf8 t (subst IsUtf8 both
          (IsUtf8-append (take v t) (drop v t) (front t (length t)) (IsUtf8-from_is_utf8 (drop v t) h))) in
          let clash : true ≡ false = sym is ∙ e in cc);
    }

-- ---- the part of the first fault
rules-broken : (o a : Option (List ℕ)) (b : Bool) (x : List ℕ) → (b && (is_some o || is_some a || lacks colon (before slash x))) ≡ false
    → (b && path_rules o a x) ≡ false
rules-broken o a false x h = refl
rules-broken (Some z) a true x h = cc
rules-broken None (Some z) true x h = cc
rules-broken None None true x h =
    subst (λ l. (not (starts_with_slashes x) && l) ≡ false) (sym h) (and-false (not (starts_with_slashes x)))

module _ (s : Tests) (t : List ℕ) (p : Parts) (whole : recompose p ≡ t) where
  -- the part that a fault names is faulty
  abbrev NamesFaulty : ErrorKind → Type 0
  NamesFaulty kind = IsFaulty s kind t p (named_slot kind t (slots_of p))

  faulty_at : (kind : ErrorKind) (slot : Slot) (x : List ℕ) → Holds t slot x → is_in_production s kind p x ≡ false → IsFaulty s kind t p slot
  faulty_at kind slot x h e = record { within = h.within; faulty = ap (is_in_production s kind p) h.bytes ∙ e }

  outside : (kind k : ErrorKind) (x : List ℕ) → kind ≡ k → Holds t (named_slot k t (slots_of p)) x → is_in_production s k p x ≡ false
      → NamesFaulty kind
  outside kind k x is h e = subst NamesFaulty (sym is) (faulty_at k (named_slot k t (slots_of p)) x h e)

  module _ (k : ErrorKind) where
    in_authority : (a : List ℕ) → p.authority ≡ Some a → authority_fault s a ≡ Some k → NamesFaulty k
    in_authority a e h =
        elim (one_of (part_fault (userinfo_fault s) (authority_parts a).userinfo) (unless (is_host s (authority_parts a).host) InvalidHost) k h) [
          | inl of_userinfo ↦
              let x = in-part (userinfo_fault s) (authority_parts a).userinfo k of_userinfo in
              let f = failed (is_userinfo s x.0) InvalidUserInfo k x.2 in
              outside k InvalidUserInfo x.0 f.1 (userinfo_stands t p whole a x.0 e x.1) f.0
          | inr of_host ↦
              let f = failed (is_host s (authority_parts a).host) InvalidHost k of_host in
              outside k InvalidHost (authority_parts a).host f.1 (host_stands t p whole a e) f.0
        ]

    in_query : part_fault (query_fault s) p.query ≡ Some k → NamesFaulty k
    in_query h =
        let x = in-part (query_fault s) p.query k h in
        let f = failed (is_query s x.0) InvalidQuery k x.2 in
        outside k InvalidQuery x.0 f.1 (query_stands t p whole x.0 x.1) f.0

    past_authority : first (unless (is_path s p.path && colon_allowed p) InvalidPath) (part_fault (query_fault s) p.query) ≡ Some k → NamesFaulty k
    past_authority h =
        elim (one_of (unless (is_path s p.path && colon_allowed p) InvalidPath) (part_fault (query_fault s) p.query) k h) [
          | inl of_path ↦
              let f = failed (is_path s p.path && colon_allowed p) InvalidPath k of_path in
              outside k InvalidPath p.path f.1 (path_stands t p whole) (rules-broken p.scheme p.authority (is_path s p.path) p.path f.0)
          | inr of_query ↦ in_query of_query
        ]

    before_fragment : fault_before_fragment s p ≡ Some k → NamesFaulty k
    unfolding fault_before_fragment
    before_fragment h =
        elim (one_of (part_fault (authority_fault s) p.authority)
        (first (unless (is_path s p.path && colon_allowed p) InvalidPath) (part_fault (query_fault s) p.query)) k h) [
          | inl of_authority ↦ let x = in-part (authority_fault s) p.authority k of_authority in in_authority x.0 x.1 x.2
          | inr later ↦ past_authority later
        ]

    -- where a fault of the fragment is one of these
    with_fragment : (g : List ℕ → Option ErrorKind)
        → ((f : List ℕ) → g f ≡ Some k → ((k ≡ InvalidFragment) × (is_fragment s f ≡ false)) ⊎ (k ≡ UnexpectedFragment))
        → parts_fault s g p ≡ Some k → NamesFaulty k
    unfolding parts_fault
    with_fragment g of_fragment h =
        elim (one_of (fault_before_fragment s p) (part_fault g p.fragment) k h) [
          | inl before ↦ before_fragment before
          | inr later ↦
              let x = in-part g p.fragment k later in
              let there = fragment_stands t p whole x.0 x.1 in
              elim (of_fragment x.0 x.2) [
                | inl invalid ↦ outside k InvalidFragment x.0 invalid.0 there invalid.1
                | inr unexpected ↦ outside k UnexpectedFragment x.0 unexpected there refl
              ]
        ]

    pub of_parts : parts_fault s (fragment_fault s) p ≡ Some k → NamesFaulty k
    of_parts =
        with_fragment (fragment_fault s) (λ f faulty. let x = failed (is_fragment s f) InvalidFragment k faulty in inl (x.1, x.0))

    pub of_parts_without_fragment : parts_fault s (λ _. Some UnexpectedFragment) p ≡ Some k → NamesFaulty k
    of_parts_without_fragment =
        with_fragment (λ _. Some UnexpectedFragment) (λ f faulty. inr (sym (ap (λ o. kind_or o UnexpectedFragment) faulty)))

    -- where a scheme must stand
    of_scheme : missing_scheme_fault t ≡ Some k → NamesFaulty k
    of_scheme h = at (lacks colon t) refl h
      where
        invalid : lacks colon t ≡ false → scheme_fault (before colon t) ≡ Some k → NamesFaulty k
        invalid l e =
            let f = failed (is_scheme (before colon t)) InvalidScheme k e in
            let x = before colon t in
            let there : before_colon t ≡ Some x = rw l refl in
            subst NamesFaulty (sym f.1)
            (subst (λ o. IsFaulty s InvalidScheme t p (place 0 0 o)) (sym there)
            (faulty_at InvalidScheme (record { offset = 0; len = length x }) x
            (holds t [] x (from colon t) (record { offset = 0; len = length x }) (joined_from colon t) refl refl) f.0))

        at : (b : Bool) → lacks colon t ≡ b → cond b (Some UnexpectedRelative) (scheme_fault (before colon t)) ≡ Some k → NamesFaulty k
        at true l e = subst NamesFaulty (ap (λ o. kind_or o k) e) (record { within = omega arith; faulty = refl })
        at false l e = invalid l e

    pub of_first : (g : List ℕ → Option ErrorKind) → (parts_fault s g p ≡ Some k → NamesFaulty k)
        → first (missing_scheme_fault t) (parts_fault s g p) ≡ Some k → NamesFaulty k
    of_first g later h =
        elim (one_of (missing_scheme_fault t) (parts_fault s g p) k h) [ inl missing ↦ of_scheme missing | inr of_parts ↦ later of_parts ]

pub of_bytes : (s : Tests) (f : List ℕ → Option ErrorKind) (t : List ℕ) (p : Parts) (kind : ErrorKind)
    → (f t ≡ Some kind → IsFaulty s kind t p (named_slot kind t (slots_of p))) → bytes_fault f t ≡ Some kind
    → IsFaulty s kind t p (faulty_slot kind t p)
of_bytes s f t p kind law h = at (is_utf8 t) refl h
  where
    at : (b : Bool) → is_utf8 t ≡ b → cond b (f t) (Some InvalidUtf8) ≡ Some kind
        → IsFaulty s kind t p (cond b (named_slot kind t (slots_of p)) (past t))
    at true e h = law h
    at false e h = subst (λ k. IsFaulty s k t p (past t)) (ap (λ o. kind_or o kind) h) (not_utf8 s t p e)

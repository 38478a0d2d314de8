-- Where the parts of an authority stand in a whole text.
use Rattle.iri_edit.proofs.Common.{not, ◌&&◌, IsCharBoundary, append-nil, is_some, authority_parts, recompose_authority, userinfo_text}
use Rattle.iri_edit.proofs.Common.{authority_recomposed, Tests, before, after, lacks, delimited, joined, is_host, recompose, scheme_text}
use Rattle.iri_edit.proofs.Common.{authority_text, split_of, edited, edited_authority, host_replaced, password_of, password_in, userinfo_in}
use Rattle.iri_edit.proofs.Common.{user_with, user_alone, with_userinfo, IsAuthorityAt, IsPasswordAt, IsHostAt, ◌≡◌, ℕ, ◌+◌, ◌≤◌, true}
use Rattle.iri_edit.proofs.Common.{false, cond, List, [], ◌∷◌, ◌++◌, length, take, drop, Option, Some, None, refl, sym, ◌∙◌, ap, subst}
use Rattle.iri_edit.proofs.Common.{arith, append_assoc, length-append}
use Rattle.std.proofs.Common.{◌<◌, ◌^◌, get_or}
use Rattle.std.specs.Str.{IsUtf8}
use Rattle.std.proofs.lemmas.Str.{IsUtf8-append, IsUtf8-drop, IsUtf8-take, IsCharBoundary-before_ascii, IsCharBoundary-after_ascii}
use Rattle.std.proofs.lemmas.Str.{IsCharBoundary-from_take}
use Rattle.std.proofs.Math.Seq.{drop-append_seam, get_or-append_seam, take-append_seam}
use Rattle.std.specs.Prelude.{◌==◌, option_map}
use Rattle.iri_grammar.proofs.authorities.AuthorityTexts.{host-utf8}
use Rattle.iri_grammar.proofs.splits.SplitLaws.{recompose_split}
use Rattle.iri_edit.specs.Host.{host_in}

-- ---- the authority
module _ (t a : List ℕ) (u : IsUtf8 t) (l : length t < 2 ^ 64) (h : (split_of t).authority ≡ Some a) where
  tail : List ℕ
  tail = (split_of t).path ++ (delimited 63 (split_of t).query ++ delimited 35 (split_of t).fragment)

  regroup : (x : List ℕ) → (scheme_text (split_of t).scheme ++ 47 ∷ 47 ∷ []) ++ (x ++ tail)
      ≡ scheme_text (split_of t).scheme ++ (authority_text (Some x) ++ tail)
  regroup x = append_assoc (scheme_text (split_of t).scheme) (47 ∷ 47 ∷ []) (x ++ tail)

  pub authority-place : IsAuthorityAt t a (length (scheme_text (split_of t).scheme) + 2)
  unfolding recompose edited tail
  authority-place =
      let sch = scheme_text (split_of t).scheme in
      record {
        prefix = sch ++ 47 ∷ 47 ∷ [];
        back = tail;
        text = regroup a ∙ (ap (λ o. sch ++ (authority_text o ++ tail)) (sym h) ∙ recompose_split t);
        lead = sch ++ 47 ∷ [];
        ends = append_assoc sch (47 ∷ []) (47 ∷ []);
        at = length-append sch (47 ∷ 47 ∷ []);
        stands = h;
        utf8 = u;
        short = l;
        edits = λ f. ap (λ o. sch ++ (authority_text (edited_authority f o) ++ tail)) h
            ∙ sym (regroup (recompose_authority (f (authority_parts a))));
      }

-- ---- the userinfo
-- what comes after the `@`
rest_of : List ℕ → List ℕ
rest_of a = (authority_parts a).host ++ delimited 58 (authority_parts a).port

userinfo-place : (a u : List ℕ) → (authority_parts a).userinfo ≡ Some u → u ++ 64 ∷ rest_of a ≡ a
unfolding recompose_authority rest_of
userinfo-place a u h = sym (append_assoc u (64 ∷ []) (rest_of a))
    ∙ (ap (λ o. userinfo_text o ++ rest_of a) (sym h) ∙ authority_recomposed a)

userinfo-edited : (f : List ℕ → List ℕ) (a u : List ℕ) → (authority_parts a).userinfo ≡ Some u
    → recompose_authority (with_userinfo f (authority_parts a)) ≡ f u ++ 64 ∷ rest_of a
unfolding recompose_authority rest_of
userinfo-edited f a u h = ap (λ o. userinfo_text (option_map f o) ++ rest_of a) h ∙ append_assoc (f u) (64 ∷ []) (rest_of a)

-- a colon stands in it exactly where something may follow one
pub lacks-told : (u : List ℕ) → lacks 58 u ≡ not (is_some (after 58 u))
lacks-told [] = refl
lacks-told (x ∷ xs) = elim (x == 58) as (λ b. (not b && lacks 58 xs) ≡ not (is_some (cond b (Some xs) (after 58 xs)))) [
  | true ↦ refl
  | false ↦ lacks-told xs
]

pub ascii-boundary : (t xs ys : List ℕ) (c : ℕ) → c < 128 → xs ++ c ∷ ys ≡ t → IsCharBoundary t (length xs)
ascii-boundary t xs ys c l e =
    let at : get_or t (length xs) 0 ≡ c = ap (λ z. get_or z (length xs) 0) (sym e) ∙ get_or-append_seam xs c ys 0 in
    let inside : length xs < length t = omega (arith, length-append xs (c ∷ ys), ap length e) in
    IsCharBoundary-before_ascii t (length xs) inside (omega arith)

after-boundary : (t xs ys : List ℕ) (c : ℕ) → c < 128 → IsUtf8 t → xs ++ c ∷ ys ≡ t → IsCharBoundary t (length xs + 1)
after-boundary t xs ys c l u e =
    let at : get_or t (length xs) 0 ≡ c = ap (λ z. get_or z (length xs) 0) (sym e) ∙ get_or-append_seam xs c ys 0 in
    let inside : length xs < length t = omega (arith, length-append xs (c ∷ ys), ap length e) in
    IsCharBoundary-after_ascii t (length xs) u inside (omega arith)

module _ (t a u p : List ℕ) (start : ℕ) (h : (authority_parts a).userinfo ≡ Some u) (k : after 58 u ≡ Some p) where
  regrouped : (prefix x y back : List ℕ) → prefix ++ ((x ++ 64 ∷ y) ++ back) ≡ prefix ++ (x ++ 64 ∷ (y ++ back))
  regrouped prefix x y back = ap (λ z. prefix ++ z) (append_assoc x (64 ∷ y) back)

  moved : (prefix b w y back : List ℕ) → prefix ++ ((b ++ 58 ∷ w) ++ 64 ∷ (y ++ back)) ≡ (prefix ++ b) ++ 58 ∷ (w ++ 64 ∷ (y ++ back))
  moved prefix b w y back = ap (λ z. prefix ++ z) (append_assoc b (58 ∷ w) (64 ∷ (y ++ back)))
      ∙ sym (append_assoc prefix b (58 ∷ (w ++ 64 ∷ (y ++ back))))

  cut-user : before 58 u ++ 58 ∷ p ≡ u
  cut-user = ap (λ o. before 58 u ++ delimited 58 o) (sym k) ∙ joined 58 u

  user_with-colon : (w : List ℕ) → user_with w u ≡ before 58 u ++ 58 ∷ w
  user_with-colon w = ap (λ b. cond b u (before 58 u ++ 58 ∷ w)) (lacks-told u ∙ ap (λ o. not (is_some o)) k)

  pub password-place : IsAuthorityAt t a start → IsPasswordAt t (start + length (before 58 u)) (start + length (before 58 u) + 1 + length p)
  unfolding password_of
  password-place i =
      let b = before 58 u in
      let prefix = i.prefix ++ b in
      let back = 64 ∷ (rest_of a ++ i.back) in
      let whole : prefix ++ 58 ∷ (p ++ back) ≡ t =
      sym (moved i.prefix b p (rest_of a) i.back)
      ∙ (ap (λ z. i.prefix ++ (z ++ 64 ∷ (rest_of a ++ i.back))) cut-user
      ∙ (sym (regrouped i.prefix u (rest_of a) i.back)
      ∙ (ap (λ z. i.prefix ++ (z ++ i.back)) (userinfo-place a u h) ∙ i.text))) in
      let long : length prefix ≡ start + length b = length-append i.prefix b ∙ ap (λ n. n + length b) i.at in
      let later : (prefix ++ 58 ∷ p) ++ back ≡ t = append_assoc prefix (58 ∷ p) back ∙ whole in
      let end : length (prefix ++ 58 ∷ p) ≡ start + length b + 1 + length p = omega (arith, length-append prefix (58 ∷ p), long) in
      record {
        prefix = prefix;
        password = p;
        back = back;
        text = whole;
        at_colon = long;
        at_end = refl;
        stands = ap (λ o. password_in (userinfo_in o)) i.stands ∙ (ap password_in h ∙ k);
        edits = λ w.
            i.edits (with_userinfo (user_with w))
            ∙ (ap (λ z. i.prefix ++ (z ++ i.back)) (userinfo-edited (user_with w) a u h ∙ ap (λ z. z ++ 64 ∷ rest_of a) (user_with-colon w))
            ∙ (regrouped i.prefix (b ++ 58 ∷ w) (rest_of a) i.back ∙ moved i.prefix b w (rest_of a) i.back));
        removes =
            i.edits (with_userinfo user_alone)
            ∙ (ap (λ z. i.prefix ++ (z ++ i.back)) (userinfo-edited user_alone a u h)
            ∙ (regrouped i.prefix b (rest_of a) i.back ∙ sym (append_assoc i.prefix b (64 ∷ (rest_of a ++ i.back)))));
        before_colon = subst (IsCharBoundary t) long (ascii-boundary t prefix (p ++ back) 58 (omega arith) whole);
        after_colon = subst (λ n. IsCharBoundary t (n + 1)) long (after-boundary t prefix (p ++ back) 58 (omega arith) i.utf8 whole);
        after_all = subst (IsCharBoundary t) end (ascii-boundary t (prefix ++ 58 ∷ p) (rest_of a ++ i.back) 64 (omega arith) later);
      }

-- the place lies in the text
pub password-inside : (t : List ℕ) (colon end : ℕ) → IsPasswordAt t colon end → end ≤ length t
password-inside t colon end i =
    let e : length i.prefix + length (58 ∷ (i.password ++ i.back)) ≡ length t =
    sym (length-append i.prefix (58 ∷ (i.password ++ i.back))) ∙ ap length i.text in
    omega (arith, i.at_colon, i.at_end, length-append i.password i.back, e)

-- ---- texts without password
pub no_authority : (t : List ℕ) → (split_of t).authority ≡ None → password_of t ≡ None
unfolding password_of
no_authority t h = ap (λ o. password_in (userinfo_in o)) h

pub no_userinfo : (t a : List ℕ) → (split_of t).authority ≡ Some a → None ≡ (authority_parts a).userinfo → password_of t ≡ None
unfolding password_of
no_userinfo t a h k = ap (λ o. password_in (userinfo_in o)) h ∙ ap password_in (sym k)

pub no_colon : (t a u : List ℕ) → (split_of t).authority ≡ Some a → Some u ≡ (authority_parts a).userinfo → None ≡ after 58 u
    → password_of t ≡ None
unfolding password_of
no_colon t a u h k n = ap (λ o. password_in (userinfo_in o)) h ∙ (ap password_in (sym k) ∙ sym n)

-- ---- the host
host_prefix : (t a : List ℕ) (start : ℕ) (i : IsAuthorityAt t a start) (o : Option (List ℕ)) (rest : List ℕ)
    → (i.prefix ++ userinfo_text o) ++ rest ≡ t → IsCharBoundary t (length (i.prefix ++ userinfo_text o))
host_prefix t a start i None rest e =
    let f : i.lead ++ 47 ∷ rest ≡ t = sym (append_assoc i.lead (47 ∷ []) rest)
    ∙ (ap (λ z. z ++ rest) (i.ends ∙ sym (append-nil i.prefix)) ∙ e) in
    let n : length i.lead + 1 ≡ length (i.prefix ++ []) =
    omega (arith, length-append i.lead (47 ∷ []), ap length i.ends, ap length (append-nil i.prefix)) in
    subst (IsCharBoundary t) n (after-boundary t i.lead rest 47 (omega arith) i.utf8 f)
host_prefix t a start i (Some x) rest e =
    let f : (i.prefix ++ x) ++ 64 ∷ rest ≡ t = sym (append_assoc (i.prefix ++ x) (64 ∷ []) rest)
    ∙ (ap (λ z. z ++ rest) (append_assoc i.prefix x (64 ∷ [])) ∙ e) in
    let n : length (i.prefix ++ x) + 1 ≡ length (i.prefix ++ (x ++ 64 ∷ [])) =
    omega (arith, length-append (i.prefix ++ x) (64 ∷ []), ap length (append_assoc i.prefix x (64 ∷ []))) in
    subst (IsCharBoundary t) n (after-boundary t (i.prefix ++ x) rest 64 (omega arith) i.utf8 f)

pub host-place : (s : Tests) (t a : List ℕ) (start : ℕ) → IsAuthorityAt t a start → is_host s (authority_parts a).host ≡ true
    → IsHostAt s t (authority_parts a).host (start + length (userinfo_text (authority_parts a).userinfo))
unfolding recompose_authority
host-place s t a start i valid =
    let user = userinfo_text (authority_parts a).userinfo in
    let h = (authority_parts a).host in
    let port = delimited 58 (authority_parts a).port in
    let prefix = i.prefix ++ user in
    let back = port ++ i.back in
    let grouped : (x : List ℕ) → i.prefix ++ ((user ++ (x ++ port)) ++ i.back) ≡ prefix ++ (x ++ back) = λ x. simp append_assoc in
    let whole : prefix ++ (h ++ back) ≡ t = sym (grouped h) ∙ (ap (λ z. i.prefix ++ (z ++ i.back)) (authority_recomposed a) ∙ i.text) in
    let long : length prefix ≡ start + length user = length-append i.prefix user ∙ ap (λ n. n + length user) i.at in
    let low = host_prefix t a start i (authority_parts a).userinfo (h ++ back) whole in
    let later : (prefix ++ h) ++ back ≡ t = append_assoc prefix h back ∙ whole in
    let ahead : take (length (prefix ++ h)) t ≡ prefix ++ h =
    ap (take (length (prefix ++ h))) (sym later) ∙ take-append_seam (prefix ++ h) back in
    let ahead_prefix : take (length prefix) t ≡ prefix = ap (take (length prefix)) (sym whole) ∙ take-append_seam prefix (h ++ back) in
    let prefix_utf8 = subst (λ z. IsUtf8 z) ahead_prefix (IsUtf8-take t (length prefix) i.utf8 low) in
    let both_utf8 = subst (λ z. IsUtf8 z) (sym ahead) (IsUtf8-append prefix h prefix_utf8 (host-utf8 s h valid)) in
    let within : length (prefix ++ h) ≤ length t = omega (arith, length-append (prefix ++ h) back, ap length later) in
    let end : length (prefix ++ h) ≡ start + length user + length h = length-append prefix h ∙ ap (λ n. n + length h) long in
    let high = IsCharBoundary-from_take t (length (prefix ++ h)) i.utf8 within both_utf8 in
    let after_it : drop (length (prefix ++ h)) t ≡ back =
    ap (drop (length (prefix ++ h))) (sym later) ∙ drop-append_seam (prefix ++ h) back in
    record {
      prefix = prefix;
      back = back;
      text = whole;
      at = long;
      valid = valid;
      stands = ap host_in i.stands;
      edits = λ new. i.edits (host_replaced new) ∙ grouped new;
      low = subst (IsCharBoundary t) long low;
      high = subst (IsCharBoundary t) end high;
      utf8 = subst (λ z. IsUtf8 z) after_it (IsUtf8-drop t (length (prefix ++ h)) i.utf8 high);
    }

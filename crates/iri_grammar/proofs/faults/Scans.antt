-- Where a scan of a reference stops, and the fault that it tells.
use Rattle.iri_grammar.proofs.Common.{◌≡◌, ℕ, Bool, true, false, cond, not, ◌&&◌, List, [], ◌∷◌, ◌++◌, Option, Some, None, refl, sym, ◌∙◌}
use Rattle.iri_grammar.proofs.Common.{ap, subst, append_assoc, append-nil, arith, length, ◌==◌, is_utf8, eqb-true, IsUtf8-from_is_utf8}
use Rattle.iri_grammar.proofs.Common.{is_utf8-from_IsUtf8, Tests, IsSpec, fragment_char, path_char, query_char, if_there, is_query, before}
use Rattle.iri_grammar.proofs.Common.{after, lacks, delimited, begins, authority_fault, bytes_fault, first, fragment_fault, part_fault}
use Rattle.iri_grammar.proofs.Common.{query_fault, unless, now_of, text_over, Parts, is_empty, after_scheme, authority_of, hier_of}
use Rattle.iri_grammar.proofs.Common.{parts_of, scheme_of, split_of, colon_allowed, fault_before_fragment, parts_fault, reference_fault}
use Rattle.iri_grammar.proofs.Common.{ErrorKind, InvalidFragment, InvalidPath, InvalidQuery, InvalidUtf8, IsPastAuthority, HasNoUnit}
use Rattle.iri_grammar.specs.declared.tail.Tail.{Tail}
use Rattle.iri_grammar.specs.inside.Scans.{fault_after, judged_fault, part_left, Scans}
use Rattle.iri_grammar.specs.inside.Tails.{AreOver, ScansTail, TailStops}
use Rattle.iri_grammar.proofs.authorities.AuthorityTexts.{nothing-utf8, over_text-lacks}
use Rattle.iri_grammar.proofs.splits.CutLaws.{after-delimited, before-delimited, by_test, joined, lacks-append}
use Rattle.iri_grammar.proofs.faults.FaultLaws.{part-no_fault}
use Rattle.iri_grammar.proofs.faults.PlainTails.{over-fault}
use Rattle.iri_grammar.proofs.splits.SplitLaws.{delimited-lacks}
use Rattle.iri_grammar.proofs.splits.SplitUnique.{path_apart, queries-lack}
use Rattle.iri_grammar.proofs.splits.TextParts.{tail-text}
use Rattle.iri_grammar.proofs.units.UnitRuns.{stops-over}

-- ---- the parts of what follows the authority
record TailIs (t x : List ℕ) (q f : Option (List ℕ)) : Type 0 where
  path : hier_of t ≡ x
  query : after 63 (before 35 t) ≡ q
  fragment : after 35 t ≡ f

tail-is : (t x : List ℕ) (q f : Option (List ℕ)) → t ≡ x ++ (delimited 63 q ++ delimited 35 f) → lacks 35 x ≡ true → lacks 63 x ≡ true
    → if_there (lacks 35) q ≡ true → TailIs t x q f
tail-is t x q f e hash delimiter query =
    let whole = e ∙ sym (append_assoc x (delimited 63 q) (delimited 35 f)) in
    let prefix = lacks-append 35 x (delimited 63 q) hash (delimited-lacks 35 63 q refl query) in
    let first = ap (before 35) whole ∙ before-delimited 35 (x ++ delimited 63 q) f prefix in
    record {
      path = ap (before 63) first ∙ before-delimited 63 x q delimiter;
      query = ap (after 63) first ∙ after-delimited 63 x q delimiter;
      fragment = ap (after 35) whole ∙ after-delimited 35 (x ++ delimited 63 q) f prefix;
    }

before-past : (c : ℕ) (x r : List ℕ) → lacks c x ≡ true → before c (x ++ r) ≡ x ++ before c r
before-past c [] r h = refl
before-past c (y ∷ x) r h = by_test y c (λ b. (not b && lacks c x) ≡ true → cond b [] (y ∷ before c (x ++ r)) ≡ y ∷ (x ++ before c r)) (λ _ k. cc)
    (λ _ k. ap (λ ys. y ∷ ys) (before-past c x r k)) h

pub before-lacks : (c : ℕ) (r : List ℕ) → lacks c (before c r) ≡ true
before-lacks c [] = refl
before-lacks c (x ∷ r) = elim (x == c) as (λ b. (x == c) ≡ b → lacks c (cond b [] (x ∷ before c r)) ≡ true) [
  | true ↦ λ _. refl
  | false ↦ λ e. rw e (before-lacks c r)
] refl

hash-some : (r : List ℕ) → begins 35 r ≡ false → is_empty r ≡ false → is_empty (before 35 r) ≡ false
hash-some [] h some = some
hash-some (x ∷ r) h some = rw h refl

hier-some : (r : List ℕ) → begins 63 r ≡ false → begins 35 r ≡ false → is_empty r ≡ false → is_empty (hier_of r) ≡ false
hier-some [] q h some = some
hier-some (x ∷ r) q h some = rw (h, q) refl

hier-joined : (r : List ℕ) → hier_of r ++ (delimited 63 (after 63 (before 35 r)) ++ delimited 35 (after 35 r)) ≡ r
hier-joined r =
    sym (append_assoc (hier_of r) (delimited 63 (after 63 (before 35 r))) (delimited 35 (after 35 r)))
    ∙ (ap (λ l. l ++ delimited 35 (after 35 r)) (joined 63 (before 35 r)) ∙ joined 35 r)

-- ---- the fault where a part is left
abbrev pub tail : List ℕ → Option (List ℕ) → Option (List ℕ) → Option (List ℕ) → Option (List ℕ) → Parts
tail x sch a q f = record { scheme = sch; authority = a; path = x; query = q; fragment = f }

at_path : (a q f : Option ErrorKind) (c : Bool) → first (first a (first (unless false InvalidPath) q)) f ≡ first (first a (unless c InvalidPath)) (Some InvalidPath)
at_path None q f true = refl
at_path None q f false = refl
at_path (Some e) q f c = refl

at_query : (a f : Option ErrorKind) (c : Bool) → first (first a (first (unless c InvalidPath) (Some InvalidQuery))) f
    ≡ first (first a (unless c InvalidPath)) (Some InvalidQuery)
at_query None f true = refl
at_query None f false = refl
at_query (Some e) f c = refl

at_fragment : (a : Option ErrorKind) (c : Bool) → first (first a (first (unless c InvalidPath) None)) (Some InvalidFragment)
    ≡ first (first a (unless c InvalidPath)) (Some InvalidFragment)
at_fragment None true = refl
at_fragment None false = refl
at_fragment (Some e) c = refl

path-lacks : (s : Tests) → IsSpec s → (x : List ℕ) → text_over (path_char s) x ≡ true → (lacks 35 x ≡ true) × (lacks 63 x ≡ true)
path-lacks s k x h =
    let apart = path_apart s k in
    (over_text-lacks (path_char s) 35 x (omega arith) apart.0 refl refl h, over_text-lacks (path_char s) 63 x (omega arith) apart.1 refl refl h)

tail-fault : (s : Tests) → IsSpec s → (sch a : Option (List ℕ)) (t x : List ℕ) (q f : Option (List ℕ)) (r : List ℕ)
    → t ≡ x ++ (delimited 63 q ++ (delimited 35 f ++ r)) → AreOver s x q f → TailStops s q f r → is_empty r ≡ false
    → parts_fault s (fragment_fault s) (tail (hier_of t) sch a (after 63 (before 35 t)) (after 35 t))
    ≡ first (judged_fault s (tail (hier_of t) sch a (after 63 (before 35 t)) (after 35 t))) (Some (part_left q f))
unfolding parts_fault fault_before_fragment
tail-fault s k sch a t x q (Some f) r e h stops some =
    let lacking = path-lacks s k x h.0 in
    let is = tail-is t x q (Some (f ++ r)) e lacking.0 lacking.1 (queries-lack s q k h.1) in
    let fails : text_over (fragment_char s) (f ++ r) ≡ false =
    stops-over (fragment_char s) f r [] h.2 some (subst (HasNoUnit (fragment_char s)) (sym (append-nil r)) stops.fragment) in
    rw (is.path, is.query, is.fragment, h.0, part-no_fault (is_query s) InvalidQuery q h.1, fails)
    (at_fragment (part_fault (authority_fault s) a) (colon_allowed (tail x sch a q (Some f))))
tail-fault s k sch a t x (Some q) None r e h stops some =
    let lacking = path-lacks s k x h.0 in
    let y = before 35 r in
    let z = delimited 35 (after 35 r) in
    let whole = e ∙ (ap (λ l. x ++ 63 ∷ (q ++ l)) (sym (joined 35 r)) ∙ ap (λ l. x ++ 63 ∷ l) (sym (append_assoc q y z))) in
    let is = tail-is t x (Some (q ++ y)) (after 35 r) whole lacking.0 lacking.1 (lacks-append 35 q y (queries-lack s (Some q) k h.1) (before-lacks 35 r)) in
    let fails : text_over (query_char s) (q ++ y) ≡ false =
    stops-over (query_char s) q y z h.1 (hash-some r stops.fragment some) (subst (HasNoUnit (query_char s)) (sym (joined 35 r)) stops.query) in
    rw (is.path, is.query, is.fragment, h.0, fails)
    (at_query (part_fault (authority_fault s) a) (part_fault (fragment_fault s) (after 35 r)) (colon_allowed (tail x sch a (Some q) None)))
tail-fault s k sch a t x None None r e h stops some =
    let lacking = path-lacks s k x h.0 in
    let path : hier_of t ≡ x ++ hier_of r = ap hier_of e ∙ (ap (before 63) (before-past 35 x r lacking.0) ∙ before-past 63 x (before 35 r) lacking.1) in
    let fails : text_over (path_char s) (x ++ hier_of r) ≡ false =
    stops-over (path_char s) x (hier_of r) _ h.0 (hier-some r stops.query stops.fragment some)
    (subst (HasNoUnit (path_char s)) (sym (hier-joined r)) stops.path) in
    rw (path, fails)
    (at_path (part_fault (authority_fault s) a) (part_fault (query_fault s) (after 63 (before 35 t))) (part_fault (fragment_fault s) (after 35 t))
    (colon_allowed (tail (x ++ hier_of r) sch a None None)))

-- ---- the whole
past : (sch : Option (List ℕ)) (t r : List ℕ) (a : Option (List ℕ)) → a ≡ authority_of (hier_of t) → IsPastAuthority t r
    → parts_of sch t ≡ tail (hier_of r) sch a (after 63 (before 35 r)) (after 35 r)
past sch t r a e k = rw (e, k.path, k.query, k.fragment) refl

pub scanned : (s : Tests) → IsSpec s → (sch : Option (List ℕ)) (t : List ℕ) (a : Option (List ℕ)) (r : List ℕ) (p : Tail)
    → a ≡ authority_of (hier_of t) → IsPastAuthority t r → is_utf8 t ≡ is_utf8 r → ScansTail s r p
    → Scans s sch t (tail p.path.now sch a (now_of p.query) (now_of p.fragment)) p.rest.now
scanned s k sch t a r p authority rest same scan =
    let q = now_of p.query in
    let f = now_of p.fragment in
    let x = p.path.now in
    let h = scan.over in
    let lacking = path-lacks s k x h.0 in
    let whole = past sch t r a authority rest in
    record {
      text = same ∙ (ap is_utf8 scan.whole ∙ tail-text s x q f p.rest.now h);
      over = h;
      whole = λ none.
          let all = scan.whole ∙ (ap (λ l. x ++ (delimited 63 q ++ (delimited 35 f ++ l))) none
          ∙ ap (λ l. x ++ (delimited 63 q ++ l)) (append-nil (delimited 35 f))) in
          let is = tail-is r x q f all lacking.0 lacking.1 (queries-lack s q k h.1) in
          sym (whole ∙ rw (is.path, is.query, is.fragment) refl);
      fault = λ u some.
          ap (parts_fault s (fragment_fault s)) whole ∙ tail-fault s k sch a r x q f p.rest.now scan.whole h
          (scan.stops (IsUtf8-from_is_utf8 r (sym same ∙ u))) some
          ∙ ap (λ l. first (judged_fault s l) (Some (part_left q f))) (sym whole);
    }

-- ---- the fault of bytes
pub judged : (s : Tests) (sch : Option (List ℕ)) (t : List ℕ) (a : Option (List ℕ)) (allowed : Bool) → a ≡ authority_of (hier_of t)
    → allowed ≡ colon_allowed (parts_of sch t) → first (part_fault (authority_fault s) a) (unless allowed InvalidPath) ≡ judged_fault s (parts_of sch t)
judged s sch t a allowed e h = ap (λ o. first (part_fault (authority_fault s) o) (unless allowed InvalidPath)) e
    ∙ ap (λ b. first (part_fault (authority_fault s) (authority_of (hier_of t))) (unless b InvalidPath)) h

pub whole-fault : (s : Tests) (sch : Option (List ℕ)) (t : List ℕ) (p : Parts) (r : List ℕ) → Scans s sch t p r → (length r == 0) ≡ true
    → bytes_fault (fault_after s sch) t ≡ judged_fault s (parts_of sch t)
whole-fault s sch t p [] h none =
    rw (h.text, is_utf8-from_IsUtf8 [] nothing-utf8) (subst (λ q. parts_fault s (fragment_fault s) q ≡ judged_fault s q) (h.whole refl) (sym (over-fault s p h.over)))
whole-fault s sch t p (x ∷ r) h none = absurd (omega (arith, eqb-true (length (x ∷ r)) 0 none))

pub left-fault : (s : Tests) (sch : Option (List ℕ)) (t : List ℕ) (p : Parts) (r : List ℕ) → Scans s sch t p r → (length r == 0) ≡ false
    → bytes_fault (fault_after s sch) t ≡ bytes_fault (λ _. first (judged_fault s (parts_of sch t)) (Some (part_left p.query p.fragment))) r
left-fault s sch t p [] h some = cc
left-fault s sch t p (x ∷ r) h some =
    elim (is_utf8 t) as (λ b. is_utf8 t ≡ b → cond b (fault_after s sch t) (Some InvalidUtf8)
    ≡ cond (is_utf8 (x ∷ r)) (first (judged_fault s (parts_of sch t)) (Some (part_left p.query p.fragment))) (Some InvalidUtf8)) [
      | true ↦ λ u. rw (sym h.text ∙ u) (h.fault u refl)
      | false ↦ λ u. rw (sym h.text ∙ u) refl
    ] refl

pub scheme-fault : (s : Tests) (sch : Option (List ℕ)) (t r : List ℕ) → sch ≡ scheme_of t → r ≡ after_scheme t → is_utf8 t ≡ is_utf8 r
    → bytes_fault (fault_after s sch) r ≡ bytes_fault (reference_fault s) t
unfolding split_of
scheme-fault s sch t r e k same = ap (λ b. cond b (fault_after s sch r) (Some InvalidUtf8)) (sym same)
    ∙ (ap (λ o. cond (is_utf8 t) (fault_after s o r) (Some InvalidUtf8)) e ∙ ap (λ l. cond (is_utf8 t) (fault_after s (scheme_of t) l) (Some InvalidUtf8)) k)

-- A text without a fault is a field value: that of the link-values that a reading gives.
use Rattle.iri_link.proofs.Common.{cond, ◌≡◌, ℕ, zero, suc, ◌+◌, ◌<◌, true, false, List, [], ◌∷◌, ◌++◌, Option, Some, None, inl, inr, refl, sym, ap}
use Rattle.iri_link.proofs.Common.{◌∙◌, subst, append_assoc, ◌==◌, All, str_to_ascii_lowercase, is_utf8, append-nil, All-cons, arith, length, take, drop}
use Rattle.iri_link.proofs.Common.{All-nil, IsUtf8-from_is_utf8, Tests, before, after, delimited, reference_fault, is_blank, run_of, first_passes}
use Rattle.iri_link.proofs.Common.{is_blanks, is_token_char, LinkParam, unquoted}
use Rattle.iri_link.proofs.Common.{LinkValue, IsParams, none, empty, param, IsLink, link}
use Rattle.iri_link.proofs.Common.{no_element, element, IsField, last, more, HasReference, HasLinks, before_link}
use Rattle.iri_link.proofs.Common.{in_target, after_param, after_semicolon, in_name, after_equals, fault_from, closes_from, quoted_len, target_fault, earlier, place_in, field_fault}
use Rattle.std.proofs.Common.{length-append}
use Rattle.std.specs.Str.Lossy.{utf8_valid_len}
use Rattle.iri_grammar.proofs.splits.CutLaws.{joined}
use Rattle.iri_grammar.proofs.faults.Scans.{before-lacks}
use Rattle.iri_link.specs.Fault.{Fault, told_target}
use Rattle.iri_link.specs.declared.error.LinkKind.TheVariants.{NotUtf8, NoTarget, OpenTarget, NoParam, OpenString}
use Rattle.iri_link.proofs.ParamLemmas.{ReadsParam, ReadsValue, no_value, token_value, string_value, name_goes, bare_read, valued_read, equals_read, no_equals, semicolon_begun, semicolon_ready, ready_semicolon}
use Rattle.iri_link.proofs.GrammarLemmas.{element-parts, field-given, params-parts}
use Rattle.iri_link.proofs.PhaseLemmas.{fault-blanks, comma-same, target-given}
use Rattle.iri_link.proofs.QuotedLemmas.{cut_at}
use Rattle.iri_link.proofs.RunLemmas.{run-is, mark, when}
use Rattle.iri_link.proofs.TargetLemmas.{some-lacks, none-lacks, open_goes, target_none}
use Rattle.iri_link.specs.Readings.{links_in}

-- ---- tests
pub none_of : (a b : Option Fault) → earlier a b ≡ None → (a ≡ None) × (b ≡ None)
none_of None b h = (refl, h)
none_of (Some e) b h = cc

-- ---- a value, and a parameter
string_closes : (s : Tests) (cs : List ℕ) → fault_from s after_equals (34 ∷ cs) ≡ None → closes_from false cs ≡ true
unfolding fault_from
string_closes s cs h =
    when (closes_from false cs) (closes_from false cs ≡ true) (λ e. e)
    (λ e. let w : fault_from s after_equals (34 ∷ cs) ≡ Some (record { kind = OpenString; rest = 34 ∷ cs }) = rw e refl in cc)

value_in : (s : Tests) (t : List ℕ) → first_passes is_blank t ≡ false → fault_from s after_equals t ≡ None
    → (rest : List ℕ) × (v : List ℕ) × ReadsValue t rest v
value_in s t blank h =
    elim (mark 34 t) [
      | inr m ↦
          let closes = string_closes s m.0 (sym (ap (fault_from s after_equals) m.1) ∙ h) in
          let n = quoted_len false m.0 in
          let raw = take n m.0 in
          let rest = drop (n + 1) m.0 in
          (rest, unquoted raw, string_value t m.0 raw rest m.1 (cut_at m.0 raw rest n closes refl refl refl))
      | inl other ↦ when (first_passes is_token_char t) ((rest : List ℕ) × (v : List ℕ) × ReadsValue t rest v)
          (λ begun.
          let n = run_of is_token_char t in
          (drop n t, unquoted (take n t), token_value t (take n t) (drop n t) (run-is is_token_char t) begun))
          (λ none. let w = no_value s t other blank none in cc)
    ]

param_in : (s : Tests) (t : List ℕ) → first_passes is_token_char t ≡ true → fault_from s in_name t ≡ None
    → (rest : List ℕ) × (q : LinkParam) × ReadsParam t rest q
param_in s t begun h =
    let n = run_of is_token_char t in
    let run = take n t in
    let mid = drop n t in
    let r = run-is is_token_char t in
    let a = take (run_of is_blank mid) mid in
    let next = drop (run_of is_blank mid) mid in
    let k = run-is is_blank mid in
    elim (mark 61 next) [
      | inl other ↦ (
        mid,
        record { name = str_to_ascii_lowercase run; value = None },
        bare_read t run mid _ None r begun refl refl (λ x. no_equals x mid a next k other),
      )
      | inr m ↦
          let b = take (run_of is_blank m.0) m.0 in
          let value = drop (run_of is_blank m.0) m.0 in
          let j = run-is is_blank m.0 in
          let e = equals_read mid a next m.0 b value k m.1 j in
          let v = value_in s value j.ends (sym (name_goes s t run mid r ∙ e.goes s) ∙ h) in
          (v.0, record { name = str_to_ascii_lowercase run; value = Some v.1 }, valued_read t run mid value v.0 _ v.1 (Some v.1) r begun refl refl e v.2)
    ]

-- ---- parameters, and what follows a link-value: nothing, or a comma and a field value
record Found (s : Tests) (t : List ℕ) : Type 0 where
  links : List LinkValue
  field : IsField t links
  valid : All (HasReference s) links

data Ends (s : Tests) : List ℕ → List LinkValue → Type 0 where
  nothing : Ends s [] []
  comma : (y : List ℕ) (ls : List LinkValue) → IsField y ls → All (HasReference s) ls → Ends s (44 ∷ y) ls

record HasParams (s : Tests) (t : List ℕ) : Type 0 where
  prefix : List ℕ
  blanks : List ℕ
  rest : List ℕ
  params : List LinkParam
  links : List LinkValue
  whole : t ≡ prefix ++ (blanks ++ rest)
  fits : IsParams prefix params
  all : is_blanks blanks ≡ true
  ends : Ends s rest links

nothing_left : (s : Tests) (t : List ℕ) → first_passes is_blank t ≡ false → first_passes (λ c. c == 59) t ≡ false → first_passes (λ c. c == 44) t ≡ false
    → fault_from s after_param t ≡ None → t ≡ []
unfolding fault_from
nothing_left s [] b m n h = refl
nothing_left s (c ∷ cs) b m n h = let w : fault_from s after_param (c ∷ cs) ≡ Some (record { kind = NoParam; rest = c ∷ cs }) = rw (b, m, n) refl in cc

no_params : (s : Tests) (t a next : List ℕ) (ls : List LinkValue) → t ≡ a ++ next → is_blanks a ≡ true → Ends s next ls → HasParams s t
no_params s t a next ls e h k = record { prefix = []; blanks = a; rest = next; params = []; links = ls; whole = e; fits = none; all = h; ends = k }

-- parameters before others
grown_by : (s : Tests) (t y c : List ℕ) → t ≡ c ++ y → (i : HasParams s y) → (ps : List LinkParam) → IsParams (c ++ i.prefix) ps → HasParams s t
grown_by s t y c e i ps fits = record {
  prefix = c ++ i.prefix;
  blanks = i.blanks;
  rest = i.rest;
  params = ps;
  links = i.links;
  whole = e ∙ (ap (λ l. c ++ l) i.whole ∙ sym (append_assoc c i.prefix (i.blanks ++ i.rest)));
  fits = fits;
  all = i.all;
  ends = i.ends;
}

params_in : (s : Tests) (n : ℕ) (t : List ℕ) → length t < n → ((y : List ℕ) → length y < length t → fault_from s before_link y ≡ None → Found s y)
    → fault_from s after_param t ≡ None → HasParams s t
params_in s zero t lt again h = absurd (omega (arith, lt))
params_in s (suc n) t lt again h =
    let a = take (run_of is_blank t) t in
    let next = drop (run_of is_blank t) t in
    let r = run-is is_blank t in
    let g : fault_from s after_param next ≡ None = sym (ap (fault_from s after_param) r.whole ∙ fault-blanks s after_param refl a next r.all) ∙ h in
    elim (mark 59 next) [
      | inr m ↦
          let b = take (run_of is_blank m.0) m.0 in
          let x = drop (run_of is_blank m.0) m.0 in
          let k = run-is is_blank m.0 in
          let goes : fault_from s after_semicolon x ≡ None =
          sym (ap (fault_from s after_param) m.1 ∙ (ready_semicolon s m.0 ∙ (ap (fault_from s after_semicolon) k.whole ∙ fault-blanks s after_semicolon refl b x k.all))) ∙ g in
          let whole : t ≡ a ++ 59 ∷ (b ++ x) = r.whole ∙ ap (λ l. a ++ l) (m.1 ∙ ap (λ l. 59 ∷ l) k.whole) in
          let short : length x < length t = omega (arith, ap length whole, length-append a (59 ∷ (b ++ x)), length-append b x) in
          when (first_passes is_token_char x) (HasParams s t)
          (λ begun.
          let named = sym (semicolon_begun s x begun) ∙ goes in
          let p = param_in s x begun named in
          let d = p.2 in
          let shorter : length p.0 < length t = omega (arith, short, ap length d.whole, length-append d.prefix p.0) in
          let i = params_in s n p.0 (omega (arith, lt, shorter)) (λ y l. again y (omega (arith, l, shorter))) (sym (d.goes s) ∙ named) in
          grown_by s t p.0 (a ++ 59 ∷ (b ++ d.prefix)) (whole ∙ (ap (λ l. a ++ 59 ∷ (b ++ l)) d.whole ∙ params-parts a b d.prefix p.0)) i (p.1 ∷ i.params)
          (subst (λ z. IsParams z (p.1 ∷ i.params)) (params-parts a b d.prefix i.prefix) (param a b d.prefix i.prefix p.1 i.params r.all k.all d.param i.fits)))
          (λ bare.
          let i = params_in s n x (omega (arith, lt, short)) (λ y l. again y (omega (arith, l, short))) (sym (semicolon_ready s x k.ends bare) ∙ goes) in
          grown_by s t x (a ++ 59 ∷ b) (whole ∙ sym (append_assoc a (59 ∷ b) x)) i i.params
          (subst (λ z. IsParams z i.params) (sym (append_assoc a (59 ∷ b) i.prefix)) (empty a b i.prefix i.params r.all k.all i.fits)))
      | inl other ↦ elim (mark 44 next) [
        | inr m ↦
            let short : length m.0 < length t = omega (arith, ap length r.whole, length-append a next, ap length m.1) in
            let f = again m.0 short (sym (ap (fault_from s after_param) m.1 ∙ ap (λ o. o.0) (comma-same s m.0).1) ∙ g) in
            no_params s t a next f.links r.whole r.all (subst (λ z. Ends s z f.links) (sym m.1) (comma m.0 f.links f.field f.valid))
        | inl none_there ↦ no_params s t a next [] r.whole r.all (subst (λ z. Ends s z []) (sym (nothing_left s next r.ends other none_there g)) nothing)
      ]
    ]

-- ---- link-values
ended : (s : Tests) (a x b rest : List ℕ) (l : LinkValue) (ls : List LinkValue) → is_blanks a ≡ true → IsLink x l → is_blanks b ≡ true → HasReference s l → Ends s rest ls
    → IsField (a ++ (x ++ (b ++ rest))) (l ∷ ls) × All (HasReference s) (l ∷ ls)
ended s a x b rest l ls ha h hb v nothing =
    (subst (λ z. IsField (a ++ (x ++ z)) (l ∷ [])) (sym (append-nil b)) (last (a ++ (x ++ b)) (l ∷ []) (element a x b l ha h hb)), All-cons (HasReference s) l [] v (All-nil (HasReference s)))
ended s a x b rest l ls ha h hb v (comma y ms f all) =
    (subst (λ z. IsField z (l ∷ ms)) (element-parts a x b (44 ∷ y)) (more (a ++ (x ++ b)) y (l ∷ []) ms (element a x b l ha h hb) f), All-cons (HasReference s) l ms v all)

no_link_left : (s : Tests) (t : List ℕ) → first_passes is_blank t ≡ false → first_passes (λ c. c == 60) t ≡ false → first_passes (λ c. c == 44) t ≡ false
    → fault_from s before_link t ≡ None → t ≡ []
unfolding fault_from
no_link_left s [] b m n h = refl
no_link_left s (c ∷ cs) b m n h = let w : fault_from s before_link (c ∷ cs) ≡ Some (record { kind = NoTarget; rest = c ∷ cs }) = rw (b, m, n) refl in cc

-- a target without a fault ends, and is a reference
pub target_in : (s : Tests) (cs : List ℕ) → target_fault s cs ≡ None → (reference_fault s (before 62 cs) ≡ None) × ((rest : List ℕ) × (Some rest ≡ after 62 cs))
target_in s cs h =
    elim (after 62 cs) as (λ o. o ≡ after 62 cs → (reference_fault s (before 62 cs) ≡ None) × ((rest : List ℕ) × (Some rest ≡ after 62 cs))) [
      | None ↦ λ e.
          let k = none-lacks 62 cs e in
          let w : target_fault s cs ≡ Some (record { kind = OpenTarget; rest = 60 ∷ cs }) = rw k refl in cc
      | Some rest ↦ λ e.
          let k = some-lacks 62 cs rest e in
          let w : target_fault s cs ≡ told_target (reference_fault s (before 62 cs)) cs = rw k refl in
          (target_none cs (reference_fault s (before 62 cs)) (sym w ∙ h), (rest, e))
    ] refl

links_from : (s : Tests) (n : ℕ) (t : List ℕ) → length t < n → fault_from s before_link t ≡ None → Found s t
links_from s zero t lt h = absurd (omega (arith, lt))
links_from s (suc n) t lt h =
    let a = take (run_of is_blank t) t in
    let next = drop (run_of is_blank t) t in
    let r = run-is is_blank t in
    let g : fault_from s before_link next ≡ None = sym (ap (fault_from s before_link) r.whole ∙ fault-blanks s before_link refl a next r.all) ∙ h in
    elim (mark 60 next) [
      | inr m ↦
          let k = none_of (target_fault s m.0) (fault_from s in_target m.0) (sym (ap (fault_from s before_link) m.1 ∙ open_goes s m.0) ∙ g) in
          let o = target_in s m.0 k.0 in
          let u = before 62 m.0 in
          let rest = o.1.0 in
          let cut : m.0 ≡ u ++ 62 ∷ rest = sym (joined 62 m.0) ∙ ap (λ z. u ++ delimited 62 z) (sym o.1.1) in
          let begun : t ≡ a ++ 60 ∷ (u ++ 62 ∷ rest) = r.whole ∙ ap (λ l. a ++ l) (m.1 ∙ ap (λ l. 60 ∷ l) cut) in
          let short : length rest < length t = omega (arith, ap length begun, length-append a (60 ∷ (u ++ 62 ∷ rest)), length-append u (62 ∷ rest)) in
          let p = params_in s (suc (length rest)) rest (omega arith) (λ y l. links_from s n y (omega (arith, l, short, lt))) (sym (ap (fault_from s in_target) cut ∙ ap (λ z. z.0) (target-given s u rest (before-lacks 62 m.0))) ∙ k.1) in
          let l : LinkValue = record { target = u; params = p.params } in
          let z = p.blanks ++ p.rest in
          let whole : t ≡ a ++ ((60 ∷ (u ++ 62 ∷ p.prefix)) ++ z) =
          begun ∙ ap (λ w. a ++ 60 ∷ w) (ap (λ w. u ++ 62 ∷ w) p.whole ∙ sym (append_assoc u (62 ∷ p.prefix) z)) in
          let f = ended s a (60 ∷ (u ++ 62 ∷ p.prefix)) p.blanks p.rest l p.links r.all (link u p.prefix p.params (before-lacks 62 m.0) p.fits) p.all o.0 p.ends in
          record { links = l ∷ p.links; field = subst (λ w. IsField w (l ∷ p.links)) (sym whole) f.0; valid = f.1 }
      | inl other ↦ elim (mark 44 next) [
        | inr m ↦
            let short : length m.0 < length t = omega (arith, ap length r.whole, length-append a next, ap length m.1) in
            let i = links_from s n m.0 (omega (arith, lt, short)) (sym (ap (fault_from s before_link) m.1 ∙ ap (λ o. o.0) (comma-same s m.0).3) ∙ g) in
            record {
              links = i.links;
              field = subst (λ z. IsField z i.links) (sym (r.whole ∙ ap (λ l. a ++ l) m.1)) (more a m.0 [] i.links (no_element a r.all) i.field);
              valid = i.valid;
            }
        | inl none_there ↦
            let e : t ≡ a = r.whole ∙ (ap (λ l. a ++ l) (no_link_left s next r.ends other none_there g) ∙ append-nil a) in
            record { links = []; field = subst (λ z. IsField z []) (sym e) (last a [] (no_element a r.all)); valid = All-nil (HasReference s) }
      ]
    ]

-- ---- what a text without a fault is
place_none : (x : List ℕ) (f : Option Fault) → place_in x f ≡ None → f ≡ None
place_none x None h = refl
place_none x (Some f) h = cc

pub faultless_text : (s : Tests) (x : List ℕ) → field_fault s x ≡ None → (is_utf8 x ≡ true) × (fault_from s before_link x ≡ None)
faultless_text s x h =
    elim (is_utf8 x) as (λ b. cond b (place_in x (fault_from s before_link x)) (Some (record { kind = NotUtf8; place = utf8_valid_len x })) ≡ None
    → (b ≡ true) × (fault_from s before_link x ≡ None)) [
      | true ↦ λ k. (refl, place_none x (fault_from s before_link x) k)
      | false ↦ λ k. cc
    ] h

-- bytes without a fault are a field value
pub links_of_faultless : (s : Tests) (x : List ℕ) → field_fault s x ≡ None → HasLinks s x (links_in x)
links_of_faultless s x h =
    let f = faultless_text s x h in
    let k = links_from s (suc (length x)) x (omega arith) f.1 in
    let e = sym (field-given s x k.links k.field).0 in
    record { utf8 = IsUtf8-from_is_utf8 x f.0; field = subst (IsField x) e k.field; valid = subst (All (HasReference s)) e k.valid }

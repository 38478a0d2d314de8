-- Parameters in their written form: what both readings make of them.
use Rattle.iri_link.proofs.Common.{◌≡◌, ◌==◌, eqb-true, subst, cond, None, ℕ, Bool, true, false, ◌&&◌, List, [], ◌∷◌, ◌++◌, Some, refl, sym, ap, ◌∙◌, arith, both, test_apart, append_assoc, append-nil, length}
use Rattle.iri_link.proofs.Common.{nat_tests, list_all, flat_map, map, Tests, LinkParam, after_param, after_semicolon, fault_from, written_param, str_to_ascii_lowercase}
use Rattle.iri_link.proofs.Common.{after_equals, is_token_char, is_pair_char, is_plain_char, IsQuoted, done, plain, in_quoted}
use Rattle.std.proofs.Common.{length-append}
use Rattle.std.proofs.lemmas.List.{nil_from_length}
use Rattle.std.proofs.lemmas.Grind.{flat_map-append}
use Rattle.std.specs.Char.{is_ascii_lowercase, to_ascii_lowercase}
use Rattle.std.specs.Prelude.{filter}
use Rattle.iri_grammar.proofs.splits.CutLaws.{all-lacks}
use Rattle.iri_grammar.specs.Parts.{is_empty}
use Rattle.iri_link.specs.LaxReadings.{reads, is_name_char, is_writable, with_writable, lax_param}
unfoldable use Rattle.iri_link.specs.LaxReadings.{lax_reading}
use Rattle.iri_link.specs.Readings.{of_params, of_value, more}
use Rattle.iri_link.specs.inside.Faults.{phase_at}
use Rattle.iri_link.specs.inside.Pieces.{Ends, left_at}
use Rattle.iri_link.specs.inside.PlainParams.{ArePlain, IsPlainParam, with_params}
use Rattle.iri_link.proofs.EscapeLemmas.{escaped-same}
use Rattle.iri_link.proofs.GrammarLemmas.{param-named}
use Rattle.iri_link.proofs.LaxLemmas.{lax-blanks, lax-equals, lax-named, lax-open, lax-semicolon, param-bare}
use Rattle.iri_link.proofs.LaxWalk.{left_inside}
use Rattle.iri_link.proofs.PhaseLemmas.{outcome, giving, blanks, name-equals, semicolon-same, string-given, with_name, with_text}

-- ---- a name and a value
lower_token : (c : ℕ) → is_ascii_lowercase c ≡ true → is_token_char c ≡ true
lower_token c h = grind (arith, nat_tests)

lower_name : (c : ℕ) → is_ascii_lowercase c ≡ true → is_name_char c ≡ true
lower_name c h = grind (arith, nat_tests)

lower_same : (c : ℕ) → is_ascii_lowercase c ≡ true → to_ascii_lowercase c ≡ c
lower_same c h = grind (arith, nat_tests)

record IsLower (n : List ℕ) : Type 0 where
  token : list_all is_token_char n ≡ true
  name : list_all is_name_char n ≡ true
  same : str_to_ascii_lowercase n ≡ n

lower_all : (n : List ℕ) → list_all is_ascii_lowercase n ≡ true → IsLower n
lower_all [] h = record { token = refl; name = refl; same = refl }
lower_all (c ∷ cs) h =
    let k = both (is_ascii_lowercase c) (list_all is_ascii_lowercase cs) h in
    let i = lower_all cs k.1 in
    record {
      token = rw (lower_token c k.0) i.token;
      name = rw (lower_name c k.0) i.name;
      same = ap (λ d. d ∷ str_to_ascii_lowercase cs) (lower_same c k.0) ∙ ap (λ l. c ∷ l) i.same;
    }

record IsPlainValue (v : List ℕ) : Type 0 where
  quoted : IsQuoted v v
  pairs : list_all is_pair_char v ≡ true
  lax : (rest : List ℕ) → lax_reading (reads in_quoted) (v ++ 34 ∷ rest) ≡ with_text v (lax_reading (reads after_param) rest)

plain_all : (v : List ℕ) → list_all is_plain_char v ≡ true → IsPlainValue v
unfolding lax_reading
plain_all [] h = record { quoted = done; pairs = refl; lax = λ rest. sym (param-bare rest) }
plain_all (c ∷ cs) h =
    let k = both (is_plain_char c) (list_all is_plain_char cs) h in
    let i = plain_all cs k.1 in
    let p = k.0 in
    let m = test_apart is_plain_char 34 c refl p in
    let s = test_apart is_plain_char 92 c refl p in
    record {
      quoted = plain c cs cs p i.quoted;
      pairs = ap (λ b. b && list_all is_pair_char cs) (both (is_pair_char c) _ p).0 ∙ i.pairs;
      lax = λ rest. rw (m, s) (ap (more c) (i.lax rest));
    }

-- ---- a parameter
one : (t n v rest : List ℕ) → t ≡ 59 ∷ 32 ∷ (n ++ 61 ∷ 34 ∷ (v ++ 34 ∷ rest)) → is_empty n ≡ false → list_all is_ascii_lowercase n ≡ true → list_all is_plain_char v ≡ true
    → ArePlain true t (59 ∷ 32 ∷ (n ++ 61 ∷ 34 ∷ (v ++ 34 ∷ []))) rest
one t [] v rest e k l p = cc
one t (c ∷ cs) v rest e k l p =
    let n = c ∷ cs in
    let name = lower_all n l in
    let value = plain_all v p in
    let same = escaped-same v (all-lacks is_plain_char 34 v refl p) (all-lacks is_plain_char 92 v refl p) in
    let q : LinkParam = record { name = n; value = Some v } in
    let u = 34 ∷ (v ++ 34 ∷ rest) in
    let parts = append_assoc v (34 ∷ []) rest in
    let r = lax_reading (reads after_param) rest in
    let F = filter is_writable r.params in
    let L = map with_writable r.links in
    let lax : lax_reading (reads after_param) t ≡ of_params (q ∷ r.params) r.links =
    ap (lax_reading (reads after_param)) e ∙ (lax-semicolon (32 ∷ (n ++ 61 ∷ u)) ∙ (lax-blanks after_semicolon refl (32 ∷ []) (n ++ 61 ∷ u) refl
    ∙ (lax-named c cs (61 ∷ u) name.name refl
    ∙ (ap (λ o. lax_param c (with_name cs o)) (lax-equals u ∙ ap (λ o. of_value (Some o.text) o) (lax-open (v ++ 34 ∷ rest) ∙ value.lax rest))
    ∙ ap (λ z. of_params (record { name = z; value = Some v } ∷ r.params) r.links) name.same)))) in
    let writable : is_writable q ≡ true = ap (λ b. b && list_all is_pair_char v) name.token ∙ value.pairs in
    record {
      params = q ∷ [];
      whole = e ∙ ap (λ l. 59 ∷ 32 ∷ l) (ap (λ z. n ++ 61 ∷ 34 ∷ z) (sym parts) ∙ sym (append_assoc n (61 ∷ 34 ∷ (v ++ 34 ∷ [])) rest));
      said = append-nil (written_param q) ∙ ap (λ z. 59 ∷ 32 ∷ (n ++ 61 ∷ 34 ∷ (z ++ 34 ∷ []))) same;
      goes = λ s.
          let string = ap (outcome s after_equals) (ap (λ z. 34 ∷ z) (sym parts)) ∙ string-given s v v rest value.quoted in
          ap (fault_from s after_param) e ∙ ap (λ o. o.0) ((semicolon-same s (32 ∷ (n ++ 61 ∷ u))).1 ∙ (blanks s after_semicolon refl (32 ∷ []) (n ++ 61 ∷ u) refl
          ∙ param-named s c cs (61 ∷ u) rest (Some v) name.token refl (name-equals s u ∙ ap (giving (λ o. of_value (Some o.text) o)) string)));
      reads = ap left_inside lax ∙ ap (λ b. record { params = cond b (q ∷ F) F; links = L }) writable;
      short = omega (arith, ap length e, length-append n (61 ∷ u), length-append v (34 ∷ rest));
    }

pub plain_one : (t rest : List ℕ) → IsPlainParam t rest → (w : List ℕ) × ArePlain true t w rest
plain_one t rest h = (_, one t h.name h.value rest h.whole h.named h.lower h.plain)

-- ---- the end
ends : (b : Bool) → ((s : Tests) → fault_from s (phase_at b) [] ≡ None) × Ends b []
unfolding fault_from lax_reading
ends true = (λ s. refl, refl)
ends false = (λ s. refl, refl)

pub none_wrong : (s : Tests) (b : Bool) (t : List ℕ) → (length t == 0) ≡ true → fault_from s (phase_at b) t ≡ None
none_wrong s b t h = ap (fault_from s (phase_at b)) (nil_from_length t (eqb-true (length t) 0 h)) ∙ (ends b).0 s

pub none_left : (b : Bool) (t : List ℕ) → (length t == 0) ≡ true → Ends b t
none_left b t h = subst (Ends b) (sym (nil_from_length t (eqb-true (length t) 0 h))) (ends b).1

-- ---- parameters
pub plain_none : (b : Bool) (t : List ℕ) → ArePlain b t [] t
plain_none true t = record { params = []; whole = refl; said = refl; goes = λ s. refl; reads = refl; short = omega arith }
plain_none false t = record { params = []; whole = refl; said = refl; goes = λ s. refl; reads = refl; short = omega arith }

pub plain_more : (t w u x rest : List ℕ) → ArePlain true t w u → ArePlain true u x rest → ArePlain true t (w ++ x) rest
plain_more t w u x rest a b =
    let l = left_at true rest in
    record {
      params = a.params ++ b.params;
      whole = a.whole ∙ (ap (λ z. w ++ z) b.whole ∙ sym (append_assoc w x rest));
      said = flat_map-append written_param a.params b.params ∙ (ap (λ z. z ++ flat_map written_param b.params) a.said ∙ ap (λ z. w ++ z) b.said);
      goes = λ s. a.goes s ∙ b.goes s;
      reads = a.reads ∙ (ap (with_params a.params) b.reads ∙ ap (λ ps. record { params = ps; links = l.links }) (sym (append_assoc a.params b.params l.params)));
      short = omega (arith, a.short, b.short);
    }

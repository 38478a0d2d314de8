-- A field value has one list of link-values, the one that a reading gives; where its targets are references, it has no fault.
use Rattle.iri_link.proofs.Common.{◌≡◌, ℕ, true, false, List, [], ◌∷◌, ◌++◌, Option, Some, None, refl, sym, ap, ◌∙◌, subst, append_assoc, list_all, All}
use Rattle.iri_link.proofs.Common.{is_utf8-from_IsUtf8, append-nil, All-head, All-tail, All-cons, All-nil, Tests, both, is_blanks, is_token_char, is_token, str_to_ascii_lowercase}
use Rattle.iri_link.proofs.Common.{LinkParam, LinkValue, IsParam, bare, valued, IsParams, none, empty, param, IsLink, link, IsElement, no_element, element, IsField, last, more}
use Rattle.iri_link.proofs.Common.{HasReference, HasLinks, before_link, in_target, after_param, after_semicolon, after_name, after_equals, fault_from, place_in, field_fault, first_passes}
use Rattle.iri_link.specs.Fault.{Fault}
use Rattle.iri_link.specs.Readings.{Reading, of_links, of_params, of_value, reading, links_in}
use Rattle.iri_link.proofs.PhaseLemmas.{outcome, giving, with_text, with_name, begun, ready, blanks, blank_no_token, target-given, value-given, name-given}
use Rattle.iri_link.proofs.PhaseLemmas.{semicolon-name, name-equals, semicolon-same, AllSame, comma-same, end-same}
use Rattle.iri_link.proofs.TargetLemmas.{closed_goes}

-- ---- a parameter
-- what may follow it
pub record IsStop (s : Tests) (z : List ℕ) : Type 0 where
  pub token_ends : first_passes is_token_char z ≡ false
  pub named_ends : outcome s after_name z ≡ outcome s after_param z
  pub semicolon_ends : outcome s after_semicolon z ≡ outcome s after_param z

-- blanks, and what comes to the same after a name, a parameter and a semicolon
pub stop_after : (s : Tests) (a y : List ℕ) (x : Option Fault × Reading) → is_blanks a ≡ true → first_passes is_token_char y ≡ false
    → (outcome s after_name y ≡ x) × (outcome s after_param y ≡ x) × (outcome s after_semicolon y ≡ x) → IsStop s (a ++ y) × (outcome s after_param (a ++ y) ≡ x)
stop_after s a y x h e k =
    let r = blanks s after_param refl a y h ∙ k.1 in (
      record {
        token_ends = blank_no_token a y h e;
        named_ends = blanks s after_name refl a y h ∙ (k.0 ∙ sym r);
        semicolon_ends = blanks s after_semicolon refl a y h ∙ (k.2 ∙ sym r);
      },
      r,
    )

abbrev pub with_params : List LinkParam → Reading → Reading
with_params ps r = of_params (ps ++ r.params) r.links

pub param-named : (s : Tests) (c : ℕ) (cs y z : List ℕ) (v : Option (List ℕ)) → is_token (c ∷ cs) ≡ true → first_passes is_token_char y ≡ false
    → outcome s after_name y ≡ giving (of_value v) (outcome s after_param z)
    → outcome s after_semicolon ((c ∷ cs) ++ y) ≡ giving (with_params (record { name = str_to_ascii_lowercase (c ∷ cs); value = v } ∷ [])) (outcome s after_param z)
param-named s c cs y z v h e k =
    let b = both (is_token_char c) (list_all is_token_char cs) h in
    semicolon-name s c (cs ++ y) b.0 ∙ ap (giving (begun c)) (name-given s cs y b.1 e ∙ ap (giving (with_name cs)) k)

pub param-given : (s : Tests) (p z : List ℕ) (q : LinkParam) → IsParam p q → IsStop s z → outcome s after_semicolon (p ++ z) ≡ giving (with_params (q ∷ [])) (outcome s after_param z)
param-given s p z q (bare [] h) k = cc
param-given s p z q (bare (c ∷ cs) h) k = param-named s c cs z z None h k.token_ends (k.named_ends ∙ ready s z)
param-given s p z q (valued [] a b t v h ha hb hv) k = cc
param-given s p z q (valued (c ∷ cs) a b t v h ha hb hv) k =
    let u = b ++ (t ++ z) in
    let e : ((c ∷ cs) ++ (a ++ 61 ∷ (b ++ t))) ++ z ≡ (c ∷ cs) ++ (a ++ 61 ∷ u) =
    append_assoc (c ∷ cs) (a ++ 61 ∷ (b ++ t)) z ∙ ap (λ l. (c ∷ cs) ++ l) (append_assoc a (61 ∷ (b ++ t)) z ∙ ap (λ l. a ++ 61 ∷ l) (append_assoc b t z)) in
    let names : outcome s after_name (a ++ 61 ∷ u) ≡ giving (of_value (Some v)) (outcome s after_param z) =
    blanks s after_name refl a (61 ∷ u) ha ∙ (name-equals s u
    ∙ ap (giving (λ r. of_value (Some r.text) r)) (blanks s after_equals refl b (t ++ z) hb ∙ value-given s t v z hv k.token_ends)) in
    ap (outcome s after_semicolon) e ∙ param-named s c cs (a ++ 61 ∷ u) z (Some v) h (blank_no_token a (61 ∷ u) ha refl) names

-- ---- parameters
pub params-parts : (a b u z : List ℕ) → a ++ 59 ∷ (b ++ (u ++ z)) ≡ (a ++ 59 ∷ (b ++ u)) ++ z
params-parts a b u z = ap (λ l. a ++ 59 ∷ l) (sym (append_assoc b u z)) ∙ sym (append_assoc a (59 ∷ (b ++ u)) z)

pub params-given : (s : Tests) (p z : List ℕ) (ps : List LinkParam) → IsParams p ps → IsStop s z
    → IsStop s (p ++ z) × (outcome s after_param (p ++ z) ≡ giving (with_params ps) (outcome s after_param z))
params-given s p z ps none k = (k, ready s z)
params-given s p z ps (empty a b t rs ha hb h) k =
    let i = params-given s t z rs h k in
    let y = b ++ (t ++ z) in
    let j = stop_after s a (59 ∷ y) (outcome s after_semicolon y) ha refl (semicolon-same s y) in
    let e = params-parts a b t z in
    (subst (IsStop s) e j.0, ap (outcome s after_param) (sym e) ∙ (j.1 ∙ (blanks s after_semicolon refl b (t ++ z) hb ∙ (i.0.semicolon_ends ∙ i.1))))
params-given s p z ps (param a b x t q rs ha hb hx h) k =
    let i = params-given s t z rs h k in
    let y = b ++ (x ++ (t ++ z)) in
    let j = stop_after s a (59 ∷ y) (outcome s after_semicolon y) ha refl (semicolon-same s y) in
    let e = ap (λ l. a ++ 59 ∷ (b ++ l)) (sym (append_assoc x t z)) ∙ params-parts a b (x ++ t) z in
    let one = param-given s x (t ++ z) q hx i.0 ∙ ap (giving (with_params (q ∷ []))) i.1 in
    (subst (IsStop s) e j.0, ap (outcome s after_param) (sym e) ∙ (j.1 ∙ (blanks s after_semicolon refl b (x ++ (t ++ z)) hb ∙ one)))

-- ---- link-values
pub link-open : (y : List ℕ) → links_in (60 ∷ y) ≡ record { target = (reading in_target y).text; params = (reading in_target y).params } ∷ (reading in_target y).links
unfolding reading
link-open y = refl

link-given : (s : Tests) (x z : List ℕ) (l : LinkValue) → IsLink x l → IsStop s z
    → (links_in (x ++ z) ≡ record { target = l.target; params = l.params ++ (reading after_param z).params } ∷ (reading after_param z).links)
    × (HasReference s l → fault_from s before_link (x ++ z) ≡ fault_from s after_param z)
link-given s x z l (link t p ps closed hp) k =
    let i = (params-given s p z ps hp k).1 in
    let e = append_assoc t (62 ∷ p) z in (
      ap (λ w. links_in (60 ∷ w)) e ∙ (link-open (t ++ 62 ∷ (p ++ z))
          ∙ ap (λ o. record { target = o.1.text; params = o.1.params } ∷ o.1.links) (target-given s t (p ++ z) closed ∙ ap (giving (with_text t)) i)),
      λ v. ap (λ w. fault_from s before_link (60 ∷ w)) e ∙ (closed_goes s t (p ++ z) closed v ∙ ap (λ o. o.0) i),
    )

pub element-parts : (a x b z : List ℕ) → (a ++ (x ++ b)) ++ z ≡ a ++ (x ++ (b ++ z))
element-parts a x b z = append_assoc a (x ++ b) z ∙ ap (λ l. a ++ l) (append_assoc x b z)

-- an element and what follows it: a comma, or nothing
element-given : (s : Tests) (x y : List ℕ) (ls ms : List LinkValue) (f : Option Fault) → IsElement x ls → AllSame s y (f, of_links ms) → first_passes is_token_char y ≡ false
    → (links_in (x ++ y) ≡ ls ++ ms) × (All (HasReference s) ls → fault_from s before_link (x ++ y) ≡ f)
element-given s x y ls ms f (no_element a h) k first =
    let e = blanks s before_link refl a y h ∙ k.3 in (ap (λ o. o.1.links) e, λ _. ap (λ o. o.0) e)
element-given s x y ls ms f (element a w b l ha hw hb) k first =
    let c = stop_after s b y (f, of_links ms) hb first (k.0, k.1, k.2) in
    let e = element-parts a w b y in
    let n = blanks s before_link refl a (w ++ (b ++ y)) ha in
    let i = link-given s w (b ++ y) l hw c.0 in (
      ap links_in e ∙ (ap (λ o. o.1.links) n ∙ (i.0 ∙ (ap (λ o. record { target = l.target; params = l.params ++ o.1.params } ∷ o.1.links) c.1
          ∙ ap (λ ps. record { target = l.target; params = ps } ∷ ms) (append-nil l.params)))),
      λ v. ap (fault_from s before_link) e ∙ (ap (λ o. o.0) n ∙ (i.1 (All-head (HasReference s) l [] v) ∙ ap (λ o. o.0) c.1)),
    )

parted : {X : Type 0} (P : X → Type 0) (xs ys : List X) → All P (xs ++ ys) → All P xs × All P ys
parted P [] ys h = (All-nil P, h)
parted P (x ∷ xs) ys h = let k = parted P xs ys (All-tail P x (xs ++ ys) h) in (All-cons P x xs (All-head P x (xs ++ ys) h) k.0, k.1)

pub field-given : (s : Tests) (x : List ℕ) (ls : List LinkValue) → IsField x ls → (links_in x ≡ ls) × (All (HasReference s) ls → fault_from s before_link x ≡ None)
field-given s x ls (last y ms h) =
    let k = element-given s y [] ms [] None h (end-same s) refl in
    let e = sym (append-nil y) in
    (ap links_in e ∙ (k.0 ∙ append-nil ms), λ v. ap (fault_from s before_link) e ∙ k.1 v)
field-given s x ls (more y z ms ns h j) =
    let k = element-given s y (44 ∷ z) ms (links_in z) (fault_from s before_link z) h (comma-same s z) refl in
    let i = field-given s z ns j in
    (k.0 ∙ ap (λ l. ms ++ l) i.0, λ v. let p = parted (HasReference s) ms ns v in k.1 p.0 ∙ i.1 p.1)

pub one_list : (s : Tests) (x : List ℕ) (ls ms : List LinkValue) → IsField x ls → IsField x ms → ls ≡ ms
one_list s x ls ms h k = sym (field-given s x ls h).0 ∙ (field-given s x ms k).0

pub links_without_fault : (s : Tests) (x : List ℕ) (ls : List LinkValue) → HasLinks s x ls → field_fault s x ≡ None
links_without_fault s x ls h =
    let none : place_in x (fault_from s before_link x) ≡ None = ap (place_in x) ((field-given s x ls h.field).1 h.valid) in
    rw (is_utf8-from_IsUtf8 x h.utf8) none

-- What is written for the events of a value is what is written for the value.
use Rattle.iri_template.proofs.Common.{◌≡◌, ℕ, Bool, true, false, cond, not, ◌&&◌, ◌||◌, List, [], ◌∷◌, ◌++◌, None, map, refl, sym, ◌∙◌, ap}
use Rattle.iri_template.proofs.Common.{append_assoc, append-nil, Tests, texts, row_of, shown_text, value_texts, ShownValue, undefined}
use Rattle.iri_template.proofs.Common.{string, list, pairs, led, has_some, WriteState, event_step, event_text, Operator}
use Rattle.std.proofs.Math.Bool.{or-false, or-true}
use Rattle.std.proofs.lemmas.Bool.{and_right}
use Rattle.std.proofs.lemmas.Simd.{map-map}
use Rattle.iri_grammar.specs.Pieces.{joined}
use Rattle.iri_text.specs.inside.Through.{after}
use Rattle.iri_template.specs.Events.{Event, Item, Finished, telling, entry_of}
use Rattle.iri_template.specs.Expansion.{Row, lead, explodes, shown_pair, named_text, pair_with, in_one}
use Rattle.iri_template.specs.inside.Written.{name_part, item_lead, entry_lead, entry_delimiter}
use Rattle.iri_template.specs.declared.varspec.Modifier.{Modifier}

-- ---- texts with a separator before each
pub led-append : (row : Row) (written : Bool) (ts us : List (List ℕ))
    → led row written (ts ++ us) ≡ led row written ts ++ led row (written || has_some ts) us
led-append row written [] us = ap (λ b. led row b us) (sym (or-false written))
led-append row written (t ∷ ts) us =
    ap (λ l. (lead row written ++ t) ++ l) (led-append row true ts us)
    ∙ ap (λ b. (lead row written ++ t) ++ (led row true ts ++ led row b us)) (sym (or-true written))
    ∙ sym (append_assoc (lead row written ++ t) (led row true ts) (led row (written || true) us))

named_delimiter : (row : Row) (name t : List ℕ) → name_part row name ++ t ≡ named_text row name t
named_delimiter row name t = elim row.named as (λ b. cond b (name ++ 61 ∷ []) [] ++ t
    ≡ cond b (name ++ 61 ∷ t) t) [ true ↦ append_assoc name (61 ∷ []) t | false ↦ refl ]

none : (b : Bool) → has_some {A = List ℕ} (cond b [] []) ≡ false
none true = refl
none false = refl

module _ (s : Tests) (operator : Operator) (name : List ℕ) (m : Modifier) where
  abbrev row : Row
  row = row_of operator

  abbrev state : Bool → Bool → WriteState
  state written member = record { operator = operator; name = name; modifier = m; written = written; member = member }

  abbrev told : Bool → Bool → List Event → List ℕ
  told written member es = texts event_step (event_text s) (state written member) es

  -- a member: what it writes after what leads it, and that it was written
  record IsMember {X : Type 0} (ev : X → Event) (start : Bool → Bool → List ℕ) (body : X → List ℕ) : Type 0 where
    text : (written member : Bool) (x : X) → event_text s (state written member) (ev x) ≡ start written member ++ body x
    step : (written member : Bool) (x : X) → event_step (state written member) (ev x) ≡ state true true

  told_cons : {X : Type 0} (ev : X → Event) (start : Bool → Bool → List ℕ) (body : X → List ℕ) → IsMember ev start body
      → (written member : Bool) (x : X) (es : List Event)
      → told written member (ev x ∷ es) ≡ (start written member ++ body x) ++ told true true es
  told_cons ev start body i written member x es =
      ap (λ (w : WriteState). event_text s (state written member) (ev x) ++ texts event_step (event_text s) w es) (i.step written member x)
      ∙ ap (λ l. l ++ told true true es) (i.text written member x)

  -- one by one, each after the lead
  each : {X : Type 0} (ev : X → Event) (start : Bool → Bool → List ℕ) (body whole : X → List ℕ) → IsMember ev start body
      → ((written member : Bool) (x : X) → start written member ++ body x ≡ lead row written ++ whole x)
      → (written member : Bool) (xs : List X) → told written member (map ev xs ++ (Finished ∷ [])) ≡ led row written (map whole xs)
  each ev start body whole i h written member [] = refl
  each ev start body whole i h written member (x ∷ xs) =
      told_cons ev start body i written member x (map ev xs ++ (Finished ∷ []))
      ∙ ap (λ l. l ++ told true true (map ev xs ++ (Finished ∷ []))) (h written member x)
      ∙ ap (λ l. (lead row written ++ whole x) ++ l) (each ev start body whole i h true true xs)

  -- in one text, parted by commas
  later : {X : Type 0} (ev : X → Event) (start : Bool → Bool → List ℕ) (body : X → List ℕ) → IsMember ev start body
      → ((written : Bool) → start written true ≡ 44 ∷ [])
      → (t : List ℕ) (xs : List X) → t ++ told true true (map ev xs ++ (Finished ∷ [])) ≡ joined 44 (t ∷ map body xs)
  later ev start body i h t [] = append-nil t
  later ev start body i h t (x ∷ xs) =
      ap (λ l. t ++ l) (told_cons ev start body i true true x (map ev xs ++ (Finished ∷ []))
      ∙ ap (λ l. (l ++ body x) ++ told true true (map ev xs ++ (Finished ∷ []))) (h true))
      ∙ ap (λ l. t ++ 44 ∷ l) (later ev start body i h (body x) xs)

  together : {X : Type 0} (ev : X → Event) (start : Bool → Bool → List ℕ) (body : X → List ℕ) → IsMember ev start body
      → ((written : Bool) → start written true ≡ 44 ∷ [])
      → ((written : Bool) → start written false ≡ lead row written ++ name_part row name)
      → (written : Bool) (xs : List X) → told written false (map ev xs ++ (Finished ∷ [])) ≡ led row written (in_one row name (map body xs))
  together ev start body i h k written [] = refl
  together ev start body i h k written (x ∷ xs) =
      told_cons ev start body i written false x (map ev xs ++ (Finished ∷ []))
      ∙ ap (λ l. (l ++ body x) ++ told true true (map ev xs ++ (Finished ∷ []))) (k written)
      ∙ append_assoc (lead row written ++ name_part row name) (body x) (told true true (map ev xs ++ (Finished ∷ [])))
      ∙ ap (λ l. (lead row written ++ name_part row name) ++ l) (later ev start body i h (body x) xs)
      ∙ append_assoc (lead row written) (name_part row name) (joined 44 (body x ∷ map body xs))
      ∙ ap (λ l. lead row written ++ l) (named_delimiter row name (joined 44 (body x ∷ map body xs)))
      ∙ sym (append-nil (lead row written ++ named_text row name (joined 44 (body x ∷ map body xs))))

  abbrev sh : List ℕ → List ℕ
  sh t = shown_text s row.allow None t

  abbrev pair_text : ℕ → List ℕ × List ℕ → List ℕ
  pair_text delimiter p = pair_with delimiter (shown_pair s row.allow p)

  items : IsMember Item (λ w b. item_lead (state w b)) sh
  items = record { text = λ w b x. refl; step = λ w b x. refl }

  entries : IsMember entry_of (λ w b. entry_lead (state w b)) (pair_text (entry_delimiter m))
  entries = record { text = λ w b x. refl; step = λ w b x. refl }

  item_exploded : explodes m ≡ true → (w b : Bool) (x : List ℕ) → item_lead (state w b) ++ sh x ≡ lead row w ++ named_text row name (sh x)
  item_exploded e w b x =
      ap (λ v. cond (b && not v) (44 ∷ []) (lead row w ++ name_part row name) ++ sh x) e
      ∙ ap (λ v. cond v (44 ∷ []) (lead row w ++ name_part row name) ++ sh x) (and_right b false refl)
      ∙ append_assoc (lead row w) (name_part row name) (sh x) ∙ ap (λ l. lead row w ++ l) (named_delimiter row name (sh x))

  item_later : explodes m ≡ false → (w : Bool) → item_lead (state w true) ≡ 44 ∷ []
  item_later e w = ap (λ v. cond (true && not v) (44 ∷ []) (lead row w ++ name_part row name)) e

  entry_later : explodes m ≡ false → (w : Bool) → entry_lead (state w true) ≡ 44 ∷ []
  entry_later e w = ap (λ v. cond v (lead row w) (item_lead (state w true))) e ∙ item_later e w

  entry_first : explodes m ≡ false → (w : Bool) → entry_lead (state w false) ≡ lead row w ++ name_part row name
  entry_first e w = ap (λ v. cond v (lead row w) (item_lead (state w false))) e

  list_text : (w : Bool) (xs : List (List ℕ)) → told w false (map Item xs ++ (Finished ∷ []))
      ≡ led row w (value_texts s row name m (list xs))
  list_text w xs =
      elim (explodes m) as (λ v. explodes m ≡ v → told w false (map Item xs ++ (Finished ∷ []))
      ≡ led row w (cond v (map (named_text row name) (map sh xs)) (in_one row name (map sh xs)))) [
        | true ↦ λ e. each Item (λ w b. item_lead (state w b)) sh (λ x. named_text row name (sh x)) items (item_exploded e) w false xs
            ∙ ap (led row w) (sym (map-map (named_text row name) sh xs))
        | false ↦ λ e. together Item (λ w b. item_lead (state w b)) sh items (item_later e) (λ w. refl) w xs
      ] refl

  pairs_text : (w : Bool) (ps : List (List ℕ × List ℕ))
      → told w false (map entry_of ps ++ (Finished ∷ [])) ≡ led row w (value_texts s row name m (pairs ps))
  pairs_text w ps =
      elim (explodes m) as (λ v. explodes m ≡ v → told w false (map entry_of ps ++ (Finished ∷ []))
      ≡ led row w (cond v (map (pair_with 61) (map (shown_pair s row.allow) ps))
      (in_one row name (map (pair_with 44) (map (shown_pair s row.allow) ps))))) [
        | true ↦ λ e.
            each entry_of (λ w b. entry_lead (state w b)) (pair_text (entry_delimiter m)) (pair_text 61) entries (exploded e) w false ps
            ∙ ap (led row w) (sym (map-map (pair_with 61) (shown_pair s row.allow) ps))
        | false ↦ λ e.
            together entry_of (λ w b. entry_lead (state w b)) (pair_text (entry_delimiter m)) entries (entry_later e) (entry_first e) w ps
            ∙ ap (λ k. led row w (in_one row name (map (pair_text (cond k 61 44)) ps))) e
            ∙ ap (λ l. led row w (in_one row name l)) (sym (map-map (pair_with 44) (shown_pair s row.allow) ps))
      ] refl
    where
      exploded : explodes m ≡ true → (w b : Bool) (p : List ℕ × List ℕ)
          → entry_lead (state w b) ++ pair_text (entry_delimiter m) p ≡ lead row w ++ pair_text 61 p
      exploded e w b p = ap (λ v. cond v (lead row w) (item_lead (state w b)) ++ pair_text (cond v 61 44) p) e

  pub told_text : (w : Bool) (v : ShownValue) → told w false (telling v) ≡ led row w (value_texts s row name m v)
  told_text w undefined = refl
  told_text w (string t) = refl
  told_text w (list xs) = list_text w xs
  told_text w (pairs ps) = pairs_text w ps

  -- whether a text was written
  after_each : {X : Type 0} (ev : X → Event) (start : Bool → Bool → List ℕ) (body : X → List ℕ) → IsMember ev start body → (xs : List X)
      → after event_step (event_text s) (state true true) (map ev xs ++ (Finished ∷ [])) ≡ state true true
  after_each ev start body i [] = refl
  after_each ev start body i (x ∷ xs) = ap (λ (w : WriteState). after event_step (event_text s) w (map ev xs ++ (Finished ∷ [])))
      (i.step true true x) ∙ after_each ev start body i xs

  after_members : {X : Type 0} (ev : X → Event) (start : Bool → Bool → List ℕ) (body : X → List ℕ) (ts : List X → List (List ℕ))
      → IsMember ev start body → has_some (ts []) ≡ false → ((x : X) (xs : List X) → has_some (ts (x ∷ xs)) ≡ true)
      → (w : Bool) (xs : List X) → (after event_step (event_text s) (state w false) (map ev xs ++ (Finished ∷ []))).written
      ≡ w || has_some (ts xs)
  after_members ev start body ts i h k w [] = sym (ap (λ b. w || b) h ∙ or-false w)
  after_members ev start body ts i h k w (x ∷ xs) =
      ap (λ (u : WriteState). u.written) (ap (λ (u : WriteState). after event_step (event_text s) u (map ev xs ++ (Finished ∷ [])))
      (i.step w false x) ∙ after_each ev start body i xs) ∙ sym (ap (λ b. w || b) (k x xs) ∙ or-true w)

  pub told_written : (w : Bool) (v : ShownValue) → (after event_step (event_text s) (state w false) (telling v)).written
      ≡ w || has_some (value_texts s row name m v)
  told_written w undefined = sym (or-false w)
  told_written w (string t) = sym (or-true w)
  told_written w (list xs) = after_members Item (λ w b. item_lead (state w b)) sh (λ ys. value_texts s row name m (list ys)) items
      (none (explodes m)) some w xs
    where
      some : (y : List ℕ) (ys : List (List ℕ)) → has_some (value_texts s row name m (list (y ∷ ys))) ≡ true
      some y ys = elim (explodes m) as (λ b. has_some
          (cond b (map (named_text row name) (map sh (y ∷ ys))) (in_one row name (map sh (y ∷ ys)))) ≡ true) [ true ↦ refl | false ↦ refl ]
  told_written w (pairs ps) = after_members entry_of (λ w b. entry_lead (state w b)) (pair_text (entry_delimiter m))
      (λ ys. value_texts s row name m (pairs ys)) entries (none (explodes m)) some w ps
    where
      some : (y : List ℕ × List ℕ) (ys : List (List ℕ × List ℕ)) → has_some (value_texts s row name m (pairs (y ∷ ys))) ≡ true
      some y ys = elim (explodes m) as (λ b. has_some
          (cond b (map (pair_with 61) (map (shown_pair s row.allow) (y ∷ ys)))
          (in_one row name (map (pair_with 44) (map (shown_pair s row.allow) (y ∷ ys))))) ≡ true) [ true ↦ refl | false ↦ refl ]

-- The written form of link-values, shown from their text piece by piece.
use Rattle.iri_link.proofs.Common.{◌≡◌, cond, LinkParam, LinkValue, reference_fault, ℕ, Bool, true, false, ◌<◌, List, [], ◌∷◌, ◌++◌, Option, Some, None, length, map, refl, sym, ap, ◌∙◌, subst}
use Rattle.iri_link.proofs.Common.{append_assoc, append-nil, arith, flat_map, Tests, before, after}
use Rattle.iri_link.proofs.Common.{first_passes, CanonMode, resolved_in, escaped, written_param, written, unquoted, unquoted_from, ◌==◌}
use Rattle.std.specs.Prelude.{filter, is_none}
use Rattle.iri_link.proofs.Common.{take, drop, map-append, str_to_ascii_lowercase}
use Rattle.std.specs.Char.{to_ascii_lowercase}
use Rattle.std.proofs.lemmas.List.{take-append-drop}
use Rattle.iri_normal.specs.NormalForm.{canonical_in}
use Rattle.iri_link.specs.LaxReadings.{has_reference, lax_links_in}
use Rattle.iri_link.specs.declared.piece.Piece.{Piece}
use Rattle.iri_link.specs.declared.piece.Piece.TheVariants.{Target, Param, NoParam, Comma}
use Rattle.iri_link.specs.inside.CutDelimiters.{IsChunk}
use Rattle.iri_link.specs.declared.shown_text.Place.{Place}
use Rattle.iri_link.specs.declared.shown_text.Place.TheVariants.{First, Later, Within}
use Rattle.iri_link.specs.inside.Pieces.{Comes, Ends, Left, left_at, param_said, stands, with_piece}
use Rattle.iri_link.specs.inside.ShownPieces.{between_at, passed_at, piece_text, place_past, target_text}
use Rattle.iri_link.specs.inside.PlainParams.{ArePlain, params_text, with_params}
use Rattle.std.proofs.lemmas.Grind.{flat_map-append}
use Rattle.iri_link.proofs.RunLemmas.{when}
use Rattle.iri_link.proofs.QuotedLemmas.{after_pair, unquoted-chunk, after_pair-plain, after-shorter}
use Rattle.iri_link.proofs.Utf8Lemmas.{escaped-append}
use Rattle.iri_link.proofs.WrittenTexts.{left_text, written-cons, all_left}

-- ---- a value, chunk by chunk
module _ (t chunk : List ℕ) (is : chunk ≡ before 92 t) where
  cut_value : (b : Option (List ℕ)) → b ≡ after 92 t → escaped (unquoted t) ≡ escaped chunk ++ escaped (after_pair b)
  cut_value b h =
      ap escaped (unquoted-chunk t ∙ (ap (λ o. before 92 t ++ after_pair o) (sym h) ∙ ap (λ l. l ++ after_pair b) (sym is)))
      ∙ escaped-append chunk (after_pair b)

  pub last_chunk : None ≡ after 92 t → IsChunk t chunk [] None
  last_chunk h = record {
    written = cut_value None h ∙ ap (λ l. l ++ []) (sym (append-nil (escaped chunk)));
    shorter = λ r e. cc;
  }

  pub plain_chunk : (b : List ℕ) → Some b ≡ after 92 t → first_passes (λ c. c == 92) b ≡ false → IsChunk t chunk [] (Some b)
  plain_chunk b h plain = record {
    written =
        cut_value (Some b) h ∙ (ap (λ l. escaped chunk ++ escaped l) (after_pair-plain b plain)
        ∙ ap (λ l. l ++ escaped (unquoted b)) (sym (append-nil (escaped chunk))));
    shorter = λ r e. let same : b ≡ r = cc in subst (λ z. length z < length t) same (after-shorter 92 t b h);
  }

  pub slash_chunk : (b r : List ℕ) → Some b ≡ after 92 t → b ≡ 92 ∷ r → IsChunk t chunk (92 ∷ 92 ∷ []) (Some r)
  unfolding unquoted_from
  slash_chunk b r h e = record {
    written =
        cut_value (Some b) h ∙ (ap (λ l. escaped chunk ++ escaped (unquoted_from true l)) e
        ∙ sym (append_assoc (escaped chunk) (92 ∷ 92 ∷ []) (escaped (unquoted r))));
    shorter = λ q f.
        let same : r ≡ q = cc in
        subst (λ z. length z < length t) same (omega (arith, after-shorter 92 t b h, ap length e));
  }

-- the first characters in lower case, and the others
pub lowered_on : (rest few left done all : List ℕ) → all ≡ done ++ str_to_ascii_lowercase rest → few ≡ take 64 rest → left ≡ drop 64 rest
    → all ≡ (done ++ str_to_ascii_lowercase few) ++ str_to_ascii_lowercase left
lowered_on rest few left done all same front back =
    let whole : rest ≡ few ++ left = sym (take-append-drop 64 rest) ∙ (ap (λ z. z ++ drop 64 rest) (sym front) ∙ ap (λ z. few ++ z) (sym back)) in
    same ∙ (ap (λ z. done ++ z) (ap str_to_ascii_lowercase whole ∙ map-append to_ascii_lowercase few left)
    ∙ sym (append_assoc done (str_to_ascii_lowercase few) (str_to_ascii_lowercase left)))

-- ---- what is left to show
-- of parameters, and of link-values of which those with a reference are shown
abbrev params_left : Place → List LinkParam → List ℕ
params_left Within ps = flat_map written_param ps
params_left _ ps = []

nothing_within : (place : Place) → params_left place [] ≡ []
nothing_within First = refl
nothing_within Later = refl
nothing_within Within = refl

passed-left : (place : Place) (ps : List LinkParam) → (params_left (passed_at place) ps ≡ []) × (between_at place ≡ between_at (passed_at place))
passed-left First ps = (refl, refl)
passed-left Later ps = (refl, refl)
passed-left Within ps = (refl, refl)

module _ (s : Tests) (mode : CanonMode) (base : List ℕ) where
  links_left : List LinkValue → List LinkValue
  links_left ls = map (resolved_in s mode base) (filter (has_reference s) ls)

  pub written_left : Place → Left → List ℕ
  written_left place l = params_left place l.params ++ left_text (between_at place) (links_left l.links)

  target-written : (place : Place) (u : List ℕ) (l : Left) → written_left place (record { params = []; links = record { target = u; params = l.params } ∷ l.links })
      ≡ cond (is_none (reference_fault s u)) (target_text s mode base place u) []
      ++ written_left (cond (is_none (reference_fault s u)) Within (passed_at place)) l
  unfolding written_left links_left
  target-written place u l =
      let canon = canonical_in s mode base u in
      let F = flat_map written_param l.params in
      let ms = map (resolved_in s mode base) (filter (has_reference s) l.links) in
      let L = left_text (44 ∷ 32 ∷ []) ms in
      let between = between_at place in
      let p = passed-left place l.params in
      let none = nothing_within place in
      when (is_none (reference_fault s u)) _
      (λ k. rw (k, none)
      (ap (λ z. between ++ z) (written-cons (record { target = canon; params = l.params }) ms ∙ ap (λ z. 60 ∷ z) (append_assoc canon (62 ∷ F) L))
      ∙ sym (append_assoc (between ++ 60 ∷ []) (canon ++ 62 ∷ []) (F ++ L)
      ∙ (append_assoc between (60 ∷ []) ((canon ++ 62 ∷ []) ++ (F ++ L)) ∙ ap (λ z. between ++ 60 ∷ z) (append_assoc canon (62 ∷ []) (F ++ L))))))
      (λ k. rw (k, none, p.0) (ap (λ b. left_text b ms) p.1))

  pub piece-written : (place : Place) (x : Piece) (l : Left)
      → written_left place (with_piece x l) ≡ piece_text s mode base place x ++ written_left (place_past s place x) l
  unfolding written_left
  piece-written place (Target u) l = target-written place u.now l
  piece-written First (Param p) l = refl
  piece-written Later (Param p) l = refl
  piece-written Within (Param p) l =
      append_assoc (written_param (param_said p)) (flat_map written_param l.params)
      (left_text (44 ∷ 32 ∷ []) (links_left l.links))
  piece-written First NoParam l = refl
  piece-written Later NoParam l = refl
  piece-written Within NoParam l = refl
  piece-written First Comma l = refl
  piece-written Later Comma l = refl
  piece-written Within Comma l = refl

  params-written : (place : Place) (w : List ℕ) (ps : List LinkParam) (l : Left) → flat_map written_param ps ≡ w
      → written_left place (with_params ps l) ≡ params_text place w ++ written_left place l
  unfolding written_left
  params-written First w ps l h = refl
  params-written Later w ps l h = refl
  params-written Within w ps l h =
      let L = left_text (44 ∷ 32 ∷ []) (links_left l.links) in
      ap (λ z. z ++ L) (flat_map-append written_param ps l.params ∙ ap (λ z. z ++ flat_map written_param l.params) h)
      ∙ append_assoc w (flat_map written_param l.params) L

  pub to_show : (text : List ℕ) → written (map (resolved_in s mode base) (lax_links_in s text)) ≡ [] ++ written_left First (left_at false text)
  unfolding written_left links_left
  to_show text = all_left (map (resolved_in s mode base) (lax_links_in s text))

  -- what is left past parameters in their written form
  left_plain : (all done : List ℕ) (place : Place) (inside : Bool) (t w rest : List ℕ) → all ≡ done ++ written_left place (left_at inside t) → ArePlain inside t w rest
      → all ≡ (done ++ params_text place w) ++ written_left place (left_at inside rest)
  left_plain all done place inside t w rest same h =
      same ∙ (ap (λ z. done ++ z) (ap (written_left place) h.reads ∙ params-written place w h.params (left_at inside rest) h.said)
      ∙ sym (append_assoc done (params_text place w) (written_left place (left_at inside rest))))

  module _ (all done : List ℕ) (place : Place) (inside : Bool) (t : List ℕ) (same : all ≡ done ++ written_left place (left_at inside t)) where
    -- nothing is left at the end
    pub all_shown : Ends inside t → done ≡ all
    unfolding written_left links_left
    all_shown e =
        sym (same ∙ (ap (λ l. done ++ written_left place l) e
        ∙ (ap (λ z. done ++ (z ++ [])) (nothing_within place) ∙ append-nil done)))

    -- what is left past a piece
    pub left_past : (rest : List ℕ) (x : Piece) → Comes inside t x rest
        → all ≡ (done ++ piece_text s mode base place x) ++ written_left (place_past s place x) (left_at (stands x) rest)
    left_past rest x c =
        same ∙ (ap (λ z. done ++ z) (ap (written_left place) c.same ∙ piece-written place x (left_at (stands x) rest))
        ∙ sym (append_assoc done (piece_text s mode base place x) (written_left (place_past s place x) (left_at (stands x) rest))))

    -- and past such parameters after it
    pub left_later : (rest : List ℕ) (x : Piece) → Comes inside t x rest → (q : Place) (b : Bool) → q ≡ place_past s place x → b ≡ stands x
        → (w left : List ℕ) → ArePlain b rest w left → all ≡ ((done ++ piece_text s mode base place x) ++ params_text q w) ++ written_left q (left_at b left)
    left_later rest x c q b e f w left h =
        left_plain all (done ++ piece_text s mode base place x) q b rest w left (rw (e, f) (left_past rest x c)) h

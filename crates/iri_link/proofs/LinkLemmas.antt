-- Link-values, kept piece by piece.
use Rattle.iri_link.proofs.Common.{◌≡◌, ℕ, zero, suc, ◌<◌, arith, Bool, false, List, [], ◌∷◌, ◌++◌, None, length, map, refl, sym, ap, ◌∙◌, subst}
use Rattle.iri_link.proofs.Common.{append_assoc, append-nil, All, All-head, All-tail, Tests, LinkParam, LinkValue, HasReference, field_fault}
use Rattle.iri_link.proofs.Common.{CanonMode, resolved_in, link_of}
use Rattle.std.specs.Prelude.{slice_set, slice_index_or}
use Rattle.iri_normal.specs.NormalForm.{canonical_in}
use Rattle.iri_link.specs.Readings.{links_in}
use Rattle.iri_link.specs.declared.link.Link.{Link}
use Rattle.iri_link.specs.declared.piece.Piece.{Piece}
use Rattle.iri_link.specs.declared.piece.Piece.TheVariants.{Target, Param as ParamPiece, NoParam, Comma}
use Rattle.iri_link.specs.inside.KeptLinks.{IsValid, Wants, grown, kept_past}
use Rattle.iri_link.specs.inside.Pieces.{Comes, Ends, Left, left_at, param_said, stands, with_piece}
use Rattle.iri_link.proofs.FieldLemmas.{links_of_faultless}
use Rattle.iri_link.proofs.LaxLaws.{left-alike}

-- ---- the last link-value grows
grown-none : (ls : List LinkValue) → grown ls [] ≡ ls
grown-none [] = refl
grown-none (l ∷ []) = ap (λ ps. record { target = l.target; params = ps } ∷ []) (append-nil l.params)
grown-none (l ∷ m ∷ ls) = ap (λ r. l ∷ r) (grown-none (m ∷ ls))

grown-twice : (ls : List LinkValue) (ps qs : List LinkParam) → grown (grown ls ps) qs ≡ grown ls (ps ++ qs)
grown-twice [] ps qs = refl
grown-twice (l ∷ []) ps qs = ap (λ rs. record { target = l.target; params = rs } ∷ []) (append_assoc l.params ps qs)
grown-twice (l ∷ m ∷ []) ps qs = ap (λ r. l ∷ r) (grown-twice (m ∷ []) ps qs)
grown-twice (l ∷ m ∷ n ∷ ls) ps qs = ap (λ r. l ∷ r) (grown-twice (m ∷ n ∷ ls) ps qs)

grown-last : (ls : List LinkValue) (l : LinkValue) (ps : List LinkParam)
    → grown (ls ++ l ∷ []) ps ≡ ls ++ record { target = l.target; params = l.params ++ ps } ∷ []
grown-last [] l ps = refl
grown-last (k ∷ []) l ps = refl
grown-last (k ∷ m ∷ ls) l ps = ap (λ r. k ∷ r) (grown-last (m ∷ ls) l ps)

-- a parameter that is put to the last link-value as it is stored
pub grown_stored : (ls : List Link) (i : ℕ) (l new : Link) (q : LinkParam) → suc i ≡ length ls → l ≡ slice_index_or ls i l
    → link_of new ≡ record { target = (link_of l).target; params = (link_of l).params ++ q ∷ [] } → map link_of (slice_set ls i new) ≡ grown (map link_of ls) (q ∷ [])
grown_stored [] i l new q n at is = absurd (omega (arith, n))
grown_stored (k ∷ []) zero l new q n at is =
    ap (λ r. r ∷ []) (is ∙ ap (λ r. record { target = (link_of r).target; params = (link_of r).params ++ q ∷ [] }) at)
grown_stored (k ∷ []) (suc i) l new q n at is = absurd (omega (arith, n))
grown_stored (k ∷ m ∷ ls) zero l new q n at is = absurd (omega (arith, n))
grown_stored (k ∷ m ∷ ls) (suc i) l new q n at is = ap (λ r. link_of k ∷ r) (grown_stored (m ∷ ls) i l new q (omega (arith, n)) at is)

-- ---- what is kept, and what is left
nothing_ends : (xs : List LinkValue) (y : LinkValue) (ys : List LinkValue) → xs ++ y ∷ ys ≡ [] → ⊥
nothing_ends [] y ys e = cc
nothing_ends (x ∷ xs) y ys e = cc

-- the last of the link-values that are stored
pub some_stored : (ls : List Link) → 0 < length ls → map link_of ls ≡ [] → ⊥
some_stored [] lt e = absurd (omega (arith, lt))
some_stored (l ∷ ls) lt e = cc

module _ (s : Tests) (mode : CanonMode) (base : List ℕ) where
  pub all_kept : List LinkValue → Left → List LinkValue
  all_kept ls l = grown ls l.params ++ map (resolved_in s mode base) l.links

  kept-piece : (ls : List LinkValue) (x : Piece) (l : Left) → all_kept ls (with_piece x l) ≡ all_kept (kept_past s mode base ls x) l
  unfolding all_kept
  kept-piece ls (Target u) l =
      let ms = map (resolved_in s mode base) l.links in
      let canon = canonical_in s mode base u.now in
      let r : LinkValue = record { target = canon; params = l.params } in
      ap (λ z. z ++ r ∷ ms) (grown-none ls) ∙ (sym (append_assoc ls (r ∷ []) ms)
      ∙ ap (λ z. z ++ ms) (sym (grown-last ls (record { target = canon; params = [] }) l.params)))
  kept-piece ls (ParamPiece p) l = ap (λ z. z ++ map (resolved_in s mode base) l.links) (sym (grown-twice ls (param_said p ∷ []) l.params))
  kept-piece ls NoParam l = refl
  kept-piece ls Comma l = refl

  -- what takes memory is kept
  wanted-kept : (ls : List LinkValue) (x : Piece) (l : Left) → Wants ls x → all_kept ls (with_piece x l) ≡ [] → ⊥
  unfolding all_kept
  wanted-kept ls (Target u) l w e = nothing_ends (grown ls []) (record { target = canonical_in s mode base u.now; params = l.params }) (map (resolved_in s mode base) l.links) e
  wanted-kept [] (ParamPiece p) l w e = w refl
  wanted-kept (k ∷ []) (ParamPiece p) l w e = cc
  wanted-kept (k ∷ m ∷ ls) (ParamPiece p) l w e = cc
  wanted-kept ls NoParam l w e = absurd w
  wanted-kept ls Comma l w e = absurd w

  -- a walk over a text without a fault that stands before t, where these link-values are kept
  pub record Kept (text : List ℕ) (inside : Bool) (t : List ℕ) (ls : List LinkValue) : Type 0 where
    pub kept : map (resolved_in s mode base) (links_in text) ≡ all_kept ls (left_at inside t)
    pub valid : All (HasReference s) (left_at inside t).links

  pub kept_none : (text : List ℕ) (ls : List LinkValue) → field_fault s text ≡ None → ls ≡ [] → Kept text false text ls
  unfolding all_kept
  kept_none text ls h e =
      let same = sym (left-alike s text h) in
      rw e (record {
        kept = ap (map (resolved_in s mode base)) same;
        valid = subst (All (HasReference s)) same (links_of_faultless s text h).valid;
      })

  pub kept_all : (text : List ℕ) (p : Bool) (t : List ℕ) (ls : List LinkValue) → Kept text p t ls → Ends p t → ls ≡ map (resolved_in s mode base) (links_in text)
  unfolding all_kept
  kept_all text p t ls k e = sym (k.kept ∙ (ap (all_kept ls) e ∙ (append-nil (grown ls []) ∙ grown-none ls)))

  valid-piece : (x : Piece) (l : Left) → All (HasReference s) (with_piece x l).links → IsValid s x × All (HasReference s) l.links
  valid-piece (Target u) l h =
      let link : LinkValue = record { target = u.now; params = l.params } in
      (All-head (HasReference s) link l.links h, All-tail (HasReference s) link l.links h)
  valid-piece (ParamPiece p) l h = (tt, h)
  valid-piece NoParam l h = (tt, h)
  valid-piece Comma l h = (tt, h)

  -- ---- a piece comes
  module _ (text : List ℕ) (p : Bool) (t : List ℕ) (ls : List LinkValue) (k : Kept text p t ls) (x : Piece) (rest : List ℕ) (c : Comes p t x rest) where
    pub kept_more : (q : Bool) (new : List LinkValue) → (IsValid s x → new ≡ kept_past s mode base ls x) → q ≡ stands x → Kept text q rest new
    kept_more q new h is =
        let v = valid-piece x (left_at (stands x) rest) (subst (λ l. All (HasReference s) l.links) c.same k.valid) in
        rw (is, h v.0) (record { kept = k.kept ∙ (ap (all_kept ls) c.same ∙ kept-piece ls x (left_at (stands x) rest)); valid = v.1 })

    -- a piece that isn't kept for want of memory
    pub kept_some : Wants ls x → links_in text ≡ [] → ⊥
    kept_some w none =
        wanted-kept ls x (left_at (stands x) rest) w (sym (k.kept ∙ ap (all_kept ls) c.same) ∙ ap (map (resolved_in s mode base)) none)

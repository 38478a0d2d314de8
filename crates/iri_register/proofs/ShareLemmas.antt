-- Live lines have an entry, and share it exactly where steps join their targets.
use Rattle.iri_percent.specs.declared.canon_mode.CanonMode.{CanonMode}
use Rattle.iri_percent.specs.declared.canon_mode.CanonMode.TheVariants.{Default, Scheme}
use Rattle.std.proofs.Common.{◌≡◌, ◌↔◌, ℕ, zero, suc, ◌+◌, List, [], ◌∷◌, true, false, not, cond, bytes_eq, Option, Some, None, option_map}
use Rattle.std.proofs.Common.{slice_get, length, refl, sym, ◌∙◌, ap, subst, arith}
use Rattle.std.proofs.lemmas.Option.{none-some, same_Some}
use Rattle.std.specs.Prelude.{IsSome, IfOk, Result, Ok, Err}
use Rattle.iri_grammar.specs.Classes.{Tests, IsSpec}
use Rattle.iri_grammar.specs.Fault.{bytes_fault}
use Rattle.iri_grammar.specs.Parts.{Fits, IsReference, IsAbsolute, recompose}
use Rattle.iri_grammar.specs.Split.{split_of}
use Rattle.iri_grammar.specs.WholeFault.{absolute_fault, reference_fault}
use Rattle.iri_grammar.proofs.faults.FaultLaws.{absolute-law, reference-law}
use Rattle.iri_grammar.proofs.splits.SplitUnique.{split_is}
use Rattle.iri_normal.specs.NormalForm.{canonical, canonical_in, canonical_parts_in}
use Rattle.iri_normal.specs.Target.{target}
use Rattle.iri_resolve.proofs.SchemeSteps.{joined_in-exactly, texts_in-exactly}
use Rattle.iri_normal.proofs.canonical_texts.CanonicalTexts.{fault_none}
use Rattle.iri_normal.proofs.targets.Targets.{target-fits}
use Rattle.iri_register.specs.Entries.{Entry, added, place, with_line}
use Rattle.iri_register.specs.Commands.{Command, Line, live, numbers, entries_of_commands}
use Rattle.iri_register.specs.Answers.{Adds, FindsPlace, TellsAdded}
use Rattle.iri_register.specs.Refusals.{RefusedFor}
use Rattle.iri_register.specs.Shared.{Share, IsLive, line_of, TargetsJoin, IsJoinedPlace, FindsJoined, AddsJoined}
use Rattle.iri_register.specs.declared.added.Added.{Added}
use Rattle.iri_register.specs.declared.added.Added.TheVariants.{New, Old}
use Rattle.iri_register.specs.declared.error.RegisterError.{RegisterError}
use Rattle.iri_register.proofs.GroupLemmas.{same, is_same, without, grouped, entries_grouped}
use Rattle.iri_register.proofs.SlotLemmas.{less_none}

-- ---- places

one_less : (o : Option ℕ) (k : ℕ) → option_map (λ j. j + 1) o ≡ Some k → (j : ℕ) × (o ≡ Some j) × (k ≡ j + 1)
one_less None k h = absurd (none-some _ h)
one_less (Some j) k h = (j, refl, sym (same_Some _ _ h))

above_zero : (es : List Entry) (t : List ℕ) → place es t ≡ Some 0 → ⊥
above_zero [] t h = none-some _ h
above_zero (e ∷ es) t h =
    elim (bytes_eq t e.target) as (λ b. cond b (Some 1) (option_map (λ j. j + 1) (place es t)) ≡ Some 0 → ⊥) [
      | true ↦ λ m. let n : 1 ≡ 0 = same_Some _ _ m in omega (arith, n)
      | false ↦ λ m. let l = one_less (place es t) 0 m in omega (arith, l.2)
    ] h

-- one place has one target
pub one_target : (es : List Entry) (t u : List ℕ) (k : ℕ) → place es t ≡ Some k → place es u ≡ Some k → t ≡ u
one_target [] t u k h i = absurd (none-some _ h)
one_target (e ∷ es) t u k h i =
    elim (bytes_eq t e.target) as (λ b. bytes_eq t e.target ≡ b → cond b (Some 1) (option_map (λ j. j + 1) (place es t)) ≡ Some k → t ≡ u) [
      | true ↦ λ a m.
          elim (bytes_eq u e.target) as (λ b. bytes_eq u e.target ≡ b → cond b (Some 1) (option_map (λ j. j + 1) (place es u)) ≡ Some k
          → t ≡ u) [
            | true ↦ λ c n. is_same t e.target a ∙ sym (is_same u e.target c)
            | false ↦ λ c n.
                let l = one_less (place es u) k n in
                let first : 1 ≡ k = same_Some _ _ m in
                let zero_at : l.0 ≡ 0 = omega (arith, l.2, first) in
                absurd (above_zero es u (l.1 ∙ ap Some zero_at))
          ] refl i
      | false ↦ λ a m.
          elim (bytes_eq u e.target) as (λ b. bytes_eq u e.target ≡ b → cond b (Some 1) (option_map (λ j. j + 1) (place es u)) ≡ Some k
          → t ≡ u) [
            | true ↦ λ c n.
                let l = one_less (place es t) k m in
                let first : 1 ≡ k = same_Some _ _ n in
                let zero_at : l.0 ≡ 0 = omega (arith, l.2, first) in
                absurd (above_zero es t (l.1 ∙ ap Some zero_at))
            | false ↦ λ c n.
                let l = one_less (place es t) k m in
                let r = one_less (place es u) k n in
                let equal : r.0 ≡ l.0 = omega (arith, l.2, r.2) in
                one_target es t u l.0 l.1 (r.1 ∙ ap Some equal)
          ] refl i
    ] refl h

abbrev IsPlaced : List Entry → List ℕ → Type 0
IsPlaced es t = (k : ℕ) × (place es t ≡ Some k)

-- after an entry
placed_after : (e : Entry) (es : List Entry) (t : List ℕ) → IsPlaced es t → IsPlaced (e ∷ es) t
placed_after e es t h =
    elim (bytes_eq t e.target) as (λ b. (k : ℕ) × (cond b (Some 1) (option_map (λ j. j + 1) (place es t)) ≡ Some k)) [
      | true ↦ (1, refl)
      | false ↦ (h.0 + 1, ap (option_map (λ j. j + 1)) h.1)
    ]

-- another target's entry stays where one target is taken out
placed_without : (t u : List ℕ) → bytes_eq t u ≡ false → (es : List Entry) (k : ℕ) → place es u ≡ Some k → IsPlaced (without t es) u
placed_without t u h [] k p = absurd (none-some _ p)
placed_without t u h (e ∷ es) k p =
    elim (bytes_eq u e.target) as (λ b. bytes_eq u e.target ≡ b → cond b (Some 1) (option_map (λ j. j + 1) (place es u)) ≡ Some k
    → IsPlaced (without t (e ∷ es)) u) [
      | true ↦ λ a m.
          let stays : bytes_eq t e.target ≡ false = subst (λ v. bytes_eq t v ≡ false) (is_same u e.target a) h in
          rw (stays, a) (1, refl)
      | false ↦ λ a m.
          let l = one_less (place es u) k m in
          let rest = placed_without t u h es l.0 l.1 in
          elim (bytes_eq t e.target) as (λ b. IsPlaced (cond (not b) (e ∷ without t es) (without t es)) u) [
            | true ↦ rest
            | false ↦ placed_after e (without t es) u rest
          ]
    ] refl p

-- each line has an entry
placed_line : (ls : List Line) (i : ℕ) (l : Line) → slice_get ls i ≡ Some l → IsPlaced (grouped ls) l.target
placed_line [] i l h = absurd (none-some _ h)
placed_line (m ∷ ls) zero l h = subst (λ (x : Line). IsPlaced (grouped (m ∷ ls)) x.target) (same_Some _ _ h) (1, rw (same m.target) refl)
placed_line (m ∷ ls) (suc i) l h =
    let rest = placed_line ls i l h in
    elim (bytes_eq m.target l.target) as (λ b. bytes_eq m.target l.target ≡ b → IsPlaced (grouped (m ∷ ls)) l.target) [
      | true ↦ λ a. subst (λ t. IsPlaced (grouped (m ∷ ls)) t) (is_same m.target l.target a) (1, rw (same m.target) refl)
      | false ↦ λ a. placed_after (record { target = m.target; lines = m.number ∷ numbers m.target ls })
          (without m.target (grouped ls)) l.target (placed_without m.target l.target a (grouped ls) rest.0 rest.1)
    ] refl

pub share_exactly : (cs : List Command) (l m : Line) → IsLive cs l → Share (entries_of_commands cs) l m ↔ (l.target ≡ m.target)
share_exactly cs l m h =
    let placed = placed_line (live cs) h.0 l h.1 in
    let here = subst (λ es. IsPlaced es l.target) (sym (entries_grouped (live cs))) placed in (
      λ s. one_target (entries_of_commands cs) l.target m.target s.0 s.1 s.2,
      λ e. (here.0, here.1, subst (λ t. place (entries_of_commands cs) t ≡ Some here.0) e here.1),
    )

-- ---- targets

targets_fit : (s : Tests) (base r : List ℕ) → IsSpec s → IsAbsolute s base → IsReference s r
    → Fits s (target (split_of base) (split_of r)) × IsSome (target (split_of base) (split_of r)).scheme
targets_fit s base r k b h = rw (split_is s base b.0 k b.1, split_is s r h.0 k h.1) (target-fits s b.0 h.0 b.1.fits b.2 h.1.fits)

joined_forms : (s : Tests) (mode : CanonMode) (base q r : List ℕ) → IsSpec s → IsAbsolute s base → IsReference s q → IsReference s r
    → (recompose (canonical_parts_in s mode base q) ≡ recompose (canonical_parts_in s mode base r)) ↔ TargetsJoin s mode base q r
joined_forms s mode base q r k b hq hr =
    let t = target (split_of base) (split_of q) in
    let u = target (split_of base) (split_of r) in
    let f = targets_fit s base q k b hq in
    let g = targets_fit s base r k b hr in
    let texts = texts_in-exactly s mode t u k f.0 f.1 g.0 g.1 in
    let joined = joined_in-exactly s mode t u k f.0 f.1 g.0 g.1 in
    (λ e. joined.1 (texts.0 e), λ j. texts.1 (joined.0 j))

pub joined_texts : (s : Tests) (mode : CanonMode) (base q r : List ℕ) → IsSpec s → IsAbsolute s base → IsReference s q → IsReference s r
    → (canonical_in s mode base q ≡ canonical_in s mode base r) ↔ TargetsJoin s mode base q r
unfolding canonical
joined_texts s Default = joined_forms s Default
joined_texts s Scheme = joined_forms s Scheme

pub share_joined : (s : Tests) (mode : CanonMode) (cs : List Command) (base q r : List ℕ) (m n : ℕ) → IsSpec s → IsAbsolute s base → IsReference s q
    → IsReference s r → IsLive cs (line_of s mode base q m)
    → Share (entries_of_commands cs) (line_of s mode base q m) (line_of s mode base r n) ↔ TargetsJoin s mode base q r
share_joined s mode cs base q r m n k b hq hr h =
    let shared = share_exactly cs (line_of s mode base q m) (line_of s mode base r n) h in
    let texts = joined_texts s mode base q r k b hq hr in
    (λ x. texts.0 (shared.0 x), λ j. shared.1 (texts.1 j))

-- ---- one line alone

-- where the line stood already, and where it is new
placed_old : (es : List Entry) (t : List ℕ) (n k : ℕ) → place es t ≡ Some k → place (added es t n) t ≡ Some k
placed_old [] t n k h = absurd (none-some _ h)
placed_old (e ∷ es) t n k h =
    elim (bytes_eq t e.target) as (λ b. bytes_eq t e.target ≡ b → cond b (Some 1) (option_map (λ j. j + 1) (place es t)) ≡ Some k
    → place (cond b (with_line e n ∷ es) (e ∷ added es t n)) t ≡ Some k) [
      | true ↦ λ a m. rw a m
      | false ↦ λ a m. let l = one_less (place es t) k m in rw (a, placed_old es t n l.0 l.1) (ap Some (sym l.2))
    ] refl h

placed_new : (es : List Entry) (t : List ℕ) (n : ℕ) → place es t ≡ None → place (added es t n) t ≡ Some (length es + 1)
placed_new [] t n h = rw (same t) refl
placed_new (e ∷ es) t n h =
    let more : length es + 1 + 1 ≡ length (e ∷ es) + 1 = omega arith in
    elim (bytes_eq t e.target) as (λ b. bytes_eq t e.target ≡ b → cond b (Some 1) (option_map (λ j. j + 1) (place es t)) ≡ None
    → place (cond b (with_line e n ∷ es) (e ∷ added es t n)) t ≡ Some (length (e ∷ es) + 1)) [
      | true ↦ λ a m. cc
      | false ↦ λ a m. rw (a, placed_new es t n (less_none (place es t) m)) (ap Some more)
    ] refl h

module _ (s : Tests) (mode : CanonMode) (spec : IsSpec s) (base : List ℕ) (absolute : absolute_fault s base ≡ None) (q : List ℕ) where
  joined_with : bytes_fault (reference_fault s) q ≡ None → (r : List ℕ) → IsReference s r
      → (canonical_in s mode base q ≡ canonical_in s mode base r) ↔ TargetsJoin s mode base q r
  joined_with h r hr =
      joined_texts s mode base q r spec ((absolute-law s spec base).0 absolute)
      ((reference-law s spec q).0 (fault_none (reference_fault s) q h)) hr

  joined_place : bytes_fault (reference_fault s) q ≡ None → (es : List Entry) (k : ℕ) → place es (canonical_in s mode base q) ≡ Some k
      → IsJoinedPlace s mode base es q k
  unfolding IsJoinedPlace
  joined_place h es k there r hr =
      let texts = joined_with h r hr in
      (λ i. texts.0 (one_target es (canonical_in s mode base q) (canonical_in s mode base r) k there i), λ j. ap (place es) (sym (texts.1 j)) ∙ there)

  pub finds_joined : (es : List Entry) (x : Result (Option ℕ) RegisterError) → RefusedFor s q x → FindsPlace s mode base es q x
      → IfOk x (FindsJoined s mode base es q)
  unfolding FindsJoined
  finds_joined es (Ok (Some k)) h is = joined_place h es k (sym is)
  finds_joined es (Ok None) h is = λ r hr j. ap (place es) (sym ((joined_with h r hr).1 j)) ∙ sym is
  finds_joined es (Err e) h is = tt

  pub adds_joined : (es new : List Entry) (n : ℕ) (x : Result Added RegisterError) → RefusedFor s q x → TellsAdded s mode base es q x
      → Adds s mode base es new q n x → IfOk x (AddsJoined s mode base new q)
  unfolding AddsJoined
  adds_joined es new n (Ok (Old k)) h is entries =
      joined_place h new k (ap (λ l. place l (canonical_in s mode base q)) entries ∙ placed_old es (canonical_in s mode base q) n k is)
  adds_joined es new n (Ok (New k)) h is entries =
      joined_place h new k
      (ap (λ l. place l (canonical_in s mode base q)) entries ∙ placed_new es (canonical_in s mode base q) n is.0 ∙ ap Some (sym is.1))
  adds_joined es new n (Err e) h is entries = tt

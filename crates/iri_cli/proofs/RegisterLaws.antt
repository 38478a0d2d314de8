-- Live lines of `register`, and the entries that they share.
use Rattle.iri_cli.proofs.Common.{◌≡◌, ◌↔◌, ℕ, suc, ◌+◌, List, [], ◌∷◌, ◌++◌, length, true, false, not, ◌&&◌, cond, bytes_eq, Option, Some}
use Rattle.iri_cli.proofs.Common.{None, refl, sym, ◌∙◌, ap, subst, IsSpec, Tests, bytes_fault, reference_fault, ErrorKind, CanonMode, canonical_in}
use Rattle.iri_cli.proofs.Common.{refusal, line_of, command_of, commands_from, entries_after}
use Rattle.std.proofs.Common.{slice_get}
use Rattle.std.specs.List.{All}
use Rattle.std.proofs.lemmas.List.Elements.{All-head, All-tail}
use Rattle.iri_register.specs.Commands.{Command, Add, Remove, Line, live, stays}
use Rattle.iri_register.proofs.GroupLemmas.{is_same}
use Rattle.iri_register.proofs.ShareLemmas.{joined_texts}
use Rattle.iri_cli.specs.register.Lines.{RegisterLine, adds, removes, finds, bad, unless_fault}
use Rattle.iri_cli.specs.register.Shared.{TakesOut, IsLiveLine, ShareEntry}
use Rattle.iri_cli.proofs.BytesLemmas.{base_absolute, line_reference}
use Rattle.iri_cli.proofs.RegisterLemmas.{commands_append}
use Rattle.iri_cli.proofs.SharedEntries.{got, together_exactly}
use Rattle.iri_register.specs.Shared as shared

-- ---- live lines of commands

live_after_one : (c : Command) (cs : List Command) (l : Line) → shared.IsLive cs l → shared.IsLive (c ∷ cs) l
live_after_one (Add t n) cs l h =
    elim (stays t cs) as (λ b. (i : ℕ) × (slice_get (cond b (record { target = t; number = n } ∷ live cs) (live cs)) i ≡ Some l)) [
      | true ↦ (suc h.0, h.1)
      | false ↦ h
    ]
live_after_one (Remove t) cs l h = h

live_after : (cs ds : List Command) (l : Line) → shared.IsLive ds l → shared.IsLive (cs ++ ds) l
live_after [] ds l h = h
live_after (c ∷ cs) ds l h = live_after_one c (cs ++ ds) l (live_after cs ds l h)

live_first : (t : List ℕ) (n : ℕ) (cs : List Command) → stays t cs ≡ true → shared.IsLive (Add t n ∷ cs) (record { target = t; number = n })
live_first t n cs h = (0, rw h refl)

-- ---- targets that stay

add_stays : (t u : List ℕ) (n : ℕ) (f : Option ErrorKind) (cs : List Command) → stays t cs ≡ true
    → stays t (unless_fault f (Add u n) ++ cs) ≡ true
add_stays t u n None cs h = h
add_stays t u n (Some kind) cs h = h

remove_stays : (t u : List ℕ) (f : Option ErrorKind) (cs : List Command) → ¬ ((f ≡ None) × (u ≡ t)) → stays t cs ≡ true
    → stays t (unless_fault f (Remove u) ++ cs) ≡ true
remove_stays t u (Some kind) cs not_out h = h
remove_stays t u None cs not_out h =
    elim (bytes_eq u t) as (λ b. bytes_eq u t ≡ b → (not b && stays t cs) ≡ true) [
      | true ↦ λ e. absurd (not_out (refl, is_same u t e))
      | false ↦ λ e. h
    ] refl

module _ (s : Tests) (mode : CanonMode) (base : List ℕ) where
  line_stays : (t : List ℕ) (n : ℕ) (x : RegisterLine) (cs : List Command) → ¬ (TakesOut s mode base t x) → stays t cs ≡ true
      → stays t (command_of s mode base n x ++ cs) ≡ true
  line_stays t n (adds r) cs not_out h = add_stays t (canonical_in s mode base r) n (bytes_fault (reference_fault s) r) cs h
  line_stays t n (removes r) cs not_out h = remove_stays t (canonical_in s mode base r) (bytes_fault (reference_fault s) r) cs not_out h
  line_stays t n (finds r) cs not_out h = h
  line_stays t n bad cs not_out h = h

  lines_stay : (t : List ℕ) (n : ℕ) (lines : List (List ℕ)) → All (λ l. ¬ (TakesOut s mode base t (line_of l))) lines
      → stays t (commands_from s mode base n lines) ≡ true
  lines_stay t n [] h = refl
  lines_stay t n (line ∷ lines) h =
      let out : List ℕ → Type 0 = λ l. ¬ (TakesOut s mode base t (line_of l)) in
      line_stays t n (line_of line) (commands_from s mode base (n + 1) lines) (All-head out line lines h)
      (lines_stay t (n + 1) lines (All-tail out line lines h))

  -- a live line is a live line of the commands
  is_live : (lines : List (List ℕ)) (number : ℕ) (r : List ℕ) → IsLiveLine s mode base lines number r
      → shared.IsLive (commands_from s mode base 2 lines) (shared.line_of s mode base r number)
  is_live lines number r h =
      let t = canonical_in s mode base r in
      let rest = commands_from s mode base ((2 + length h.before) + 1) h.after in
      let stay = lines_stay t ((2 + length h.before) + 1) h.after h.stays in
      let first : command_of s mode base (2 + length h.before) (line_of h.line) ≡ Add t number ∷ [] =
      ap (command_of s mode base (2 + length h.before)) h.asks
      ∙ ap (λ f. unless_fault f (Add t (2 + length h.before))) h.faultless ∙ ap (λ n. Add t n ∷ []) (sym h.numbered) in
      let whole : commands_from s mode base 2 lines ≡ commands_from s mode base 2 h.before ++ (Add t number ∷ rest) =
      ap (commands_from s mode base 2) h.split ∙ commands_append s mode base 2 h.before (h.line ∷ h.after)
      ∙ ap (λ cs. commands_from s mode base 2 h.before ++ (cs ++ rest)) first in
      subst (λ cs. shared.IsLive cs (shared.line_of s mode base r number)) (sym whole)
      (live_after (commands_from s mode base 2 h.before) (Add t number ∷ rest) (shared.line_of s mode base r number) (live_first t number rest stay))

  pub shared_by_targets : (q r : List ℕ) (lines : List (List ℕ)) (m n : ℕ) → IsLiveLine s mode base lines m q → IsLiveLine s mode base lines n r
      → ShareEntry s mode base lines m n ↔ (canonical_in s mode base q ≡ canonical_in s mode base r)
  unfolding entries_after
  shared_by_targets q r lines m n h i =
      let a = is_live lines m q h in
      let b = is_live lines n r i in
      let ls = live (commands_from s mode base 2 lines) in
      together_exactly s mode base lines (shared.line_of s mode base q m) (shared.line_of s mode base r n) (got ls a.0 (shared.line_of s mode base q m) a.1)
      (got ls b.0 (shared.line_of s mode base r n) b.1)

  pub shared_by_steps : IsSpec s → (q r : List ℕ) (lines : List (List ℕ)) (m n : ℕ) → refusal s base ≡ None
      → IsLiveLine s mode base lines m q → IsLiveLine s mode base lines n r → ShareEntry s mode base lines m n ↔ shared.TargetsJoin s mode base q r
  shared_by_steps k q r lines m n taken h i =
      let texts = joined_texts s mode base q r k (base_absolute s k base taken) (line_reference s k q h.faultless) (line_reference s k r i.faultless) in
      let same = shared_by_targets q r lines m n h i in
      (λ e. texts.0 (same.0 e), λ j. same.1 (texts.1 j))

-- One command more.
use Rattle.iri_register.proofs.Common.{◌≡◌, ℕ, List, [], ◌∷◌, ◌++◌, true, false, bytes_eq, refl, sym, ◌∙◌, ap, added, removed}
use Rattle.std.proofs.Common.{Bool, not, ◌&&◌, cond, fold, append_assoc}
use Rattle.std.proofs.lemmas.List.{append-nil}
use Rattle.std.proofs.Math.Bool.{and-true}
use mathlib.Core.Bool.{and_assoc}
use Rattle.iri_register.specs.Commands.{Command, Add, Remove, Line, stays, live, entries_of_lines, entries_of_commands, obeyed}
use Rattle.iri_register.proofs.GroupLemmas.{without_lines, entries_grouped, grouped_after, grouped_without}

stays_add : (u t : List ℕ) (n : ℕ) (cs : List Command) → stays u (cs ++ Add t n ∷ []) ≡ stays u cs
stays_add u t n [] = refl
stays_add u t n (Add v m ∷ cs) = stays_add u t n cs
stays_add u t n (Remove v ∷ cs) = ap (λ b. not (bytes_eq v u) && b) (stays_add u t n cs)

stays_remove : (u t : List ℕ) (cs : List Command) → stays u (cs ++ Remove t ∷ []) ≡ (stays u cs && not (bytes_eq t u))
stays_remove u t [] = and-true (not (bytes_eq t u))
stays_remove u t (Add v m ∷ cs) = stays_remove u t cs
stays_remove u t (Remove v ∷ cs) = ap (λ b. not (bytes_eq v u) && b) (stays_remove u t cs)
    ∙ sym (and_assoc (not (bytes_eq v u)) (stays u cs) (not (bytes_eq t u)))

cond_append : (b : Bool) (l : Line) (xs ys : List Line) → cond b (l ∷ (xs ++ ys)) (xs ++ ys) ≡ cond b (l ∷ xs) xs ++ ys
cond_append true l xs ys = refl
cond_append false l xs ys = refl

live_add : (t : List ℕ) (n : ℕ) (cs : List Command) → live (cs ++ Add t n ∷ []) ≡ live cs ++ record { target = t; number = n } ∷ []
live_add t n [] = refl
live_add t n (Add u m ∷ cs) =
    (λ j. cond (stays_add u t n cs j) (record { target = u; number = m } ∷ live_add t n cs j) (live_add t n cs j))
    ∙ cond_append (stays u cs) (record { target = u; number = m }) (live cs) (record { target = t; number = n } ∷ [])
live_add t n (Remove u ∷ cs) = live_add t n cs

cond_without : (b : Bool) (t : List ℕ) (l : Line) (ls : List Line)
    → cond (b && not (bytes_eq t l.target)) (l ∷ without_lines t ls) (without_lines t ls) ≡ without_lines t (cond b (l ∷ ls) ls)
cond_without true t l ls = refl
cond_without false t l ls = refl

live_remove : (t : List ℕ) (cs : List Command) → live (cs ++ Remove t ∷ []) ≡ without_lines t (live cs)
live_remove t [] = refl
live_remove t (Add u m ∷ cs) =
    (λ j. cond (stays_remove u t cs j) (record { target = u; number = m } ∷ live_remove t cs j) (live_remove t cs j))
    ∙ cond_without (stays u cs) t (record { target = u; number = m }) (live cs)
live_remove t (Remove u ∷ cs) = live_remove t cs

pub obeyed_next : (cs : List Command) (c : Command) → entries_of_commands (cs ++ c ∷ []) ≡ obeyed (entries_of_commands cs) c
obeyed_next cs (Add t n) =
    ap entries_of_lines (live_add t n cs)
    ∙ (entries_grouped (live cs ++ record { target = t; number = n } ∷ [])
    ∙ (grouped_after (live cs) (record { target = t; number = n }) ∙ ap (λ es. added es t n) (sym (entries_grouped (live cs)))))
obeyed_next cs (Remove t) =
    ap entries_of_lines (live_remove t cs)
    ∙ (entries_grouped (without_lines t (live cs))
    ∙ (grouped_without t (live cs) ∙ ap (λ es. removed es t) (sym (entries_grouped (live cs)))))

pub obeyed_from : (done cs : List Command) → fold obeyed (entries_of_commands done) cs ≡ entries_of_commands (done ++ cs)
obeyed_from done [] = ap entries_of_commands (sym (append-nil done))
obeyed_from done (c ∷ cs) =
    ap (λ es. fold obeyed es cs) (sym (obeyed_next done c))
    ∙ (obeyed_from (done ++ c ∷ []) cs ∙ ap entries_of_commands (append_assoc done (c ∷ []) cs))

pub obeyed_all : (cs : List Command) → fold obeyed [] cs ≡ entries_of_commands cs
obeyed_all cs = obeyed_from [] cs

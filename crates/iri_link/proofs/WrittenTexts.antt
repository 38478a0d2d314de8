-- The written form of link-values, put together from what is shown.
use Rattle.iri_link.proofs.Common.{◌≡◌, ℕ, suc, ◌+◌, ◌<◌, ◌≤◌, List, [], ◌∷◌, ◌++◌, length, get_or, drop, map, refl, sym, ap, ◌∙◌}
use Rattle.iri_link.proofs.Common.{append_assoc, arith, drop-cons, append-nil, drop_all, flat_map, LinkValue, param_of, link_of, links_of}
use Rattle.iri_link.proofs.Common.{written_param, written_link, written}
use Rattle.std.proofs.lemmas.List.Folds.{flat_map-map}
use Rattle.iri_link.specs.declared.link.Link.{Link}
use Rattle.iri_link.specs.declared.param.Param.{Param}

-- a target in angle brackets, and then parameters
pub link_shown : (target : List ℕ) (ps : List Param) → (60 ∷ (target ++ 62 ∷ [])) ++ flat_map (λ p. written_param (param_of p)) ps
    ≡ written_link (record { target = target; params = map param_of ps })
link_shown target ps =
    ap (λ l. 60 ∷ l) (append_assoc target (62 ∷ []) (flat_map (λ p. written_param (param_of p)) ps)
    ∙ ap (λ l. target ++ 62 ∷ l) (sym (flat_map-map written_param param_of ps)))

-- what is left to show of link-values, where this stands before the next one
abbrev pub left_text : List ℕ → List LinkValue → List ℕ
left_text between [] = []
left_text between (m ∷ ms) = between ++ written (m ∷ ms)

pub written-cons : (l : LinkValue) (ms : List LinkValue) → written (l ∷ ms) ≡ written_link l ++ left_text (44 ∷ 32 ∷ []) ms
written-cons l [] = sym (append-nil (written_link l))
written-cons l (m ∷ ms) = refl

pub all_left : (ls : List LinkValue) → written ls ≡ left_text [] ls
all_left [] = refl
all_left (l ∷ ls) = refl

-- the link-value at i is shown
pub left-at : (ls : List Link) (i : ℕ) (l : Link) (between done : List ℕ) (all : List ℕ) → i < length ls → l ≡ get_or ls i l
    → all ≡ done ++ left_text between (links_of (drop i ls))
    → all ≡ (done ++ (between ++ written_link (link_of l))) ++ left_text (44 ∷ 32 ∷ []) (links_of (drop (i + 1) ls))
left-at ls i l between done all lt is same =
    let s : suc i ≡ i + 1 = omega arith in
    let rest = links_of (drop (i + 1) ls) in
    let cut : links_of (drop i ls) ≡ link_of l ∷ rest =
    ap links_of (drop-cons ls i l lt) ∙ (ap (λ k. link_of k ∷ links_of (drop (suc i) ls)) (sym is) ∙ ap (λ k. link_of l ∷ links_of (drop k ls)) s) in
    same ∙ (ap (λ x. done ++ left_text between x) cut
    ∙ (ap (λ x. done ++ (between ++ x)) (written-cons (link_of l) rest)
    ∙ (ap (λ x. done ++ x) (sym (append_assoc between (written_link (link_of l)) (left_text (44 ∷ 32 ∷ []) rest)))
    ∙ sym (append_assoc done (between ++ written_link (link_of l)) (left_text (44 ∷ 32 ∷ []) rest)))))

-- nothing is left
pub left-none : (ls : List Link) (i : ℕ) (between done all : List ℕ) → length ls ≤ i → all ≡ done ++ left_text between (links_of (drop i ls)) → done ≡ all
left-none ls i between done all ge same =
    sym (same ∙ (ap (λ x. done ++ left_text between (links_of x)) (drop_all i ls ge) ∙ append-nil done))

-- How many bytes a text has at most that a call writes.
use Rattle.iri_calls.proofs.Common.{◌≡◌, ◌≤◌, ◌+◌, ◌*◌, ℕ, Bool, true, false, cond, List, [], ◌∷◌, ◌++◌, Option, Some, None, length, refl}
use Rattle.iri_calls.proofs.Common.{ap, arith, length-append, flat_map, IsUtf8, is_utf8, IsUtf8-from_is_utf8, Tests, IsSpec, iri_tests}
use Rattle.iri_calls.proofs.Common.{bytes_fault, split_of, reference_fault, iri_fault, absolute_fault, missing_scheme_fault, ErrorKind}
use Rattle.iri_calls.proofs.Common.{InvalidScheme, InvalidUserInfo, InvalidHost, InvalidPath, InvalidQuery, InvalidFragment}
use Rattle.iri_calls.proofs.Common.{UnexpectedFragment, UnexpectedRelative, InvalidUtf8, recompose_split, no_cr, answer_by, answer_in}
use Rattle.iri_calls.proofs.Common.{canonical_in, no_fault, encoded_as, line_answer, BAD_BASE, BAD_REFERENCE, Outcome, text, in_grammar}
use Rattle.iri_calls.proofs.Common.{unless_fault}
use Rattle.std.proofs.Common.{nat_eq, nat_lt, max}
use Rattle.std.specs.Char.{encode_utf8}
use Rattle.std.specs.Str.{chars, encode_utf8_all}
use Rattle.std.proofs.lemmas.Str.{encodes-chars}
use Rattle.iri_calls.proofs.Common.{before, delimited}
use Rattle.iri_grammar.proofs.splits.CutLaws.{joined}
use Rattle.iri_grammar.specs.Classes.{uri_tests}
use Rattle.iri_grammar.specs.Cut.{after}
use Rattle.iri_grammar.specs.ErrorTexts.{description}
use Rattle.iri_grammar.specs.declared.error.ErrorKind.TheVariants.{InvalidRegName, InvalidPort}
use Rattle.iri_grammar.specs.inside.Laws.{uri_is_spec, iri_is_spec}
use Rattle.iri_grammar.proofs.faults.FaultLaws.{absolute-law, reference-law, neither, splits_where_no_fault}
use Rattle.iri_percent.specs.Encoding.{encoded, encoded_char, keeps}
use Rattle.iri_percent.specs.Mapping.{mapped, triplet, triplets}
use Rattle.iri_percent.specs.declared.canon_mode.CanonMode.{CanonMode}
use Rattle.iri_normal.specs.Normalized.{written_text}
use Rattle.iri_normal.specs.Target.{target, takes_base_path}
use Rattle.iri_normal.specs.declared.mode.Mode.{Mode}
use Rattle.iri_normal.proofs.canonical_texts.CanonicalTexts.{fault_none}
use Rattle.iri_normal.proofs.normal_forms.Lengths.{length-canonical_in, length-form, length-plain_form, length-target}
use Rattle.iri_text.proofs.LinesLemmas.{no_cr-shorter}
use Rattle.iri_calls.specs.Bounds.{HasAtMost}
use Rattle.iri_calls.specs.Encodings.{place_numbered}
use Rattle.iri_calls.specs.Outcomes.{where_known, against_base}
use Rattle.iri_calls.specs.Lines.{pair_answer}
use Rattle.iri_normal.specs.Pairs.{answer_on, pairs_answer, tab, unless_page}
use Rattle.iri_calls.specs.Resolutions.{resolved, target_text}
use Rattle.iri_calls.specs.declared.grammar.TheConstants.{URI, IRI}

-- ---- whatever a call's numbers are, and where nothing is refused
pub in_each_grammar : (most grammar : ℕ) (f : Tests → Outcome) → ((s : Tests) → IsSpec s → HasAtMost most (f s))
    → HasAtMost most (in_grammar grammar f)
in_each_grammar most grammar f h =
    elim (nat_eq grammar URI) as (λ b. HasAtMost most (where_known (cond b (Some uri_tests) (cond (nat_eq grammar IRI) (Some iri_tests) None)) f)) [
      | true ↦ h uri_tests uri_is_spec
      | false ↦ elim (nat_eq grammar IRI) as (λ b. HasAtMost most (where_known (cond b (Some iri_tests) None) f))
          [ true ↦ h iri_tests iri_is_spec | false ↦ tt ]
    ]

pub in_each : {A : Type 0} (most : ℕ) (o : Option A) (f : A → Outcome) → ((x : A) → HasAtMost most (f x)) → HasAtMost most (where_known o f)
in_each most None f h = tt
in_each most (Some x) f h = h x

pub where_valid : (most whose : ℕ) (o : Option ErrorKind) (next : Outcome) → (o ≡ None → HasAtMost most next)
    → HasAtMost most (unless_fault whose o next)
where_valid most whose None next h = h refl
where_valid most whose (Some kind) next h = tt

pub where_against : (most : ℕ) (s : Tests) (base reference : List ℕ) (next : Outcome)
    → (bytes_fault (absolute_fault s) base ≡ None → bytes_fault (reference_fault s) reference ≡ None → HasAtMost most next)
    → HasAtMost most (against_base base reference s next)
where_against most s base reference next h =
    let of_reference = bytes_fault (reference_fault s) reference in
    where_valid most BAD_BASE (bytes_fault (absolute_fault s) base) (unless_fault BAD_REFERENCE of_reference next)
    (λ b. where_valid most BAD_REFERENCE of_reference next (h b))

-- ---- normal forms, targets and canonical texts
pub short_form : (s : Tests) (mode : Mode) (t : List ℕ) → IsSpec s → bytes_fault (iri_fault s) t ≡ None
    → length (written_text s (record { parts = split_of t; whole = false; mode = mode })) ≤ length t + 3
short_form s mode t k none =
    let valid : reference_fault s t ≡ None =
    (neither (missing_scheme_fault t) (reference_fault s t) (fault_none (iri_fault s) t none)).1 in
    omega (arith, length-form s mode false (split_of t) k (splits_where_no_fault s t valid).fits, ap length (recompose_split t))

pub short_target : (base reference : List ℕ) → length (target_text base reference) ≤ length base + length reference + 1
short_target base reference =
    omega (
      arith,
      length-target (split_of base) (split_of reference),
      ap length (recompose_split base),
      ap length (recompose_split reference),
    )

pub short_resolved : (s : Tests) (base reference : List ℕ) → length (resolved s base reference) ≤ length base + length reference + 3
short_resolved s base reference =
    let t = target (split_of base) (split_of reference) in
    omega (arith, length-plain_form s (takes_base_path (split_of reference)) t, short_target base reference)

pub short_canonical : (s : Tests) (m : CanonMode) (base reference : List ℕ) → IsSpec s → bytes_fault (absolute_fault s) base ≡ None
    → bytes_fault (reference_fault s) reference ≡ None → length (canonical_in s m base reference) ≤ length base + length reference + 3
short_canonical s m base reference k b r =
    length-canonical_in s m base reference k ((absolute-law s k base).0 (fault_none (absolute_fault s) base b))
    ((reference-law s k reference).0 (fault_none (reference_fault s) reference r))

-- ---- encoded texts
short_triplets : (xs : List ℕ) → length (triplets xs) ≡ 3 * length xs
short_triplets [] = refl
short_triplets (x ∷ xs) = omega (arith, short_triplets xs)

pub short_mapped : (t : List ℕ) → length (mapped t) ≤ 3 * length t
short_mapped [] = omega arith
short_mapped (x ∷ xs) =
    let l = short_mapped xs in
    elim (nat_lt x 128) as (λ b. length (cond b (x ∷ []) (triplet x) ++ mapped xs) ≤ 3 * length (x ∷ xs))
    [ true ↦ omega arith | false ↦ omega arith ]

short_characters : (kept : ℕ → Bool) (cs : List ℕ) → length (flat_map (encoded_char kept) cs) ≤ 3 * length (encode_utf8_all cs)
short_characters kept [] = omega arith
short_characters kept (c ∷ cs) =
    let l = short_characters kept cs in
    let whole = length-append (encode_utf8 c) (encode_utf8_all cs) in
    elim (kept c) as (λ b. length (cond b (encode_utf8 c) (triplets (encode_utf8 c)) ++ flat_map (encoded_char kept) cs)
    ≤ 3 * length (encode_utf8_all (c ∷ cs))) [
      | true ↦ omega (arith, length-append (encode_utf8 c) (flat_map (encoded_char kept) cs))
      | false ↦ omega (arith, short_triplets (encode_utf8 c), length-append (triplets (encode_utf8 c)) (flat_map (encoded_char kept) cs))
    ]

short_encoded : (kept : ℕ → Bool) (t : List ℕ) → IsUtf8 t → length (encoded kept t) ≤ 3 * length t
unfolding encoded
short_encoded kept t u = omega (arith, short_characters kept (chars t), ap length (encodes-chars t u))

is_valid : (b : Bool) (o : Option ErrorKind) → cond b o (Some InvalidUtf8) ≡ None → b ≡ true
is_valid true o e = refl
is_valid false o e = cc

pub short_encoding : (s : Tests) (place : ℕ) (t : List ℕ) → bytes_fault no_fault t ≡ None
    → HasAtMost (3 * length t) (encoded_as place t s)
short_encoding s place t e =
    in_each (3 * length t) (place_numbered place) (λ p. text (encoded (keeps s p) t))
    (λ p. short_encoded (keeps s p) t (IsUtf8-from_is_utf8 t (is_valid (is_utf8 t) None e)))

-- ---- the answer of a line
short_words : (kind : ErrorKind) → length (description kind) ≤ 58
short_words InvalidScheme = omega arith
short_words InvalidUserInfo = omega arith
short_words InvalidHost = omega arith
short_words InvalidRegName = omega arith
short_words InvalidPort = omega arith
short_words InvalidPath = omega arith
short_words InvalidQuery = omega arith
short_words InvalidFragment = omega arith
short_words UnexpectedFragment = omega arith
short_words UnexpectedRelative = omega arith
short_words InvalidUtf8 = omega arith

short_answer_by : (o : Option ErrorKind) (t : List ℕ) (n : ℕ) → (o ≡ None → length t ≤ n + 3) → length (answer_by o t) ≤ max (n + 7) 64
short_answer_by None t n h = omega (arith, h refl, length-append t (10 ∷ []))
short_answer_by (Some kind) t n h = omega (arith, short_words kind, length-append (description kind) (10 ∷ []))

pub short_answer : (s : Tests) (m : CanonMode) (base line : List ℕ) → IsSpec s → bytes_fault (absolute_fault s) base ≡ None
    → length (line_answer s m base line) ≤ max (length base + length line + 7) 64
unfolding answer_in
short_answer s m base line k b =
    let l = no_cr-shorter line in
    let answer = short_answer_by (bytes_fault (reference_fault s) (no_cr line)) (canonical_in s m base (no_cr line))
    (length base + length (no_cr line)) (short_canonical s m base (no_cr line) k b) in
    omega arith

-- ---- the answer of a page and a link
short_on_page : (o : Option ErrorKind) (answer : List ℕ) (n : ℕ) → (o ≡ None → length answer ≤ max n 64) → length (unless_page o answer) ≤ max n 64
short_on_page None answer n h = h refl
short_on_page (Some kind) answer n h = omega (arith, short_words kind, length-append (description kind) (10 ∷ []))

short_on : (s : Tests) (m : CanonMode) (page : List ℕ) (link : Option (List ℕ)) (n : ℕ) → IsSpec s → length page + length (delimited tab link) ≤ n
    → length (answer_on s m page link) ≤ max (n + 6) 64
unfolding answer_in
short_on s m page None n k h = omega arith
short_on s m page (Some link) n k h =
    let none = bytes_fault (absolute_fault s) page in
    short_on_page none (answer_in s m page link) (n + 6) (λ b.
    let answer = short_answer_by (bytes_fault (reference_fault s) link) (canonical_in s m page link) (length page + length link)
    (short_canonical s m page link k b) in
    omega (arith, answer, h))

pub short_pair : (s : Tests) (m : CanonMode) (line : List ℕ) → IsSpec s → length (pair_answer s m line) ≤ max (length line + 6) 64
unfolding pairs_answer
short_pair s m line k =
    let l = no_cr line in
    let shorter = no_cr-shorter line in
    let parts = length-append (before tab l) (delimited tab (after tab l)) in
    let answer = short_on s m (before tab l) (after tab l) (length l) k (omega (arith, parts, ap length (joined tab l))) in
    omega (arith, shorter, answer)

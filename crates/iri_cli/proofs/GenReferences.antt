-- No reference of `gen` has a fault: each segment of the table is over the characters of a registered name, which are of a path too.
use Rattle.iri_cli.proofs.Common.{◌≡◌, ℕ, suc, ◌<◌, ◌^◌, Bool, true, false, not, ◌&&◌, ◌||◌, List, [], ◌∷◌, ◌++◌, Some, None, refl, ◌∙◌, ap}
use Rattle.iri_cli.proofs.Common.{subst, arith, append-nil, ◌==◌, get_or, nat_lt, list_all, nat_tests, Tests, IsSpec}
use Rattle.iri_cli.proofs.Common.{path_char, before, lacks, both, recompose, is_empty, starts_with_slash, starts_with_slashes}
use Rattle.iri_cli.proofs.Common.{absolute_fault, reference_fault, refusal, more_segments}
use Rattle.iri_cli.proofs.Common.{gen_reference, gen_base}
use Rattle.std.proofs.Common.{zero, ◌/◌, ◌%◌}
use Rattle.std.specs.Str.{IsAscii}
use Rattle.std.proofs.lemmas.Str.{IsAscii-append, IsUtf8-from_ascii, chars-IsAscii}
use Rattle.std.proofs.lemmas.Str.{is_utf8-from_IsUtf8}
use Rattle.iri_grammar.specs.Classes.{uri_tests, is_ascii_reg_name, is_ascii_pchar, is_ascii_path, reg_name_char}
use Rattle.iri_grammar.proofs.units.ClassLaws.{class_has_no_percent}
use Rattle.iri_grammar.specs.declared.class.Class.TheVariants.{RegName, Path}
use Rattle.iri_grammar.specs.Over.{over, text_over, IsOver, done, plain, triplet}
use Rattle.iri_grammar.proofs.units.OverLaws.{over-from_units, units-from_over}
use Rattle.std.proofs.lemmas.Bool.{or_right}
use Rattle.iri_grammar.proofs.splits.CutLaws.{before-at}
use Rattle.iri_grammar.specs.IpLiteral.{is_ip_literal}
use Rattle.iri_grammar.specs.Host.{is_reg_name}
use Rattle.iri_grammar.specs.Authority.{is_authority, recompose_authority}
use Rattle.iri_grammar.proofs.authorities.AuthorityLaws.{passes}
use Rattle.iri_grammar.proofs.authorities.AuthorityTexts.{all_below}
use Rattle.iri_grammar.proofs.faults.MadeLaws.{made-reference}
use Rattle.iri_cli.proofs.BytesLemmas.{taken_of_uris}
use Rattle.iri_normal.proofs.targets.Targets.{slash_in_path}
use Rattle.iri_normal.proofs.triplets.PathTriplets.{head-apart}
use Rattle.iri_docs.specs.OnLiterals.{on_literals}
use Rattle.iri_cli.specs.generator.References.{gen_segments, gen_segment}

-- ---- the segments of the table
-- characters of a registered name and triplets, in ASCII, without slash or colon
record IsSegment (x : List ℕ) : Type 0 where
  pub ascii : IsAscii x
  pub over : IsOver is_ascii_reg_name x
  pub no_slash : lacks 47 x ≡ true
  pub no_colon : lacks 58 x ≡ true

abbrev is_low : ℕ → Bool
is_low c = nat_lt c 128

abbrev passes_all : List ℕ → Bool
passes_all x = list_all is_low x && (over is_ascii_reg_name x && (lacks 47 x && lacks 58 x))

table_passes : list_all passes_all gen_segments ≡ true
unfolding on_literals
table_passes = refl

nothing_passes : passes_all [] ≡ true
unfolding on_literals
nothing_passes = refl

at_number : (p : List ℕ → Bool) (xs : List (List ℕ)) (n : ℕ) → p [] ≡ true → list_all p xs ≡ true → p (get_or xs n []) ≡ true
at_number p [] n e h = e
at_number p (x ∷ xs) zero e h = (both (p x) (list_all p xs) h).0
at_number p (x ∷ xs) (suc n) e h = at_number p xs n e (both (p x) (list_all p xs) h).1

low : (c : ℕ) → is_low c ≡ true → c < 128
low c h = grind (arith, nat_tests)

of_tests : (x : List ℕ) → passes_all x ≡ true → IsSegment x
of_tests x h =
    let a = both (list_all is_low x) (over is_ascii_reg_name x && (lacks 47 x && lacks 58 x)) h in
    let b = both (over is_ascii_reg_name x) (lacks 47 x && lacks 58 x) a.1 in
    let c = both (lacks 47 x) (lacks 58 x) b.1 in
    record { ascii = all_below is_low low x a.0; over = units-from_over is_ascii_reg_name x b.0; no_slash = c.0; no_colon = c.1 }

segment_is : (n : ℕ) → IsSegment (gen_segment n)
segment_is n = of_tests (gen_segment n) (at_number passes_all gen_segments n nothing_passes table_passes)

-- ---- texts over classes
over_wider : (p q : ℕ → Bool) → ((c : ℕ) → p c ≡ true → q c ≡ true) → (xs : List ℕ) → IsOver p xs → IsOver q xs
over_wider p q w xs done = done
over_wider p q w xs (plain c cs h r) = plain c cs (w c h) (over_wider p q w cs r)
over_wider p q w xs (triplet a b cs ha hb r) = triplet a b cs ha hb (over_wider p q w cs r)

over_joined : (p : ℕ → Bool) (xs ys : List ℕ) → IsOver p xs → IsOver p ys → IsOver p (xs ++ ys)
over_joined p xs ys done k = k
over_joined p xs ys (plain c cs h r) k = plain c (cs ++ ys) h (over_joined p cs ys r k)
over_joined p xs ys (triplet a b cs ha hb r) k = triplet a b (cs ++ ys) ha hb (over_joined p cs ys r k)

text_is : (q : ℕ → Bool) (xs : List ℕ) → q 37 ≡ false → IsAscii xs → IsOver q xs → text_over q xs ≡ true
text_is q xs n a o = rw (is_utf8-from_IsUtf8 xs (IsUtf8-from_ascii xs a)) (ap (over q) (chars-IsAscii xs a) ∙ over-from_units q xs n o)

no_bytes : IsAscii []
no_bytes i = omega arith

slash_ascii : IsAscii (47 ∷ [])
slash_ascii zero = omega arith
slash_ascii (suc i) = omega arith

module _ (s : Tests) (k : IsSpec s) where
  in_reg_name : (c : ℕ) → is_ascii_reg_name c ≡ true → reg_name_char s c ≡ true
  unfolding reg_name_char
  in_reg_name c h = rw h refl

  in_path : (c : ℕ) → is_ascii_reg_name c ≡ true → path_char s c ≡ true
  unfolding path_char is_ascii_path is_ascii_pchar
  in_path c h = rw h refl

  -- in ASCII, over the characters of a path
  record IsPathText (xs : List ℕ) : Type 0 where
    pub ascii : IsAscii xs
    pub over : IsOver (path_char s) xs

  joined : (xs ys : List ℕ) → IsPathText xs → IsPathText ys → IsPathText (xs ++ ys)
  joined xs ys a b = record { ascii = IsAscii-append xs ys a.ascii b.ascii; over = over_joined (path_char s) xs ys a.over b.over }

  segment_text : (x : List ℕ) → IsSegment x → IsPathText x
  segment_text x h = record { ascii = h.ascii; over = over_wider is_ascii_reg_name (path_char s) in_path x h.over }

  slash_text : IsPathText (47 ∷ [])
  slash_text = record { ascii = slash_ascii; over = plain 47 [] (slash_in_path s) done }

  more_text : (count number : ℕ) → IsPathText (more_segments count number)
  more_text zero number = record { ascii = no_bytes; over = done }
  more_text (suc count) number =
      joined (47 ∷ []) (gen_segment (number % 16) ++ more_segments count (number / 16)) slash_text
      (joined (gen_segment (number % 16)) (more_segments count (number / 16))
      (segment_text (gen_segment (number % 16)) (segment_is (number % 16))) (more_text count (number / 16)))

  is_path_of : (t : List ℕ) → IsPathText t → text_over (path_char s) t ≡ true
  is_path_of t h = text_is (path_char s) t (class_has_no_percent s k Path) h.ascii h.over

  -- ---- a path alone, and one after an authority
  alone : (t : List ℕ) → IsPathText t → (not (starts_with_slashes t) && lacks 58 (before 47 t)) ≡ true → reference_fault s t ≡ None
  unfolding recompose
  alone t h rules =
      subst (λ (z : List ℕ). reference_fault s z ≡ None) (append-nil t)
      (made-reference s k (record { scheme = None; authority = None; path = t; query = None; fragment = None })
      (record { scheme = refl; authority = refl; path = is_path_of t h; query = refl; fragment = refl; rules = rules }))

  lone_slash : reference_fault s (47 ∷ []) ≡ None
  lone_slash = alone (47 ∷ []) slash_text refl

  authority_is : (x : List ℕ) → IsSegment x → is_authority s x ≡ true
  unfolding recompose_authority
  authority_is x h =
      let name : is_reg_name s x ≡ true = text_is (reg_name_char s) x (class_has_no_percent s k RegName) h.ascii
      (over_wider is_ascii_reg_name (reg_name_char s) in_reg_name x h.over) in
      passes s k x (record { userinfo = None; host = x; port = None })
      (record { userinfo = refl; host = or_right (is_ip_literal x) (is_reg_name s x) name; port = refl }, append-nil x)

  beside : (a t : List ℕ) → IsSegment a → IsPathText t → (is_empty t || starts_with_slash t) ≡ true
      → reference_fault s (47 ∷ 47 ∷ (a ++ t)) ≡ None
  unfolding recompose
  beside a t i h rules =
      subst (λ (z : List ℕ). reference_fault s (47 ∷ 47 ∷ (a ++ z)) ≡ None) (append-nil t)
      (made-reference s k (record { scheme = None; authority = Some a; path = t; query = None; fragment = None })
      (record { scheme = refl; authority = authority_is a i; path = is_path_of t h; query = refl; fragment = refl; rules = rules }))

  -- ---- the segments joined
  edge : (count number : ℕ) → (before 47 (more_segments count number) ≡ [])
      × ((is_empty (more_segments count number) || starts_with_slash (more_segments count number)) ≡ true)
  edge zero number = (refl, refl)
  edge (suc count) number = (refl, refl)

  -- the first segment is empty
  after_slash : (x : List ℕ) → IsSegment x → (count number : ℕ) → reference_fault s (47 ∷ (x ++ more_segments count number)) ≡ None
  after_slash (f ∷ fs) h count number =
      alone (47 ∷ f ∷ (fs ++ more_segments count number))
      (joined (47 ∷ []) (f ∷ (fs ++ more_segments count number)) slash_text
      (joined (f ∷ fs) (more_segments count number) (segment_text (f ∷ fs) h) (more_text count number)))
      (rw (head-apart f fs h.no_slash) refl)
  after_slash [] h zero number = lone_slash
  after_slash [] h (suc count) number = beside (gen_segment (number % 16)) (more_segments count (number / 16)) (segment_is (number % 16))
      (more_text count (number / 16)) (edge count (number / 16)).1

  of_segments : (x : List ℕ) → IsSegment x → (count number : ℕ) → reference_fault s (x ++ more_segments count number) ≡ None
  of_segments [] h zero number = alone [] (more_text zero number) refl
  of_segments [] h (suc count) number = after_slash (gen_segment (number % 16)) (segment_is (number % 16)) count (number / 16)
  of_segments (f ∷ fs) h count number =
      let more = more_segments count number in
      let e : before 47 (fs ++ more) ≡ fs = before-at 47 fs more (both (not (f == 47)) (lacks 47 fs) h.no_slash).1 (edge count number).0 in
      alone (f ∷ (fs ++ more)) (joined (f ∷ fs) more (segment_text (f ∷ fs) h) (more_text count number))
      (rw (head-apart f fs h.no_slash) (ap (λ z. lacks 58 (f ∷ z)) e ∙ h.no_colon))

  pub no_fault_of_made : (state : ℕ) → reference_fault s (gen_reference state) ≡ None
  no_fault_of_made state = of_segments (gen_segment (state % 16)) (segment_is (state % 16)) (state / 2 ^ 60) (state / 16)

-- ---- the base
base_of_uris : absolute_fault uri_tests gen_base ≡ None
unfolding on_literals
base_of_uris = refl

pub base_taken : (s : Tests) → IsSpec s → refusal s gen_base ≡ None
base_taken s k = taken_of_uris s k gen_base base_of_uris

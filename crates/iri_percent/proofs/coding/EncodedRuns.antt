-- The runs of a text that is encoded.
use Rattle.iri_percent.proofs.Common.{◌≡◌, ℕ, suc, ◌-◌, ◌<◌, ◌≤◌, Bool, true, false, cond, ◌&&◌, List, [], ◌∷◌, ◌++◌, length, take, drop}
use Rattle.iri_percent.proofs.Common.{refl, sym, ◌∙◌, ap, subst, arith, append_assoc, length-append, ltb-true, not, ◌==◌, nat_lt, flat_map}
use Rattle.iri_percent.proofs.Common.{encode_utf8, chars, IsUtf8, IsCharBoundary, encode_ascii, IsCharBoundary-from_drop, take_at, drop_at}
use Rattle.iri_percent.proofs.Common.{nat_tests, not-true, Tests, IsSpec, userinfo_char, reg_name_char, is_ascii_userinfo}
use Rattle.iri_percent.proofs.Common.{is_ascii_reg_name, is_ascii_unreserved, is_sub_delim, class_test, ascii_test, both, run_of, triplet}
use Rattle.iri_percent.proofs.Common.{triplets, encoded, encoded_char, is_other, run_text, IsPastRun}
use Rattle.iri_grammar.proofs.units.ClassLaws.{class_at_ascii}
use Rattle.iri_grammar.specs.declared.class.Class.{Class}
use Rattle.iri_text.proofs.CharSteps.{first_char}
use Rattle.std.proofs.StrCases.{chars_of_empty}
use Rattle.iri_percent.specs.inside.Runs.{IsRun}

-- a userinfo has the colon beside the characters of a reg-name
pub user_is_reg_name : (s : Tests) → IsSpec s → (c : ℕ) → reg_name_char s c ≡ (userinfo_char s c && not (c == 58))
unfolding reg_name_char userinfo_char is_ascii_userinfo is_ascii_reg_name is_ascii_unreserved is_sub_delim
user_is_reg_name s l c =
    let at : s.ucs 58 ≡ false = l.ucs_ascii 58 (omega arith) in
    grind (arith, nat_tests)

pub triplets-append : (xs ys : List ℕ) → triplets (xs ++ ys) ≡ triplets xs ++ triplets ys
triplets-append [] ys = refl
triplets-append (x ∷ xs) ys = ap (λ l. triplet x ++ l) (triplets-append xs ys)

run-append : (stands : Bool) (a b : List ℕ) → run_text stands (a ++ b) ≡ run_text stands a ++ run_text stands b
run-append true a b = refl
run-append false a b = triplets-append a b

run-nil : (stands : Bool) → run_text stands [] ≡ []
run-nil true = refl
run-nil false = refl

char_run : (p : ℕ → Bool) (c : ℕ) (stands : Bool) → p c ≡ stands → encoded_char p c ≡ run_text stands (encode_utf8 c)
char_run p c stands h = rw h refl

pub encoded-none : (p : ℕ → Bool) (t : List ℕ) → length t ≡ 0 → encoded p t ≡ []
unfolding encoded
encoded-none p t h = ap (flat_map (encoded_char p)) (chars_of_empty t h)

encoded-first : (p : ℕ → Bool) (c : ℕ) (t r : List ℕ) → chars t ≡ c ∷ chars r → encoded p t ≡ encoded_char p c ++ encoded p r
unfolding encoded
encoded-first p c t r e = ap (flat_map (encoded_char p)) e

pub past_none : (p : ℕ → Bool) (stands : Bool) (t : List ℕ) → IsUtf8 t → IsPastRun p stands t t
past_none p stands t u = record {
  run = [];
  is_run =
      record { split = refl; utf8 = u; same = ap (λ l. l ++ encoded p t) (sym (run-nil stands)) };
}

pub past_char : (p : ℕ → Bool) (stands : Bool) (c : ℕ) (t r : List ℕ) → IsUtf8 t → t ≡ encode_utf8 c ++ r → p c ≡ stands
    → IsPastRun p stands t r
past_char p stands c t r u e h =
    let f = first_char t r c u e in
    record {
      run = encode_utf8 c;
      is_run = record {
        split = e;
        utf8 = f.utf8;
        same = encoded-first p c t r f.first ∙ ap (λ l. l ++ encoded p r) (char_run p c stands h);
      };
    }

pub past_more : (p : ℕ → Bool) (stands : Bool) (t r q : List ℕ) → IsPastRun p stands t r → IsPastRun p stands r q → IsPastRun p stands t q
past_more p stands t r q a b = record {
  run = a.run ++ b.run;
  is_run = record {
    split = a.is_run.split ∙ ap (λ l. a.run ++ l) b.is_run.split ∙ sym (append_assoc a.run b.run q);
    utf8 = b.is_run.utf8;
    same = a.is_run.same ∙ ap (λ l. run_text stands a.run ++ l) b.is_run.same
        ∙ sym (append_assoc (run_text stands a.run) (run_text stands b.run) (encoded p q))
        ∙ ap (λ l. l ++ encoded p q) (sym (run-append stands a.run b.run));
  };
}

-- a run of ASCII characters
pub past_ascii : (p q : ℕ → Bool) (stands : Bool) → ((c : ℕ) → q c ≡ true → (c < 128) × (p c ≡ stands)) → (t : List ℕ) → IsUtf8 t
    → IsPastRun p stands t (drop (run_of q t) t)
past_ascii p q stands h [] u = past_none p stands [] u
past_ascii p q stands h (b ∷ t) u =
    elim (q b) as (λ v. q b ≡ v → IsPastRun p stands (b ∷ t) (drop (cond v (suc (run_of q t)) 0) (b ∷ t))) [
      | true ↦ λ e.
          let first = past_char p stands b (b ∷ t) t u (ap (λ x. x ++ t) (sym (encode_ascii b (h b e).0))) (h b e).1 in
          past_more p stands (b ∷ t) t (drop (run_of q t) t) first (past_ascii p q stands h t first.is_run.utf8)
      | false ↦ λ e. past_none p stands (b ∷ t) u
    ] refl

-- such characters that aren't in a class
pub other_below : (k : Class) (b : ℕ) → is_other k b ≡ true → b < 128
other_below k b h = ltb-true b 128 (both (nat_lt b 128) (not (ascii_test k b)) h).0

pub other_ascii : (s : Tests) → IsSpec s → (k : Class) (b : ℕ) → is_other k b ≡ true → (b < 128) × (class_test s k b ≡ false)
other_ascii s l k b h = (
  other_below k b h,
  class_at_ascii s l k b (other_below k b h)
      ∙ not-true (ascii_test k b) (both (nat_lt b 128) (not (ascii_test k b)) h).1,
)

-- a character, and the run after it
pub run_from_char : (p : ℕ → Bool) (stands : Bool) (c : ℕ) (t whole tail after rest : List ℕ) → IsUtf8 t → whole ≡ t
    → whole ≡ encode_utf8 c ++ tail → p c ≡ stands → after ≡ tail → IsPastRun p stands after rest → IsPastRun p stands t rest
run_from_char p stands c t whole tail after rest u same e h b a =
    past_more p stands t tail rest (past_char p stands c t tail u (sym same ∙ e) h) (subst (λ l. IsPastRun p stands l rest) b a)

-- where the run ends
pub run_length : (p : ℕ → Bool) (stands : Bool) (t r : List ℕ) (a : IsPastRun p stands t r) → length t - length r ≡ length a.run
run_length p stands t r a = omega (arith, ap length a.is_run.split, length-append a.run r)

pub run_within : (p : ℕ → Bool) (stands : Bool) (t r : List ℕ) → IsPastRun p stands t r → length r ≤ length t
run_within p stands t r a = omega (arith, ap length a.is_run.split, length-append a.run r)

-- the text up to there is the run
pub run_prefix : (p : ℕ → Bool) (stands : Bool) (t r prefix : List ℕ) → IsPastRun p stands t r → prefix ≡ take (length t - length r) t
    → IsRun p t stands prefix r
run_prefix p stands t r prefix a e =
    let same : prefix ≡ a.run = e ∙ ap (take (length t - length r)) a.is_run.split
    ∙ take_at a.run r (length t - length r) (sym (run_length p stands t r a)) in
    subst (λ l. IsRun p t stands l r) (sym same) a.is_run

pub run_boundary : (p : ℕ → Bool) (stands : Bool) (t r : List ℕ) (n : ℕ) → IsPastRun p stands t r → n ≡ length t - length r
    → IsCharBoundary t n
run_boundary p stands t r n a e =
    let is : n ≡ length a.run = e ∙ run_length p stands t r a in
    let after : drop n t ≡ r = ap (drop n) a.is_run.split ∙ drop_at a.run r n (sym is) in
    IsCharBoundary-from_drop t n (omega (arith, ap length a.is_run.split, length-append a.run r)) (subst IsUtf8 (sym after) a.is_run.utf8)

-- what was written, a run, and the rest
pub run_shown : (p : ℕ → Bool) (stands : Bool) (done t prefix r : List ℕ) → IsRun p t stands prefix r
    → done ++ encoded p t ≡ (done ++ run_text stands prefix) ++ encoded p r
run_shown p stands done t prefix r a = ap (λ l. done ++ l) a.same ∙ sym (append_assoc done (run_text stands prefix) (encoded p r))

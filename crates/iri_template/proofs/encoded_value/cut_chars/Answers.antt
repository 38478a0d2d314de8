use Rattle.iri_template.proofs.Common.{◌≡◌, ℕ, suc, List, [], ◌+◌, ◌-◌, ◌++◌, length, take, sym, ◌∙◌, ap, subst, arith, refl, append_assoc}
use Rattle.iri_template.proofs.Common.{length-append}
use Rattle.iri_template.proofs.Common.{IsUtf8, chars, chars_rest, chars_of_empty, first_char, encode_utf8, IsCharBoundary}
use Rattle.iri_template.proofs.Common.{IsCharBoundary-at_seam}
use Rattle.std.proofs.Math.Seq.{take-append_seam}
use Rattle.std.proofs.lemmas.List.{take_all}
use Rattle.std.proofs.lemmas.Str.{chars-append}
use Rattle.iri_template.proofs.Prefixes.{prefix_range}
use Rattle.iri_template.proofs.encoded_value.cut_chars.Invariants.{IsPast}
use Rattle.iri_template.proofs.encoded_value.cut_chars.Goals as goal

begun : (t rest : List ℕ) (most : ℕ) → rest ≡ t → IsUtf8 t → IsPast t rest most most
begun t rest most e u = subst (λ (l : List ℕ). IsPast t l most most) (sym e)
    (record { past = []; whole = refl; utf8 = u; count = omega arith })

one_more : (t rest left_over : List ℕ) (most left c : ℕ) → IsPast t rest most (left + 1) → rest ≡ encode_utf8 c ++ left_over
    → IsPast t left_over most left
one_more t rest next most left c p e =
    let f = first_char rest next c p.utf8 e in
    let count : length (chars rest) ≡ suc (length (chars next)) = ap length f.first in
    record {
      past = p.past ++ encode_utf8 c;
      whole = p.whole ∙ ap (λ l. p.past ++ l) e ∙ sym (append_assoc p.past (encode_utf8 c) next);
      utf8 = f.utf8;
      count = omega (arith, p.count, count);
    }

pub chars-init : goal.chars-init
chars-init c = record {
  can = tt;
  ends = tt;
  far = begun c.args.text.now (chars_rest c.chars-chars.result) c.args.most c.chars-chars.ensures.rest c.utf8.text;
}

pub chars-preserved : goal.chars-preserved
chars-preserved c =
    let more : c.chars.left ≡ c.chars.left - 1 + 1 = omega (arith, c.chars-test.true) in
    record {
      can = tt;
      ends = tt;
      far = one_more c.args.text.now (chars_rest c.chars.chars) (chars_rest c.next.new.self) c.args.most (c.chars.left - 1) c.in-Some.field-0
          (subst (λ (n : ℕ). IsPast c.args.text.now (chars_rest c.chars.chars) c.args.most n) more c.chars.invariant.far) c.in-Some.ensures.steps.0;
    }

pub returns-in-None-clause-prefix : goal.returns-in-None-clause-prefix
returns-in-None-clause-prefix c =
    let none = ap length (chars_of_empty (chars_rest c.chars.chars) c.in-None.ensures.steps.0.0) in
    sym (take_all c.args.most (chars c.args.text.now) (omega (arith, c.chars.invariant.far.count, none)))

pub returns-in-None-clause-left : goal.returns-in-None-clause-left
returns-in-None-clause-left c =
    let none = ap length (chars_of_empty (chars_rest c.chars.chars) c.in-None.ensures.steps.0.0) in
    omega (arith, c.chars.invariant.far.count, none)

pub range-requires-clause-end_boundary : goal.range-requires-clause-end_boundary
range-requires-clause-end_boundary c =
    let t = c.args.text.now in
    let r = c.as_str.result.now in
    let p = c.chars.invariant.far in
    let e : t ≡ p.past ++ r = p.whole ∙ ap (λ l. p.past ++ l) (sym c.as_str.ensures) in
    let z : length p.past ≡ length t - length r = omega (arith, ap length e, length-append p.past r) in
    subst (IsCharBoundary t) z (IsCharBoundary-at_seam t p.past r e c.as_str.utf8)

pub returns-clause-prefix : goal.returns-clause-prefix
returns-clause-prefix c =
    let t = c.args.text.now in
    let r = c.as_str.result.now in
    let prefix = c.range.result.now in
    let p = c.chars.invariant.far in
    let e : t ≡ p.past ++ r = p.whole ∙ ap (λ l. p.past ++ l) (sym c.as_str.ensures) in
    let is : prefix ≡ p.past = c.range.ensures.value ∙ prefix_range t p.past r (length t - length r) (sym e) refl in
    let all : chars t ≡ chars prefix ++ chars r = ap chars (e ∙ ap (λ l. l ++ r) (sym is)) ∙ chars-append prefix r c.range.utf8 in
    let same = ap (λ l. length (chars l)) c.as_str.ensures in
    let count : c.args.most ≡ length (chars prefix) =
    omega (arith, p.count, ap length all, length-append (chars prefix) (chars r), same, c.chars-test.false) in
    sym (ap (take c.args.most) all ∙ ap (λ n. take n (chars prefix ++ chars r)) count ∙ take-append_seam (chars prefix) (chars r))

pub returns-clause-left : goal.returns-clause-left
returns-clause-left c = omega (arith, c.chars.invariant.far.count, c.chars-test.false)

use Rattle.iri_resolve.proofs.Common.{◌≡◌, ◌≤◌, ◌+◌, ◌*◌, ◌++◌, take, drop, length, sym, ap, subst, ◌∙◌, arith, append_assoc, slice_index}
use Rattle.iri_resolve.proofs.Common.{string_bytes, encode_utf8, len_utf8, IsUtf8-string_bytes, octets, decoded}
use Rattle.iri_resolve.proofs.Edits.{not_decoded, is_decoded_to, place, after_place}
use Rattle.iri_resolve.proofs.change.decoded.Goals as goal

pub returns-in-None : goal.returns-in-None
returns-in-None g c =
    sym (not_decoded g.S.Spec.tests c.args.i (string_bytes c.args.text.now)
    (ap (λ t. decoded g.S.Spec.tests (octets (drop c.args.i t))) (sym c.as_bytes.ensures.value) ∙ sym c.spelled_at.ensures ∙ c.in-None.is))

pub overflow_add-i : goal.overflow_add-i
overflow_add-i g c =
    let p = place g.S.Spec.tests c.args.i (string_bytes c.args.text.now) c.in-Some.c
    (ap (λ t. decoded g.S.Spec.tests (octets (drop c.args.i t))) (sym c.as_bytes.ensures.value) ∙ sym c.spelled_at.ensures ∙ c.in-Some.is) in
    omega (arith, p.within, c.len_utf8.ensures.value, ap length c.as_bytes.ensures.value)

pub replace_range-requires-clause-in_bounds : goal.replace_range-requires-clause-in_bounds
replace_range-requires-clause-in_bounds g c =
    let p = place g.S.Spec.tests c.args.i (string_bytes c.args.text.now) c.in-Some.c
    (ap (λ t. decoded g.S.Spec.tests (octets (drop c.args.i t))) (sym c.as_bytes.ensures.value) ∙ sym c.spelled_at.ensures ∙ c.in-Some.is) in
    omega (arith, p.within, c.len_utf8.ensures.value, c.as_bytes.ensures.len, ap length c.as_bytes.ensures.value)

pub replace_range-requires-clause-start_boundary : goal.replace_range-requires-clause-start_boundary
replace_range-requires-clause-start_boundary g c =
    let p = place g.S.Spec.tests c.args.i (string_bytes c.args.text.now) c.in-Some.c
    (ap (λ t. decoded g.S.Spec.tests (octets (drop c.args.i t))) (sym c.as_bytes.ensures.value) ∙ sym c.spelled_at.ensures ∙ c.in-Some.is) in
    (omega arith, λ _ _ h. absurd (omega (arith, h, p.first)))

pub replace_range-requires-clause-end_boundary : goal.replace_range-requires-clause-end_boundary
replace_range-requires-clause-end_boundary g c =
    let t = string_bytes c.args.text.now in
    let p = place g.S.Spec.tests c.args.i (string_bytes c.args.text.now) c.in-Some.c
    (ap (λ t. decoded g.S.Spec.tests (octets (drop c.args.i t))) (sym c.as_bytes.ensures.value) ∙ sym c.spelled_at.ensures ∙ c.in-Some.is) in
    let e : c.len_utf8.result ≡ len_utf8 c.in-Some.c = c.len_utf8.ensures.value in
    let w = p.within in (
      omega (arith, e, w),
      λ _ l h. subst (λ n. 192 ≤ slice_index t (c.args.i + 3 * n)) (sym e)
          (after_place c.args.i (3 * len_utf8 c.in-Some.c) t (IsUtf8-string_bytes c.args.text.now) p (omega (arith, e, l))
          (subst (λ n. 128 ≤ slice_index t (c.args.i + 3 * n)) e h)),
    )

pub returns-in_ok-replace_range-in-Some : goal.returns-in_ok-replace_range-in-Some
returns-in_ok-replace_range-in-Some g c =
    let i = c.args.i in
    let t = string_bytes c.args.text.now in
    sym (is_decoded_to g.S.Spec.tests i t (string_bytes c.replace_range.new.self) c.in-Some.c
    (ap (λ t. decoded g.S.Spec.tests (octets (drop i t))) (sym c.as_bytes.ensures.value) ∙ sym c.spelled_at.ensures ∙ c.in-Some.is)
    (c.in_ok-replace_range-in-Some.ensures.bytes
    ∙ append_assoc (take i t) c.encode_utf8.result.now (drop (i + 3 * c.len_utf8.result) t)
    ∙ ap (λ z. take i t ++ (z ++ drop (i + 3 * c.len_utf8.result) t)) c.encode_utf8.ensures.value
    ∙ ap (λ n. take i t ++ (encode_utf8 c.in-Some.c ++ drop (i + 3 * n) t)) c.len_utf8.ensures.value))

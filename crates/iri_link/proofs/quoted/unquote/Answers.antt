use Rattle.iri_link.proofs.Common.{true, ◌≡◌, ℕ, ◌∷◌, ◌++◌, List, [], Some, None, sym, ◌∙◌, ap, arith, length, append_assoc, rules}
use Rattle.iri_link.proofs.Common.{string_bytes, append-nil, now_of, before, after, unquoted, unquoted_from}
use Rattle.iri_link.proofs.QuotedLemmas.{after_pair, unquoted-chunk, after_pair-plain, after-shorter}
use Rattle.iri_link.proofs.quoted.unquote.Goals as goal

-- the last chunk
last_chunk : (v rest raw chunk w : List ℕ) → v ++ unquoted rest ≡ raw → chunk ≡ before 92 rest → None ≡ after 92 rest → w ≡ v ++ chunk → w ≡ raw
last_chunk v rest raw chunk w same e n k =
    let whole : unquoted rest ≡ chunk = unquoted-chunk rest ∙ (ap (λ o. before 92 rest ++ after_pair o) (sym n) ∙ (append-nil (before 92 rest) ∙ sym e)) in
    k ∙ (ap (λ x. v ++ x) (sym whole) ∙ same)

-- a chunk, and what stands after its `\`
chunk_on : (v rest raw chunk w b : List ℕ) → v ++ unquoted rest ≡ raw → chunk ≡ before 92 rest → Some b ≡ after 92 rest → w ≡ v ++ chunk → w ++ unquoted_from true b ≡ raw
chunk_on v rest raw chunk w b same e n k =
    let whole : unquoted rest ≡ chunk ++ unquoted_from true b = unquoted-chunk rest ∙ (ap (λ o. before 92 rest ++ after_pair o) (sym n) ∙ ap (λ x. x ++ unquoted_from true b) (sym e)) in
    ap (λ x. x ++ unquoted_from true b) k ∙ (append_assoc v chunk (unquoted_from true b) ∙ (ap (λ x. v ++ x) (sym whole) ∙ same))

-- a `\` that stands after another stays
pair_on : (w raw b r v : List ℕ) → w ++ unquoted_from true b ≡ raw → b ≡ 92 ∷ r → v ≡ w ++ (92 ∷ []) → v ++ unquoted r ≡ raw
unfolding unquoted_from
pair_on w raw b r v same e k = ap (λ x. x ++ unquoted r) k ∙ (append_assoc w (92 ∷ []) (unquoted r) ∙ (sym (ap (λ x. w ++ unquoted_from true x) e) ∙ same))

pub returns-in_default : goal.returns-in_default
returns-in_default c =
    last_chunk _ c.chunks.rest.now (unquoted c.args.raw.now) _ _ c.chunks.invariant.same c.cut.ensures.before (sym (ap now_of c.in_default.is) ∙ c.cut.ensures.after) (c.in_ok-push_str.ensures.bytes)

pub chunks-smaller-in-Some-past : goal.chunks-smaller-in-Some-past
chunks-smaller-in-Some-past c =
    let h : Some c.in-Some.after.now ≡ after 92 c.chunks.rest.now = sym (ap now_of c.in-Some.is) ∙ c.cut.ensures.after in
    omega (arith, after-shorter 92 c.chunks.rest.now c.in-Some.after.now h, ap length c.in-Some-past.ensures)

pub chunks-preserved-in-Some-past : goal.chunks-preserved-in-Some-past
chunks-preserved-in-Some-past c =
    let h : Some c.in-Some.after.now ≡ after 92 c.chunks.rest.now = sym (ap now_of c.in-Some.is) ∙ c.cut.ensures.after in
    let one = chunk_on _ c.chunks.rest.now (unquoted c.args.raw.now) _ _ c.in-Some.after.now c.chunks.invariant.same c.cut.ensures.before h c.in_ok-push_str.ensures.bytes in
    record { utf8 = search rules; same = pair_on _ (unquoted c.args.raw.now) c.in-Some.after.now c.in-Some-past.next.now _ one c.in-Some-past.ensures c.in_ok-push_str-in-Some-past.ensures.bytes }

pub chunks-smaller : goal.chunks-smaller
chunks-smaller c =
    let h : Some c.in-Some.after.now ≡ after 92 c.chunks.rest.now = sym (ap now_of c.in-Some.is) ∙ c.cut.ensures.after in
    omega (arith, after-shorter 92 c.chunks.rest.now c.in-Some.after.now h)

pub chunks-preserved : goal.chunks-preserved
chunks-preserved c =
    let h : Some c.in-Some.after.now ≡ after 92 c.chunks.rest.now = sym (ap now_of c.in-Some.is) ∙ c.cut.ensures.after in
    let one = chunk_on _ c.chunks.rest.now (unquoted c.args.raw.now) _ _ c.in-Some.after.now c.chunks.invariant.same c.cut.ensures.before h c.in_ok-push_str.ensures.bytes in
    let p = after_pair-plain c.in-Some.after.now c.in-None.ensures in
    record { utf8 = search rules; same = ap (λ x. string_bytes c.push_str.new.self ++ x) (sym p) ∙ one }

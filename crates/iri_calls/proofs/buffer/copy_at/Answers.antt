use Rattle.iri_calls.proofs.Common.{arith, sym, ◌≡◌, ◌<◌, ◌≤◌, ◌∙◌, ap, take, drop, ◌++◌, ◌+◌, ◌-◌, ℕ, List, length, common_steps, over_at}
use Rattle.iri_calls.specs.inside.PlacedLaws.{over_at-past, over_at-mid}
use Rattle.iri_calls.proofs.buffer.copy_at.Goals as goal

-- so many bytes of the text, put in at a place
put : (n m k : ℕ) (t new buf : List ℕ) → new ≡ take k t → m ≡ k → n + k ≤ length buf → k ≤ length t → (k < length t → length buf ≤ n + k)
    → take n buf ++ (new ++ drop m (drop n buf)) ≡ over_at n t buf
put n m k t new buf e w h i j =
    ap (λ y. take n buf ++ (y ++ drop m (drop n buf))) e
    ∙ ap (λ x. take n buf ++ (take k t ++ drop x (drop n buf))) w
    ∙ over_at-mid n k t buf h i j

pub returns-then-at-buf : goal.returns-then-at-buf
returns-then-at-buf c = sym (over_at-past c.args.at c.args.bytes.now c.args.buf.now (omega arith))

pub returns-then-bytes-room : goal.returns-then-bytes-room
returns-then-bytes-room c =
    let t = c.args.bytes.now in
    let piece : c.copy_from_slice.new.self ≡ take (length t) t = grind (arith, common_steps) in
    put c.args.at ((c.args.at + length t) - c.args.at) (length t) t c.copy_from_slice.new.self c.args.buf.now piece (omega arith)
    (omega arith) (omega arith) (λ l. omega (arith, l))

pub returns-else-bytes-room : goal.returns-else-bytes-room
returns-else-bytes-room c =
    let t = c.args.bytes.now in
    let k = length c.args.buf.now - c.args.at in
    let piece : c.copy_from_slice-else-bytes-room.new.self ≡ take k t = grind (arith, common_steps) in
    put c.args.at k k t c.copy_from_slice-else-bytes-room.new.self c.args.buf.now piece (omega arith)
    (omega arith) (omega arith) (λ l. omega (arith, l))

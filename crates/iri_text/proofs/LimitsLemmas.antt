-- The limit that is passed first.
use Rattle.iri_text.proofs.Common.{append-nil, nat_tests, NoLf, LineTooLong, InputTooLong}
use Rattle.std.proofs.Common.{◌≡◌, ◌≢◌, ℕ, ◌+◌, ◌<◌, ◌≤◌, List, [], ◌∷◌, ◌++◌, length, None, Some, sym, ◌∙◌, ap, arith, add-zero}
use Rattle.iri_text.specs.Limits.{limit_fault}

module _ (line input : ℕ) where
  -- one byte of a line
  step : (place len b : ℕ) (bs : List ℕ) → b ≢ 10 → place < input → len < line
      → limit_fault line input place len (b ∷ bs) ≡ limit_fault line input (place + 1) (len + 1) bs
  step place len b bs h i l = grind (arith, nat_tests)

  -- the bytes of a line
  pub along : (place len : ℕ) (raw rest : List ℕ) → NoLf raw → len + length raw ≤ line → place + length raw ≤ input
      → limit_fault line input place len (raw ++ rest) ≡ limit_fault line input (place + length raw) (len + length raw) rest
  along place len [] rest n l i = ap (λ (p : ℕ). limit_fault line input p len rest) (sym (add-zero place))
      ∙ ap (λ (k : ℕ). limit_fault line input (place + 0) k rest) (sym (add-zero len))
  along place len (b ∷ raw) rest n l i =
      let there : (place + 1) + length raw ≡ place + length (b ∷ raw) = omega arith in
      let long : (len + 1) + length raw ≡ len + length (b ∷ raw) = omega arith in
      step place len b (raw ++ rest) n.0 (omega arith) (omega arith)
      ∙ along (place + 1) (len + 1) raw rest n.1 (omega arith) (omega arith)
      ∙ ap (λ (p : ℕ). limit_fault line input p ((len + 1) + length raw) rest) there
      ∙ ap (λ (k : ℕ). limit_fault line input (place + length (b ∷ raw)) k rest) long

  -- a line that an LF ends
  pub none-lf : (place : ℕ) (raw rest : List ℕ) → NoLf raw → length raw ≤ line → place + length raw < input
      → limit_fault line input place 0 (raw ++ 10 ∷ rest) ≡ None
  none-lf place raw rest n l i = along place 0 raw (10 ∷ rest) n (omega arith) (omega arith) ∙ lf
    where
      lf : limit_fault line input (place + length raw) (0 + length raw) (10 ∷ rest) ≡ None
      lf = grind (arith, nat_tests)

  -- a line so far
  pub none : (place : ℕ) (raw : List ℕ) → NoLf raw → length raw ≤ line → place + length raw ≤ input
      → limit_fault line input place 0 raw ≡ None
  none place raw n l i = ap (limit_fault line input place 0) (sym (append-nil raw)) ∙ along place 0 raw [] n (omega arith) i

  -- a line that is too long
  pub long : (place len : ℕ) (prefix rest : List ℕ) → NoLf prefix → len ≤ line → len + length prefix ≡ line + 1 → place + length prefix ≤ input
      → limit_fault line input place len (prefix ++ rest) ≡ Some LineTooLong
  long place len [] rest n k l i = absurd (omega (arith, k, l))
  long place len (b ∷ []) rest n k l i = let h = n.0 in grind (arith, nat_tests)
  long place len (b ∷ c ∷ prefix) rest n k l i =
      step place len b (c ∷ prefix ++ rest) n.0 (omega arith) (omega arith)
      ∙ long (place + 1) (len + 1) (c ∷ prefix) rest n.1 (omega arith) (omega arith) (omega arith)

  -- an input that is too long
  pub over : (place last : ℕ) (prefix rest : List ℕ) → NoLf prefix → length prefix ≤ line → place + length prefix ≡ input
      → limit_fault line input place 0 (prefix ++ last ∷ rest) ≡ Some InputTooLong
  over place last prefix rest n l i = along place 0 prefix (last ∷ rest) n (omega arith) (omega arith) ∙ stop
    where
      stop : limit_fault line input (place + length prefix) (0 + length prefix) (last ∷ rest) ≡ Some InputTooLong
      stop = grind (arith, nat_tests)

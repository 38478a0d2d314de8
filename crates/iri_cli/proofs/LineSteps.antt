-- How limits and lines go over the bytes of one line.
use Rattle.iri_cli.proofs.Common.{◌≡◌, ◌≢◌, ℕ, ◌+◌, ◌<◌, ◌≤◌, List, [], ◌∷◌, ◌++◌, length}
use Rattle.iri_cli.proofs.Common.{None, Some, sym, ◌∙◌, ap, arith, append-nil, nat_tests, NoLf, Rules, Passed, passed_from}
use Rattle.std.proofs.Common.{add-zero}

module _ (rules : Rules) where
  step : (place len b : ℕ) (y : List ℕ) → b ≢ 10 → place < rules.input_limit → len < rules.line_limit
      → passed_from rules place len (b ∷ y) ≡ passed_from rules (place + 1) (len + 1) y
  step place len b y h i l = grind (arith, nat_tests)

  at_lf : (place len : ℕ) (y : List ℕ) → place < rules.input_limit
      → passed_from rules place len (10 ∷ y) ≡ passed_from rules (place + 1) 0 y
  at_lf place len y i = grind (arith, nat_tests)

  at_long : (place len b : ℕ) (y : List ℕ) → b ≢ 10 → place < rules.input_limit → rules.line_limit ≤ len
      → passed_from rules place len (b ∷ y) ≡ Some (record { status = 7; place = place })
  at_long place len b y h i l = grind (arith, nat_tests)

  at_over : (place len b : ℕ) (y : List ℕ) → rules.input_limit ≤ place
      → passed_from rules place len (b ∷ y) ≡ Some (record { status = 8; place = place })
  at_over place len b y i = grind (arith, nat_tests)

  -- the bytes of a line
  pub along : (place len : ℕ) (raw y : List ℕ) → NoLf raw → len + length raw ≤ rules.line_limit → place + length raw ≤ rules.input_limit
      → passed_from rules place len (raw ++ y) ≡ passed_from rules (place + length raw) (len + length raw) y
  along place len [] y n l i = ap (λ (p : ℕ). passed_from rules p len y) (sym (add-zero place))
      ∙ ap (λ (k : ℕ). passed_from rules (place + 0) k y) (sym (add-zero len))
  along place len (b ∷ raw) y n l i =
      let there : (place + 1) + length raw ≡ place + length (b ∷ raw) = omega arith in
      let long : (len + 1) + length raw ≡ len + length (b ∷ raw) = omega arith in
      step place len b (raw ++ y) n.0 (omega arith) (omega arith)
      ∙ along (place + 1) (len + 1) raw y n.1 (omega arith) (omega arith)
      ∙ ap (λ (p : ℕ). passed_from rules p ((len + 1) + length raw) y) there
      ∙ ap (λ (k : ℕ). passed_from rules (place + length (b ∷ raw)) k y) long

  -- a line that an LF ends
  pub past_line : (place : ℕ) (raw y : List ℕ) → NoLf raw → length raw ≤ rules.line_limit → place + length raw < rules.input_limit
      → passed_from rules place 0 (raw ++ 10 ∷ y) ≡ passed_from rules (place + length raw + 1) 0 y
  past_line place raw y n l i = along place 0 raw (10 ∷ y) n (omega arith) (omega arith) ∙ at_lf (place + length raw) (0 + length raw) y i

  -- bytes with no LF, within the limits
  pub past_bytes : (place : ℕ) (raw : List ℕ) → NoLf raw → length raw ≤ rules.line_limit → place + length raw ≤ rules.input_limit
      → passed_from rules place 0 raw ≡ None
  past_bytes place raw n l i = ap (passed_from rules place 0) (sym (append-nil raw)) ∙ along place 0 raw [] n (omega arith) i

  -- a line that is too long
  pub past_long : (place b : ℕ) (raw y : List ℕ) → NoLf raw → b ≢ 10 → length raw ≡ rules.line_limit
      → place + length raw < rules.input_limit
      → passed_from rules place 0 (raw ++ b ∷ y) ≡ Some (record { status = 7; place = place + length raw })
  past_long place b raw y n h l i = along place 0 raw (b ∷ y) n (omega arith) (omega arith)
      ∙ at_long (place + length raw) (0 + length raw) b y h i (omega arith)

  -- an input that is too long
  pub past_over : (place b : ℕ) (raw y : List ℕ) → NoLf raw → length raw ≤ rules.line_limit → place + length raw ≡ rules.input_limit
      → passed_from rules place 0 (raw ++ b ∷ y) ≡ Some (record { status = 8; place = place + length raw })
  past_over place b raw y n l i = along place 0 raw (b ∷ y) n (omega arith) (omega arith)
      ∙ at_over (place + length raw) (0 + length raw) b y (omega arith)

  -- a limit is passed after the bytes that stand before
  pub place_later : (place len : ℕ) (y : List ℕ) (p : Passed) → passed_from rules place len y ≡ Some p → place ≤ p.place
  place_later place len [] p is = absurd (cc is)
  place_later place len (b ∷ y) p is =
      let lf = place_later (place + 1) 0 y p in
      let on = place_later (place + 1) (len + 1) y p in
      grind (arith, nat_tests, lf, on)

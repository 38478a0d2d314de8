use Rattle.iri_template.proofs.Common.{◌≡◌, ℕ, List, ◌+◌, ◌++◌, length, IsUtf8, chars, chars_rest}
use Rattle.iri_template.proofs.encoded_value.cut_chars.Given as goal

-- the text is some characters and the rest
pub record IsPast (t rest : List ℕ) (most left : ℕ) : Type 0 where
  pub past : List ℕ
  pub whole : t ≡ past ++ rest
  pub utf8 : IsUtf8 rest
  pub count : length (chars t) + left ≡ most + length (chars rest)

abbrev pub invariant-chars : goal.invariant-chars
invariant-chars l = record {
  can : (goal.iterator-chars).can_next l.chars;
  ends : (goal.iterator-chars).is_finite l.chars;
  far : IsPast l.text (chars_rest l.chars) l.most l.left;
}

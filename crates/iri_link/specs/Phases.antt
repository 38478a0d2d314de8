-- Where a reading of a field value stands, byte by byte (RFC 8288 section 3).
use Rattle.std.specs.Prelude.{ℕ, Bool, cond, ◌||◌, ◌==◌}
use Rattle.iri_grammar.specs.Characters.{comma, equals_sign, semicolon}
use Rattle.iri_link.specs.Characters.{backslash, greater_than_sign, less_than_sign, quotation_mark}
use Rattle.iri_grammar.specs.Blanks.{is_blank}
use Rattle.iri_link.specs.Token.{is_token_char}

-- a pair is a `\` and what stands after it, in a quoted string
pub data Phase : Type 0 where
  before_link : Phase
  in_target : Phase
  -- after a target or a parameter
  after_param : Phase
  after_semicolon : Phase
  in_name : Phase
  -- after a name and blanks
  after_name : Phase
  after_equals : Phase
  -- within a value that is a token
  in_token : Phase
  -- within a value that is a quoted string
  in_quoted : Phase
  in_pair : Phase

-- after a target or a parameter, and this byte
abbrev pub after_param_next : ℕ → Phase
after_param_next c = cond (c == semicolon) after_semicolon (cond (c == comma) before_link after_param)

-- after a name, and this byte
abbrev pub after_name_next : ℕ → Phase
after_name_next c =
    cond (c == equals_sign) after_equals (cond (c == semicolon) after_semicolon (cond (c == comma) before_link after_name))

-- where the reading stands after a byte that may stand there
abbrev pub next : Phase → ℕ → Phase
next before_link c = cond (c == less_than_sign) in_target before_link
next in_target c = cond (c == greater_than_sign) after_param in_target
next after_param c = after_param_next c
next after_semicolon c = cond (is_token_char c) in_name (cond (c == comma) before_link after_semicolon)
next in_name c = cond (is_token_char c) in_name (after_name_next c)
next after_name c = after_name_next c
next after_equals c = cond (is_token_char c) in_token (cond (c == quotation_mark) in_quoted after_equals)
next in_token c = cond (is_token_char c) in_token (after_param_next c)
next in_quoted c = cond (c == quotation_mark) after_param (cond (c == backslash) in_pair in_quoted)
next in_pair c = in_quoted

-- what may stand after a parameter: a blank, or what ends the parameter
abbrev pub may_follow : ℕ → Bool
may_follow c = is_blank c || (c == semicolon || c == comma)

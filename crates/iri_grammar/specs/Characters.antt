-- Characters by their codes (RFC 3986 section 2, RFC 6570 section 2).
use Rattle.std.specs.Prelude.{ℕ}

abbrev pub slash : ℕ
slash = 47

abbrev pub colon : ℕ
colon = 58

abbrev pub question_mark : ℕ
question_mark = 63

abbrev pub number_sign : ℕ
number_sign = 35

abbrev pub at_sign : ℕ
at_sign = 64

abbrev pub percent_sign : ℕ
percent_sign = 37

abbrev pub dot : ℕ
dot = 46

abbrev pub left_bracket : ℕ
left_bracket = 91

abbrev pub right_bracket : ℕ
right_bracket = 93

abbrev pub left_brace : ℕ
left_brace = 123

abbrev pub right_brace : ℕ
right_brace = 125

abbrev pub comma : ℕ
comma = 44

abbrev pub asterisk : ℕ
asterisk = 42

abbrev pub plus_sign : ℕ
plus_sign = 43

abbrev pub equals_sign : ℕ
equals_sign = 61

abbrev pub exclamation_mark : ℕ
exclamation_mark = 33

abbrev pub vertical_bar : ℕ
vertical_bar = 124

abbrev pub semicolon : ℕ
semicolon = 59

abbrev pub ampersand : ℕ
ampersand = 38

abbrev pub underscore : ℕ
underscore = 95

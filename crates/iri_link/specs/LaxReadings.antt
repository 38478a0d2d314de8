-- The link-values in a text, read laxly: by the steps of RFC 8288 appendix B.2 to B.4, byte by byte from the right. What those
-- leave open follows section 3, so that by a law whatever the strict reading takes is read alike.
use Rattle.std.specs.Prelude.{ℕ, Bool, true, cond, not, ◌&&◌, ◌==◌, ◌||◌, List, [], ◌∷◌, Option, Some, None, filter, is_none, map}
use Rattle.std.specs.List.{list_all}
use Rattle.std.specs.Str.{str_to_ascii_lowercase}
use Rattle.iri_grammar.specs.Blanks.{is_blank}
use Rattle.iri_grammar.specs.Characters.{comma, equals_sign, semicolon}
use Rattle.iri_grammar.specs.Classes.{Tests}
use Rattle.iri_grammar.specs.Cut.{lacks}
use Rattle.iri_grammar.specs.Parts.{is_empty}
use Rattle.iri_grammar.specs.WholeFault.{reference_fault}
use Rattle.iri_link.specs.Characters.{backslash, greater_than_sign, less_than_sign, quotation_mark}
use Rattle.iri_link.specs.Field.{LinkParam, LinkValue}
use Rattle.iri_link.specs.Phases.{Phase, before_link, in_target, after_param, after_semicolon, in_name, after_name, after_equals}
use Rattle.iri_link.specs.Phases.{in_token, in_quoted, next}
use Rattle.iri_link.specs.Readings.{Reading, after, more, name_end, of_links, of_params}
use Rattle.iri_link.specs.Token.{is_pair_char, is_token}

-- Where the reading stands: as in the strict one, where `in_token` is within a value that is no quoted string; or in what is passed
-- over up to a comma outside quotes, within a quoted string there, or after a `\` in that.
pub data LaxPhase : Type 0 where
  reads : Phase → LaxPhase
  passed : LaxPhase
  passed_quoted : LaxPhase
  passed_pair : LaxPhase

-- B.3 step 5: a name ends at a blank, `=`, `;` or `,`, and step 7.4: a value that is no quoted string at `;` or `,`
abbrev pub is_value_char : ℕ → Bool
is_value_char c = not (c == semicolon || c == comma)

abbrev pub is_name_char : ℕ → Bool
is_name_char c = not (is_blank c || c == equals_sign) && is_value_char c

-- B.2 step 2.2 and B.3 step 2: what is no link-value, nor a parameter after one, is passed over up to a comma outside quotes, which
-- this byte may be
abbrev pub passing : ℕ → LaxPhase
passing c = cond (c == comma) (reads before_link) (cond (c == quotation_mark) passed_quoted passed)

-- after a target or a quoted string, or after a `;`, and this byte
abbrev pub lax_param_next : ℕ → LaxPhase
lax_param_next c = cond (c == semicolon) (reads after_semicolon) (passing c)

-- after a name, and this byte
abbrev pub lax_name_next : ℕ → LaxPhase
lax_name_next c = cond (is_blank c) (reads after_name) (cond (c == equals_sign) (reads after_equals) (lax_param_next c))

-- in a value that is no quoted string, and this byte
abbrev pub lax_value_next : ℕ → LaxPhase
lax_value_next c = cond (is_value_char c) (reads in_token) (lax_param_next c)

abbrev pub lax_next : LaxPhase → ℕ → LaxPhase
lax_next (reads before_link) c = cond (is_blank c) (reads before_link) (cond (c == less_than_sign) (reads in_target) (passing c))
lax_next (reads after_param) c = cond (is_blank c) (reads after_param) (lax_param_next c)
lax_next (reads after_semicolon) c = cond (is_blank c) (reads after_semicolon) (cond (is_name_char c) (reads in_name) (lax_name_next c))
lax_next (reads in_name) c = cond (is_name_char c) (reads in_name) (lax_name_next c)
lax_next (reads after_name) c = lax_name_next c
lax_next (reads after_equals) c = cond (is_blank c) (reads after_equals) (cond (c == quotation_mark) (reads in_quoted) (lax_value_next c))
lax_next (reads in_token) c = lax_value_next c
lax_next (reads p) c = reads (next p c)
lax_next passed c = passing c
lax_next passed_quoted c = cond (c == quotation_mark) passed (cond (c == backslash) passed_pair passed_quoted)
lax_next passed_pair c = passed_quoted

-- B.2 steps 3 to 7: a target, after whose `<` cs stands, and its parameters; nothing where no `>` follows
abbrev pub lax_link : List ℕ → Reading → List LinkValue
lax_link cs r = cond (lacks greater_than_sign cs) [] (record { target = r.text; params = r.params } ∷ r.links)

-- B.3 steps 5 to 10: a parameter that begins with this byte. Its name is put into lower case; a value isn't decoded where the name ends
-- with `*`, and there is none where no `=` follows
abbrev pub lax_param : ℕ → Reading → Reading
lax_param c r = of_params (record { name = str_to_ascii_lowercase (c ∷ r.text); value = r.value } ∷ r.params) r.links

-- B.3 step 7.4: a byte of a value that is no quoted string; blanks at its end go
abbrev pub lax_value : ℕ → Reading → Reading
lax_value c r = cond (is_value_char c && not (is_blank c && is_empty r.text)) (more c r) r

-- what a byte gives, before cs, by what cs gives. A value after `=` without a name gives nothing; a quoted string that isn't closed
-- goes to the end (B.4)
abbrev pub lax_after : LaxPhase → ℕ → List ℕ → Reading → Reading
lax_after (reads before_link) c cs r = cond (c == less_than_sign) (of_links (lax_link cs r)) r
lax_after (reads after_semicolon) c cs r = cond (is_name_char c) (lax_param c r) (cond (c == equals_sign) (of_params r.params r.links) r)
lax_after (reads in_name) c cs r = cond (is_name_char c) (more c r) (name_end c r)
lax_after (reads after_equals) c cs r = cond (is_blank c || c == quotation_mark) r (lax_value c r)
lax_after (reads in_token) c cs r = lax_value c r
lax_after (reads p) c cs r = after p c r
lax_after passed c cs r = r
lax_after passed_quoted c cs r = r
lax_after passed_pair c cs r = r

unfoldable pub lax_reading : LaxPhase → List ℕ → Reading
lax_reading p [] = of_links []
lax_reading p (c ∷ cs) = lax_after p c cs (lax_reading (lax_next p c) cs)

-- Of the parameters those stay that section 3 can write: whose name is a token, and whose value has no control character but tabs.
abbrev pub is_writable_value : Option (List ℕ) → Bool
is_writable_value None = true
is_writable_value (Some v) = list_all is_pair_char v

abbrev pub is_writable : LinkParam → Bool
is_writable p = is_token p.name && is_writable_value p.value

abbrev pub with_writable : LinkValue → LinkValue
with_writable l = record { target = l.target; params = filter is_writable l.params }

-- a link-value whose target is no `URI-Reference` is passed over, with its parameters
abbrev pub has_reference : Tests → LinkValue → Bool
has_reference s l = is_none (reference_fault s l.target)

-- the link-values in a text
abbrev pub lax_links_in : Tests → List ℕ → List LinkValue
lax_links_in s x = filter (has_reference s) (map with_writable (lax_reading (reads before_link) x).links)

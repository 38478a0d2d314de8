-- The link-values in a text, as a function: what a reading gives, byte by byte from the right. A law ties it to `IsField`.
use Rattle.std.specs.Prelude.{ℕ, cond, ◌==◌, ◌||◌, List, [], ◌∷◌, Option, Some, None}
use Rattle.std.specs.Str.{str_to_ascii_lowercase}
use Rattle.iri_grammar.specs.Characters.{equals_sign}
use Rattle.iri_link.specs.Characters.{backslash, greater_than_sign, less_than_sign, quotation_mark}
use Rattle.iri_link.specs.Field.{LinkParam, LinkValue}
use Rattle.iri_link.specs.Phases.{Phase, before_link, in_target, after_param, after_semicolon, in_name, after_name, after_equals}
use Rattle.iri_link.specs.Phases.{in_token, in_quoted, in_pair, next}
use Rattle.iri_link.specs.Token.{is_token_char}

-- what is left of a target, a name or a value; the value after a name; and what follows: parameters, then link-values
pub record Reading : Type 0 where
  pub text : List ℕ
  pub value : Option (List ℕ)
  pub params : List LinkParam
  pub links : List LinkValue

abbrev pub of_links : List LinkValue → Reading
of_links ls = record { text = []; value = None; params = []; links = ls }

abbrev pub of_params : List LinkParam → List LinkValue → Reading
of_params ps ls = record { text = []; value = None; params = ps; links = ls }

abbrev pub of_value : Option (List ℕ) → Reading → Reading
of_value v r = record { text = []; value = v; params = r.params; links = r.links }

-- one byte more of the text
abbrev pub more : ℕ → Reading → Reading
more c r = record { text = c ∷ r.text; value = r.value; params = r.params; links = r.links }

-- at a byte after a name
abbrev pub name_end : ℕ → Reading → Reading
name_end c r = cond (c == equals_sign) (of_value (Some r.text) r) r

-- what a byte gives, by what the text after it gives; a byte that only parts gives nothing
abbrev pub after : Phase → ℕ → Reading → Reading
after before_link c r = cond (c == less_than_sign) (of_links (record { target = r.text; params = r.params } ∷ r.links)) r
after in_target c r = cond (c == greater_than_sign) r (more c r)
after after_param c r = r
after after_semicolon c r =
    cond (is_token_char c) (of_params (record { name = str_to_ascii_lowercase (c ∷ r.text); value = r.value } ∷ r.params) r.links) r
after in_name c r = cond (is_token_char c) (more c r) (name_end c r)
after after_name c r = name_end c r
after after_equals c r = cond (is_token_char c) (more c r) r
after in_token c r = cond (is_token_char c) (more c r) r
after in_quoted c r = cond (c == quotation_mark || c == backslash) r (more c r)
after in_pair c r = more c r

unfoldable pub reading : Phase → List ℕ → Reading
reading p [] = of_links []
reading p (c ∷ cs) = after p c (reading (next p c) cs)

-- the link-values in a text: of a field value, those that it has
abbrev pub links_in : List ℕ → List LinkValue
links_in x = (reading before_link x).links

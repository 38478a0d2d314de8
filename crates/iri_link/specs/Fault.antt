-- The first fault of a field value, from the left, and its place (RFC 8288 section 3).
use Rattle.std.specs.Prelude.{ℕ, Bool, true, false, cond, ◌&&◌, ◌||◌, ◌==◌, ◌-◌, List, [], ◌∷◌, Option, Some, None, length}
use Rattle.std.specs.Str.{is_utf8}
use Rattle.std.specs.Str.Lossy.{utf8_valid_len}
use Rattle.iri_grammar.specs.Characters.{comma, equals_sign}
use Rattle.iri_grammar.specs.Classes.{Tests}
use Rattle.iri_grammar.specs.Cut.{before, lacks}
use Rattle.iri_grammar.specs.WholeFault.{reference_fault}
use Rattle.iri_grammar.specs.declared.error.ErrorKind.{ErrorKind}
use Rattle.iri_link.specs.Characters.{backslash, greater_than_sign, less_than_sign, quotation_mark}
use Rattle.iri_grammar.specs.Blanks.{is_blank}
use Rattle.iri_link.specs.Token.{is_token_char, is_plain_char, is_pair_char}
use Rattle.iri_link.specs.Phases.{Phase, before_link, in_target, after_param, after_semicolon, in_name, after_name, after_equals}
use Rattle.iri_link.specs.Phases.{in_token, in_quoted, in_pair, next, may_follow}
use Rattle.iri_link.specs.declared.error.LinkKind.{LinkKind}
use Rattle.iri_link.specs.declared.error.LinkKind.TheVariants.{NotUtf8, NoTarget, OpenTarget, BadTarget, NoParam, NoValue, OpenString}

-- a fault, and what is left of the text from its place on
pub record Fault : Type 0 where
  pub kind : LinkKind
  pub rest : List ℕ

-- the first of two
abbrev pub earlier : Option Fault → Option Fault → Option Fault
earlier None f = f
earlier (Some e) f = Some e

-- no fault where the test passes
abbrev pub unless : Bool → LinkKind → List ℕ → Option Fault
unless b k r = cond b None (Some (record { kind = k; rest = r }))

-- the fault of a target text, which stands before this rest
abbrev pub told_target : Option ErrorKind → List ℕ → Option Fault
told_target None r = None
told_target (Some k) r = Some (record { kind = BadTarget (record { kind = k }); rest = r })

-- after a `<`: a `>` must follow, and what stands before it must be a `URI-Reference`
abbrev pub target_fault : Tests → List ℕ → Option Fault
target_fault s cs =
    cond (lacks greater_than_sign cs) (Some (record { kind = OpenTarget; rest = less_than_sign ∷ cs }))
    (told_target (reference_fault s (before greater_than_sign cs)) cs)

-- after a `"`, or a `\` there: whether a quoted string ends
unfoldable pub closes_from : Bool → List ℕ → Bool
closes_from e [] = false
closes_from true (c ∷ cs) = is_pair_char c && closes_from false cs
closes_from false (c ∷ cs) =
    cond (c == quotation_mark) true (cond (c == backslash) (closes_from true cs) (is_plain_char c && closes_from false cs))

-- What is wrong with a byte c, after which cs stands. Within a target and within a quoted string nothing is: they were looked at
-- as a whole at their first byte.
abbrev pub wrong : Tests → Phase → ℕ → List ℕ → Option Fault
wrong s before_link c cs =
    cond (is_blank c || c == comma) None (cond (c == less_than_sign) (target_fault s cs) (unless false NoTarget (c ∷ cs)))
wrong s in_target c cs = None
wrong s after_param c cs = unless (may_follow c) NoParam (c ∷ cs)
wrong s after_semicolon c cs = unless (is_token_char c || may_follow c) NoParam (c ∷ cs)
wrong s in_name c cs = unless (is_token_char c || (c == equals_sign || may_follow c)) NoParam (c ∷ cs)
wrong s after_name c cs = unless (c == equals_sign || may_follow c) NoParam (c ∷ cs)
wrong s after_equals c cs =
    cond (c == quotation_mark) (unless (closes_from false cs) OpenString (c ∷ cs))
    (unless (is_token_char c || is_blank c) NoValue (c ∷ cs))
wrong s in_token c cs = unless (is_token_char c || may_follow c) NoParam (c ∷ cs)
wrong s in_quoted c cs = None
wrong s in_pair c cs = None

-- what is wrong where the text ends: a value is wanting after a `=`
abbrev pub wrong_end : Phase → Option Fault
wrong_end after_equals = Some (record { kind = NoValue; rest = [] })
wrong_end _ = None

-- the first fault of what is left, where the reading stands so
unfoldable pub fault_from : Tests → Phase → List ℕ → Option Fault
fault_from s p [] = wrong_end p
fault_from s p (c ∷ cs) = earlier (wrong s p c cs) (fault_from s (next p c) cs)

-- a kind and a place: how many bytes stand before the fault
pub record Told : Type 0 where
  pub kind : LinkKind
  pub place : ℕ

-- a fault with its place in the text
abbrev pub place_in : List ℕ → Option Fault → Option Told
place_in x None = None
place_in x (Some f) = Some (record { kind = f.kind; place = length x - length f.rest })

-- the first fault of bytes: they must be UTF-8 first, and the place is then the length of the longest prefix that is
abbrev pub field_fault : Tests → List ℕ → Option Told
field_fault s x = cond (is_utf8 x) (place_in x (fault_from s before_link x)) (Some (record { kind = NotUtf8; place = utf8_valid_len x }))

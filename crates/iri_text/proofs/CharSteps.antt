-- The characters of a text, one by one.
use Rattle.iri_text.proofs.Common.{◌≡◌, ℕ, List, ◌∷◌, ◌++◌, IsUtf8, chars, sym, ◌∙◌, ap}
use Rattle.std.specs.Char.{encode_utf8}
use Rattle.std.proofs.lemmas.Bool.{and_parts}
use Rattle.std.proofs.lemmas.Str.{chars_from_encodes, cons_from_encodes}
use lib.Utf8.{scalar, scalars}

pub record FirstChar (bs rest : List ℕ) (c : ℕ) : Type 0 where
  pub first : chars bs ≡ c ∷ chars rest
  pub utf8 : IsUtf8 rest

pub first_char : (bs rest : List ℕ) (c : ℕ) → IsUtf8 bs → bs ≡ encode_utf8 c ++ rest → FirstChar bs rest c
first_char bs rest c (cs, (ok, e)) is =
    let split = cons_from_encodes cs rest c (e ∙ is) in
    let after : IsUtf8 rest = (split.0, ((and_parts (scalar c) (scalars split.0) (ap scalars (sym split.1) ∙ ok)).1, split.2)) in
    record {
      first = sym (chars_from_encodes cs bs (cs, (ok, e)) e) ∙ split.1 ∙ ap (λ l. c ∷ l) (chars_from_encodes split.0 rest after split.2);
      utf8 = after;
    }

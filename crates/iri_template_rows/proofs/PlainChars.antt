-- A text that is put character by character.
use Rattle.std.proofs.Common.{◌≡◌, ℕ, List, [], ◌∷◌, ◌++◌, refl, ◌∙◌, ap}
use Rattle.std.specs.Str.{IsUtf8, chars}
use Rattle.std.proofs.lemmas.Str.{encodes-chars}
use lib.Utf8.{encode, encodes}
use Rattle.iri_text.specs.inside.Through.{texts}

abbrev pub no_step : Unit {0} → ℕ → Unit {0}
no_step s c = s

abbrev pub plain_text : Unit {0} → ℕ → List ℕ
plain_text s c = encode c

all_chars : (s : Unit {0}) (cs : List ℕ) → texts no_step plain_text s cs ≡ encodes cs
all_chars s [] = refl
all_chars s (c ∷ cs) = ap (λ l. encode c ++ l) (all_chars s cs)

pub plain_all : (t : List ℕ) → IsUtf8 t → texts no_step plain_text tt (chars t) ≡ t
plain_all t u = all_chars tt (chars t) ∙ encodes-chars t u

-- The value of a `Link` field: link-values parted by commas (RFC 8288 section 3, RFC 9110 section 5.6.1).
use Rattle.std.specs.Prelude.{◌≡◌, ℕ, true, List, [], ◌∷◌, ◌++◌, Option, Some, None}
use Rattle.std.specs.Str.{str_to_ascii_lowercase}
use Rattle.iri_grammar.specs.Characters.{comma, equals_sign, semicolon}
use Rattle.iri_grammar.specs.Cut.{lacks}
use Rattle.iri_link.specs.Characters.{quotation_mark, less_than_sign, greater_than_sign}
use Rattle.iri_link.specs.Token.{is_blanks, is_token, IsQuoted}

-- a `link-param`: its name in lower case, and its value where it has one
pub record LinkParam : Type 0 where
  pub name : List ℕ
  pub value : Option (List ℕ)

-- a `link-value`: its target, and its parameters in their order
pub record LinkValue : Type 0 where
  pub target : List ℕ
  pub params : List LinkParam

-- what a parameter's value is written as: a token, or a quoted string
pub data IsValue : List ℕ → List ℕ → Type 0 where
  token : (v : List ℕ) → is_token v ≡ true → IsValue v v
  quoted : (t v : List ℕ) → IsQuoted t v → IsValue (quotation_mark ∷ (t ++ quotation_mark ∷ [])) v

-- a name alone, or a name, `=` and a value, with blanks round the `=`
pub data IsParam : List ℕ → LinkParam → Type 0 where
  bare : (n : List ℕ) → is_token n ≡ true → IsParam n (record { name = str_to_ascii_lowercase n; value = None })
  valued : (n a b t v : List ℕ) → is_token n ≡ true → is_blanks a ≡ true → is_blanks b ≡ true → IsValue t v
      → IsParam (n ++ (a ++ equals_sign ∷ (b ++ t))) (record { name = str_to_ascii_lowercase n; value = Some v })

-- any number of: a `;` with blanks round it, and a parameter, which may be left out
pub data IsParams : List ℕ → List LinkParam → Type 0 where
  none : IsParams [] []
  empty : (a b t : List ℕ) (ps : List LinkParam) → is_blanks a ≡ true → is_blanks b ≡ true → IsParams t ps
      → IsParams (a ++ semicolon ∷ (b ++ t)) ps
  param : (a b p t : List ℕ) (q : LinkParam) (ps : List LinkParam) → is_blanks a ≡ true → is_blanks b ≡ true → IsParam p q → IsParams t ps
      → IsParams (a ++ semicolon ∷ (b ++ (p ++ t))) (q ∷ ps)

-- a target in angle brackets, and parameters
pub data IsLink : List ℕ → LinkValue → Type 0 where
  link : (t p : List ℕ) (ps : List LinkParam) → lacks greater_than_sign t ≡ true → IsParams p ps
      → IsLink (less_than_sign ∷ (t ++ greater_than_sign ∷ p)) (record { target = t; params = ps })

-- what stands between two commas: blanks alone, or a link-value with blanks round it
pub data IsElement : List ℕ → List LinkValue → Type 0 where
  empty : (a : List ℕ) → is_blanks a ≡ true → IsElement a []
  link : (a x b : List ℕ) (l : LinkValue) → is_blanks a ≡ true → IsLink x l → is_blanks b ≡ true → IsElement (a ++ (x ++ b)) (l ∷ [])

-- the text is a field value with these link-values
pub data IsField : List ℕ → List LinkValue → Type 0 where
  last : (x : List ℕ) (ls : List LinkValue) → IsElement x ls → IsField x ls
  more : (x y : List ℕ) (ls ms : List LinkValue) → IsElement x ls → IsField y ms → IsField (x ++ comma ∷ y) (ls ++ ms)

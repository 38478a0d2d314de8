-- Lines and the documents that they are, computed.
use Rattle.std.specs.Prelude.{◌≡◌, [], ◌∷◌, ◌++◌, codes, Ok, Err, refl}
use Rattle.iri_template.specs.ShownValues.{string, list, pairs, undefined}
use Rattle.iri_docs.specs.Documents.{line_document, value_by_name}
use Rattle.iri_docs.specs.OnLiterals.{on_literals}
use Rattle.iri_docs.specs.declared.doc_error.DocError.TheVariants.{Json, Shape, Name, Truth, Float, Nested}

-- `é` has two bytes
a_list_and_texts :
    line_document (codes "{\"template\":\"x{?q,n,l*}\",\"vars\":{\"q\":\"" ++ 195 ∷ 169 ∷ codes "\",\"n\":7,\"l\":[\"a\",\"b\"]}}")
    ≡ Ok (record {
      template = codes "x{?q,n,l*}";
      value_of = value_by_name ((codes "l", list (codes "a" ∷ codes "b" ∷ [])) ∷ (codes "n", string (codes "7"))
          ∷ (codes "q", string (195 ∷ 169 ∷ [])) ∷ []);
    })
unfolding on_literals
a_list_and_texts = refl

-- members in the order of their keys, whole numbers as texts, and a null that is no value
values_of_each_kind : line_document (codes "{\"vars\":{\"u\":null,\"o\":{\"b\":1,\"a\":\"\"},\"n\":-7,\"l\":[2]},\"template\":\"\"}")
    ≡ Ok (record {
      template = [];
      value_of = value_by_name ((codes "l", list (codes "2" ∷ [])) ∷ (codes "n", string (codes "-7"))
          ∷ (codes "o", pairs ((codes "a", []) ∷ (codes "b", codes "1") ∷ [])) ∷ (codes "u", undefined) ∷ []);
    })
unfolding on_literals
values_of_each_kind = refl

no_json : line_document (codes "{") ≡ Err Json
unfolding on_literals
no_json = refl

-- a byte that is in no UTF-8
no_utf8 : line_document (34 ∷ 255 ∷ 34 ∷ []) ≡ Err Json
unfolding on_literals
no_utf8 = refl

no_object : line_document (codes "[1]") ≡ Err Shape
unfolding on_literals
no_object = refl

another_member : line_document (codes "{\"template\":\"\",\"vars\":{\"a\":true},\"x\":1}") ≡ Err Shape
unfolding on_literals
another_member = refl

null_for_variables : line_document (codes "{\"template\":\"\",\"vars\":null}") ≡ Err Shape
unfolding on_literals
null_for_variables = refl

truth_value : line_document (codes "{\"template\":\"{v}\",\"vars\":{\"v\":true}}") ≡ Err Truth
unfolding on_literals
truth_value = refl

float_value : line_document (codes "{\"template\":\"\",\"vars\":{\"a\":1.5}}") ≡ Err Float
unfolding on_literals
float_value = refl

-- the first of the keys decides, and the name comes before the value
first_key : line_document (codes "{\"template\":\"\",\"vars\":{\"b\":true,\"a\":[[],false],\"-\":1}}") ≡ Err Name
unfolding on_literals
first_key = refl

-- so does the first inner value that is refused
first_inner : line_document (codes "{\"template\":\"\",\"vars\":{\"b\":true,\"a\":[1,null,false]}}") ≡ Err Nested
unfolding on_literals
first_inner = refl

-- the last value of a key stays
key_twice : line_document (codes "{\"template\":\"\",\"vars\":{\"a\":true,\"a\":\"\"}}")
    ≡ Ok (record { template = []; value_of = value_by_name ((codes "a", string []) ∷ []) })
unfolding on_literals
key_twice = refl

-- what is held as a float
minus_zero : line_document (codes "{\"template\":\"\",\"vars\":{\"a\":-0}}") ≡ Err Float
unfolding on_literals
minus_zero = refl

past_64_bits : line_document (codes "{\"template\":\"\",\"vars\":{\"a\":18446744073709551616}}") ≡ Err Float
unfolding on_literals
past_64_bits = refl

-- a number that is too large for a float has no reading
too_large : line_document (codes "{\"template\":\"\",\"vars\":{\"a\":1e400}}") ≡ Err Json
unfolding on_literals
too_large = refl

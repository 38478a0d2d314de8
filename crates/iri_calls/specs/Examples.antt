-- Worked examples, computed.
use Rattle.std.specs.Prelude.{◌≡◌, [], ◌∷◌, codes, refl}
use Rattle.iri_grammar.specs.Authority.{authority_parts}
use Rattle.iri_grammar.specs.Components.{is_letter, is_scheme_char}
use Rattle.iri_grammar.specs.Split.{split_of}
use Rattle.iri_template.specs.Reading.{pieces_from}
use Rattle.iri_calls.specs.Buffers.{over}
use Rattle.iri_calls.specs.Names.{name_slots}
use Rattle.iri_calls.specs.Slots.{nowhere, slots_of}

-- a text in a buffer with room, with room for exactly it, with too little and with none
written :
    (over (codes "abc") (codes ".....") ≡ codes "abc..")
    × (over (codes "abc") (codes "...") ≡ codes "abc")
    × (over (codes "abc") (codes "..") ≡ codes "ab")
    × (over (codes "abc") [] ≡ [])
unfolding over
written = (refl, refl, refl, refl)

-- the URI of RFC 3986 section 3 with a userinfo before its host
whole :
    slots_of (split_of (codes "foo://u@example.com:8042/over/there?name=ferret#nose"))
    ≡ record {
      scheme = record { offset = 0; len = 3 };
      authority = record { offset = 6; len = 18 };
      path = record { offset = 24; len = 11 };
      query = record { offset = 36; len = 11 };
      fragment = record { offset = 48; len = 4 };
      within = record {
        userinfo = record { offset = 6; len = 1 };
        host = record { offset = 8; len = 11 };
        port = record { offset = 20; len = 4 };
      };
    }
unfolding split_of authority_parts is_letter is_scheme_char
whole = refl

-- parts that are empty, and parts that don't stand
empty :
    slots_of (split_of (codes "//h:?#"))
    ≡ record {
      scheme = nowhere;
      authority = record { offset = 2; len = 2 };
      path = record { offset = 4; len = 0 };
      query = record { offset = 5; len = 0 };
      fragment = record { offset = 6; len = 0 };
      within = record { userinfo = nowhere; host = record { offset = 2; len = 1 }; port = record { offset = 4; len = 0 } };
    }
unfolding split_of authority_parts is_letter is_scheme_char
empty = refl

-- names after an operator, commas and a brace, with and without a modifier
names :
    name_slots (codes "%2F{?a,b*}{cd:12}")
    ≡ record { offset = 5; len = 1 } ∷ record { offset = 7; len = 1 } ∷ record { offset = 11; len = 2 } ∷ []
unfolding pieces_from
names = refl

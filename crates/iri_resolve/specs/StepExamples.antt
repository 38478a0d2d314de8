-- Steps, computed.
use Rattle.std.specs.Prelude.{◌≡◌, ◌++◌, [], ◌∷◌, Some, None, codes, refl}
use Rattle.std.specs.Str.{chars}
use lib.Utf8.{encode}
use Rattle.iri_grammar.specs.Classes.{uri_tests, iri_tests, unreserved, is_ascii_unreserved, is_ucschar, is_ucschar_plane}
use Rattle.iri_grammar.specs.Authority.{authority_parts, recompose_authority}
use Rattle.iri_grammar.specs.Parts.{Parts}
use Rattle.iri_percent.specs.Units.{whole_triplets, first_char}
use Rattle.iri_percent.specs.Units.{read_from}
use Rattle.iri_percent.specs.NormalHost.{is_ascii_host}
use Rattle.iri_percent.specs.SchemeRules.{default_port}
use Rattle.iri_percent.specs.Triplets.{normal}
use Rattle.iri_percent.specs.declared.canon_mode.CanonMode.TheVariants.{Default, Scheme}
use Rattle.iri_normal.specs.Dots.{is_dot_segment}
use Rattle.iri_normal.specs.DotRemoval.{dots}
use Rattle.iri_resolve.specs.Changes.{with_small_letter, with_small_host_letter, with_capital_digit, with_decoded}
use Rattle.iri_resolve.specs.NormalSteps.{authority_steps, component_steps, path_steps, plain_steps, scheme_steps, steps_of}
use Rattle.iri_resolve.specs.Steps.{step_in, replayed_in}
use Rattle.iri_resolve.specs.declared.step.Part.TheVariants.{Authority, Path, Query, Fragment}
use Rattle.iri_resolve.specs.declared.step.Step.TheVariants.{SchemeLetter, HostLetter, HexDigit, Decode, EmptyPort, Dots, DefaultPort, SlashPath}

abbrev link : Parts
link = record { scheme = Some (codes "HTTP"); authority = Some (codes "H"); path = codes "/%7e"; query = None; fragment = None }

to_normal : replayed_in uri_tests Default link (SchemeLetter 0 ∷ SchemeLetter 1 ∷ SchemeLetter 2 ∷ SchemeLetter 3 ∷ HostLetter 0 ∷ Decode Path 1 ∷ [])
    ≡ Some (record { scheme = Some (codes "http"); authority = Some (codes "h"); path = codes "/~"; query = None; fragment = None })
unfolding replayed_in step_in with_small_letter with_small_host_letter with_decoded whole_triplets is_ascii_host authority_parts
    recompose_authority first_char chars encode unreserved is_ascii_unreserved
to_normal = refl

-- there is no empty port, no dot segment, no small digit outside triplets, and no letter after the end
no_step : (step_in uri_tests Default link EmptyPort ∷ step_in uri_tests Default link Dots ∷ step_in uri_tests Default link (HexDigit Path 0)
    ∷ step_in uri_tests Default link (SchemeLetter 4) ∷ step_in uri_tests Default link (HexDigit Query 1) ∷ []) ≡ None ∷ None ∷ None ∷ None ∷ None ∷ []
unfolding step_in with_small_letter with_capital_digit whole_triplets authority_parts recompose_authority dots is_dot_segment
no_step = refl

abbrev named : Parts
named = record link { authority = Some (codes "U%3a@H%2d:") }

-- the userinfo keeps its letters, and `:` stays in its triplet
kept : (step_in uri_tests Default named (HostLetter 0) ∷ step_in uri_tests Default named (Decode Authority 1) ∷ step_in uri_tests Default named (HostLetter 8) ∷ [])
    ≡ None ∷ None ∷ None ∷ []
unfolding step_in with_small_letter with_small_host_letter with_decoded whole_triplets is_ascii_host authority_parts recompose_authority
    first_char chars encode unreserved is_ascii_unreserved
kept = refl

changed : replayed_in uri_tests Default named (HexDigit Authority 3 ∷ HostLetter 5 ∷ Decode Authority 6 ∷ EmptyPort ∷ [])
    ≡ Some (record link { authority = Some (codes "U%3A@h-") })
unfolding replayed_in step_in with_small_letter with_small_host_letter with_capital_digit with_decoded whole_triplets is_ascii_host
    authority_parts recompose_authority first_char chars encode unreserved is_ascii_unreserved
changed = refl

abbrev past_ascii : Parts
past_ascii = record link { authority = Some (codes "H%C3%89") }

-- a host past ASCII keeps its letters; a character past ASCII is decoded in an IRI, not in a URI
past : (step_in iri_tests Default past_ascii (HostLetter 0) ∷ step_in iri_tests Default past_ascii (Decode Authority 1)
    ∷ step_in uri_tests Default past_ascii (Decode Authority 1) ∷ step_in iri_tests Default past_ascii (Decode Authority 4) ∷ [])
    ≡ None ∷ Some (record link { authority = Some (codes "H" ++ encode 0xC9) }) ∷ None ∷ None ∷ []
unfolding step_in with_small_letter with_small_host_letter with_decoded whole_triplets is_ascii_host authority_parts recompose_authority
    first_char chars encode unreserved is_ascii_unreserved is_ucschar is_ucschar_plane
past = refl

abbrev without_authority : Parts
without_authority = record {
  scheme = Some (codes "foo");
  authority = None;
  path = codes "/..//b";
  query = Some (codes "%aB");
  fragment = Some (codes "a%b");
}

-- the guard is put once; a digit inside a triplet is not that of another text
guarded : replayed_in uri_tests Default without_authority (Dots ∷ HexDigit Query 1 ∷ [])
    ≡ Some (record without_authority { path = codes "/.//b"; query = Some (codes "%AB") })
unfolding replayed_in step_in with_capital_digit whole_triplets dots is_dot_segment
guarded = refl

guarded_once : replayed_in uri_tests Default without_authority (Dots ∷ Dots ∷ []) ≡ None
unfolding replayed_in step_in dots is_dot_segment
guarded_once = refl

-- steps by scheme rules, which are none otherwise
abbrev bare : Parts
bare = record { scheme = Some (codes "HTTP"); authority = Some (codes "a:80"); path = []; query = None; fragment = None }

by_scheme : replayed_in uri_tests Scheme bare (DefaultPort ∷ SlashPath ∷ [])
    ≡ Some (record { scheme = Some (codes "HTTP"); authority = Some (codes "a"); path = codes "/"; query = None; fragment = None })
unfolding replayed_in step_in default_port authority_parts recompose_authority
by_scheme = refl

in_one_mode : (step_in uri_tests Default bare DefaultPort ∷ step_in uri_tests Default bare SlashPath ∷ []) ≡ None ∷ None ∷ []
unfolding step_in authority_parts recompose_authority
in_one_mode = refl

-- the list from left to right: a place counts the bytes of the normal form before it, and the dot segments go after the triplets
abbrev long_way : Parts
long_way = record {
  scheme = Some (codes "Ws");
  authority = Some (codes "%41@X%2d:80");
  path = codes "/%7e/%2e";
  query = None;
  fragment = Some (codes "%aa");
}

list : steps_of uri_tests Scheme long_way ≡ SchemeLetter 0 ∷ Decode Authority 0 ∷ HostLetter 2 ∷ Decode Authority 3 ∷ Decode Path 1
    ∷ Decode Path 3 ∷ Dots ∷ HexDigit Fragment 1 ∷ HexDigit Fragment 2 ∷ DefaultPort ∷ []
unfolding steps_of plain_steps scheme_steps authority_steps path_steps component_steps normal read_from is_ascii_host authority_parts
    default_port dots is_dot_segment first_char chars encode unreserved is_ascii_unreserved
list = refl

-- by the rules of every scheme the default port stays, and an empty path too
abbrev kept_port : Parts
kept_port = record { scheme = Some (codes "ws"); authority = Some (codes "x:80"); path = []; query = None; fragment = None }

no_list : steps_of uri_tests Default kept_port ≡ []
unfolding steps_of plain_steps scheme_steps authority_steps path_steps component_steps normal read_from is_ascii_host authority_parts
    dots is_dot_segment
no_list = refl

-- References that end their canonical text as they stand.
use Rattle.std.specs.Prelude.{◌≡◌, ℕ, ◌≤◌, Bool, true, false, cond, not, ◌&&◌, ◌||◌, List, [], ◌++◌, Some, is_some, length}
use Rattle.std.specs.Str.{IsAscii}
use Rattle.iri_grammar.specs.Characters.{percent_sign, question_mark}
use Rattle.iri_grammar.specs.Classes.{Tests}
use Rattle.iri_grammar.specs.Components.{if_there}
use Rattle.iri_grammar.specs.Cut.{delimited, lacks}
use Rattle.iri_grammar.specs.Parts.{Parts, starts_with_slashes}
use Rattle.iri_normal.specs.Dots.{has_dot_segment}
use Rattle.iri_grammar.specs.Split.{split_of}
use Rattle.iri_percent.specs.Triplets.{pct}
use Rattle.iri_percent.specs.Units.{whole_triplets}
use Rattle.iri_normal.specs.NormalForm.{lowered, canonical}
use Rattle.iri_normal.specs.Prefix.{IsPrefix, prefix_in}
use Rattle.iri_normal.specs.Target.{ends_at_slash, target}

-- the text has no triplet, and the path no dot segment
abbrev pub lacks_triplets_and_dots : List ℕ → List ℕ → Bool
lacks_triplets_and_dots text path = lacks percent_sign text && not (has_dot_segment path)

-- no triplet stands after the authority
abbrev pub LacksTriplets : Parts → Type 0
LacksTriplets r = (lacks percent_sign r.path ≡ true) × (if_there (lacks percent_sign) r.query ≡ true)
    × (if_there (lacks percent_sign) r.fragment ≡ true)

-- scheme and authority are in normal form as they stand, and have no triplet
abbrev pub KeepsPrefix : Tests → Parts → Type 0
KeepsPrefix s r = (prefix_in s true r ≡ prefix_in s false r) × (lacks percent_sign (prefix_in s false r) ≡ true)

-- beside its authority the base puts a path before relative ones that stays as it is
abbrev pub is_plain_prefix : Parts → List ℕ → Bool
is_plain_prefix base directory = is_some base.authority && lacks_triplets_and_dots directory directory

-- of a reference without dot segments, the target's text in normal form is its own after these two, but for triplets: the prefix and the
-- path of the base, or nothing; and its own prefix is `own` in that form
pub record StandBefore (s : Tests) (base reference : Parts) (prefix directory own : List ℕ) : Type 0 where
  pub path : (target base reference).path ≡ directory ++ reference.path
  pub query : (target base reference).query ≡ reference.query
  pub fragment : (target base reference).fragment ≡ reference.fragment
  pub plain : lacks_triplets_and_dots directory directory ≡ true
  pub ends : ends_at_slash directory ≡ true
  pub unguarded : (is_some (target base reference).authority || not (starts_with_slashes (directory ++ reference.path))) ≡ true
  pub text : prefix_in s true (target base reference) ++ directory ≡ prefix ++ (directory ++ own)
  pub percent : lacks percent_sign (prefix_in s false reference) ≡ true

-- the canonical text is that of the reference after these two, with its triplets in normal form
pub record EndsCanonical (s : Tests) (base reference prefix directory : List ℕ) : Type 0 where
  pub text : canonical s base reference ≡ prefix ++ (directory ++ pct s reference)
  pub whole : whole_triplets reference ≡ true
  pub bare : LacksTriplets (split_of reference) → lacks percent_sign reference ≡ true

-- so it is of any reference with these parts and no dot segment
abbrev pub EndsParts : Tests → List ℕ → Parts → List ℕ → List ℕ → Type 0
EndsParts s base r prefix directory = (t : List ℕ) → split_of t ≡ r → has_dot_segment r.path ≡ false → EndsCanonical s base t prefix directory

-- before the query of a reference, or where it has none before its fragment, the base puts what stays as it is: its prefix, and its path
-- with the query that the reference takes
pub record PutsPath (s : Tests) (base : Parts) (has_query : Bool) (prefix directory : List ℕ) : Type 0 where
  pub prefix_stays : IsPrefix s base (Some prefix)
  pub path_stays : is_plain_prefix base base.path ≡ true
  pub query_stays : has_query ≡ false → if_there (lacks percent_sign) base.query ≡ true
  pub text : directory ≡ base.path ++ cond has_query [] (delimited question_mark base.query)

-- the canonical text, against any base, is the first piece of the reference in lower case, and the second with its triplets in normal form
pub record IsLowered (s : Tests) (reference first second : List ℕ) : Type 0 where
  pub text : (base : List ℕ) → canonical s base reference ≡ lowered first ++ pct s second
  pub ascii : IsAscii first
  pub short : length first ≤ 64
  pub whole : whole_triplets second ≡ true
  pub bare : LacksTriplets (split_of reference) → lacks percent_sign second ≡ true

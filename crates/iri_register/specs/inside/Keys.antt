-- Keys that have the hashes of their texts.
use Rattle.std.specs.Prelude.{◌≡◌, Bool, ◌&&◌, IsTrue, List, string_bytes, string_eq, nat_eq}
use Rattle.std.proofs.Common.{ap}
use Rattle.std.specs.Cmp.{first_so, unsigned_Decides}
use Rattle.std.specs.Hash as fed
use Rattle.std.specs.Hash.DefaultHasher.{finish, write}
use Rattle.std.specs.declared.hash.DefaultHasher.{DefaultHasher}
use Rattle.std.specs.List.{AllByRecursion}
use Rattle.std.specs.Map.{keys_of}
use Rattle.iri_register.specs.declared.key.Key.{Key}
use Rattle.iri_register.specs.declared.lines.Lines.{Lines}

abbrev pub key_eq : Key → Key → Bool
key_eq j k = nat_eq j.hash k.hash && string_eq j.text k.text

pub same_hash : (j k : Key) → IsTrue (key_eq j k) → fed.u64 j.hash ≡ fed.u64 k.hash
same_hash j k h = ap fed.u64 ((unsigned_Decides j.hash k.hash).0 (first_so (nat_eq j.hash k.hash) (string_eq j.text k.text) h))

-- the hash is that of the text
abbrev pub IsHashed : DefaultHasher → Key → Type 0
IsHashed h k = k.hash ≡ finish (write h (string_bytes k.text))

-- each key has the hash of its text
abbrev pub AreHashed : DefaultHasher → List (Key × Lines) → Type 0
AreHashed h es = AllByRecursion (IsHashed h) (keys_of es)

-- the key and those of the entries have hashes of one kind
abbrev pub IsAskedOf : List (Key × Lines) → Key → Type 0
IsAskedOf es k = (h : DefaultHasher) × AreHashed h es × IsHashed h k

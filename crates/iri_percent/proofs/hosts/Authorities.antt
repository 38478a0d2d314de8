-- The normal form of an authority by its components.
use Rattle.iri_percent.proofs.Common.{◌≡◌, ℕ, Bool, true, List, ◌∷◌, ◌++◌, [], Option, Some, None, refl, ap, sym, Tests, AuthorityParts}
use Rattle.iri_percent.proofs.Common.{authority_parts, recompose_authority, if_there, delimited, whole_triplets, normal_authority}
use Rattle.std.proofs.Common.{Bor}
use Rattle.iri_grammar.specs.OptionalSlices.{now_of}
use Rattle.iri_percent.specs.NormalHost.{authority_without, normal_authority_in, normal_authority_parts_in}

pub authority_in : (s : Tests) (d : Option (List ℕ)) (t : List ℕ) (p : AuthorityParts) → p ≡ authority_parts t
    → recompose_authority (normal_authority_parts_in s d p) ≡ normal_authority_in s d t
unfolding normal_authority authority_without
authority_in s None t p e = ap (λ q. recompose_authority (normal_authority_parts_in s None q)) e
authority_in s (Some d) t p e = ap (λ q. recompose_authority (normal_authority_parts_in s (Some d) q)) e

-- a port that stands, after its colon
pub port_in : (o : Option (Bor (List ℕ))) (port : Bor (List ℕ)) → o ≡ Some port → (58 ∷ []) ++ port.now ≡ delimited 58 (now_of o)
port_in o port e = ap (λ (p : Option (Bor (List ℕ))). delimited 58 (now_of p)) (sym e)

-- a part that stands has no stray `%`, where no text of its kind has
pub part_whole : (p : List ℕ → Bool) (o : Option (List ℕ)) → ((x : List ℕ) → p x ≡ true → whole_triplets x ≡ true) → if_there p o ≡ true
    → if_there whole_triplets o ≡ true
part_whole p None w h = refl
part_whole p (Some x) w h = w x h

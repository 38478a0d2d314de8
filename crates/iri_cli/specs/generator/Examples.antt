-- The references of `gen`, worked on small numbers.
use Rattle.std.specs.Prelude.{◌≡◌, ◌+◌, ◌*◌, ◌^◌, ℕ, List, [], ◌∷◌, ◌++◌, codes, decimal, length, sum, refl}
use Rattle.std.proofs.Common.{ap}
use Rattle.std.specs.Fmt.{digits}
use Rattle.iri_grammar.specs.Classes.{uri_tests}
use Rattle.iri_cli.specs.generator.References.{gen_reference, gen_state, gen_canonical, gen_text}

-- the first state has the hexadecimal digits 14057B7EF767814F, so its reference has two segments, those of F and 4
pub first_state : gen_state 1 ≡ 0x14057B7EF767814F
first_state = refl

pub first_reference : gen_reference (gen_state 1) ≡ codes "e/%2E"
first_reference = refl

-- one segment; two empty ones; two empty ones before an `a`, which is an authority
pub other_references : (gen_reference 1 ≡ codes ".") × (gen_reference (2 ^ 60 + 0x66) ≡ codes "/")
    × (gen_reference (2 * 2 ^ 60 + 0x266) ≡ codes "//a")
other_references = (refl, refl, refl)

-- the three lines of that reference, whose canonical text has 15 bytes
pub first_lines : gen_canonical uri_tests (gen_state 1) ≡ codes "http://a/b/c/e/"
    → gen_text uri_tests 1 ≡ codes "lines 1\nbytes 15\nsum 1183\n"
unfolding digits
first_lines e = ap (λ (t : List ℕ). codes "lines " ++ decimal 1
    ++ (codes "\nbytes " ++ decimal (0 + length t) ++ (codes "\nsum " ++ decimal (0 + sum t) ++ 10 ∷ []))) e

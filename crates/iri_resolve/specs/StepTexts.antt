-- The texts of steps.
use Rattle.std.specs.Prelude.{ℕ, List, ◌++◌, codes, decimal}
use Rattle.iri_resolve.specs.declared.step.Part.{Part}
use Rattle.iri_resolve.specs.declared.step.Part.TheVariants.{Authority, Path, Query, Fragment}
use Rattle.iri_resolve.specs.declared.step.Step.{Step}
use Rattle.iri_resolve.specs.declared.step.Step.TheVariants.{SchemeLetter, HostLetter, HexDigit, Decode, EmptyPort, Dots, DefaultPort, SlashPath}

abbrev pub part_name : Part → List ℕ
part_name Authority = codes "authority"
part_name Path = codes "path"
part_name Query = codes "query"
part_name Fragment = codes "fragment"

-- what changes, the part, and the place in it
abbrev pub step_text : Step → List ℕ
step_text (SchemeLetter at) = codes "scheme letter " ++ decimal at
step_text (HostLetter at) = codes "host letter " ++ decimal at
step_text (HexDigit part at) = codes "hex digit " ++ (part_name part ++ (codes " " ++ decimal at))
step_text (Decode part at) = codes "decode " ++ (part_name part ++ (codes " " ++ decimal at))
step_text EmptyPort = codes "empty port"
step_text Dots = codes "dot segments"
step_text DefaultPort = codes "default port"
step_text SlashPath = codes "empty path"

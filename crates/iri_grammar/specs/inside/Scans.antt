-- The parts of a text up to where one leaves its production.
use Rattle.std.specs.Prelude.{◌≡◌, true, false, cond, List, [], ℕ, Option, Some, is_some}
use Rattle.std.specs.Str.{is_utf8}
use Rattle.iri_grammar.specs.Classes.{Tests}
use Rattle.iri_grammar.specs.Fault.{authority_fault, first, fragment_fault, part_fault, unless}
use Rattle.iri_grammar.specs.Parts.{Parts, is_empty}
use Rattle.iri_grammar.specs.Split.{parts_of}
use Rattle.iri_grammar.specs.WholeFault.{colon_allowed, parts_fault}
use Rattle.iri_grammar.specs.declared.error.ErrorKind.{ErrorKind}
use Rattle.iri_grammar.specs.declared.error.ErrorKind.TheVariants.{InvalidFragment, InvalidPath, InvalidQuery, UnexpectedFragment}
use Rattle.iri_grammar.specs.inside.Tails.{AreOver}

-- the fault of a text that follows a scheme and its colon, or nothing
abbrev pub fault_after : Tests → Option (List ℕ) → List ℕ → Option ErrorKind
fault_after s sch t = parts_fault s (fragment_fault s) (parts_of sch t)

-- the fault of the last part that stands
abbrev pub part_left : Option (List ℕ) → Option (List ℕ) → ErrorKind
part_left query fragment = cond (is_some fragment) InvalidFragment (cond (is_some query) InvalidQuery InvalidPath)

-- the first fault of authority, and of a colon in the first segment
abbrev pub judged_fault : Tests → Parts → Option ErrorKind
judged_fault s p = first (part_fault (authority_fault s) p.authority) (unless (colon_allowed p) InvalidPath)

-- the parts p are the start of a text t after a scheme, r is left over
pub record Scans (s : Tests) (sch : Option (List ℕ)) (t : List ℕ) (p : Parts) (r : List ℕ) : Type 0 where
  pub text : is_utf8 t ≡ is_utf8 r
  pub over : AreOver s p.path p.query p.fragment
  pub whole : r ≡ [] → p ≡ parts_of sch t
  pub fault : is_utf8 t ≡ true → is_empty r ≡ false
      → fault_after s sch t ≡ first (judged_fault s (parts_of sch t)) (Some (part_left p.query p.fragment))

-- the fault where no fragment may stand
abbrev pub absolute_kind : ErrorKind → ErrorKind
absolute_kind InvalidFragment = UnexpectedFragment
absolute_kind k = k

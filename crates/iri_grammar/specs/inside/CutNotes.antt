-- What is noted of the scheme and the authority as they are cut.
use Rattle.std.specs.Prelude.{◌≡◌, true, false}
use Rattle.std.specs.List.{list_all}
use Rattle.iri_grammar.specs.Components.{if_there}
use Rattle.iri_grammar.specs.OptionalSlices.{now_of}
use Rattle.iri_grammar.specs.Seen.{is_plain_authority, is_small}
use Rattle.iri_grammar.specs.Split.{parts_of}
use Rattle.iri_grammar.specs.WholeFault.{colon_allowed}
use Rattle.iri_grammar.specs.declared.splitter.AuthorityCut.{AuthorityCut}
use Rattle.iri_grammar.specs.declared.splitter.SchemeCut.{SchemeCut}

-- what the notes of a scheme promise, and of a colon they say exactly whether it is allowed
abbrev pub KeepsSchemeNotes : SchemeCut → Type 0
KeepsSchemeNotes c = (c.capitals ≡ false → if_there (list_all is_small) (now_of c.scheme) ≡ true)
    × (c.colon_allowed ≡ colon_allowed (parts_of (now_of c.scheme) c.rest.now))

-- what those of an authority promise
abbrev pub KeepsAuthorityNotes : AuthorityCut → Type 0
KeepsAuthorityNotes c = (c.capitals ≡ false → if_there (list_all is_small) (now_of c.authority) ≡ true)
    × (c.other ≡ false → if_there is_plain_authority (now_of c.authority) ≡ true)

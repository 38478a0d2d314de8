-- What borrowed templates hold.
use Rattle.std.specs.Prelude.{ℕ, List}
use Rattle.iri_template.specs.declared.template.UriTemplateStr.{UriTemplateStr}

-- the bytes of a template's text
abbrev pub text : UriTemplateStr → List ℕ
text v = v.text.now

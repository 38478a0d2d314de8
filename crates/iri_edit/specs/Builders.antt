-- What a builder holds.
use Rattle.std.specs.Prelude.{◌≡◌, Option, Some, None}
use Rattle.iri_grammar.specs.OptionalSlices.{now_of}
use Rattle.iri_grammar.specs.declared.error.ErrorKind.{ErrorKind}
use Rattle.iri_edit.specs.Built.{Given}
use Rattle.iri_edit.specs.declared.builder.Builder.{Builder}
use Rattle.iri_edit.specs.declared.builder.BuildError.{BuildError}
use Rattle.iri_edit.specs.declared.builder.BuildError.TheVariants.{Invalid, Memory}

-- the parts that it was given
abbrev pub given : Builder → Given
given b =
    record {
      scheme = now_of b.scheme;
      userinfo = now_of b.userinfo;
      host = now_of b.host;
      port = now_of b.port;
      path = b.path.now;
      query = now_of b.query;
      fragment = now_of b.fragment;
      normal = b.normal;
    }

-- the cause of a refusal: the first fault, or, where there is none, failed allocation
abbrev pub RefusedFor : BuildError → Option ErrorKind → Type 0
RefusedFor (Invalid e) fault = fault ≡ Some e.kind
RefusedFor (Memory e) fault = fault ≡ None

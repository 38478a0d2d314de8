-- A worked example: the host of a URI replaced.
use Rattle.std.specs.Prelude.{◌≡◌, codes, refl}
use Rattle.iri_owned.specs.Spliced.{spliced}

pub host_replaced : spliced (codes "http://a/") 7 8 (codes "bc") ≡ codes "http://bc/"
host_replaced = refl

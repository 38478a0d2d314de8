use Rattle.std.proofs.Common.{◌≡◌, Result, Ok, Err, IfOk, MatchResult, sym, subst, ◌∙◌}
use Rattle.std.specs.Str.{IsAscii, IsNotAscii}
use Rattle.iri_owned.specs.OwnedText.{OwnedText}
use Rattle.iri_percent.specs.Mapping.{mapped}
use Rattle.iri_percent.proofs.mapping.Runs.{mapped-of_ascii}
use Rattle.iri_percent.proofs.uris.OwnedIriSpecIntoUri.try_encode_into_uri.Goals as goal

stays : (r : Result OwnedText OwnedText) (t : OwnedText) → IsAscii t.text
    → MatchResult r (λ uri. IsAscii t.text × (uri.text ≡ t.text)) (λ iri. (iri ≡ t) × IsNotAscii t.text)
    → MatchResult r (λ uri. uri.text ≡ mapped t.text) (λ iri. (iri ≡ t) × IsNotAscii t.text)
stays (Ok uri) t a h = h.1 ∙ sym (mapped-of_ascii t.text a)
stays (Err iri) t a h = h

keeps : (r : Result OwnedText OwnedText) (t : OwnedText) → IfOk r (λ uri. uri.capacity ≡ t.capacity)
    → IfOk r (λ uri. IsAscii t.text → uri.capacity ≡ t.capacity)
keeps (Ok uri) t h = λ _. h
keeps (Err iri) t h = h

pub returns-then-is_ascii-clause-uri : goal.returns-then-is_ascii-clause-uri
returns-then-is_ascii-clause-uri g c = stays c.try_into_uri.result c.args.self
    (subst IsAscii c.as_str.ensures.text c.if-is_ascii.ensures.cases) c.try_into_uri.ensures.uri

pub returns-then-is_ascii-clause-capacity : goal.returns-then-is_ascii-clause-capacity
returns-then-is_ascii-clause-capacity g c = keeps c.try_into_uri.result c.args.self c.try_into_uri.ensures.capacity

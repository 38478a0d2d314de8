use Rattle.std.proofs.Common.{◌≡◌, ◌∙◌, sym, subst, ap}
use Rattle.std.specs.Str.{IsUtf8, IsCharBoundary}
use Rattle.std.specs.String.{string_bytes, string_vec}
use Rattle.std.proofs.lemmas.Str.{IsUtf8-string_bytes}
use Rattle.iri_owned.proofs.Lemmas.{spliced-utf8}
use Rattle.iri_owned.proofs.splice.replace_within.Goals as goal

pub from_utf8_unchecked-requires : goal.from_utf8_unchecked-requires
from_utf8_unchecked-requires c =
    let taken : c.into_bytes-bytes.result ≡ string_vec c.args.text.now =
    c.into_bytes-bytes.ensures.value ∙ ap string_vec c.replace.ensures.value in
    let same : string_bytes c.args.text.now ≡ c.into_bytes-bytes.result.items = ap (λ v. v.items) (sym taken) in
    subst (λ t. IsUtf8 t) (sym c.overwrite.ensures.items)
    (spliced-utf8 c.into_bytes-bytes.result.items c.as_bytes.result.now c.args.start c.args.end
    (subst (λ t. IsUtf8 t) same (IsUtf8-string_bytes c.args.text.now)) c.as_bytes.ensures.utf8
    (subst (λ t. IsCharBoundary t c.args.start) same c.requires.low) (subst (λ t. IsCharBoundary t c.args.end) same c.requires.high))

use Rattle.iri_resolve.proofs.Common.{◌≡◌, ◌∙◌, sym, subst, ap, IsUtf8, slice_set, string_bytes, IsUtf8-string_bytes}
use Rattle.std.specs.String.{string_vec}
use Rattle.iri_resolve.proofs.Edits.{put-utf8}
use Rattle.iri_resolve.proofs.change.put.Goals as goal

pub from_utf8_unchecked-requires : goal.from_utf8_unchecked-requires
from_utf8_unchecked-requires c =
    let taken : string_bytes c.args.text.now ≡ c.into_bytes-bytes.result.items =
    sym (ap (λ v. v.items) (c.into_bytes-bytes.ensures.value ∙ ap string_vec c.replace.ensures.value)) in
    subst (λ t. IsUtf8 (slice_set t c.args.at c.args.b)) taken
    (put-utf8 c.args.at (string_bytes c.args.text.now) c.args.b c.requires.inside c.requires.ascii c.requires.byte
    (IsUtf8-string_bytes c.args.text.now))

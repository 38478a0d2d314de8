use Rattle.iri_link.proofs.Common.{◌∙◌, ap, map, subst, sym, IsUtf8}
use Rattle.std.specs.Char.{to_ascii_lowercase}
use Rattle.std.proofs.lemmas.Str.{IsUtf8-from_ascii}
use Rattle.std.proofs.lemmas.Str.Ascii.{IsAscii-map, lowercase_ascii}
use Rattle.iri_link.proofs.shown_text.show_few_lowered.Goals as goal

pub from_utf8_unchecked-requires : goal.from_utf8_unchecked-requires
from_utf8_unchecked-requires g c =
    let t = c.args.text.now in
    let is = c.make_ascii_lowercase.ensures.after ∙ ap (map to_ascii_lowercase) (c.copy_from_slice.ensures.after ∙ c.as_bytes.ensures.value) in
    subst IsUtf8 (sym is) (IsUtf8-from_ascii (map to_ascii_lowercase t) (IsAscii-map to_ascii_lowercase t lowercase_ascii c.requires.ascii))

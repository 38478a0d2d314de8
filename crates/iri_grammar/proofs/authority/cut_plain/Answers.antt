use Rattle.iri_grammar.proofs.Common.{arith, ◌∙◌, ap, subst, sym, take, take_rest, list_all, IsUtf8, is_utf8, ascii_test, is_plain_authority}
use Rattle.iri_grammar.proofs.Common.{is_small, Userinfo, is_small_name}
use Rattle.std.proofs.lemmas.Grind.{common_steps}
use Rattle.std.proofs.lemmas.Bool.{not-false}
use Rattle.iri_grammar.proofs.splits.TextParts.{text-past}
use Rattle.iri_grammar.proofs.authorities.PlainAuthorities.{plain_cut}
use Rattle.iri_grammar.proofs.authority.cut_plain.Goals as goal

pub from_utf8_unchecked-authority-requires : goal.from_utf8_unchecked-authority-requires
from_utf8_unchecked-authority-requires c =
    subst (λ n. IsUtf8 (take n c.args.s.now)) (sym c.plain_len-plain.ensures.len) (plain_cut c.args.s.now).text

pub returns : goal.returns
returns c =
    let t = c.args.s.now in
    let len = c.plain_len-plain.ensures.len in
    let is = c.from_utf8_unchecked-authority.ensures ∙ ap (λ n. take n t) len in
    let cut = plain_cut t in
    let n = c.plain_len-plain.result.len in
    record {
      whole = grind (arith, common_steps);
      chars = ap (list_all (ascii_test Userinfo)) is ∙ cut.chars;
      plain = ap is_plain_authority is ∙ cut.plain;
      capitals = λ h. ap (list_all is_small) is ∙ cut.small (not-false (is_small_name t) (sym c.plain_len-plain.ensures.capitals ∙ h));
      text = text-past t n (subst (λ k. IsUtf8 (take k t)) (sym len) cut.text) ∙ ap is_utf8 (sym (take_rest t n));
    }

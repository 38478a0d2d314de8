-- Owned texts compare lawfully, since their texts do.
use Rattle.std.specs.Prelude.{◌≡◌, Some}
use Rattle.std.specs.Ordering.{eq_by_cmp}
use Rattle.std.specs.Cmp.{IsEquivalence, IsPartialOrder, IsTotalOrder, on_equiv, on_po, on_total}
use Rattle.std.specs.Cmp.Lexicographic.{nat_list_eq_equiv, nat_list_cmp_total, texts_ties, texts_po}
use Rattle.iri_owned.specs.OwnedText.{OwnedText, text_eq, text_cmp}

pub text_eq_equiv : IsEquivalence text_eq
text_eq_equiv = on_equiv (λ (t : OwnedText). t.text) nat_list_eq_equiv

pub text_cmp_total : IsTotalOrder text_cmp
text_cmp_total = on_total (λ (t : OwnedText). t.text) nat_list_cmp_total

pub text_po : IsPartialOrder text_eq (λ x y. Some (text_cmp x y))
text_po = on_po (λ (t : OwnedText). t.text) texts_po

pub text_ties : (x y : OwnedText) → text_eq x y ≡ eq_by_cmp text_cmp x y
text_ties x y = texts_ties x.text y.text

use Rattle.std.proofs.Common.{◌≡◌, ℕ, ◌<◌, false, ◌&&◌, refl, arith}
use Rattle.std.proofs.lemmas.Bool.Decides.{nat_tests}
use Rattle.iri_grammar.specs.Classes.{IsSpec, uri_tests, iri_tests, is_ucschar, is_ucschar_plane, is_iprivate}

pub uri_is_spec : IsSpec uri_tests
uri_is_spec = record { ucs_ascii = λ _ _. refl; priv_ascii = λ _ _. refl; apart = λ _. refl }

ucs_ascii : (c : ℕ) → c < 128 → is_ucschar c ≡ false
unfolding is_ucschar is_ucschar_plane
ucs_ascii c h = grind (arith, nat_tests)

priv_ascii : (c : ℕ) → c < 128 → is_iprivate c ≡ false
unfolding is_iprivate
priv_ascii c h = grind (arith, nat_tests)

apart : (c : ℕ) → (is_ucschar c && is_iprivate c) ≡ false
unfolding is_ucschar is_ucschar_plane is_iprivate
apart c = grind (arith, nat_tests)

pub iri_is_spec : IsSpec iri_tests
iri_is_spec = record { ucs_ascii = ucs_ascii; priv_ascii = priv_ascii; apart = apart }

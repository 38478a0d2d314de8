-- Worked examples, computed.
use Rattle.std.specs.Prelude.{◌≡◌, Some, None, codes, refl}
use Rattle.iri_grammar.specs.Authority.{authority_parts, recompose_authority}
use Rattle.iri_grammar.specs.Components.{is_letter, is_scheme_char}
use Rattle.iri_grammar.specs.Parts.{recompose}
use Rattle.iri_grammar.specs.Split.{split_of}
use Rattle.iri_edit.specs.Edited.{edited}
use Rattle.iri_edit.specs.Fragment.{with_fragment}
use Rattle.iri_edit.specs.Host.{with_host}
use Rattle.iri_edit.specs.Password.{masked, password_of, with_password, without_password}

-- the first colon counts (RFC 3986 section 3.2.1)
passwords :
    (password_of (codes "http://u:p@h/") ≡ Some (codes "p"))
    × (password_of (codes "http://a:b:c@h/") ≡ Some (codes "b:c"))
    × (password_of (codes "http://u@h/") ≡ None)
    × (password_of (codes "http://u:@h/") ≡ Some (codes ""))
    × (password_of (codes "//h/u:p@") ≡ None)
unfolding password_of authority_parts split_of is_letter is_scheme_char
passwords = (refl, refl, refl, refl, refl)

passwords_replaced :
    (masked (codes "http://u:p@h/") ≡ codes "http://u:@h/")
    × (with_password (codes "http://u:p@h/") (codes "***") ≡ codes "http://u:***@h/")
    × (with_password (codes "http://u@h/") (codes "x") ≡ codes "http://u@h/")
    × (without_password (codes "http://u:p@h/") ≡ codes "http://u@h/")
    × (without_password (codes "http://@h/") ≡ codes "http://@h/")
    × (without_password (codes "http://a:b:c@h:80/") ≡ codes "http://a@h:80/")
unfolding edited authority_parts recompose_authority recompose split_of is_letter is_scheme_char
passwords_replaced = (refl, refl, refl, refl, refl, refl)

hosts_replaced :
    (with_host (codes "http://a:80/#f") (codes "[::1]") ≡ codes "http://[::1]:80/#f")
    × (with_host (codes "//u:p@a?q") (codes "") ≡ codes "//u:p@?q")
    × (with_host (codes "mailto:x") (codes "h") ≡ codes "mailto:x")
unfolding edited authority_parts recompose_authority recompose split_of is_letter is_scheme_char
hosts_replaced = (refl, refl, refl)

fragments_replaced :
    (with_fragment (codes "http://a/#f") (Some (codes "x")) ≡ codes "http://a/#x")
    × (with_fragment (codes "http://a/#f") None ≡ codes "http://a/")
    × (with_fragment (codes "http://a/") (Some (codes "")) ≡ codes "http://a/#")
unfolding with_fragment recompose split_of is_letter is_scheme_char
fragments_replaced = (refl, refl, refl)

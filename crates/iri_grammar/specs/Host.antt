-- Hosts (RFC 3986 section 3.2.2, RFC 3987 section 2.2).
use Rattle.std.specs.Prelude.{ℕ, Bool, ◌||◌, List}
use Rattle.iri_grammar.specs.Classes.{Tests, reg_name_char}
use Rattle.iri_grammar.specs.Over.{text_over}
use Rattle.iri_grammar.specs.IpLiteral.{is_ip_literal}

-- `reg-name`: it may be empty, and an IPv4 text is also over its class
abbrev pub is_reg_name : Tests → List ℕ → Bool
is_reg_name s x = text_over (reg_name_char s) x

-- `host`: an IP literal or a registered name, IPv4 texts among them
abbrev pub is_host : Tests → List ℕ → Bool
is_host s x = is_ip_literal x || is_reg_name s x

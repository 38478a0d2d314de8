-- Characters of `Link` fields by their codes (RFC 8288 section 3, RFC 9110 section 5.6), besides those of URIs.
use Rattle.std.specs.Prelude.{ℕ}

abbrev pub quotation_mark : ℕ
quotation_mark = 34

abbrev pub less_than_sign : ℕ
less_than_sign = 60

abbrev pub greater_than_sign : ℕ
greater_than_sign = 62

abbrev pub backslash : ℕ
backslash = 92

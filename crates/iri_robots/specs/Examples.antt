-- Worked examples. A filling is given by the rules that make it.
use Rattle.std.specs.Prelude.{◌≡◌, ◌++◌, ℕ, [], ◌∷◌, true, false, codes}
use Rattle.std.proofs.Common.{refl, arith}
use Rattle.std.specs.Str.{is_utf8, chars}
use lib.Utf8.{encode}
use Rattle.iri_grammar.specs.Characters.{percent_sign}
use Rattle.iri_grammar.specs.Classes.{unreserved, is_ascii_unreserved}
use Rattle.iri_percent.specs.Units.{read_from}
use Rattle.iri_percent.specs.Triplets.{normal}
use Rattle.iri_percent.specs.Units.{first_char}
use Rattle.iri_robots.specs.Compared.{compared}
use Rattle.iri_robots.specs.FileLines.{AgentLine, RuleLine, OtherLine, byte_order_mark, line_of}
use Rattle.iri_robots.specs.Records.{FileRule, UserAgent, Judged, groups, rules_for}
use Rattle.iri_robots.specs.Patterns.{IsFilling, nothing, star, escaped_star, same, digit_two, capital_a, without_anchor, escapes}

anchor : without_anchor (codes "/*.gif$") ≡ codes "/*.gif"
anchor = refl

no_anchor : without_anchor (codes "/$a") ≡ codes "/$a"
no_anchor = refl

-- the triplets of a star and of a `$`, and a `$`; a small letter is no escape's
counted : escapes (codes "/*%2A%24x%2a$") ≡ 3
unfolding escapes
counted = refl

abbrev small_a : ℕ
small_a = 97

abbrev small_b : ℕ
small_b = 98

-- RFC 9309 section 2.2.3: `*` stands for characters, also for none
some : IsFilling (codes "a*b") (codes "axb")
some = same small_a (codes "*b") (codes "xb") (λ e. omega arith)
    (star (codes "x") (codes "b") (codes "b") (same small_b [] [] (λ e. omega arith) nothing))

none : IsFilling (codes "a*b") (codes "ab")
none = same small_a (codes "*b") (codes "b") (λ e. omega arith)
    (star [] (codes "b") (codes "b") (same small_b [] [] (λ e. omega arith) nothing))

-- `%2A` stands for a `*` as it is
escape : IsFilling (codes "%2A") (codes "*")
escape = escaped_star [] [] nothing

escape_as_it_is : IsFilling (codes "%2A") (codes "%2A")
escape_as_it_is = same percent_sign (codes "2A") (codes "2A") (λ e. omega arith)
    (same digit_two (codes "A") (codes "A") (λ e. omega arith) (same capital_a [] [] (λ e. omega arith) nothing))

-- ---- lines: RFC 9309 sections 2.2.1 and 2.2.2
agent_line : line_of (codes "User-Agent: ExampleBot/1.0") ≡ AgentLine (codes "ExampleBot")
unfolding is_utf8 chars encode
agent_line = refl

star_line : line_of (codes "user-agent:*") ≡ AgentLine (codes "*")
unfolding is_utf8 chars encode
star_line = refl

rule_line : line_of (codes " ALLOW : /p:q # x: y") ≡ RuleLine true (codes "/p:q")
unfolding is_utf8 chars encode
rule_line = refl

byte_order_mark_line : line_of (byte_order_mark ++ codes "Disallow:") ≡ RuleLine false []
unfolding is_utf8 chars encode
byte_order_mark_line = refl

other_line : line_of (codes "Sitemap: /s") ≡ OtherLine
unfolding is_utf8 chars encode
other_line = refl

not_utf8 : line_of (codes "Disallow: /" ++ 0xFF ∷ []) ≡ OtherLine
unfolding is_utf8 chars encode
not_utf8 = refl

-- ---- the compared form: RFC 9309 section 2.2.2, and a `%` that begins no triplet
baz : compared (codes "/foo/bar/%62%61%7A") ≡ codes "/foo/bar/baz"
unfolding compared normal read_from first_char chars encode unreserved is_ascii_unreserved
baz = refl

tsu : compared (codes "/foo/bar/" ++ encode 0x30C4) ≡ codes "/foo/bar/%E3%83%84"
unfolding compared normal read_from first_char chars encode unreserved is_ascii_unreserved
tsu = refl

stray : compared (codes "%2%2a%") ≡ codes "%2%2A%"
unfolding compared normal read_from first_char chars encode unreserved is_ascii_unreserved
stray = refl

-- ---- groups: RFC 9309 section 5.1, `foobot`, `barbot` and `bazbot`
page : FileRule
page = record { allows = false; pattern = codes "/example/page.html" }

all : FileRule
all = record { allows = false; pattern = codes "/" }

two_agents : groups (Judged all ∷ UserAgent (codes "barbot") ∷ UserAgent (codes "bazbot") ∷ Judged page ∷ UserAgent (codes "*") ∷ [])
    ≡ record { agents = codes "barbot" ∷ codes "bazbot" ∷ []; rules = page ∷ [] } ∷ record { agents = codes "*" ∷ []; rules = [] } ∷ []
two_agents = refl

named : rules_for (codes "BarBot") (UserAgent (codes "*") ∷ Judged all ∷ UserAgent (codes "barbot") ∷ UserAgent (codes "bazbot") ∷ Judged
    page ∷ [])
    ≡ page ∷ []
named = refl

not_named : rules_for (codes "otherbot") (UserAgent (codes "*") ∷ Judged all ∷ UserAgent (codes "barbot") ∷ Judged page ∷ []) ≡ all ∷ []
not_named = refl

no_rules : rules_for (codes "quxbot") (UserAgent (codes "*") ∷ Judged all ∷ UserAgent (codes "quxbot") ∷ []) ≡ []
no_rules = refl

use Rattle.iri_robots.proofs.Common.{◌≡◌, ◌+◌, drop, is_token_char}
use Rattle.std.specs.List.{prefix_len}
use Rattle.iri_robots.proofs.line.token_len.Given as goal

abbrev pub invariant-loop-i : goal.invariant-loop-i
invariant-loop-i l = prefix_len is_token_char l.text ≡ l.i + prefix_len is_token_char (drop (l.i) l.text)

-- Agents are ASCII.
use Rattle.iri_robots.proofs.Common.{◌≡◌, ℕ, suc, ◌+◌, ◌<◌, Bool, true, false, cond, ◌∷◌, List, [], Option, Some, None, take, refl, subst}
use Rattle.iri_robots.proofs.Common.{sym, arith, codes, is_utf8, bytes_eq, str_eq_ignore_ascii_case, nat_tests, before, after, OtherLine}
use Rattle.iri_robots.proofs.Common.{is_token_char, line_of, line_of_text, without_byte_order_mark}
use Rattle.std.specs.List.{prefix_len}
use Rattle.std.specs.Str.{IsAscii}
use Rattle.std.proofs.lemmas.Slice.Eq.{bytes_eq-Decides}
use Rattle.std.proofs.lemmas.Str.Ascii.{IsAscii-cons, IsAscii-nil}
use Rattle.iri_robots.specs.FileLines.{FileLine, AgentLine, RuleLine, agent_of, keyed, parted, trimmed}

one_more : (n : ℕ) → suc n ≡ 1 + n
one_more n = omega arith

pub prefix_ascii : (t : List ℕ) → IsAscii (take (prefix_len is_token_char t) t)
prefix_ascii [] = IsAscii-nil
prefix_ascii (x ∷ t) =
    elim (is_token_char x) as (λ b. is_token_char x ≡ b → IsAscii (take (cond b (1 + prefix_len is_token_char t) 0) (x ∷ t))) [
      | true ↦ λ e. let small : x < 128 = grind (arith, nat_tests) in
          subst (λ n. IsAscii (take n (x ∷ t))) (one_more (prefix_len is_token_char t))
          (IsAscii-cons x (take (prefix_len is_token_char t) t) small (prefix_ascii t))
      | false ↦ λ e. IsAscii-nil
    ] refl

star_ascii : IsAscii (codes "*")
star_ascii = IsAscii-cons 42 [] (omega arith) IsAscii-nil

agent_ascii : (value : List ℕ) → IsAscii (agent_of value)
agent_ascii value =
    elim (bytes_eq value (codes "*")) as (λ b. bytes_eq value (codes "*") ≡ b
    → IsAscii (cond b value (take (prefix_len is_token_char value) value))) [
      | true ↦ λ e. subst IsAscii (sym ((bytes_eq-Decides value (codes "*")).0 e)) star_ascii
      | false ↦ λ e. prefix_ascii value
    ] refl

-- an agent of a line is ASCII
abbrev HasAsciiAgent : FileLine → Type 0
HasAsciiAgent (AgentLine a) = IsAscii a
HasAsciiAgent (RuleLine b p) = Unit {0}
HasAsciiAgent OtherLine = Unit {0}

either_ascii : (b : Bool) (x y : FileLine) → HasAsciiAgent x → HasAsciiAgent y → HasAsciiAgent (cond b x y)
either_ascii true x y h k = h
either_ascii false x y h k = k

keyed_ascii : (key value : List ℕ) → HasAsciiAgent (keyed key value)
keyed_ascii key value =
    either_ascii (str_eq_ignore_ascii_case key (codes "user-agent")) (AgentLine (agent_of value)) _ (agent_ascii value)
    (either_ascii (str_eq_ignore_ascii_case key (codes "allow")) (RuleLine true value) _ tt
    (either_ascii (str_eq_ignore_ascii_case key (codes "disallow")) (RuleLine false value) OtherLine tt tt))

parted_ascii : (key : List ℕ) (value : Option (List ℕ)) → HasAsciiAgent (parted key value)
parted_ascii key None = tt
parted_ascii key (Some value) = keyed_ascii (trimmed key) (trimmed value)

line_ascii : (line : List ℕ) → HasAsciiAgent (line_of line)
line_ascii line =
    let t = before 35 (without_byte_order_mark line) in
    either_ascii (is_utf8 line) (line_of_text t) OtherLine (parted_ascii (before 58 t) (after 58 t)) tt

pub agent_of_line : (line a : List ℕ) → AgentLine a ≡ line_of line → IsAscii a
agent_of_line line a h = subst HasAsciiAgent (sym h) (line_ascii line)

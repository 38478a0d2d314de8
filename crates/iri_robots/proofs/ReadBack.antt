-- Rules that are written as lines are read back as they were: no pattern of a file has an LF.
use Rattle.std.proofs.Common.{◌≡◌, ℕ, zero, suc, ◌<◌, ◌≤◌, Bool, true, false, cond, ◌&&◌, ◌||◌, List, [], ◌∷◌, ◌++◌, Some, drop, take}
use Rattle.std.proofs.Common.{refl, sym, ◌∙◌, ap, subst, arith, append_assoc}
use Rattle.std.specs.Prelude.{◌==◌, ◌/◌, ◌%◌, nat_lt, not, codes}
use Rattle.std.specs.List.{flat_map, list_all}
use Rattle.std.specs.Char.{is_ascii_hexdigit, to_ascii_uppercase}
use Rattle.std.specs.Str.{bytes_eq, is_utf8, str_eq_ignore_ascii_case}
use Rattle.std.proofs.lemmas.Bool.Decides.{nat_tests}
use Rattle.std.proofs.lemmas.Str.{encode_ascii}
use Rattle.iri_grammar.specs.Classes.{is_ascii_unreserved}
use Rattle.iri_grammar.specs.Cut.{before, after, lacks}
use Rattle.iri_grammar.specs.Pieces.{onto}
use Rattle.iri_grammar.proofs.splits.CutLaws.{lacks-append, lacks-other}
use Rattle.iri_grammar.proofs.hosts.Ipv6Laws.{pieces_before}
use Rattle.iri_percent.specs.Mapping.{capital_hex}
use Rattle.iri_percent.specs.Units.{octet, two_digits}
use Rattle.iri_percent.proofs.mapping.NormalForms.{unreserved_ascii}
use Rattle.iri_percent.proofs.units.ByCharacters.{no_two}
use Rattle.iri_robots.specs.Compared.{compared}
use Rattle.iri_robots.specs.FileLines.{FileLine, AgentLine, RuleLine, OtherLine, keyed, parted, line_of, line_of_text, trimmed, all_blank}
use Rattle.iri_grammar.specs.Blanks.{is_blank}
use Rattle.iri_robots.specs.FileLines.{without_byte_order_mark, without_end, without_start, agent_of, byte_order_mark}
use Rattle.iri_robots.specs.Files.{file_lines, file_records, is_byte, is_in_line}
use Rattle.iri_robots.specs.Records.{FileRule, FileRecord, UserAgent, Judged, line_records, groups, is_named, rules_of, rules_for}
use Rattle.iri_robots.specs.RuleLines.{line_rules, rule_line, rule_lines, rule_word, rules_in}
use Rattle.iri_robots.specs.inside.Groups.{rules_from}
use Rattle.iri_robots.proofs.Forms.{compared_nil, compared_low, compared_decoded, compared_kept, compared_past, compared_stray, second_other}
use Rattle.iri_robots.proofs.Runs.{at_start}

left : (a b : Bool) → a && b ≡ true → a ≡ true
left true b h = refl
left false b h = h

pub right : (a b : Bool) → a && b ≡ true → b ≡ true
right true b h = h
right false b h = cc

both : (a b : Bool) → a ≡ true → b ≡ true → a && b ≡ true
both true b h k = k
both false b h k = h

-- ---- lines of rules

-- no pattern has an LF
abbrev pub lack_end : List FileRule → Bool
lack_end [] = true
lack_end (r ∷ rs) = lacks 10 r.pattern && lack_end rs

word_lacks : (b : Bool) → lacks 10 (rule_word b) ≡ true
word_lacks true = refl
word_lacks false = refl

read_word : (b : Bool) (p : List ℕ) → line_rules (rule_word b ++ p) ≡ record { allows = b; pattern = p } ∷ []
read_word true p = refl
read_word false p = refl

line_parts : (w p rest : List ℕ) → (w ++ (p ++ 10 ∷ [])) ++ rest ≡ (w ++ p) ++ 10 ∷ rest
line_parts w p rest =
    append_assoc w (p ++ 10 ∷ []) rest ∙ ap (λ l. w ++ l) (append_assoc p (10 ∷ []) rest) ∙ sym (append_assoc w p (10 ∷ rest))

read_line : (r : FileRule) (rest : List ℕ) → lacks 10 r.pattern ≡ true → rules_in (rule_line r ++ rest) ≡ r ∷ rules_in rest
read_line r rest h =
    ap rules_in (line_parts (rule_word r.allows) r.pattern rest)
    ∙ ap (flat_map line_rules) (pieces_before 10 (rule_word r.allows ++ r.pattern) rest
    (lacks-append 10 (rule_word r.allows) r.pattern (word_lacks r.allows) h))
    ∙ ap (λ l. l ++ rules_in rest) (read_word r.allows r.pattern)

pub read_back : (rules : List FileRule) → lack_end rules ≡ true → rules_in (rule_lines rules) ≡ rules
read_back [] h = refl
read_back (r ∷ rules) h =
    read_line r (rule_lines rules) (left (lacks 10 r.pattern) (lack_end rules) h)
    ∙ ap (λ l. r ∷ l) (read_back rules (right (lacks 10 r.pattern) (lack_end rules) h))

-- ---- the compared form of bytes without an LF

-- a byte, and no LF
abbrev pub plain : ℕ → Bool
plain x = nat_lt x 256 && not (x == 10)

record Form (t : List ℕ) : Type 0 where
  here : lacks 10 (compared t) ≡ true
  next : lacks 10 (compared (drop 1 t)) ≡ true
  third : lacks 10 (compared (drop 2 t)) ≡ true

plain_other : (x : ℕ) → plain x ≡ true → (x == 10) ≡ false
plain_other x h = grind (arith, nat_tests)

plain_byte : (x : ℕ) → plain x ≡ true → x < 256
plain_byte x h = grind (arith, nat_tests)

digit_other : (n : ℕ) → (capital_hex n == 10) ≡ false
digit_other n = grind (arith, nat_tests)

upper_other : (a : ℕ) → is_ascii_hexdigit a ≡ true → (to_ascii_uppercase a == 10) ≡ false
upper_other a h = grind (arith, nat_tests)

free_other : (o : ℕ) → is_ascii_unreserved o ≡ true → (o == 10) ≡ false
unfolding is_ascii_unreserved
free_other o h = grind (arith, nat_tests)

stray : (xs : List ℕ) → two_digits xs ≡ false → lacks 10 (compared xs) ≡ true → lacks 10 (compared (37 ∷ xs)) ≡ true
stray xs e h = ap (lacks 10) (compared_stray xs e) ∙ lacks-other 10 37 (compared xs) refl h

decoded_or_kept : (a b : ℕ) (xs : List ℕ) → is_ascii_hexdigit a ≡ true → is_ascii_hexdigit b ≡ true → lacks 10 (compared xs) ≡ true
    → lacks 10 (compared (37 ∷ a ∷ b ∷ xs)) ≡ true
decoded_or_kept a b xs p q h =
    let o = octet a b in
    elim (is_ascii_unreserved o) as (λ v. is_ascii_unreserved o ≡ v → lacks 10 (compared (37 ∷ a ∷ b ∷ xs)) ≡ true) [
      | true ↦ λ e. ap (lacks 10) (compared_decoded a b xs p q e)
          ∙ ap (λ z. lacks 10 (z ++ compared xs)) (encode_ascii o (unreserved_ascii o e))
          ∙ lacks-other 10 o (compared xs) (free_other o e) h
      | false ↦ λ e. ap (lacks 10) (compared_kept a b xs p q e)
          ∙ lacks-other 10 37 (to_ascii_uppercase a ∷ to_ascii_uppercase b ∷ compared xs) refl
          (lacks-other 10 (to_ascii_uppercase a) (to_ascii_uppercase b ∷ compared xs) (upper_other a p)
          (lacks-other 10 (to_ascii_uppercase b) (compared xs) (upper_other b q) h))
    ] refl

percent : (xs : List ℕ) → lacks 10 (compared xs) ≡ true → lacks 10 (compared (drop 2 xs)) ≡ true → lacks 10 (compared (37 ∷ xs)) ≡ true
percent [] h k = stray [] refl h
percent (a ∷ []) h k = stray (a ∷ []) refl h
percent (a ∷ b ∷ xs) h k =
    elim (is_ascii_hexdigit a) as (λ v. is_ascii_hexdigit a ≡ v → lacks 10 (compared (37 ∷ a ∷ b ∷ xs)) ≡ true) [
      | true ↦ λ p. elim (is_ascii_hexdigit b) as (λ v. is_ascii_hexdigit b ≡ v → lacks 10 (compared (37 ∷ a ∷ b ∷ xs)) ≡ true) [
        | true ↦ λ q. decoded_or_kept a b xs p q k
        | false ↦ λ q. stray (a ∷ b ∷ xs) (second_other a b xs q) h
      ] refl
      | false ↦ λ p. stray (a ∷ b ∷ xs) (no_two a (b ∷ xs) p) h
    ] refl

past : (x : ℕ) (xs : List ℕ) → plain x ≡ true → nat_lt x 128 ≡ false → lacks 10 (compared xs) ≡ true → lacks 10 (compared (x ∷ xs)) ≡ true
past x xs p e h =
    let high : 128 ≤ x = grind (arith, nat_tests) in
    ap (lacks 10) (compared_past x xs high (plain_byte x p))
    ∙ lacks-other 10 37 (capital_hex (x / 16) ∷ capital_hex (x % 16) ∷ compared xs) refl
    (lacks-other 10 (capital_hex (x / 16)) (capital_hex (x % 16) ∷ compared xs) (digit_other (x / 16))
    (lacks-other 10 (capital_hex (x % 16)) (compared xs) (digit_other (x % 16)) h))

low : (x : ℕ) (xs : List ℕ) → plain x ≡ true → nat_lt x 128 ≡ true → lacks 10 (compared xs) ≡ true → lacks 10 (compared (drop 2 xs)) ≡ true
    → lacks 10 (compared (x ∷ xs)) ≡ true
low x xs p e h k =
    let small : x < 128 = grind (arith, nat_tests) in
    elim (x == 37) as (λ v. (x == 37) ≡ v → lacks 10 (compared (x ∷ xs)) ≡ true) [
      | true ↦ λ q. let is : x ≡ 37 = grind (arith, nat_tests) in subst (λ y. lacks 10 (compared (y ∷ xs)) ≡ true) (sym is) (percent xs h k)
      | false ↦ λ q. ap (lacks 10) (compared_low x xs small q) ∙ lacks-other 10 x (compared xs) (plain_other x p) h
    ] refl

form : (t : List ℕ) → list_all plain t ≡ true → Form t
form [] h = let e = ap (lacks 10) compared_nil in record { here = e; next = e; third = e }
form (x ∷ xs) h =
    let p = left (plain x) (list_all plain xs) h in
    let f = form xs (right (plain x) (list_all plain xs) h) in
    record {
      here = elim (nat_lt x 128) as (λ v. nat_lt x 128 ≡ v → lacks 10 (compared (x ∷ xs)) ≡ true) [
        | true ↦ λ e. low x xs p e f.here f.third
        | false ↦ λ e. past x xs p e f.here
      ] refl;
      next = f.here;
      third = f.next;
    }

-- ---- parts of a line

drop_plain : (n : ℕ) (t : List ℕ) → list_all plain t ≡ true → list_all plain (drop n t) ≡ true
drop_plain zero t h = h
drop_plain (suc n) [] h = refl
drop_plain (suc n) (x ∷ xs) h = drop_plain n xs (right (plain x) (list_all plain xs) h)

before_plain : (c : ℕ) (t : List ℕ) → list_all plain t ≡ true → list_all plain (before c t) ≡ true
before_plain c [] h = refl
before_plain c (x ∷ xs) h =
    elim (x == c) as (λ b. list_all plain (cond b [] (x ∷ before c xs)) ≡ true) [
      | true ↦ refl
      | false ↦ both (plain x) (list_all plain (before c xs)) (left (plain x) (list_all plain xs) h)
          (before_plain c xs (right (plain x) (list_all plain xs) h))
    ]

start_plain : (t : List ℕ) → list_all plain t ≡ true → list_all plain (without_start t) ≡ true
start_plain [] h = refl
start_plain (x ∷ xs) h =
    elim (is_blank x) as (λ b. list_all plain (cond b (without_start xs) (x ∷ xs)) ≡ true) [
      | true ↦ start_plain xs (right (plain x) (list_all plain xs) h)
      | false ↦ h
    ]

end_plain : (t : List ℕ) → list_all plain t ≡ true → list_all plain (without_end t) ≡ true
end_plain [] h = refl
end_plain (x ∷ xs) h =
    elim (all_blank (x ∷ xs)) as (λ b. list_all plain (cond b [] (x ∷ without_end xs)) ≡ true) [
      | true ↦ refl
      | false ↦ both (plain x) (list_all plain (without_end xs)) (left (plain x) (list_all plain xs) h)
          (end_plain xs (right (plain x) (list_all plain xs) h))
    ]

mark_plain : (t : List ℕ) → list_all plain t ≡ true → list_all plain (without_byte_order_mark t) ≡ true
mark_plain t h =
    elim (bytes_eq (take 3 t) byte_order_mark) as (λ b. list_all plain (cond b (drop 3 t) t) ≡ true) [
      | true ↦ drop_plain 3 t h
      | false ↦ h
    ]

-- the pattern of a line is plain
abbrev IsPlainLine : FileLine → Type 0
IsPlainLine (AgentLine a) = Unit {0}
IsPlainLine (RuleLine b p) = list_all plain p ≡ true
IsPlainLine OtherLine = Unit {0}

either : (b : Bool) (x y : FileLine) → IsPlainLine x → IsPlainLine y → IsPlainLine (cond b x y)
either true x y h k = h
either false x y h k = k

keyed_plain : (key value : List ℕ) → list_all plain value ≡ true → IsPlainLine (keyed key value)
keyed_plain key value h =
    either (str_eq_ignore_ascii_case key (codes "user-agent")) (AgentLine (agent_of value)) _ tt
    (either (str_eq_ignore_ascii_case key (codes "allow")) (RuleLine true value) _ h
    (either (str_eq_ignore_ascii_case key (codes "disallow")) (RuleLine false value) OtherLine h tt))

value_plain : (key value : List ℕ) → list_all plain value ≡ true → IsPlainLine (keyed (trimmed key) (trimmed value))
value_plain key value h = keyed_plain (trimmed key) (trimmed value) (end_plain (without_start value) (start_plain value h))

parted_plain : (c : ℕ) (key t : List ℕ) → list_all plain t ≡ true → IsPlainLine (parted key (after c t))
parted_plain c key [] h = tt
parted_plain c key (x ∷ xs) h =
    elim (x == c) as (λ b. IsPlainLine (parted key (cond b (Some xs) (after c xs)))) [
      | true ↦ value_plain key xs (right (plain x) (list_all plain xs) h)
      | false ↦ parted_plain c key xs (right (plain x) (list_all plain xs) h)
    ]

line_plain : (line : List ℕ) → list_all plain line ≡ true → IsPlainLine (line_of line)
line_plain line h =
    let t = before 35 (without_byte_order_mark line) in
    either (is_utf8 line) (line_of_text t) OtherLine
    (parted_plain 58 (before 58 t) t (before_plain 35 (without_byte_order_mark line) (mark_plain line h))) tt

-- ---- records

abbrev records_lack : List FileRecord → Bool
records_lack [] = true
records_lack (UserAgent a ∷ rs) = records_lack rs
records_lack (Judged r ∷ rs) = lacks 10 r.pattern && records_lack rs

records_both : (a b : List FileRecord) → records_lack a ≡ true → records_lack b ≡ true → records_lack (a ++ b) ≡ true
records_both [] b h k = k
records_both (UserAgent u ∷ rs) b h k = records_both rs b h k
records_both (Judged r ∷ rs) b h k =
    both (lacks 10 r.pattern) (records_lack (rs ++ b)) (left (lacks 10 r.pattern) (records_lack rs) h)
    (records_both rs b (right (lacks 10 r.pattern) (records_lack rs) h) k)

said_lacks : (said : FileLine) → IsPlainLine said → records_lack (line_records said) ≡ true
said_lacks (AgentLine a) h = refl
said_lacks (RuleLine b p) h = both (lacks 10 (compared p)) true (form p h).here refl
said_lacks OtherLine h = refl

lines_lack : (lines : List (List ℕ)) → list_all (list_all plain) lines ≡ true
    → records_lack (flat_map (λ line. line_records (line_of line)) lines) ≡ true
lines_lack [] h = refl
lines_lack (line ∷ lines) h =
    records_both (line_records (line_of line)) (flat_map (λ l. line_records (line_of l)) lines)
    (said_lacks (line_of line) (line_plain line (left (list_all plain line) (list_all (list_all plain) lines) h)))
    (lines_lack lines (right (list_all plain line) (list_all (list_all plain) lines) h))

-- ---- the lines of a file

onto_plain : (x : ℕ) (lines : List (List ℕ)) → plain x ≡ true → list_all (list_all plain) lines ≡ true
    → list_all (list_all plain) (onto x lines) ≡ true
onto_plain x [] p h = both (plain x && true) true (both (plain x) true p refl) refl
onto_plain x (l ∷ ls) p h =
    both (plain x && list_all plain l) (list_all (list_all plain) ls)
    (both (plain x) (list_all plain l) p (left (list_all plain l) (list_all (list_all plain) ls) h))
    (right (list_all plain l) (list_all (list_all plain) ls) h)

in_line_plain : (x : ℕ) → is_byte x ≡ true → is_in_line x ≡ true → plain x ≡ true
in_line_plain x b h = grind (arith, nat_tests)

file_plain : (file : List ℕ) → list_all is_byte file ≡ true → list_all (list_all plain) (file_lines file) ≡ true
file_plain [] h = refl
file_plain (x ∷ xs) h =
    let rest = file_plain xs (right (is_byte x) (list_all is_byte xs) h) in
    elim (is_in_line x) as (λ b. is_in_line x ≡ b
    → list_all (list_all plain) (cond b (onto x (file_lines xs)) ([] ∷ file_lines xs)) ≡ true) [
      | true ↦ λ e. onto_plain x (file_lines xs) (in_line_plain x (left (is_byte x) (list_all is_byte xs) h) e) rest
      | false ↦ λ e. rest
    ] refl

-- ---- the rules of a file for a token

from_lacks : (name : List ℕ) (b r : Bool) (rs : List FileRecord) → records_lack rs ≡ true → lack_end (rules_from name b r rs) ≡ true
from_lacks name b r [] h = refl
from_lacks name b r (UserAgent a ∷ rs) h = from_lacks name (str_eq_ignore_ascii_case a name || (r && b)) true rs h
from_lacks name true r (Judged rule ∷ rs) h =
    both (lacks 10 rule.pattern) (lack_end (rules_from name true false rs)) (left (lacks 10 rule.pattern) (records_lack rs) h)
    (from_lacks name true false rs (right (lacks 10 rule.pattern) (records_lack rs) h))
from_lacks name false r (Judged rule ∷ rs) h = from_lacks name false false rs (right (lacks 10 rule.pattern) (records_lack rs) h)

of_lacks : (name : List ℕ) (rs : List FileRecord) → records_lack rs ≡ true → lack_end (rules_of name (groups rs)) ≡ true
of_lacks name rs h = subst (λ l. lack_end l ≡ true) (at_start name rs) (from_lacks name false false rs h)

for_lacks : (token : List ℕ) (rs : List FileRecord) → records_lack rs ≡ true → lack_end (rules_for token rs) ≡ true
for_lacks token rs h =
    elim (is_named token rs) as (λ b. lack_end (cond b (rules_of token (groups rs)) (rules_of (codes "*") (groups rs))) ≡ true) [
      | true ↦ of_lacks token rs h
      | false ↦ of_lacks (codes "*") rs h
    ]

pub file_read_back : (token file : List ℕ) → list_all is_byte file ≡ true
    → rules_in (rule_lines (rules_for token (file_records file))) ≡ rules_for token (file_records file)
file_read_back token file h =
    read_back (rules_for token (file_records file)) (for_lacks token (file_records file) (lines_lack (file_lines file) (file_plain file h)))

use Rattle.iri_template.proofs.Common.{◌≡◌, ◌<◌, ◌*◌, ℕ, List, true, ◌++◌, length, take, drop, ◌∙◌, ap, sym, subst, arith, length-append}
use Rattle.iri_template.proofs.Common.{nat_tests, before, lacks, len_utf8_bounds}
use Rattle.iri_template.proofs.Common.{rules, IsUtf8, chars}
use Rattle.iri_template.proofs.Common.{encode_utf8, first_char}
use Rattle.std.proofs.lemmas.Str.{chars-append, IsUtf8-from_ascii, IsCharBoundary-from_take}
use Rattle.std.proofs.lemmas.List.{take-append-drop}
use Rattle.iri_percent.specs.Units.{octets, first_char as first_of}
use Rattle.iri_template.proofs.HeldUnits.{begins_octets}
use Rattle.iri_template.specs.inside.Pieces.{IsOctets}
use Rattle.iri_grammar.proofs.splits.CutLaws.{joined_from}
use Rattle.iri_grammar.proofs.units.FirstUnits.{char_shorter}
use Rattle.iri_grammar.proofs.faults.Scans.{before-lacks}
use Rattle.iri_template.proofs.encoded_value.next_piece.Goals as goal

pub returns-then-not-is_empty : goal.returns-then-not-is_empty
returns-then-not-is_empty c =
    let t = c.args.text.now in
    let run = c.cut_before.result.0.now in
    let rest = c.cut_before.result.1.now in
    let whole : run ++ rest ≡ t = ap (λ l. l ++ rest) c.cut_before.ensures.before
    ∙ ap (λ l. before 37 t ++ l) c.cut_before.ensures.from ∙ joined_from 37 t in
    let some : 0 < length run = grind (arith, nat_tests) in
    let u : IsUtf8 run = search rules in
    let none : lacks 37 run ≡ true = ap (lacks 37) c.cut_before.ensures.before ∙ before-lacks 37 t in
    record {
      whole = ap chars (sym whole) ∙ chars-append run rest u;
      shorter = omega (arith, ap length whole, length-append run rest);
      at_once = (c.if-plain.true, none);
    }

pub split_at-requires : goal.split_at-requires
split_at-requires c =
    let t = c.args.text.now in
    let n = 3 * c.len_utf8.result in
    let k = begins_octets t c.in-Some.c n (ap (λ l. first_of (octets l)) (sym c.as_bytes.ensures.value) ∙ sym c.in-Some.ensures)
    (ap (λ m. 3 * m) c.len_utf8.ensures.value) in
    IsCharBoundary-from_take t n c.utf8.text k.0 (IsUtf8-from_ascii (take n t) k.1.ascii)

pub returns-in-Some : goal.returns-in-Some
returns-in-Some c =
    let t = c.args.text.now in
    let n = 3 * c.len_utf8.result in
    let k = begins_octets t c.in-Some.c n (ap (λ l. first_of (octets l)) (sym c.as_bytes.ensures.value) ∙ sym c.in-Some.ensures)
    (ap (λ m. 3 * m) c.len_utf8.ensures.value) in
    let cut = c.split_at.result in
    let split = c.split_at.ensures in
    let whole : t ≡ cut.0.now ++ cut.1.now =
    sym (take-append-drop n t) ∙ ap (λ l. l ++ drop n t) (sym split.front) ∙ ap (λ l. cut.0.now ++ l) (sym split.back) in
    let u : IsUtf8 cut.0.now = search rules in
    record {
      whole = ap chars whole ∙ chars-append cut.0.now cut.1.now u;
      shorter = omega (arith, split.back_len, c.len_utf8.ensures.value, len_utf8_bounds c.in-Some.c);
      at_once = (c.if-plain.true, (c.in-Some.c, subst (IsOctets c.in-Some.c) (sym split.front) k.1));
    }

-- the text is the character and the rest
joined : (whole t next rest : List ℕ) (c : ℕ) → whole ≡ t → whole ≡ encode_utf8 c ++ next → rest ≡ next → t ≡ encode_utf8 c ++ rest
joined whole t next rest c same e r = sym same ∙ e ∙ ap (λ l. encode_utf8 c ++ l) (sym r)

pub returns : goal.returns
returns c =
    let t = c.args.text.now in
    let r = c.as_str.result.now in
    let e = joined c.chars-chars.result.rest.now t c.next.new.self.rest.now r c.in_ok-c.c c.chars-chars.ensures.rest c.in_ok-c.ensures.steps.0 c.as_str.ensures in
    record {
      whole = (first_char t r c.in_ok-c.c c.utf8.text e).first;
      shorter = char_shorter c.in_ok-c.c t r e;
      at_once = tt;
    }

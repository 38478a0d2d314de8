use Rattle.iri_text.proofs.Common.{rules, ◌≡◌, ◌≤◌, ◌+◌, ◌-◌, ℕ, List, [], ◌∙◌, Ok, Err, inr, refl, sym, ap, subst, arith, slice_range}
use Rattle.iri_text.proofs.Common.{length, Source, LineTooLong, InputTooLong, append-nil, NoLf, no_cr, Consumes, LineState}
use Rattle.std.proofs.Common.{true, vec_capacity}
use Rattle.iri_text.specs.View.{line_state}
use Rattle.iri_text.specs.Reader.{done_by}
use Rattle.iri_text.specs.Takings.{TakesWhileNoLf, NoCall, OneMore}
use Rattle.iri_text.proofs.Moved.{more, still_at_end}
use Rattle.iri_text.proofs.Parts.{length-part, empty-part}
use Rattle.iri_text.proofs.Steps.{answers, few, line_says, long_says, over_says, part-kept, next_sound, next_held, next_no_lf, kept_sound}
use Rattle.iri_text.proofs.Steps.{part-prefix}
use Rattle.iri_text.proofs.streams.reader.LineReader.find_line.Goals as goal

pub returns-then-self-clause-needed : goal.returns-then-self-clause-needed
returns-then-self-clause-needed g c = record { now = _; calls = NoCall }

pub loop-i-init : goal.loop-i-init
loop-i-init g c = record {
  sound = search rules;
  so_far = search rules;
  needed = subst (λ (l : List ℕ). TakesWhileNoLf g.I.Source.call g.I.Source.left c.args.self.now.held c.args.source.now l c.args.source.now)
      (sym (ap (λ (r : LineState). r.held) c.self.view_is)) NoCall;
  fresh = search rules;
  faults = search rules;
}

pub returns-in-Line-clause-advances : goal.returns-in-Line-clause-advances
returns-in-Line-clause-advances g c =
    let s = c.loop-i.self-inside in
    let i = c.loop-i.invariant in
    let e = c.deref.ensures.value in
    let p = rw e at c.in-Line.ensures in
    let q = rw e at c.line_len.ensures in
    answers c.args.self.now (line_state s) _ _ _ _ _ (Ok true) i.so_far (few i.sound) i.faults tt refl refl refl refl i.fresh.0
    (line_says s.buf.items s.start s.end s.taken s.line_limit s.input_limit c.usable_len-usable.result i.sound.end_in
    (rw e at c.usable_len-usable.ensures) i.sound.count _ s.ended c.in-Line.i c.line_len.result i.fresh.1 p.0 p.1 p.2 p.3 q.within q.line)

pub returns-in-TooLong-clause-advances : goal.returns-in-TooLong-clause-advances
returns-in-TooLong-clause-advances g c =
    let s = c.loop-i.self-inside in
    let i = c.loop-i.invariant in
    let e = c.deref.ensures.value in
    let p = rw e at c.in-TooLong.ensures in
    answers c.args.self.now (line_state s) (done_by (Err LineTooLong) (line_state s)) _ _ _ _ (Err LineTooLong) i.so_far
    (few i.sound) i.faults tt refl refl refl refl i.fresh.0 (
      refl,
      long_says s.buf.items s.start s.end s.taken s.line_limit s.input_limit c.usable_len-usable.result i.sound.end_in
          (rw e at c.usable_len-usable.ensures) i.sound.count (done_by (Err LineTooLong) (line_state s)) refl refl refl p.0 p.1,
    )

pub returns-in-Over-clause-advances : goal.returns-in-Over-clause-advances
returns-in-Over-clause-advances g c =
    let s = c.loop-i.self-inside in
    let i = c.loop-i.invariant in
    let e = c.deref.ensures.value in
    let p = rw e at c.in-Over.ensures in
    answers c.args.self.now (line_state s) (done_by (Err InputTooLong) (line_state s)) _ _ _ _ (Err InputTooLong) i.so_far
    (few i.sound) i.faults tt refl refl refl refl i.fresh.0 (
      refl,
      over_says s.buf.items s.start s.end s.taken s.line_limit s.input_limit c.usable_len-usable.result i.sound.end_in
          (rw e at c.usable_len-usable.ensures) i.sound.count (done_by (Err InputTooLong) (line_state s)) refl refl refl p.0 p.1 p.2,
    )

pub loop-i-preserved : goal.loop-i-preserved
loop-i-preserved g c =
    let s = c.loop-i.self-inside in
    let i = c.loop-i.invariant in
    let e = c.deref.ensures.value in
    let p = rw e at c.in-More.ensures in
    let u = rw e at c.usable_len-usable.ensures in
    let k = s.end - s.start in
    let r = c.make_room-self-inside.result in
    let n = c.in-Ok.n in
    let buf = c.fill.new.buf.items in
    let in_limit : s.taken ≤ s.input_limit = omega (arith, p.0, u) in
    let kept = part-kept buf c.make_room-self-inside.new.buf.items r (r + k) (omega arith) c.fill.ensures.prefix
    ∙ c.make_room-self-inside.ensures.part in
    let len : length s.buf.items ≤ length buf = omega (arith, c.fill.ensures.len, c.make_room-self-inside.ensures.len) in
    let wide : vec_capacity s.buf ≤ vec_capacity c.fill.new.buf = omega (arith, c.fill.ensures.capacity, c.make_room-self-inside.ensures.capacity) in
    let fits : r + k + n ≤ length buf = omega (arith, c.in-Ok.ensures.within.0, c.fill.ensures.len) in
    let held = next_held buf s.buf.items s.ended i.fresh.1 r s.start s.end k n s.lf s.line_start s.line_end s.taken s.line_limit s.input_limit kept len wide i.sound refl fits p.2 in
    record {
      sound = next_sound buf s.buf.items s.ended i.fresh.1 r s.start s.end k n s.lf s.line_start s.line_end s.taken s.line_limit s.input_limit kept len wide i.sound refl fits p.2 c.find_lf-self-inside-in-Ok.result (omega (arith, in_limit, c.in-Ok.ensures.within.1)) (λ h. omega (arith, in_limit, h)) (rw c.deref-in-Ok.ensures.value at c.find_lf-self-inside-in-Ok.ensures);
      so_far = more c.args.self.now (line_state s) _ _ _ _ (slice_range buf (r + k) (r + k + n)) i.so_far p.2 c.in-Ok.ensures.bytes held
          (omega (arith, length-part buf (r + k) (r + k + n) fits)) refl refl;
      fresh = i.fresh;
      needed = subst
          (λ (l : List ℕ). TakesWhileNoLf g.I.Source.call g.I.Source.left c.args.self.now.held c.args.source.now l c.fill.new.source)
          (sym held) (OneMore _ _ _ _ i.needed p.2 c.fill.ensures.call c.in-Ok.ensures.bytes);
      faults = omega (arith, i.faults, c.fill.ensures.later);
    }

pub find_lf-self-inside-requires-in-Ok-clause-no_lf : goal.find_lf-self-inside-requires-in-Ok-clause-no_lf
find_lf-self-inside-requires-in-Ok-clause-no_lf g c =
    let s = c.loop-i.self-inside in
    let i = c.loop-i.invariant in
    let p = rw c.deref.ensures.value at c.in-More.ensures in
    let k = s.end - s.start in
    let r = c.make_room-self-inside.result in
    let n = c.in-Ok.n in
    let buf = c.fill.new.buf.items in
    let kept = part-kept buf c.make_room-self-inside.new.buf.items r (r + k) (omega arith) c.fill.ensures.prefix
    ∙ c.make_room-self-inside.ensures.part in
    let len : length s.buf.items ≤ length buf = omega (arith, c.fill.ensures.len, c.make_room-self-inside.ensures.len) in
    let wide : vec_capacity s.buf ≤ vec_capacity c.fill.new.buf = omega (arith, c.fill.ensures.capacity, c.make_room-self-inside.ensures.capacity) in
    let fits : r + k + n ≤ length buf = omega (arith, c.in-Ok.ensures.within.0, c.fill.ensures.len) in
    rw c.deref-in-Ok.ensures.value
    (next_no_lf buf s.buf.items s.ended i.fresh.1 r s.start s.end k n s.lf s.line_start s.line_end s.taken s.line_limit s.input_limit kept len wide i.sound refl fits p.2)

pub invariant_of-self-in-Err : goal.invariant_of-self-in-Err
invariant_of-self-in-Err g c =
    let s = c.loop-i.self-inside in
    let i = c.loop-i.invariant in
    let e = c.deref.ensures.value in
    let p = rw e at c.in-More.ensures in
    let u = rw e at c.usable_len-usable.ensures in
    let k = s.end - s.start in
    let r = c.make_room-self-inside.result in
    let buf = c.fill.new.buf.items in
    let in_limit : s.taken ≤ s.input_limit = omega (arith, p.0, u) in
    let kept = part-kept buf c.make_room-self-inside.new.buf.items r (r + k) (omega arith) c.fill.ensures.prefix
    ∙ c.make_room-self-inside.ensures.part in
    let len : length s.buf.items ≤ length buf = omega (arith, c.fill.ensures.len, c.make_room-self-inside.ensures.len) in
    let wide : vec_capacity s.buf ≤ vec_capacity c.fill.new.buf = omega (arith, c.fill.ensures.capacity, c.make_room-self-inside.ensures.capacity) in
    kept_sound buf s.buf.items s.ended i.fresh.1 r s.start s.end k s.lf s.line_start s.line_end s.taken s.line_limit s.input_limit kept len wide i.sound refl (omega (arith, c.make_room-self-inside.ensures.room, c.fill.ensures.len)) in_limit

pub returns-in-Err : goal.returns-in-Err
returns-in-Err g c =
    let s = c.loop-i.self-inside in
    let i = c.loop-i.invariant in
    let e = c.deref.ensures.value in
    let p = rw e at c.in-More.ensures in
    let u = rw e at c.usable_len-usable.ensures in
    let k = s.end - s.start in
    let r = c.make_room-self-inside.result in
    let buf = c.fill.new.buf.items in
    let in_limit : s.taken ≤ s.input_limit = omega (arith, p.0, u) in
    let kept = part-kept buf c.make_room-self-inside.new.buf.items r (r + k) (omega arith) c.fill.ensures.prefix
    ∙ c.make_room-self-inside.ensures.part in
    let now : LineState = record {
      held = slice_range buf r (r + k);
      taken = s.taken;
      line = slice_range buf s.line_start s.line_end;
      ended = s.ended;
      done = true;
      line_limit = s.line_limit;
      input_limit = s.input_limit;
    } in
    let moved = more c.args.self.now (line_state s) now _ _ _ [] i.so_far p.2 c.in-Err.ensures.nothing (kept ∙ sym (append-nil _))
    (omega arith) refl refl in
    record {
      needed = record { now = _; calls = OneMore _ _ _ _ i.needed p.2 c.fill.ensures.call c.in-Err.ensures.nothing };
      advances = answers c.args.self.now now now _ _ _ _ (Err Source) moved (omega (arith, ap length kept, few i.sound))
          (omega (arith, i.faults, c.fill.ensures.later)) (omega (arith, i.faults, c.in-Err.ensures.cause)) refl refl refl refl i.fresh.0
          (refl, subst NoLf (sym kept) p.2, omega (arith, ap length kept, p.0, p.1), in_limit);
    }

pub returns-in-Ok-eq0-2 : goal.returns-in-Ok-eq0-2
returns-in-Ok-eq0-2 g c =
    let s = c.loop-i.self-inside in
    let i = c.loop-i.invariant in
    let e = c.deref.ensures.value in
    let p = rw e at c.in-More.ensures in
    let u = rw e at c.usable_len-usable.ensures in
    let k = s.end - s.start in
    let r = c.make_room-self-inside.result in
    let buf = c.fill.new.buf.items in
    let held = slice_range s.buf.items s.start s.end in
    let in_limit : s.taken ≤ s.input_limit = omega (arith, p.0, u) in
    let kept : slice_range buf r (r + k) ≡ held = part-kept buf c.make_room-self-inside.new.buf.items r (r + k)
    (omega arith) c.fill.ensures.prefix ∙ c.make_room-self-inside.ensures.part in
    let d = c.deref-in-Ok-eq0-2.ensures.value in
    let q = rw d at c.line_len-in-Ok-eq0-2.ensures in
    let zero : c.in-Ok-eq0.field-0 ≡ 0 = c.in-Ok-eq0.field-0-test in
    let came : Consumes (g.I.Source.left c.loop-i.source) (g.I.Source.left c.fill.new.source) [] =
    subst (Consumes (g.I.Source.left c.loop-i.source) (g.I.Source.left c.fill.new.source))
    (empty-part buf (r + k) (r + k + c.in-Ok-eq0.field-0) (omega (arith, zero))) c.in-Ok-eq0.ensures.bytes in
    let len : length (slice_range buf r (r + k)) ≡ k = ap length kept ∙ length-part s.buf.items s.start s.end i.sound.end_in in
    let moved = more c.args.self.now (line_state s) (line_state s) _ _ _ [] i.so_far p.2 came (sym (append-nil _))
    (omega arith) refl refl in
    record {
      needed = record { now = _; calls = OneMore _ _ _ _ i.needed p.2 c.fill.ensures.call c.in-Ok-eq0.ensures.bytes };
      advances = answers c.args.self.now (line_state s) _ _ _ _ _ (Ok true) moved (few i.sound)
          (omega (arith, i.faults, c.fill.ensures.later)) tt refl refl refl refl i.fresh.0
          (record {
            raw = held;
            whole = p.2;
            short = omega (arith, p.0, p.1);
            line = part-prefix buf r (r + k) c.line_len-in-Ok-eq0-2.result (omega (arith, q.within, len)) ∙ q.line ∙ ap no_cr kept;
            within = omega (arith, in_limit);
            rest = inr (
              refl,
              (λ is. c.if-len-eq0.false (omega (arith, ap length is, length-part s.buf.items s.start s.end i.sound.end_in))),
              empty-part buf (r + k) (r + k) (omega arith),
              still_at_end _ _ [] (c.in-Ok-eq0.ensures.ends zero) came,
              refl,
            );
          });
    }

pub returns-in-Ok-eq0-clause-needed : goal.returns-in-Ok-eq0-clause-needed
returns-in-Ok-eq0-clause-needed g c =
    let p = rw c.deref.ensures.value at c.in-More.ensures in
    record { now = _; calls = OneMore _ _ _ _ c.loop-i.invariant.needed p.2 c.fill.ensures.call c.in-Ok-eq0.ensures.bytes }

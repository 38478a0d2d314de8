use Rattle.iri_normal.proofs.Common.{shown_none, shows_all, shows_exit, shows_then, Shows, is_path, pieces, path_char, path-whole, kept}
use Rattle.iri_normal.proofs.Common.{in_form, ◌==◌, ends_at_slash, ◌≡◌, ◌∙◌, ◌+◌, ◌<◌, ◌||◌, Ok, true, length, length-append, sym, subst}
use Rattle.iri_normal.proofs.Common.{ap, arith}
use Rattle.std.proofs.Common.{◌^◌, rules}
use Rattle.iri_normal.proofs.segments.Slashes.{rest-ok}
use Rattle.iri_normal.proofs.removal.KeptSegments.{kept-plain, one-segment}
use Rattle.iri_normal.proofs.removal.LongPaths.{form-two}
use Rattle.iri_normal.proofs.removal.WrittenPaths.{form-nil}
use Rattle.iri_normal.proofs.targets.Targets.{parts_over}
use Rattle.iri_normal.proofs.ShownTexts.{shows_same}
use Rattle.iri_normal.proofs.remove_dot_segments.+show_kept.Goals as goal

pub show_part-requires : goal.show_part-requires
show_part-requires g t c =
    let path : is_path g.S.Spec.tests c.args.text.now ≡ true = assumption in
    path-whole g.S.Spec.tests c.args.text.now g.met.S.Spec.lawful path

pub returns-then-stays : goal.returns-then-stays
returns-then-stays g t c =
    shows_same (ap (in_form g.S.Spec.tests c.args.normal) (kept-plain c.args.text.now c.args.count (sym c.stays.ensures ∙ c.if-stays.true)))
    c.show_part.ensures

pub show_kept-requires : goal.show_kept-requires
show_kept-requires g t c =
    let h = c.in-Some.ensures in
    let size = ap length h.whole ∙ length-append c.in-Some.first.now c.in-Some.rest.now in
    let smaller : length c.in-Some.first.now < length c.args.text.now = omega (arith, size, h.rest_some) in
    let old_path : is_path g.S.Spec.tests c.args.text.now ≡ true = assumption in
    let path = (parts_over (path_char g.S.Spec.tests) c.in-Some.first.now c.in-Some.rest.now h.ends
    (subst (λ l. is_path g.S.Spec.tests l ≡ true) h.whole old_path)).0 in
    let old_room : c.args.count + length c.args.text.now < 2 ^ 64 = assumption in
    let ok : (ends_at_slash c.in-Some.first.now || c.taken.result == 0) ≡ true = ap (λ b. b || c.taken.result == 0) h.ends in
    let room : c.taken.result + length c.in-Some.first.now < 2 ^ 64 = omega (arith, size, c.taken.ensures.room, old_room) in
    search rules

pub returns-in_err-show_kept : goal.returns-in_err-show_kept
returns-in_err-show_kept g t c =
    shows_same (form-two g.S.Spec.tests c.args.normal c.args.text.now c.in-Some.first.now c.in-Some.rest.now c.args.count c.taken.result
    c.in-Some.ensures c.taken.ensures.count)
    (shows_exit g.met.W.TextSink.rules (in_form g.S.Spec.tests c.args.normal
    (kept (pieces 47 c.in-Some.rest.now) c.args.count)) c.from_residual.ensures.0 c.in_err-show_kept.ensures)

pub show_kept-requires-2 : goal.show_kept-requires-2
show_kept-requires-2 g t c =
    let h = c.in-Some.ensures in
    let size = ap length h.whole ∙ length-append c.in-Some.first.now c.in-Some.rest.now in
    let smaller : length c.in-Some.rest.now < length c.args.text.now = omega (arith, size, h.first_some) in
    let old_path : is_path g.S.Spec.tests c.args.text.now ≡ true = assumption in
    let path = (parts_over (path_char g.S.Spec.tests) c.in-Some.first.now c.in-Some.rest.now h.ends
    (subst (λ l. is_path g.S.Spec.tests l ≡ true) h.whole old_path)).1 in
    let old_room : c.args.count + length c.args.text.now < 2 ^ 64 = assumption in
    let old_ok : (ends_at_slash c.args.text.now || c.args.count == 0) ≡ true = assumption in
    let ok : (ends_at_slash c.in-Some.rest.now || c.args.count == 0) ≡ true = rest-ok c.in-Some.first.now c.in-Some.rest.now c.args.count
    (subst (λ l. (ends_at_slash l || c.args.count == 0) ≡ true) h.whole old_ok) in
    let room : c.args.count + length c.in-Some.rest.now < 2 ^ 64 = omega (arith, size, old_room) in
    search rules

pub returns : goal.returns
returns g t c =
    shows_same (form-two g.S.Spec.tests c.args.normal c.args.text.now c.in-Some.first.now c.in-Some.rest.now c.args.count c.taken.result
    c.in-Some.ensures c.taken.ensures.count)
    (shows_then g.met.W.TextSink.rules c.in_ok-show_kept.ensures c.show_kept-2.ensures)

pub returns-in_default : goal.returns-in_default
returns-in_default g t c =
    let ok : (ends_at_slash c.args.text.now || c.args.count == 0) ≡ true = assumption in
    let kept = sym c.stays.ensures ∙ c.if-stays.false in
    subst (λ x. Shows g.W.TextSink.puts g.W.TextSink.halts g.W.TextSink.stops c.args.sink.now x c.args.sink.now (Ok tt))
    (sym (form-nil g.S.Spec.tests c.args.normal) ∙ ap (in_form g.S.Spec.tests c.args.normal)
    (one-segment c.args.text.now c.args.count (omega arith) c.in_default.ensures ok kept))
    (shows_all (shown_none g.met.W.TextSink.rules c.args.sink.now))

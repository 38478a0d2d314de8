use Rattle.iri_robots.proofs.Common.{length, sym, ◌∙◌, take_rest}
use Rattle.iri_robots.proofs.Parts.{some_left, star_reached, part_taken, no_longer, reached_end, stuck_here}
use Rattle.iri_robots.proofs.pattern.reach_star.Goals.{else-anchored-via-then-anchored+else-not-is_empty, else-anchored-via-else-anchored}
use Rattle.iri_robots.proofs.pattern.reach_star.Goals as goal

pub returns-then-pattern-eq42 : goal.returns-then-pattern-eq42
returns-then-pattern-eq42 c =
    let i = c.loop-pattern.invariant in
    star_reached c.args.anchored c.args.pattern.now c.args.text.now c.loop-pattern.pattern.now c.loop-pattern.text.now _ i.moves i.shorter
    i.within (some_left (length c.loop-pattern.pattern.now) (sym c.is_empty.ensures
    ∙ c.loop-pattern-test.true)) c.if-pattern-eq42.true (take_rest c.loop-pattern.pattern.now 1)

pub loop-pattern-preserved : goal.loop-pattern-preserved
loop-pattern-preserved c =
    let i = c.loop-pattern.invariant in
    let p = c.loop-pattern.pattern.now in
    let t = c.loop-pattern.text.now in
    let d = take_rest p c.in-Some.part.pattern in
    let e = take_rest t c.in-Some.part.text in
    record {
      moves = part_taken c.args.anchored c.args.pattern.now c.args.text.now p t _ _ c.in-Some.part.pattern c.in-Some.part.text i.moves
          c.in-Some.ensures d e;
      shorter = no_longer p _ c.args.pattern.now c.in-Some.part.pattern d i.shorter;
      within = no_longer t _ c.args.text.now c.in-Some.part.text e i.within;
    }

pub returns-in-None : goal.returns-in-None
returns-in-None c = stuck_here c.args.anchored c.args.pattern.now c.args.text.now c.loop-pattern.pattern.now c.loop-pattern.text.now
    c.loop-pattern.invariant.moves c.in-None.ensures

pub returns-else-anchored : goal.returns-else-anchored
returns-else-anchored c =
    reached_end c.args.anchored c.args.pattern.now c.args.text.now c.loop-pattern.pattern.now c.loop-pattern.text.now
    c.loop-pattern.invariant.moves (sym c.is_empty.ensures ∙ c.loop-pattern-test.false) (λ e. elim c.else-anchored.branch [
      | else-anchored-via-then-anchored+else-not-is_empty w ↦ sym w.is_empty-then-anchored.ensures ∙ w.if-not-is_empty.false
      | else-anchored-via-else-anchored w ↦ let h = w.if-anchored.false in cc
    ])

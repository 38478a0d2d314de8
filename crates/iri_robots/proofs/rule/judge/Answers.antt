use Rattle.iri_robots.proofs.Common.{Some, ◌||◌, length, subst, sym, ap, ◌∙◌, refl, arith, FileRule, IsBestOf}
use Rattle.iri_robots.proofs.Verdicts.{kept, best_kept, best_first, best_longer, best_tie}
use Rattle.iri_robots.proofs.rule.judge.Goals as goal

pub returns-then-matches : goal.returns-then-matches
returns-then-matches c rules h =
    let rule : FileRule = record { allows = c.args.allows; pattern = c.args.pattern.now } in
    best_first rules c.args.text.now rule (length c.args.pattern.now) c.args.allows refl refl (c.matches.ensures.0 c.if-matches.true)
    (subst (λ b. IsBestOf rules c.args.text.now b) c.in_default.is h)

pub returns-in_default : goal.returns-in_default
returns-in_default c rules h =
    let rule : FileRule = record { allows = c.args.allows; pattern = c.args.pattern.now } in
    kept rules c.args.text.now rule c.args.best (λ m.
    let e = c.matches.ensures.1 m in
    let f = c.if-matches.false in
    cc) h

pub returns-then-not-matches : goal.returns-then-not-matches
returns-then-not-matches c rules h =
    let rule : FileRule = record { allows = c.args.allows; pattern = c.args.pattern.now } in
    kept rules c.args.text.now rule (Some c.in-Some.old) (λ m.
    let e = c.matches-2.ensures.1 m in
    let f = c.if-not-matches.true in
    cc) (subst (λ b. IsBestOf rules c.args.text.now b) c.in-Some.is h)

pub returns-then-bytes-old : goal.returns-then-bytes-old
returns-then-bytes-old c rules h =
    let rule : FileRule = record { allows = c.args.allows; pattern = c.args.pattern.now } in
    best_kept rules c.args.text.now rule c.in-Some.old.bytes c.in-Some.old.allows (λ m. omega arith)
    (subst (λ b. IsBestOf rules c.args.text.now b) c.in-Some.is h)

pub returns-then-old-bytes : goal.returns-then-old-bytes
returns-then-old-bytes c rules h =
    let rule : FileRule = record { allows = c.args.allows; pattern = c.args.pattern.now } in
    let m = c.matches-2.ensures.0 c.if-not-matches.false in
    best_longer rules c.args.text.now rule (length c.args.pattern.now) c.in-Some.old.bytes c.args.allows c.in-Some.old.allows refl refl m
    c.if-old-bytes.true (subst (λ b. IsBestOf rules c.args.text.now b) c.in-Some.is h)

pub returns-then-allows : goal.returns-then-allows
returns-then-allows c rules h =
    let rule : FileRule = record { allows = c.args.allows; pattern = c.args.pattern.now } in
    let m = c.matches-2.ensures.0 c.if-not-matches.false in
    best_tie rules c.args.text.now rule (length c.args.pattern.now) c.in-Some.old.bytes c.args.allows c.in-Some.old.allows c.args.allows
    refl refl m c.if-old-bytes.false c.if-bytes-old.false (let e = c.if-allows.true in e
    ∙ sym (ap (λ x. x || c.in-Some.old.allows) e)) (subst (λ b. IsBestOf rules c.args.text.now b) c.in-Some.is h)

pub returns-else-allows : goal.returns-else-allows
returns-else-allows c rules h =
    let rule : FileRule = record { allows = c.args.allows; pattern = c.args.pattern.now } in
    let m = c.matches-2.ensures.0 c.if-not-matches.false in
    best_tie rules c.args.text.now rule (length c.args.pattern.now) c.in-Some.old.bytes c.args.allows c.in-Some.old.allows
    c.in-Some.old.allows refl refl m c.if-old-bytes.false c.if-bytes-old.false (sym (ap (λ x. x || c.in-Some.old.allows)
    c.if-allows.false)) (subst (λ b. IsBestOf rules c.args.text.now b) c.in-Some.is h)

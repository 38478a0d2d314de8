use Rattle.iri_cli.proofs.Common.{ℕ, List, CanonMode, inl, string_bytes, subst, RunsLines, outside_state, robots_rules}
use Rattle.iri_cli.proofs.robots.robots_lines.Goals as goal

pub returns-in-Ok : goal.returns-in-Ok
returns-in-Ok g c =
    let state = outside_state g.I.Source.left g.I.Source.faults g.O.Sink.written g.O.Sink.faults g.O.Sink.room_left in
    let runs : CanonMode → List ℕ → Type 0 = λ m t. RunsLines (robots_rules g.S.Spec.tests m t) (state c.args.source.now c.args.sink.now)
    (state c.run_lines.new.source c.run_lines.new.sink) c.run_lines.result in
    subst (runs c.args.setup.mode) c.in-Ok.ensures.1
    (subst (λ m. runs m (string_bytes c.in-Ok.crawler.robots.token)) c.in-Ok.ensures.0 (inl c.run_lines.ensures))

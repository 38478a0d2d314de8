use Rattle.std.proofs.Common.{◌≡◌, [], length, map, string_bytes, Some, ap, sym, subst, refl, ◌∙◌, inl}
use Rattle.iri_text.specs.Memory.{room_left_of, state_of}
use Rattle.iri_cli.specs.run.Run.{outside}
use Rattle.iri_run_calls.specs.Runs.{RunsWords, begun}
use Rattle.iri_run_calls.proofs.run_words.Goals as goal

pub returns : goal.returns
returns c =
    let words = map string_bytes c.args.words.now in let run = c.run-status.ensures in
    let source = c.new-source.ensures in let sink = c.new-sink.ensures in
    let old = outside (Some c.new-source.result) 0 (state_of c.new-sink.result) in
    let end = outside (Some c.run-status.new.source) 0 (state_of c.run-status.new.sink) in
    let room : room_left_of c.new-sink.result ≡ Some (length c.args.out.now) =
    sink.room_left refl ∙ ap (λ l. Some (length l)) c.deref_mut.ensures.value ∙ ap Some (sym c.in-Ok.buffer.ok.0 ∙ c.in-Ok.ensures.len) in
    let start : old ≡ begun c.args.input.now (length c.args.out.now) =
    ap (λ l. outside l 0 (state_of c.new-sink.result)) source.left
    ∙ ap (λ w. outside (Some c.args.input.now) 0
    (record { written = w; faults = c.new-sink.result.faults; room_left = room_left_of c.new-sink.result })) sink.written
    ∙ ap (λ f. outside (Some c.args.input.now) 0
    (record { written = Some []; faults = f; room_left = room_left_of c.new-sink.result })) sink.faults
    ∙ ap (λ r. outside (Some c.args.input.now) 0 (record { written = Some []; faults = 0; room_left = r })) room in
    inl (record {
      end = end;
      output = c.written-written.result.now;
      written = ap Some (sym c.written-written.ensures);
      runs =
          subst (λ o. RunsWords words o end c.run-status.result) start (record {
            no_command = run.no_command;
            tells = run.tells;
            lines = run.lines;
            gens = run.gens;
            canonical = run.canonical;
            canonical_uris = run.canonical_uris;
            parts = run.parts;
            register = run.register;
            links = run.links;
            lax = run.lax;
            docs = run.docs;
            robots = run.robots;
            pairs = run.pairs;
            pair_uris = run.pair_uris;
          });
      out = c.copy_over.ensures;
      len = refl;
      within = c.if-written-out.false;
      source = refl;
    })

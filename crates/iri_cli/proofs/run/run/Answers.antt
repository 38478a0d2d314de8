use Rattle.iri_cli.proofs.Common.{map, string_bytes, outside_state, tests_of}
use Rattle.iri_cli.specs.declared.run.words.Command.TheVariants.{Lines, Gen, Tell}
use Rattle.iri_cli.proofs.BytesLemmas.{canonical_answers, grammar_is_spec}
use Rattle.iri_cli.proofs.PairsLemmas.{answers_are_of_canon, answers_are_of_canon_uris}
use Rattle.iri_cli.proofs.ToolLaws.{answers_are_expansions, answers_are_links, answers_are_verdicts, live_lines_share_entries}
use Rattle.iri_cli.proofs.LinksLemmas.{lax_answers_are_links}
use Rattle.iri_cli.proofs.PartsLemmas.{answers_are_taken_apart}
use Rattle.iri_cli.proofs.ToUriLemmas.{answers_are_canonical_uris}
use Rattle.iri_cli.proofs.WordLemmas.{obeyed, sound, unknown}
use Rattle.iri_cli.proofs.run.run.Goals as goal

pub obey-requires : goal.obey-requires
obey-requires g c = sound (map string_bytes c.args.words.now) c.command_of.result c.command_of.ensures

pub returns : goal.returns
returns g c =
    let state = outside_state g.I.Source.left g.I.Source.faults g.O.Sink.written g.O.Sink.faults g.O.Sink.room_left in
    let words = map string_bytes c.args.words.now in
    let old = state c.args.source.now c.args.sink.now in
    let new = state c.obey.new.source c.obey.new.sink in
    let command = c.command_of.result in
    let is = c.command_of.ensures in
    let done = c.obey.ensures in
    let for = obeyed words old new c.obey.result command is done in
    record {
      no_command = unknown words old new c.obey.result command is done;
      tells = λ notice. for (Tell notice);
      lines = λ command mode grammar. for (Lines command mode grammar);
      gens = λ grammar count. for (Gen grammar count);
      canonical = λ mode grammar _ base line taken none. canonical_answers (tests_of grammar) mode (grammar_is_spec grammar) base line taken none;
      canonical_uris = λ mode grammar _. answers_are_canonical_uris (tests_of grammar) mode (grammar_is_spec grammar);
      parts = λ mode grammar _. answers_are_taken_apart (tests_of grammar) mode (grammar_is_spec grammar);
      register = λ mode grammar _. live_lines_share_entries (tests_of grammar) mode (grammar_is_spec grammar);
      links = λ mode grammar _. answers_are_links (tests_of grammar) mode (grammar_is_spec grammar);
      lax = λ mode grammar _. lax_answers_are_links (tests_of grammar) mode;
      docs = λ mode grammar _ base line. answers_are_expansions (tests_of grammar) mode base line;
      robots = λ mode grammar token _. answers_are_verdicts (tests_of grammar) mode token;
      pairs = λ mode grammar _. answers_are_of_canon (tests_of grammar) mode (grammar_is_spec grammar);
      pair_uris = λ mode grammar _. answers_are_of_canon_uris (tests_of grammar) mode (grammar_is_spec grammar);
    }

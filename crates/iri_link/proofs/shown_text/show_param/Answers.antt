use Rattle.iri_link.proofs.Common.{◌∷◌, ◌++◌, sym, subst, now_of, str_to_ascii_lowercase}
use Rattle.std.specs.Option.{option_map}
use Rattle.iri_text.specs.Shown.{Shows}
use Rattle.iri_text.proofs.Compose.{shows_exit, shows_then}
use Rattle.iri_link.specs.Written.{written_value}
use Rattle.iri_link.specs.inside.ReadQuoted.{said}
use Rattle.iri_link.proofs.shown_text.show_param.Goals as goal

pub returns-in_err-show_name : goal.returns-in_err-show_name
returns-in_err-show_name g c =
    shows_exit g.met.W.TextSink.rules (written_value (option_map (said c.args.param.escapes) (now_of c.args.param.value))) c.from_residual.ensures.0 c.in_err-show_name.ensures

pub returns-in-Some : goal.returns-in-Some
returns-in-Some g c =
    subst (λ o. Shows g.W.TextSink.puts g.W.TextSink.halts g.W.TextSink.stops c.args.sink.now (59 ∷ 32 ∷ (str_to_ascii_lowercase c.args.param.name.now ++ written_value (option_map (said c.args.param.escapes) (now_of o)))) c.show_three.new.sink c.show_three.result)
    (sym c.in-Some.is) (shows_then g.met.W.TextSink.rules c.in_ok-show_name.ensures c.show_three.ensures)

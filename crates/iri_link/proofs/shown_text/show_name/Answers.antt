use Rattle.iri_link.proofs.Common.{str_to_ascii_lowercase, is_token_char}
use Rattle.iri_text.proofs.Compose.{shows_exit, shows_then}
use Rattle.iri_link.proofs.RunLemmas.{all-at, token-low}
use Rattle.iri_link.proofs.shown_text.show_name.Goals as goal

pub returns-in_err-put : goal.returns-in_err-put
returns-in_err-put g c = shows_exit g.met.W.TextSink.rules (str_to_ascii_lowercase c.args.name.now) c.from_residual.ensures.0 c.in_err-put.ensures

pub show_lowered-requires : goal.show_lowered-requires
show_lowered-requires g c = record { ascii = all-at is_token_char token-low c.args.name.now c.requires }

pub returns : goal.returns
returns g c = shows_then g.met.W.TextSink.rules c.in_ok-put.ensures c.show_lowered.ensures

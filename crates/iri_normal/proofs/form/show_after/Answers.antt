use Rattle.iri_normal.proofs.Common.{◌++◌, shows_exit, shows_then, delimited, pct, is_normalizing, part_in, path_in, slices}
use Rattle.iri_normal.proofs.normal_forms.Prefixes.{prefix-form}
use Rattle.iri_normal.proofs.ShownTexts.{shows_same}
use Rattle.iri_normal.proofs.form.show_after.Goals as goal

pub returns-in_err-put : goal.returns-in_err-put
returns-in_err-put g c =
    let s = g.S.Spec.tests in
    let mode = c.args.mode in
    let t = slices c.args.target.now in
    let n = is_normalizing mode in
    let tail = path_in s mode c.args.whole t.authority t.path
    ++ (delimited 63 (part_in n (pct s) t.query) ++ delimited 35 (part_in n (pct s) t.fragment)) in
    shows_same (prefix-form s mode c.args.whole t c.args.prefix.now c.requires.mode c.requires.prefix)
    (shows_exit g.met.W.TextSink.rules tail c.from_residual.ensures.0 c.in_err-put.ensures)

pub returns : goal.returns
returns g c =
    let t = slices c.args.target.now in
    shows_same (prefix-form g.S.Spec.tests c.args.mode c.args.whole t c.args.prefix.now c.requires.mode c.requires.prefix)
    (shows_then g.met.W.TextSink.rules c.in_ok-put.ensures c.show_from_path.ensures)

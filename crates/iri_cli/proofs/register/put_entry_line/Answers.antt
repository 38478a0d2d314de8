use Rattle.iri_cli.proofs.Common.{[], ◌∷◌, ◌++◌, puts-then, puts-exit, joined}
use Rattle.iri_cli.proofs.register.put_entry_line.Goals as goal

pub returns-in_err-put_number : goal.returns-in_err-put_number
returns-in_err-put_number g c =
    puts-exit (32 ∷ (joined c.args.lines.now ++ (32 ∷ (c.args.target.now ++ 10 ∷ [])))) c.from_residual.ensures.0 c.in_err-put_number.ensures

pub returns-in_err-put_all : goal.returns-in_err-put_all
returns-in_err-put_all g c =
    puts-then c.in_ok-put_number.ensures
    (puts-exit (joined c.args.lines.now ++ (32 ∷ (c.args.target.now ++ 10 ∷ []))) c.from_residual-in_err-put_all.ensures.0
    c.in_err-put_all.ensures)

pub returns-in_err-put_joined : goal.returns-in_err-put_joined
returns-in_err-put_joined g c =
    puts-then c.in_ok-put_number.ensures (puts-then c.in_ok-put_all.ensures
    (puts-exit (32 ∷ (c.args.target.now ++ 10 ∷ [])) c.from_residual-in_err-put_joined.ensures.0 c.in_err-put_joined.ensures))

pub returns-in_err-put_all-2 : goal.returns-in_err-put_all-2
returns-in_err-put_all-2 g c =
    puts-then c.in_ok-put_number.ensures (puts-then c.in_ok-put_all.ensures (puts-then c.in_ok-put_joined.ensures
    (puts-exit (c.args.target.now ++ 10 ∷ []) c.from_residual-in_err-put_all-2.ensures.0 c.in_err-put_all-2.ensures)))

pub returns-in_err-put_all-3 : goal.returns-in_err-put_all-3
returns-in_err-put_all-3 g c =
    puts-then c.in_ok-put_number.ensures (puts-then c.in_ok-put_all.ensures (puts-then c.in_ok-put_joined.ensures
    (puts-then c.in_ok-put_all-2.ensures (puts-exit (10 ∷ []) c.from_residual-in_err-put_all-3.ensures.0
    (rw (← c.as_bytes.ensures.value) c.in_err-put_all-3.ensures)))))

pub returns : goal.returns
returns g c =
    puts-then c.in_ok-put_number.ensures (puts-then c.in_ok-put_all.ensures (puts-then c.in_ok-put_joined.ensures
    (puts-then c.in_ok-put_all-2.ensures
    (puts-then (rw (← c.as_bytes.ensures.value) c.in_ok-put_all-3.ensures) c.put_all-4.ensures))))

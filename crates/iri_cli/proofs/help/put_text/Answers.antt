use Rattle.iri_cli.proofs.Common.{◌≡◌, ◌≢◌, ◌∙◌, ℕ, List, Option, inl, inr, sym, subst, arith, ap, ⊎_elim, append-nil, Appends}
use Rattle.iri_cli.proofs.Common.{room-so, room-then, status_of}
use Rattle.iri_cli.proofs.Answered.{whole_prefix}
use Rattle.iri_cli.proofs.PutLemmas.{puts_so, room_text}
use Rattle.iri_cli.proofs.help.put_text.Goals as goal

pub returns-in-Ok-clause-puts : goal.returns-in-Ok-clause-puts
returns-in-Ok-clause-puts g c =
    let p = puts_so c.as_bytes.ensures.value c.in-Ok.ensures in
    let q = c.finish.ensures.closes in
    let put = subst (λ (w : Option (List ℕ)). Appends (g.O.Sink.written c.args.sink.now) w c.args.text.now) (sym q.kept) p.whole in
    ⊎_elim (λ e. inl (c.finish.ensures.status_is ∙ ap status_of e.0, put, e.1 ∙ p.same))
    (λ e. inr (c.finish.ensures.status_is ∙ ap status_of e.0, whole_prefix put, omega (arith, e.1, p.same), omega (arith, q.later, p.later)))
    q.ends

pub returns-in-Ok-clause-room : goal.returns-in-Ok-clause-room
returns-in-Ok-clause-room g c =
    let p = puts_so c.as_bytes.ensures.value c.in-Ok.ensures in
    room_text (append-nil c.args.text.now) (room-then (room-so {Q = Unit {0}} (λ _. tt) p.room)
    (room-so (λ is five. done (c.finish.ensures.status_is ∙ ap status_of is) five) c.finish.ensures.closes.room))
  where
    done : {n : ℕ} → n ≡ 0 → n ≢ 5
    done is five = omega (arith, is, five)

pub returns-in-Err-clause-room : goal.returns-in-Err-clause-room
returns-in-Err-clause-room g c =
    room-so (λ h. absurd (cc h)) (puts_so c.as_bytes.ensures.value c.in-Err.ensures).room

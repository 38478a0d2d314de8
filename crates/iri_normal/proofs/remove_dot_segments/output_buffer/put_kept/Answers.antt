use Rattle.iri_normal.proofs.Common.{◌∷◌, ◌||◌, ◌∙◌, [], refl, ap, arith, ◌==◌, or-true, is_empty, pieces, kept, ends_at_slash}
use Rattle.iri_normal.proofs.Common.{popped_times, written}
use Rattle.iri_normal.proofs.removal.KeptSegments.{after-slash, buffer-some, put-ends}
use Rattle.iri_normal.proofs.removal.Buffers.{first-slash}
use Rattle.iri_normal.proofs.remove_dot_segments.output_buffer.put_kept.Goals as goal

pub put-all-requires-clause-ends : goal.put-all-requires-clause-ends
put-all-requires-clause-ends c =
    ap (λ l. is_empty c.args.text.now || ends_at_slash l) (first-slash c.args.buf.now (omega (arith, c.told-buf)))
    ∙ or-true (is_empty c.args.text.now)

pub pop_times-requires-clause-ends : goal.pop_times-requires-clause-ends
pop_times-requires-clause-ends c =
    ap (λ l. ends_at_slash l || c.args.count == 0)
    (c.put-all.ensures.text ∙ ap (λ b. written b c.args.text.now) (first-slash c.args.buf.now (omega (arith, c.told-buf))))
    ∙ put-ends (47 ∷ []) c.args.text.now c.args.count refl c.requires.ends

pub returns-clause-text : goal.returns-clause-text
returns-clause-text c =
    c.pop_times.ensures.text ∙ (ap (popped_times c.args.count)
    (c.put-all.ensures.text ∙ ap (λ b. written b c.args.text.now) (first-slash c.args.buf.now (omega (arith, c.told-buf))))
    ∙ after-slash c.args.text.now c.args.count c.requires.ends)

pub returns-clause-within : goal.returns-clause-within
returns-clause-within c =
    let t = c.args.text.now in (
      buffer-some c.pop_times.result (kept (pieces 47 t) c.args.count) c.pop_times.new.buf (omega (
        arith,
        c.pop_times.array_long,
        c.pop_times.ensures.within,
        c.put-all.ensures.within,
        c.requires.short,
      ))
          (c.pop_times.ensures.text ∙ (ap (popped_times c.args.count)
          (c.put-all.ensures.text ∙ ap (λ b. written b t) (first-slash c.args.buf.now (omega (arith, c.told-buf))))
          ∙ after-slash t c.args.count c.requires.ends)),
      omega (arith, c.pop_times.ensures.within, c.put-all.ensures.within, c.requires.short),
    )

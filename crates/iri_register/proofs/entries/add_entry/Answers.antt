use Rattle.iri_register.proofs.Common.{◌≡◌, ◌+◌, ◌∷◌, [], false, is_some, ap, refl, sym, subst, ◌∙◌, string_bytes}
use Rattle.iri_register.proofs.Common.{arith, lookup, added, entries_of, is_text, IsKept, Key}
use Rattle.std.specs.Hash.DefaultHasher.{finish, write}
use Rattle.iri_register.proofs.SlotLemmas.{live_within, insert_last, added_new, kept_more}
use Rattle.iri_register.specs.declared.lines.Lines.TheVariants.{One}
use Rattle.iri_register.proofs.entries.add_entry.Goals as goal
use Rattle.iri_register.proofs.entries.add_entry.Goals.{then-len+in_ok-pack, else-len}

pub overflow_add-result : goal.overflow_add-result
overflow_add-result c =
    let l = live_within c.free_key.new.map.entries in
    omega (arith, l, c.free_key.ensures.kept.living, c.len-len.ensures.len, c.len-len.ensures.small)

pub returns : goal.returns
returns c =
    let es = c.free_key.new.map.entries in
    let q = c.args.target.now in
    let key : Key = record { hash = q.hash; text = c.in_ok-text.text } in
    let w = One (c.args.line ∷ []) in
    let is : string_bytes c.in_ok-text.text ≡ string_bytes q.text = c.in_ok-text.ensures.ok ∙ c.as_str.ensures.value in
    let hashed = c.requires.asked ∙ ap (λ t. finish (write c.args.hasher.now t)) (sym is) in
    let none : is_some (lookup (is_text (string_bytes key.text)) es) ≡ false =
    subst (λ t. is_some (lookup (is_text t) es) ≡ false) (sym is) c.in_ok-free_key.ensures.absent in
    let last = c.in_ok-insert.ensures.entries ∙ insert_last key w es none in
    let same : entries_of es ≡ entries_of c.args.map.now.entries =
    c.free_key.ensures.same ∙ elim c.if-len.branch [
      | then-len+in_ok-pack w ↦ ap (λ m. entries_of m.entries) w.map-is ∙ w.pack.ensures.same
      | else-len w ↦ ap (λ m. entries_of m.entries) w.map-is
    ] in
    record {
      kept = subst (λ ls. IsKept c.args.hasher.now ls c.free_key.new.moves (c.args.live + 1)) (sym last)
          (kept_more c.free_key.ensures.kept (key, w) hashed c.in_ok-free_key.ensures.room refl);
      entries = ap entries_of c.in_ok-insert.ensures.entries ∙ added_new c.args.line key w es none refl
          ∙ (λ j. added (same j) (is j) c.args.line);
      live = refl;
    }

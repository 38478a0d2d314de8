use Rattle.iri_register.proofs.Common.{◌≡◌, ap, sym, subst, ◌∙◌, is_some, false, length, string_bytes, arith, lookup, entries_of}
use Rattle.iri_register.proofs.Common.{rules, has_lines, is_text, IsKept, key_eq}
use Rattle.std.proofs.lemmas.List.{length-set}
use Rattle.iri_register.proofs.HashLemmas.{lookup_as, position_as}
use Rattle.iri_register.proofs.SlotLemmas.{at_position}
use Rattle.iri_register.proofs.KeyLemmas.{absent_live, dead_at, lookup_gone, slot_given, entries_dead, kept_dead, on_ok}
use Rattle.iri_register.specs.declared.lines.Lines.TheVariants.{More}
use Rattle.iri_register.proofs.entries.free_key.Goals as goal

pub returns-then-len-live-clause-absent : goal.returns-then-len-live-clause-absent
returns-then-len-live-clause-absent c =
    absent_live (string_bytes c.args.target.now.text) c.args.map.now.entries
    (sym c.len.ensures.len ∙ (c.if-len-live.true ∙ c.requires.kept.living)) c.requires.gone

pub returns-then-contains_key-clause-absent : goal.returns-then-contains_key-clause-absent
returns-then-contains_key-clause-absent c =
    let es = c.args.map.now.entries in
    let h = c.args.hasher.now in
    let q = c.args.target.now in
    let t = string_bytes q.text in
    let at = at_position t es c.in-Some.slot (sym (position_as h q es c.requires.asked c.requires.kept.hashed) ∙ sym c.in-Some.ensures.index) in
    let dead = dead_at t es c.in-Some.slot at c.requires.gone in
    on_ok c.pack.result c.pack.ensures.packed (λ e. ap (λ l. is_some (lookup (is_text t) l)) e
    ∙ lookup_gone h t es c.in-Some.slot c.requires.kept.hashed c.in-Some.ensures.unique at dead)

pub returns-in-None-clause-absent : goal.returns-in-None-clause-absent
returns-in-None-clause-absent c =
    ap is_some (sym (lookup_as c.args.hasher.now c.args.target.now c.args.map.now.entries c.requires.asked c.requires.kept.hashed))
    ∙ sym c.in-None.ensures.found

pub returns-in_ok-insert-in-Some : goal.returns-in_ok-insert-in-Some
returns-in_ok-insert-in-Some c =
    let es = c.args.map.now.entries in
    let h = c.args.hasher.now in
    let q = c.args.target.now in
    let t = string_bytes q.text in
    let i = c.in-Some.slot in
    let at = at_position t es i (sym (position_as h q es c.requires.asked c.requires.kept.hashed) ∙ sym c.in-Some.ensures.index) in
    let key = c.take_hash.new.key in
    let hashed = c.take_hash.ensures.hash in
    let w = More c.new.result in
    let absent : is_some (lookup (is_text (string_bytes key.text)) es) ≡ false =
    ap is_some (sym (lookup_as h key es hashed c.requires.kept.hashed)) ∙ (sym c.contains_key.ensures ∙ c.if-contains_key.false) in
    let given = slot_given h q key w es c.insert.new.self.entries c.swap_remove.new.self.entries i c.requires.asked hashed c.requires.kept.hashed at
    absent c.in_ok-insert-in-Some.ensures.entries c.swap_remove.ensures.entries in
    let dead = dead_at t es i at c.requires.gone in
    let none = ap has_lines c.new.ensures.items in
    let kept = subst (λ l. IsKept h l c.args.moves.now c.args.live) (sym given) (kept_dead c.requires.kept i (key, w) hashed dead none) in
    let gone : is_some (lookup (key_eq q) c.swap_remove.new.self.entries) ≡ false = search rules in
    let l = ap length given ∙ length-set es i (key, w) in
    record {
      kept = kept;
      same = ap entries_of given ∙ entries_dead es i (key, w) dead none;
      room = omega (arith, l, c.requires.room);
      absent = ap is_some (sym (lookup_as h q c.swap_remove.new.self.entries c.requires.asked kept.hashed)) ∙ gone;
    }

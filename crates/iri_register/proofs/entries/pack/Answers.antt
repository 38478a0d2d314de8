use Rattle.iri_register.proofs.Common.{◌≡◌, ap, sym, subst, ◌∙◌, filter, length, arith, rules, entries_of, is_live, IsKept}
use Rattle.indexmap.proofs.CallerLemmas.{filter-RetainsPairs}
use Rattle.iri_register.proofs.SlotLemmas.{live_within, kept_packed, packed_same}
use Rattle.iri_register.proofs.entries.pack.Goals as goal

pub none-requires : goal.none-requires
none-requires c =
    let l = live_within c.args.map.now.entries in
    record { small = omega (arith, l, c.requires.kept.living, c.len-len.ensures.len, c.len-len.ensures.small) }

pub returns : goal.returns
returns c =
    let es = c.args.map.now.entries in
    let f : c.retain.new.self.entries ≡ filter is_live es =
    filter-RetainsPairs _ is_live _ (λ k v b w g call. search rules) _ _ c.retain.ensures.filtered in
    let m = c.in_ok-none.none in
    let e = c.in_ok-none.ensures in
    let living = c.requires.kept.living in
    let l = ap length f in
    record {
      kept = subst (λ ds. IsKept c.args.hasher.now ds m c.args.live) (sym f) (kept_packed c.args.hasher.now es m c.args.live c.requires.kept.hashed living e.blocked (omega (arith, e.room)) e.none);
      same = ap entries_of f ∙ packed_same es;
      packed = f;
      room = omega (arith, l, living, e.room);
    }

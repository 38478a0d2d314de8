-- A run over a sink that tells no bytes, and the flush after it.
use Rattle.iri_cli.proofs.Common.{◌≡◌, ◌≤◌, ℕ, List, [], Option, None, refl, sym, ap, subst, arith, inl, inr, ⊎_elim, Rose, AppendsPrefix}
use Rattle.iri_cli.proofs.Common.{KeepsRoom, Rules, Outside, RunsLines, outside}
use Rattle.iri_text.specs.Streams.{untold}
use Rattle.iri_cli.specs.help.Notices.{MakesText, PutsText, Tells}
use Rattle.iri_cli.specs.inside.HandsOn.{HandsOn}
use Rattle.iri_cli.specs.declared.run.end.End.TheVariants.{SinkFailed}
use Rattle.iri_cli.proofs.Ends.{ran_by}

-- a prefix of any bytes was written, by what such a sink tells
untold_prefix : (bytes : List ℕ) → AppendsPrefix None None bytes
untold_prefix bytes = record { prefix = []; rest = bytes; split = refl; appended = tt }

-- no room is known
no_room : {X : Type 0} (bytes : List ℕ) → KeepsRoom None None bytes X
no_room bytes = record { holds = λ h. absurd h; left = λ more h. absurd h }

module _ (lo lm : Option (List ℕ)) (fo fm ko km kn status result : ℕ) (hands : HandsOn km kn status result) where
  abbrev old : Outside
  old = outside lo fo (untold ko)

  abbrev mid : Outside
  mid = outside lm fm (untold km)

  abbrev new : Outside
  new = outside lm fm (untold kn)

  -- a fact of the status and of the outside, where the flush didn't fail
  keeps : (P : Outside → ℕ → Type 0) → (result ≡ status) × (kn ≡ km) → P mid status → P new result
  keeps P h p =
      subst (λ n. P new n) (sym h.0) (subst (λ (k : ℕ). P (outside lm fm (untold k)) status) (sym h.1) p)

  pub after_none : (status ≡ 2) × (mid ≡ old) → (result ≡ 2) × (new ≡ old)
  after_none p = ⊎_elim (λ h. keeps (λ o n. (n ≡ 2) × (o ≡ old)) h p) (λ h. absurd (h.0 p.0)) hands

  -- the sink failed at the flush
  fails_text : (text : List ℕ) → (lm ≡ lo) × (fm ≡ fo) × (ko ≤ km) → Rose km kn × (km ≤ kn) → Tells text old new 5
  fails_text text same rose = (
    inr (refl, untold_prefix text, omega (arith, same.2, rose.0), omega (arith, same.2, rose.1)),
    same.0,
    same.1,
    no_room text,
  )

  -- no count of faults fell
  text_later : (text : List ℕ) → PutsText text (untold ko) (untold km) status → ko ≤ km
  text_later text p = ⊎_elim (λ q. omega (arith, q.2)) (λ q. q.3) p

  pub after_text : (text : List ℕ) → Tells text old mid status → Tells text old new result
  after_text text p =
      ⊎_elim (λ h. keeps (λ o n. Tells text old o n) h p)
      (λ h. subst (λ n. Tells text old new n) (sym h.2) (fails_text text (p.1, p.2, text_later text p.0) (h.3, h.4))) hands

  -- nothing happened before the flush
  same_outside : mid ≡ old → (lm ≡ lo) × (fm ≡ fo) × (ko ≤ km)
  same_outside e =
      let k : km ≡ ko = ap (λ (o : Outside). o.sink.faults) e in
      (ap (λ (o : Outside). o.left) e, ap (λ (o : Outside). o.source_faults) e, omega (arith, k))

  pub after_made : (text : List ℕ) → MakesText text old mid status → MakesText text old new result
  after_made text p =
      ⊎_elim (λ h. keeps (λ o n. MakesText text old o n) h p)
      (λ h. inl (subst (λ n. Tells text old new n) (sym h.2)
      (⊎_elim (λ q. fails_text text (q.1, q.2, text_later text q.0) (h.3, h.4)) (λ q. fails_text text (same_outside q.1) (h.3, h.4)) p))) hands

  module _ (rules : Rules) where
    fails_lines : (fo ≤ fm) × (ko ≤ km) → Rose km kn × (km ≤ kn) → RunsLines rules old new 5
    fails_lines later rose = inl (record {
      end = SinkFailed;
      status_is = refl;
      ran = ran_by [] (omega (arith, later.1, rose.0)) (λ x known. (_, refl)) (untold_prefix []) (no_room []) later.0 (omega (arith, later.1, rose.1));
    })

    same_later : mid ≡ old → (fo ≤ fm) × (ko ≤ km)
    same_later e = let s = same_outside e in (omega (arith, s.1), s.2)

    pub after_lines : RunsLines rules old mid status → RunsLines rules old new result
    after_lines p =
        ⊎_elim (λ h. keeps (λ o n. RunsLines rules old o n) h p)
        (λ h. subst (λ n. RunsLines rules old new n) (sym h.2)
        (⊎_elim (λ q. fails_lines (q.ran.source_later, q.ran.sink_later) (h.3, h.4)) (λ q. fails_lines (same_later q.1) (h.3, h.4)) p)) hands

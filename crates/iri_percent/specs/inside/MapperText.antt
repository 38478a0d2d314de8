-- What a mapper does with a text, and its laws.
use Rattle.std.specs.Prelude.{◌≡◌, ℕ, List, [], ◌∷◌, ◌++◌, cond, nat_lt, refl}
use Rattle.std.proofs.Common.{sym, ◌∙◌, ap, subst, append_assoc}
use Rattle.iri_text.specs.Shown.{AreSinkLaws}
use Rattle.iri_percent.specs.Mapping.{mapped, triplet}
use Rattle.iri_percent.specs.declared.mapper.Mapper.{Mapper}

pub mapped-append : (xs ys : List ℕ) → mapped (xs ++ ys) ≡ mapped xs ++ mapped ys
mapped-append [] ys = refl
mapped-append (x ∷ xs) ys = let u = cond (nat_lt x 128) (x ∷ []) (triplet x) in
    ap (λ z. u ++ z) (mapped-append xs ys) ∙ sym (append_assoc u (mapped xs) (mapped ys))

module _ {W : Type 0} where
  -- the text went in, mapped
  pub record MapperPuts (puts : W → List ℕ → W → Type 0) (a : Mapper W) (t : List ℕ) (b : Mapper W) : Type 0 where
    pub same : b.to.ghost_name ≡ a.to.ghost_name
    pub put : puts a.to.now (mapped t) b.to.now

  -- the sink below stopped within the mapped text
  pub record MapperHalts (halts : W → List ℕ → W → Type 0) (a : Mapper W) (t : List ℕ) (b : Mapper W) : Type 0 where
    pub same : b.to.ghost_name ≡ a.to.ghost_name
    pub halt : halts a.to.now (mapped t) b.to.now

  pub mapper_rules : {puts halts : W → List ℕ → W → Type 0} → AreSinkLaws puts halts → AreSinkLaws (MapperPuts puts) (MapperHalts halts)
  mapper_rules {puts = puts} {halts = halts} laws = record {
    none = λ a. record { same = refl; put = laws.none a.to.now };
    both = λ a b c t u p q. record {
      same = q.same ∙ p.same;
      put = subst (λ l. puts a.to.now l c.to.now) (sym (mapped-append t u)) (laws.both a.to.now b.to.now c.to.now (mapped t) (mapped u) p.put q.put);
    };
    until = λ a b c t u p q. record {
      same = q.same ∙ p.same;
      halt = subst (λ l. halts a.to.now l c.to.now) (sym (mapped-append t u)) (laws.until a.to.now b.to.now c.to.now (mapped t) (mapped u) p.put q.halt);
    };
    within = λ a b t u q. record {
      same = q.same;
      halt = subst (λ l. halts a.to.now l b.to.now) (sym (mapped-append t u)) (laws.within a.to.now b.to.now (mapped t) (mapped u) q.halt);
    };
  }

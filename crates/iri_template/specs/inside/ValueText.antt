-- What a sink that encodes a value does with a text, and its laws.
use Rattle.std.specs.Prelude.{◌≡◌, ℕ, List, [], ◌++◌, refl}
use Rattle.std.proofs.Common.{sym, ◌∙◌, ap, append_assoc}
use Rattle.iri_grammar.specs.Classes.{Tests}
use Rattle.iri_text.specs.Shown.{AreSinkLaws}
use Rattle.iri_text.specs.inside.ByChars.{CharsPut, CharsHalt}
use Rattle.iri_text.proofs.ByCharsLaws.{chars_laws}
use Rattle.iri_template.specs.inside.Reads.{value_rest}
use Rattle.iri_template.specs.declared.encoded_value.ValueSink.{ValueSink}

module _ {S W : Type 0} (s : Tests) where
  -- what is to be written of what it holds back and these characters after it
  abbrev pub sink_rest : ValueSink S W → List ℕ → List ℕ
  sink_rest v cs = value_rest s v.allow v.state cs

  -- the same sink after it, into which went what is to be written of these characters and isn't to be written after them
  pub record HasRead (puts : W → List ℕ → W → Type 0) (a : ValueSink S W) (cs : List ℕ) (b : ValueSink S W) : Type 0 where
    pub same : b.to.ghost_name ≡ a.to.ghost_name
    pub text : List ℕ
    pub put : puts a.to.now text b.to.now
    pub goes_on : (r : List ℕ) → sink_rest a (cs ++ r) ≡ text ++ sink_rest b r

  -- the same sink after it, which stopped within what is to be written of these characters and those after them
  pub record HasStopped (halts : W → List ℕ → W → Type 0) (a : ValueSink S W) (cs : List ℕ) (b : ValueSink S W) : Type 0 where
    pub same : b.to.ghost_name ≡ a.to.ghost_name
    pub text : List ℕ
    pub rest : List ℕ → List ℕ
    pub halt : halts a.to.now text b.to.now
    pub split : (r : List ℕ) → sink_rest a (cs ++ r) ≡ text ++ rest r

  abbrev pub ValuePuts : (W → List ℕ → W → Type 0) → ValueSink S W → List ℕ → ValueSink S W → Type 0
  ValuePuts puts = CharsPut (HasRead puts)

  abbrev pub ValueHalts : (W → List ℕ → W → Type 0) → ValueSink S W → List ℕ → ValueSink S W → Type 0
  ValueHalts halts = CharsHalt (HasStopped halts)

module _ {S W : Type 0} (s : Tests) {puts halts : W → List ℕ → W → Type 0} (laws : AreSinkLaws puts halts) where
  further : (a b : ValueSink S W) (t u : List ℕ) (text : List ℕ) → ((r : List ℕ) → sink_rest s a (t ++ r) ≡ text ++ sink_rest s b r)
      → (x y : List ℕ) → sink_rest s b u ≡ x ++ y → sink_rest s a (t ++ u) ≡ (text ++ x) ++ y
  further a b t u text e x y h = e u ∙ ap (λ l. text ++ l) h ∙ sym (append_assoc text x y)

  pub read_laws : AreSinkLaws (HasRead {S = S} s puts) (HasStopped {S = S} s halts)
  read_laws = record {
    none = λ a. record { same = refl; text = []; put = laws.none a.to.now; goes_on = λ r. refl };
    both = λ a b c t u p q. record {
      same = q.same ∙ p.same;
      text = p.text ++ q.text;
      put = laws.both a.to.now b.to.now c.to.now p.text q.text p.put q.put;
      goes_on = λ r. ap (sink_rest s a) (append_assoc t u r)
          ∙ further a b t (u ++ r) p.text p.goes_on q.text (sink_rest s c r) (q.goes_on r);
    };
    until = λ a b c t u p h. record {
      same = h.same ∙ p.same;
      text = p.text ++ h.text;
      rest = h.rest;
      halt = laws.until a.to.now b.to.now c.to.now p.text h.text p.put h.halt;
      split = λ r. ap (sink_rest s a) (append_assoc t u r)
          ∙ further a b t (u ++ r) p.text p.goes_on h.text (h.rest r) (h.split r);
    };
    within = λ a b t u h. record {
      same = h.same;
      text = h.text;
      rest = λ r. h.rest (u ++ r);
      halt = h.halt;
      split = λ r. ap (sink_rest s a) (append_assoc t u r) ∙ h.split (u ++ r);
    };
  }

  pub value_rules : AreSinkLaws (ValuePuts {S = S} s puts) (ValueHalts {S = S} s halts)
  value_rules = chars_laws read_laws

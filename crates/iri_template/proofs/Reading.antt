-- How calls that read a value piece by piece compose.
use Rattle.iri_template.proofs.Common.{◌≡◌, ℕ, zero, suc, true, false, cond, List, [], ◌∷◌, ◌++◌, Option, Some, None, length, refl, sym, ◌∙◌, ap}
use Rattle.iri_template.proofs.Common.{subst, append_assoc, append-nil, Result, Ok, Err, IsErr, AreSinkLaws, Shows, OnOk, shown_none}
use Rattle.iri_template.proofs.Common.{shows_all}
use Rattle.iri_template.proofs.Common.{shows_then, shows_exit, Stop, Tests, Reads, kept_rest, is_used_up, written_units, units, TextUnit}
use Rattle.iri_template.proofs.Common.{Bool, IsUtf8, chars, fewer, lacks, written_chars, shown_text}
use Rattle.iri_template.proofs.HeldUnits.{settled, run_settled, chars_both, one_written}
use Rattle.std.proofs.lemmas.Str.{chars-IsAscii}
use Rattle.iri_percent.specs.Units.{Char}
use Rattle.iri_template.specs.inside.Pieces.{IsOctets}
use Rattle.iri_text.proofs.ByCharsLaws.{chars_halt}
use Rattle.iri_template.specs.inside.Reads.{value_rest}
use Rattle.iri_template.specs.inside.ValueText.{ValuePuts, ValueHalts, read_laws}
use Rattle.iri_template.specs.declared.encoded_value.Reading.{Reading}
use Rattle.iri_template.specs.declared.encoded_value.ValueSink.{ValueSink}

module _ {V W : Type 0} {rest_of : V → List ℕ → List ℕ} {puts halts : W → List ℕ → W → Type 0} {stops : W → ℕ}
    (laws : AreSinkLaws puts halts) where
  -- nothing was written
  pub reads_silently : {a b : V} {w : W} {cs : List ℕ} → ((r : List ℕ) → rest_of a (cs ++ r) ≡ rest_of b r)
      → Reads rest_of puts halts stops a w cs b w (Ok tt)
  reads_silently {b = b} {w = w} e = record {
    text = [];
    rest = rest_of b;
    shows = shows_all (shown_none laws w);
    split = e;
    goes_on = λ r. refl;
  }

  pub reads_then : {a b c : V} {w v u : W} {cs ds : List ℕ} {x : Unit {0}} {r : Result (Unit {0}) Stop}
      → Reads rest_of puts halts stops a w cs b v (Ok x) → Reads rest_of puts halts stops b v ds c u r
      → Reads rest_of puts halts stops a w (cs ++ ds) c u r
  reads_then {a = a} {cs = cs} {ds = ds} p q = record {
    text = p.text ++ q.text;
    rest = q.rest;
    shows = shows_then laws p.shows q.shows;
    split = λ r. ap (rest_of a) (append_assoc cs ds r) ∙ p.split (ds ++ r) ∙ ap (λ l. p.text ++ l) (p.goes_on (ds ++ r) ∙ q.split r)
        ∙ sym (append_assoc p.text q.text (q.rest r));
    goes_on = q.goes_on;
  }

  pub reads_exit : {a b c : V} {w v : W} {cs : List ℕ} {e : Stop} {r : Result (Unit {0}) Stop} (ds : List ℕ) → IsErr r
      → Reads rest_of puts halts stops a w cs b v (Err e) → Reads rest_of puts halts stops a w (cs ++ ds) c v r
  reads_exit {r = Ok y} ds is p = absurd (cc is)
  reads_exit {a = a} {cs = cs} {r = Err d} ds is p = record {
    text = p.text;
    rest = λ r. p.rest (ds ++ r);
    shows = record { appends = tt; stops_within = p.shows.stops_within; rose = p.shows.rose; later = p.shows.later };
    split = λ r. ap (rest_of a) (append_assoc cs ds r) ∙ p.split (ds ++ r);
    goes_on = tt;
  }

-- the characters before the rest were read
pub record HasReadUpTo {V W : Type 0} (rest_of : V → List ℕ → List ℕ) (puts halts : W → List ℕ → W → Type 0) (stops : W → ℕ)
    (a : V) (old : W) (all : List ℕ) (b : V) (new : W) (rest : List ℕ) : Type 0 where
  pub before : List ℕ
  pub whole : all ≡ before ++ rest
  pub reads : Reads rest_of puts halts stops a old before b new (Ok tt)

module _ {V W : Type 0} {rest_of : V → List ℕ → List ℕ} {puts halts : W → List ℕ → W → Type 0} {stops : W → ℕ}
    (laws : AreSinkLaws puts halts) {a : V} {w : W} {all : List ℕ} where
  pub up_to_none : HasReadUpTo rest_of puts halts stops a w all a w all
  up_to_none = record { before = []; whole = refl; reads = reads_silently laws (λ r. refl) }

  further : {b : V} {v : W} {rest : List ℕ} (cs ds : List ℕ) → rest ≡ cs ++ ds → (p : HasReadUpTo rest_of puts halts stops a w all b v rest)
      → all ≡ (p.before ++ cs) ++ ds
  further cs ds e p = p.whole ∙ ap (λ l. p.before ++ l) e ∙ sym (append_assoc p.before cs ds)

  pub up_to_more : {b c : V} {v u : W} {rest : List ℕ} {x : Unit {0}} (cs ds : List ℕ) → rest ≡ cs ++ ds
      → HasReadUpTo rest_of puts halts stops a w all b v rest → Reads rest_of puts halts stops b v cs c u (Ok x)
      → HasReadUpTo rest_of puts halts stops a w all c u ds
  up_to_more cs ds e p q = record { before = p.before ++ cs; whole = further cs ds e p; reads = reads_then laws p.reads q }

  pub up_to_exit : {b c d : V} {v u : W} {rest : List ℕ} {e : Stop} {r : Result (Unit {0}) Stop} (cs ds : List ℕ) → rest ≡ cs ++ ds
      → IsErr r
      → HasReadUpTo rest_of puts halts stops a w all b v rest → Reads rest_of puts halts stops b v cs c u (Err e)
      → Reads rest_of puts halts stops a w all d u r
  up_to_exit {d = d} {u = u} {r = r} cs ds e is p q = subst (λ l. Reads rest_of puts halts stops a w l d u r) (sym (further cs ds e p))
      (reads_exit laws ds is (reads_then laws p.reads q))

  -- nothing is to be written of the rest
  pub up_to_last : {b : V} {v : W} {rest : List ℕ} → ((r : List ℕ) → rest_of b (rest ++ r) ≡ rest_of b r)
      → HasReadUpTo rest_of puts halts stops a w all b v rest → Reads rest_of puts halts stops a w all b v (Ok tt)
  up_to_last {b = b} {v = v} e p = subst (λ l. Reads rest_of puts halts stops a w l b v (Ok tt)) (sym p.whole)
      (reads_then laws p.reads (reads_silently laws e))

-- where nothing may be written any more
pub none_written : (s : Tests) (left : Option ℕ) (us : List TextUnit) → is_used_up left ≡ true → written_units s left us ≡ []
none_written s None us h = cc
none_written s (Some zero) us h = refl
none_written s (Some (suc n)) us h = cc

pub used_up : (s : Tests) (v : Reading) (cs : List ℕ) → is_used_up v.left ≡ true → (r : List ℕ) → kept_rest s v (cs ++ r) ≡ kept_rest s v r
used_up s v cs h r = none_written s v.left _ h ∙ sym (none_written s v.left _ h)

pub on_ok : {P : Type 0} (r : Result (Unit {0}) Stop) → P → OnOk r P
on_ok (Ok x) p = p
on_ok (Err x) p = tt

-- where nothing is held back
nothing_held : (s : Tests) (v : Reading) (left : Option ℕ) → v.held ≡ [] → v.left ≡ left
    → (r : List ℕ) → written_units s left (units r) ≡ kept_rest s v r
nothing_held s v left e l r = sym (ap (λ t. written_units s v.left (units (t ++ r))) e ∙ ap (λ m. written_units s m (units r)) l)

module _ {W : Type 0} (s : Tests) {puts halts : W → List ℕ → W → Type 0} {stops : W → ℕ} (laws : AreSinkLaws puts halts) where
  -- these units were written, and what is held back after them is what was read and isn't of them
  pub reads_units : {a b : Reading} {w v : W} {x : Result (Unit {0}) Stop} (cs : List ℕ) (us : List TextUnit)
      → Shows puts halts stops w (written_units s a.left us) v x
      → ((r : List ℕ) → units (a.held ++ (cs ++ r)) ≡ us ++ units (b.held ++ r))
      → b.left ≡ fewer a.left (length us) → Reads (kept_rest s) puts halts stops a w cs b v x
  reads_units {a = a} {b = b} {x = x} cs us p e l = record {
    text = written_units s a.left us;
    rest = λ r. written_units s (fewer a.left (length us)) (units (b.held ++ r));
    shows = p;
    split = λ r. settled s a.left (a.held ++ (cs ++ r)) (b.held ++ r) us (e r);
    goes_on = on_ok x (λ r. ap (λ m. written_units s m (units (b.held ++ r))) (sym l));
  }

  -- the sink stopped within these units
  pub reads_stopped : {a b : Reading} {w v : W} {e : Stop} {x : Result (Unit {0}) Stop} (cs : List ℕ) (us : List TextUnit) → IsErr x
      → Shows puts halts stops w (written_units s a.left us) v (Err e)
      → ((r : List ℕ) → units (a.held ++ (cs ++ r)) ≡ us ++ units (cs ++ r)) → Reads (kept_rest s) puts halts stops a w cs b v x
  reads_stopped {x = Ok y} cs us is p e = absurd (cc is)
  reads_stopped {a = a} {x = Err d} cs us is p e = record {
    text = written_units s a.left us;
    rest = λ r. written_units s (fewer a.left (length us)) (units (cs ++ r));
    shows = record { appends = tt; stops_within = p.stops_within; rose = p.rose; later = p.later };
    split = λ r. settled s a.left (a.held ++ (cs ++ r)) (cs ++ r) us (e r);
    goes_on = tt;
  }

  -- these units were written, and then the characters were read where nothing is held back
  pub reads_after : {a m b : Reading} {w v u : W} {y : Unit {0}} {x : Result (Unit {0}) Stop} (cs : List ℕ) (us : List TextUnit)
      → Shows puts halts stops w (written_units s a.left us) v (Ok y)
      → ((r : List ℕ) → units (a.held ++ (cs ++ r)) ≡ us ++ units (cs ++ r))
      → m.held ≡ [] → m.left ≡ fewer a.left (length us)
      → Reads (kept_rest s) puts halts stops m v cs b u x → Reads (kept_rest s) puts halts stops a w cs b u x
  reads_after {a = a} {m = m} cs us p e t l q = record {
    text = written_units s a.left us ++ q.text;
    rest = q.rest;
    shows = shows_then laws p q.shows;
    split = λ r. settled s a.left (a.held ++ (cs ++ r)) (cs ++ r) us (e r)
        ∙ ap (λ l. written_units s a.left us ++ l) (nothing_held s m (fewer a.left (length us)) t l (cs ++ r) ∙ q.split r)
        ∙ sym (append_assoc (written_units s a.left us) q.text (q.rest r));
    goes_on = q.goes_on;
  }

  -- a run without `%`, where nothing is held back
  pub reads_run : {a b : Reading} {w v : W} {x : Result (Unit {0}) Stop} (cs : List ℕ) → a.held ≡ []
      → lacks 37 cs ≡ true → Shows puts halts stops w (written_chars s true a.left cs) v x
      → b.held ≡ [] → b.left ≡ fewer a.left (length cs) → Reads (kept_rest s) puts halts stops a w cs b v x
  reads_run {a = a} {b = b} {x = x} cs t h p u l = record {
    text = written_chars s true a.left cs;
    rest = λ r. written_units s (fewer a.left (length cs)) (units r);
    shows = p;
    split = λ r. sym (nothing_held s a a.left t refl (cs ++ r)) ∙ run_settled s a.left cs r h;
    goes_on = on_ok x (nothing_held s b (fewer a.left (length cs)) u l);
  }

  -- the octets of a character, where nothing is held back
  pub reads_octets : {a b : Reading} {w v : W} {x : Result (Unit {0}) Stop} (c : ℕ) (t : List ℕ) → a.held ≡ [] → IsOctets c t
      → Shows puts halts stops w (cond (is_used_up a.left) [] t) v x
      → b.held ≡ [] → b.left ≡ fewer a.left 1 → Reads (kept_rest s) puts halts stops a w (chars t) b v x
  reads_octets {a = a} {b = b} {w = w} {v = v} {x = x} c t h o p u l =
      let us = Char c t ∷ [] in
      reads_units (chars t) us (subst (λ y. Shows puts halts stops w y v x) (one_written s a.left (Char c t)) p)
      (λ r. ap (λ y. units (y ++ (chars t ++ r))) h ∙ ap (λ y. units (y ++ r)) (chars-IsAscii t o.ascii) ∙ o.unit r ∙ ap (λ y. us ++ units (y ++ r)) (sym u)) l

  -- characters each of which is encoded for itself
  pub reads_chars : {a b : Reading} {w v : W} {x : Result (Unit {0}) Stop} (cs : List ℕ)
      → Shows puts halts stops w (written_chars s false a.left cs) v x → b.left ≡ fewer a.left (length cs)
      → Reads (value_rest s false) puts halts stops a w cs b v x
  reads_chars {a = a} {b = b} {x = x} cs p l = record {
    text = written_chars s false a.left cs;
    rest = λ r. written_chars s false (fewer a.left (length cs)) r;
    shows = p;
    split = λ r. chars_both s false a.left cs r;
    goes_on = on_ok x (λ r. ap (λ m. written_chars s false m r) (sym l));
  }

module _ {S W : Type 0} (s : Tests) where
  -- a whole value
  whole : (a : ValueSink S W) (t : List ℕ) → a.state.held ≡ []
      → shown_text s a.allow a.state.left t ≡ value_rest s a.allow a.state (chars t ++ [])
  whole a t none = at a.allow ∙ ap (value_rest s a.allow a.state) (sym (append-nil (chars t)))
    where
      at : (allow : Bool) → shown_text s allow a.state.left t ≡ value_rest s allow a.state (chars t)
      at true = ap (λ l. written_units s a.state.left (units (l ++ chars t))) (sym none)
      at false = refl

module _ {S W : Type 0} (s : Tests) {puts halts : W → List ℕ → W → Type 0} {stops : W → ℕ} (laws : AreSinkLaws puts halts) where
  -- what a call has read of a text, as what it has done to the sink that encodes
  pub value_put : (a b : ValueSink S W) (t : List ℕ) (x : Result (Unit {0}) Stop) → IsUtf8 t → b.to.ghost_name ≡ a.to.ghost_name
      → b.allow ≡ a.allow
      → Reads (value_rest s a.allow) puts halts stops a.state a.to.now (chars t) b.state b.to.now x
      → Shows (ValuePuts s puts) (ValueHalts s halts) (λ (v : ValueSink S W). stops v.to.now) a t b x
  value_put a b t (Ok y) u same allow q = record {
    appends = record {
      utf8 = u;
      put = record {
        same = same;
        text = q.text;
        put = q.shows.appends;
        goes_on = λ r. q.split r ∙ ap (λ l. q.text ++ l) (q.goes_on r ∙ ap (λ v. value_rest s v b.state r) (sym allow));
      };
    };
    stops_within = tt;
    rose = tt;
    later = q.shows.later;
  }
  value_put a b t (Err e) u same allow q = record {
    appends = tt;
    stops_within = record {
      prefix = t;
      rest = [];
      split = append-nil t;
      utf8 = u;
      halt = record { same = same; text = q.text; rest = q.rest; halt = q.shows.stops_within; split = q.split };
    };
    rose = q.shows.rose;
    later = q.shows.later;
  }

  pub whole_then : (a b : ValueSink S W) (c : W) (t rest : List ℕ) (y : Unit {0}) (x : Result (Unit {0}) Stop) → a.state.held ≡ []
      → Shows (ValuePuts s puts) (ValueHalts s halts) (λ (v : ValueSink S W). stops v.to.now) a t b (Ok y)
      → value_rest s b.allow b.state [] ≡ rest → Shows puts halts stops b.to.now rest c x
      → Shows puts halts stops a.to.now (shown_text s a.allow a.state.left t) c x
  whole_then a b c t rest y x none p e q =
      let k = p.appends.put in
      let first : Shows puts halts stops a.to.now k.text b.to.now (Ok y) =
      record { appends = k.put; stops_within = tt; rose = tt; later = p.later } in
      subst (λ l. Shows puts halts stops a.to.now l c x) (ap (λ l. k.text ++ l) (sym e) ∙ sym (k.goes_on []) ∙ sym (whole s a t none))
      (shows_then laws first q)

  pub whole_exit : (a b : ValueSink S W) (t : List ℕ) (e : Stop) {x : Result (Unit {0}) Stop} → IsErr x → a.state.held ≡ []
      → Shows (ValuePuts s puts) (ValueHalts s halts) (λ (v : ValueSink S W). stops v.to.now) a t b (Err e)
      → Shows puts halts stops a.to.now (shown_text s a.allow a.state.left t) b.to.now x
  whole_exit a b t e {x} is none p =
      let h = chars_halt (read_laws s laws) t p.stops_within in
      let first : Shows puts halts stops a.to.now h.text b.to.now (Err e) =
      record { appends = tt; stops_within = h.halt; rose = p.rose; later = p.later } in
      subst (λ l. Shows puts halts stops a.to.now l b.to.now x) (sym (h.split []) ∙ sym (whole s a t none))
      (shows_exit laws (h.rest []) is first)

-- ---- the end of a value
pub kept_end : (s : Tests) (v : Reading) → kept_rest s v [] ≡ written_units s v.left (units v.held)
kept_end s v = ap (λ t. written_units s v.left (units t)) (append-nil v.held)

pub chars_end : (s : Tests) (left : Option ℕ) → written_chars s false left [] ≡ []
chars_end s None = refl
chars_end s (Some zero) = refl
chars_end s (Some (suc n)) = refl

-- What an encoder does with a text, and its laws.
use Rattle.std.specs.Prelude.{◌≡◌, ℕ, List, [], ◌∷◌, ◌++◌, Result, Ok, Err, refl}
use Rattle.std.specs.List.{flat_map}
use Rattle.std.specs.Str.{IsUtf8, chars}
use Rattle.std.proofs.Common.{sym, ◌∙◌, ap, subst, append-nil}
use Rattle.iri_grammar.specs.Classes.{Tests}
use Rattle.iri_text.specs.declared.shown.show.Stop.{Stop}
use Rattle.iri_text.specs.Shown.{AreSinkLaws, Shows}
use Rattle.iri_text.specs.inside.Through.{after, texts, ThroughPuts, ThroughHalts}
use Rattle.iri_text.specs.inside.ByChars.{CharsPut, CharsHalt}
use Rattle.iri_text.proofs.ThroughLaws.{through_laws}
use Rattle.iri_text.proofs.ByCharsLaws.{chars_laws, chars_halt}
use Rattle.iri_percent.specs.Encoding.{keeps, encoded_char, encoded}
use Rattle.iri_percent.specs.declared.context.Context.{Context}
use Rattle.iri_percent.specs.declared.encoder_sink.Encoder.{Encoder}

-- each character is encoded by itself, and the place stays
abbrev pub same_place : Context → ℕ → Context
same_place k c = k

abbrev pub char_text : Tests → Context → ℕ → List ℕ
char_text s k c = encoded_char (keeps s k) c

module _ (s : Tests) where
  stays : (k : Context) (cs : List ℕ) → after same_place (char_text s) k cs ≡ k
  stays k [] = refl
  stays k (c ∷ cs) = stays k cs

  all_chars : (k : Context) (cs : List ℕ) → texts same_place (char_text s) k cs ≡ flat_map (encoded_char (keeps s k)) cs
  all_chars k [] = refl
  all_chars k (c ∷ cs) = ap (λ l. char_text s k c ++ l) (all_chars k cs)

  texts_encoded : (k : Context) (t : List ℕ) → texts same_place (char_text s) k (chars t) ≡ encoded (keeps s k) t
  unfolding encoded
  texts_encoded k t = all_chars k (chars t)

module _ {S W : Type 0} (s : Tests) where
  abbrev pub EncoderPuts : (W → List ℕ → W → Type 0) → Encoder S W → List ℕ → Encoder S W → Type 0
  EncoderPuts puts = CharsPut (ThroughPuts same_place (char_text s) (λ e. e.context) (λ e. e.to.now) (λ e. e.to.ghost_name) puts)

  abbrev pub EncoderHalts : (W → List ℕ → W → Type 0) → Encoder S W → List ℕ → Encoder S W → Type 0
  EncoderHalts halts = CharsHalt (ThroughHalts same_place (char_text s) (λ e. e.context) (λ e. e.to.now) (λ e. e.to.ghost_name) halts)

  pub encoder_rules : {puts halts : W → List ℕ → W → Type 0} → AreSinkLaws puts halts → AreSinkLaws (EncoderPuts puts) (EncoderHalts halts)
  encoder_rules laws = chars_laws (through_laws same_place (char_text s) (λ (e : Encoder S W). e.context) (λ (e : Encoder S W). e.to.now)
      (λ (e : Encoder S W). e.to.ghost_name) laws)

  -- what a call has done to the sink after it, as what it has done to this one
  pub encoder_put : {puts halts : W → List ℕ → W → Type 0} {stops : W → ℕ} (a b : Encoder S W) (t : List ℕ) (r : Result (Unit {0}) Stop)
      → IsUtf8 t → b.to.ghost_name ≡ a.to.ghost_name → b.context ≡ a.context
      → Shows puts halts stops a.to.now (encoded (keeps s a.context) t) b.to.now r
      → Shows (EncoderPuts puts) (EncoderHalts halts) (λ (e : Encoder S W). stops e.to.now) a t b r
  encoder_put {puts = puts} a b t (Ok x) u same place q = record {
    appends = record {
      utf8 = u;
      put = record {
        same = same;
        goes_on = place ∙ sym (stays s a.context (chars t));
        put = subst (λ l. puts a.to.now l b.to.now) (sym (texts_encoded s a.context t)) q.appends;
      };
    };
    stops_within = tt;
    rose = tt;
    later = q.later;
  }
  encoder_put {halts = halts} a b t (Err e) u same place q = record {
    appends = tt;
    stops_within = record {
      prefix = t;
      rest = [];
      split = append-nil t;
      utf8 = u;
      halt = record { same = same; halt = subst (λ l. halts a.to.now l b.to.now) (sym (texts_encoded s a.context t)) q.stops_within };
    };
    rose = q.rose;
    later = q.later;
  }

  -- and back again
  pub encoder_shown : {puts halts : W → List ℕ → W → Type 0} {stops : W → ℕ} → AreSinkLaws puts halts
      → (a b : Encoder S W) (t : List ℕ) (r : Result (Unit {0}) Stop)
      → Shows (EncoderPuts puts) (EncoderHalts halts) (λ (e : Encoder S W). stops e.to.now) a t b r
      → Shows puts halts stops a.to.now (encoded (keeps s a.context) t) b.to.now r × (b.to.ghost_name ≡ a.to.ghost_name)
  encoder_shown {puts = puts} laws a b t (Ok x) q = (
    record {
      appends = subst (λ l. puts a.to.now l b.to.now) (texts_encoded s a.context t) q.appends.put.put;
      stops_within = tt;
      rose = tt;
      later = q.later;
    },
    q.appends.put.same,
  )
  encoder_shown {halts = halts} laws a b t (Err e) q =
      let h = chars_halt (through_laws same_place (char_text s) (λ (e : Encoder S W). e.context) (λ (e : Encoder S W). e.to.now)
      (λ (e : Encoder S W). e.to.ghost_name) laws) t q.stops_within in (
        record {
          appends = tt;
          stops_within = subst (λ l. halts a.to.now l b.to.now) (texts_encoded s a.context t) h.halt;
          rose = q.rose;
          later = q.later;
        },
        h.same,
      )

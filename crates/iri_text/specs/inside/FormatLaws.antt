-- The laws of a sink over a formatter.
use Rattle.std.specs.Prelude.{ℕ, List, [], ◌∷◌, ◌++◌, refl}
use Rattle.std.proofs.Common.{◌∙◌, ap₂, subst, sym}
use Rattle.std.proofs.lemmas.Grind.{put_two}
use Rattle.std.proofs.lemmas.List.Folds.{concat-append}
use Rattle.std.specs.List.{FoldsTo}
use Rattle.std.specs.Fmt.{HasWrittenStyled}
use Rattle.std.specs.declared.fmt.Formatter.{Formatter}
use Rattle.iri_text.specs.declared.shown.format_sink.FormatSink.{FormatSink}
use Rattle.iri_text.specs.FormatText.{FormatPuts, FormatHalts}

module _ {W : Type 0} (took : W → List ℕ → W → Type 0) where
  calls_then : (w v u : W) (xs ys : List (List ℕ)) → FoldsTo took w xs v → FoldsTo took v ys u → FoldsTo took w (xs ++ ys) u
  calls_then w v u [] ys p q = subst (λ (x : W). FoldsTo took x ys u) (sym p) q
  calls_then w v u (x ∷ xs) ys p q = (p.0, p.1, calls_then p.0 v u xs ys p.2 q)

  -- two texts in a row, whatever options the formatter has
  styled_two : (f g h : Formatter W) (a b : List ℕ) → HasWrittenStyled took f a g → HasWrittenStyled took g b h
      → HasWrittenStyled took f (a ++ b) h
  styled_two f g h a b p q = record {
    wrote = record {
      parts = p.wrote.parts ++ q.wrote.parts;
      calls = calls_then _ _ _ p.wrote.parts q.wrote.parts p.wrote.calls q.wrote.calls;
      whole = concat-append p.wrote.parts q.wrote.parts ∙ ap₂ (λ s t. s ++ t) p.wrote.whole q.wrote.whole;
    };
    spec = q.spec ∙ p.spec;
    flush = q.flush;
  }

  pub format_none : (a : FormatSink W) → FormatPuts took a [] a
  format_none a = record {
    same = refl;
    wrote = λ plain. record {
      wrote = record { parts = []; calls = refl; whole = refl };
      plain = plain;
    };
    styled = λ flush. record {
      wrote = record { parts = []; calls = refl; whole = refl };
      spec = refl;
      flush = flush;
    };
  }

  pub format_both : (a b c : FormatSink W) (t u : List ℕ) → FormatPuts took a t b → FormatPuts took b u c → FormatPuts took a (t ++ u) c
  format_both a b c t u p q = record {
    same = q.same ∙ p.same;
    wrote = λ plain. let first = p.wrote plain in put_two took a.to.now b.to.now c.to.now t u (t ++ u) first (q.wrote first.plain) refl;
    styled = λ flush. let first = p.styled flush in styled_two a.to.now b.to.now c.to.now t u first (q.styled first.flush);
  }

  pub format_until : (a b c : FormatSink W) (t u : List ℕ) → FormatPuts took a t b → FormatHalts b u c → FormatHalts a (t ++ u) c
  format_until a b c t u p h = record { same = h.same ∙ p.same }

  pub format_within : (a b : FormatSink W) (t u : List ℕ) → FormatHalts a t b → FormatHalts a (t ++ u) b
  format_within a b t u h = record { same = h.same }

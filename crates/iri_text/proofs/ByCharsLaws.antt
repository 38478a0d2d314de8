-- The laws of sinks whose relations go by characters.
use Rattle.iri_text.proofs.Common.{ℕ, List, ◌++◌, chars, sym, ◌∙◌, ap, subst, append_assoc, IsUtf8-append, chars-nil, AreSinkLaws}
use Rattle.std.proofs.lemmas.Str.{IsUtf8-nil, chars-append}
use Rattle.iri_text.specs.inside.ByChars.{CharsPut, CharsHalt}

module _ {V : Type 0} {puts halts : V → List ℕ → V → Type 0} (laws : AreSinkLaws puts halts) where
  pub chars_laws : AreSinkLaws (CharsPut puts) (CharsHalt halts)
  chars_laws = record {
    none = λ a. record { utf8 = IsUtf8-nil; put = subst (λ l. puts a l a) (sym chars-nil) (laws.none a) };
    both = λ a b c t u p q. record {
      utf8 = IsUtf8-append t u p.utf8 q.utf8;
      put = subst (λ l. puts a l c) (sym (chars-append t u p.utf8)) (laws.both a b c _ _ p.put q.put);
    };
    until = λ a b c t u p h. record {
      prefix = t ++ h.prefix;
      rest = h.rest;
      split = append_assoc t h.prefix h.rest ∙ ap (λ l. t ++ l) h.split;
      utf8 = IsUtf8-append t h.prefix p.utf8 h.utf8;
      halt = subst (λ l. halts a l c) (sym (chars-append t h.prefix p.utf8)) (laws.until a b c _ _ p.put h.halt);
    };
    within = λ a b t u h. record {
      prefix = h.prefix;
      rest = h.rest ++ u;
      split = sym (append_assoc h.prefix h.rest u) ∙ ap (λ l. l ++ u) h.split;
      utf8 = h.utf8;
      halt = h.halt;
    };
  }

  -- it stopped within the characters of the whole
  pub chars_halt : {a b : V} (t : List ℕ) → CharsHalt halts a t b → halts a (chars t) b
  chars_halt {a = a} {b = b} t h = subst (λ l. halts a l b) (sym (chars-append h.prefix h.rest h.utf8) ∙ ap chars h.split)
      (laws.within a b (chars h.prefix) (chars h.rest) h.halt)

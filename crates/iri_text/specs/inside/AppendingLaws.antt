-- The laws of the sinks that put what they take at the end of a text: over a slice, and over a string.
use Rattle.std.specs.Prelude.{◌≡◌, ◌≤◌, ◌-◌, ◌+◌, ℕ, List, ◌++◌, drop, refl}
use Rattle.std.proofs.Common.{sym, ◌∙◌, ap, arith, append_assoc, length-append}
use Rattle.std.proofs.lemmas.List.{append-nil, drop-drop}
use Rattle.iri_text.specs.Appending.{Appended, StopsWithin}
use Rattle.iri_text.specs.Shown.{AreSinkLaws}
use Rattle.iri_text.specs.SliceText.{slice_taken, slice_len, slice_room, SameBehind, SlicePuts, SliceHalts}
use Rattle.iri_text.specs.StringText.{string_taken, string_count, string_room, SameString, StringPuts, StringHalts}

-- what stays from before a call to after it stays from before one to after the next
module _ {W : Type 0} (taken : W → List ℕ) (count room : W → ℕ) (Stays : W → W → Type 0) (same : (a : W) → Stays a a)
    (further : (a b c : W) → count b ≤ count c → Stays a b → Stays b c → Stays a c) (roomy : (a b : W) → Stays a b → room a ≤ room b) where
  abbrev Puts : W → List ℕ → W → Type 0
  Puts = Appended taken count Stays

  both : (a b c : W) (t u : List ℕ) → Puts a t b → Puts b u c → Puts a (t ++ u) c
  both a b c t u p q = record {
    text = q.text ∙ ap (λ l. l ++ u) p.text ∙ append_assoc (taken a) t u;
    len = omega (arith, p.len, q.len, length-append t u);
    stays = further a b c (omega (arith, q.len)) p.stays q.stays;
  }

  pub appending_laws : AreSinkLaws Puts (StopsWithin Puts count room)
  appending_laws = record {
    none = λ a. record { text = sym (append-nil (taken a)); len = omega arith; stays = same a };
    both = both;
    until = λ a b c t u p h. record {
      prefix = t ++ h.prefix;
      rest = h.rest;
      split = append_assoc t h.prefix h.rest ∙ ap (λ l. t ++ l) h.split;
      appended = both a b c t h.prefix p h.appended;
      long = omega (arith, h.long, p.len, roomy a b p.stays, length-append t u);
    };
    within = λ a b t u h. record {
      prefix = h.prefix;
      rest = h.rest ++ u;
      split = sym (append_assoc h.prefix h.rest u) ∙ ap (λ l. l ++ u) h.split;
      appended = h.appended;
      long = omega (arith, h.long, length-append t u);
    };
  }

-- what is the same behind a place is so behind each later one
same_further : (m n : ℕ) (xs ys : List ℕ) → m ≤ n → drop m xs ≡ drop m ys → drop n xs ≡ drop n ys
same_further m n xs ys le same =
    let on : n ≡ m + (n - m) = omega (arith, le) in
    ap (λ k. drop k xs) on
    ∙ sym (drop-drop (n - m) m xs)
    ∙ ap (drop (n - m)) same
    ∙ drop-drop (n - m) m ys
    ∙ ap (λ k. drop k ys) (sym on)

pub slice_rules : AreSinkLaws SlicePuts SliceHalts
slice_rules = appending_laws slice_taken slice_len slice_room SameBehind (λ a. record { same = refl; room = refl; behind = refl })
    (λ a b c le p q. record {
      same = q.same ∙ p.same;
      room = q.room ∙ p.room;
      behind = q.behind ∙ same_further b.len c.len b.buf.now a.buf.now le p.behind;
    })
    (λ a b s. omega (arith, s.room))

pub string_rules : AreSinkLaws StringPuts StringHalts
string_rules = appending_laws string_taken string_count string_room SameString (λ a. record { same = refl; room = omega arith })
    (λ a b c le p q. record { same = q.same ∙ p.same; room = omega (arith, p.room, q.room) })
    (λ a b s. s.room)

-- What a writer has got of a piece.
use Rattle.std.proofs.Common.{◌≡◌, ℕ, List, [], ◌++◌, take, drop, length, ◌+◌, ◌-◌, ◌^◌, ◌≤◌, min, arith, Option, Result, Ok, Err, OnOk, OnErr, refl, ◌∙◌, ap, append_assoc}
use Rattle.std.proofs.lemmas.List.{take-append-drop, take_rest}
use Rattle.std.specs.Io.KnownBytes.{Appends}
use Rattle.std.proofs.KnownBytes.{Appends-trans}
use Rattle.iri_text.specs.Sink.{PutsAll}
use Rattle.iri_text.specs.Streams.{WritesPrefix, untold}
use Rattle.iri_text.specs.declared.Failed.{Failed}

-- a prefix of the piece was written, and this is the rest
pub record WritesUpTo (old now : Option (List ℕ)) (rest piece : List ℕ) : Type 0 where
  pub prefix : List ℕ
  pub split : prefix ++ rest ≡ piece
  pub appended : Appends old now prefix

-- n bytes more
pub more : (a b c : Option (List ℕ)) (rest piece : List ℕ) (n : ℕ) → WritesUpTo a b rest piece → Appends b c (take n rest)
    → WritesUpTo a c (take (length rest - n) (drop n rest)) piece
more a b c rest piece n w came = record {
  prefix = w.prefix ++ take n rest;
  split = append_assoc w.prefix (take n rest) _ ∙ ap (λ l. w.prefix ++ l)
      (ap (λ l. take n rest ++ l) (take_rest rest n) ∙ take-append-drop n rest) ∙ w.split;
  appended = Appends-trans a b c w.prefix (take n rest) w.appended came;
}

-- The first n bytes of a piece were written, and then the others or a prefix of them.
pub then_prefix : (a b c : Option (List ℕ)) (piece : List ℕ) (n : ℕ) (result : Result (Unit {0}) Failed) → Appends a b (take n piece)
    → OnErr result (WritesPrefix b c (take (length piece - n) (drop n piece))) → OnErr result (WritesPrefix a c piece)
then_prefix a b c piece n (Ok done) came w = tt
then_prefix a b c piece n (Err failed) came w = record {
  prefix = take n piece ++ w.prefix;
  rest = w.rest;
  split = append_assoc (take n piece) w.prefix w.rest ∙ ap (λ l. take n piece ++ l) (w.split ∙ take_rest piece n) ∙ take-append-drop n piece;
  appended = Appends-trans a b c (take n piece) w.prefix came w.appended;
}

-- the answer of a sink that tells no bytes
pub untold_puts : (old new : ℕ) (result : Result (Unit {0}) Failed) (piece : List ℕ) → old ≤ new → OnOk result (new ≡ old)
    → OnErr result (new ≡ min (old + 1) (2 ^ 64 - 1)) → PutsAll (untold old) (untold new) result piece
untold_puts old new (Ok done) piece later same raised = record {
  whole = tt;
  same = same;
  later = later;
  cause = tt;
  prefix = tt;
  room = record { holds = λ h. absurd h; left = λ more h. absurd h };
}
untold_puts old new (Err failed) piece later same raised = record {
  whole = tt;
  same = tt;
  later = later;
  cause = omega (arith, raised);
  prefix = record { prefix = []; rest = piece; split = refl; appended = tt };
  room = record { holds = λ h. absurd h; left = λ more h. absurd h };
}

-- What a sink that counts bytes does with a text, and its laws.
use Rattle.std.specs.Prelude.{◌≡◌, ◌<◌, ◌+◌, ℕ, List, ◌++◌, length}
use Rattle.std.specs.Str.{IsUtf8}
use Rattle.std.proofs.Common.{arith, length-append, append_assoc, sym, ◌∙◌, ap}
use Rattle.std.proofs.lemmas.Str.{IsUtf8-append, IsUtf8-nil}
use Rattle.iri_text.specs.Shown.{AreSinkLaws}
use Rattle.iri_template.specs.declared.byte_count.ByteCount.{ByteCount}

pub record CountPuts (a : ByteCount) (t : List ℕ) (b : ByteCount) : Type 0 where
  pub utf8 : IsUtf8 t
  pub room : a.room ≡ length t + b.room

-- it had no room for what was put up to some place of the text
pub record CountHalts (a : ByteCount) (t : List ℕ) (b : ByteCount) : Type 0 where
  pub prefix : List ℕ
  pub rest : List ℕ
  pub split : prefix ++ rest ≡ t
  pub utf8 : IsUtf8 prefix
  pub longer : a.room < length prefix

pub count_rules : AreSinkLaws CountPuts CountHalts
count_rules = record {
  none = λ a. record { utf8 = IsUtf8-nil; room = omega arith };
  both = λ a b c t u p q. record {
    utf8 = IsUtf8-append t u p.utf8 q.utf8;
    room = omega (arith, length-append t u, p.room, q.room);
  };
  until = λ a b c t u p h. record {
    prefix = t ++ h.prefix;
    rest = h.rest;
    split = append_assoc t h.prefix h.rest ∙ ap (λ l. t ++ l) h.split;
    utf8 = IsUtf8-append t h.prefix p.utf8 h.utf8;
    longer = omega (arith, length-append t h.prefix, p.room, h.longer);
  };
  within = λ a b t u h. record {
    prefix = h.prefix;
    rest = h.rest ++ u;
    split = sym (append_assoc h.prefix h.rest u) ∙ ap (λ l. l ++ u) h.split;
    utf8 = h.utf8;
    longer = h.longer;
  };
}

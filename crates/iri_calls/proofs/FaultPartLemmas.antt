-- The part that a fault names, in a text that is UTF-8 and in one that isn't.
use Rattle.iri_calls.proofs.Common.{◌≡◌, ◌-◌, ℕ, cond, false, List, length, Option, None, sym, ◌∙◌, ap, IsUtf8, is_utf8, false_from_ne_true}
use Rattle.iri_calls.proofs.Common.{is_utf8-from_IsUtf8, IsUtf8-from_is_utf8, Parts, split_of, relative_split_of, ErrorKind, slots_of, Slot}
use Rattle.std.specs.Str.Lossy.{utf8_valid_len}
use Rattle.iri_grammar.specs.Split.{parts_of, scheme_of, after_scheme}
use Rattle.iri_calls.specs.FaultParts.{named_slot, faulty_slot}
use Rattle.iri_calls.specs.declared.parts.Slots.{Slots}

pub slots_of_reference : (t u r : List ℕ) (o : Option (List ℕ)) (s : Slots) → u ≡ t → o ≡ scheme_of u → r ≡ after_scheme u
    → s ≡ slots_of (parts_of o r) → s ≡ slots_of (split_of t)
unfolding split_of
slots_of_reference t u r o s q a b e =
    e ∙ ap (λ x. slots_of (parts_of x r)) (a ∙ ap scheme_of q) ∙ ap (λ x. slots_of (parts_of (scheme_of t) x)) (b ∙ ap after_scheme q)

pub relative_slots : (t u : List ℕ) (s : Slots) → u ≡ t → s ≡ slots_of (parts_of None u) → s ≡ slots_of (relative_split_of t)
unfolding relative_split_of
relative_slots t u s q e = e ∙ ap (λ x. slots_of (parts_of None x)) q

pub in_text : (kind : ErrorKind) (t u : List ℕ) (p : Parts) (s : Slots) (slot : Slot) → u ≡ t → IsUtf8 t → s ≡ slots_of p
    → slot ≡ named_slot kind u s → slot ≡ faulty_slot kind t p
in_text kind t u p s slot q v a e =
    let past : Slot = record { offset = utf8_valid_len t; len = length t - utf8_valid_len t } in
    e ∙ ap (λ x. named_slot kind x s) q ∙ ap (named_slot kind t) a
    ∙ sym (ap (λ b. cond b (named_slot kind t (slots_of p)) past) (is_utf8-from_IsUtf8 t v))

pub past_text : (kind : ErrorKind) (t : List ℕ) (p : Parts) (n : ℕ) (slot : Slot) → ¬ IsUtf8 t → n ≡ utf8_valid_len t
    → slot ≡ record { offset = n; len = length t - n } → slot ≡ faulty_slot kind t p
past_text kind t p n slot v q e =
    let none : is_utf8 t ≡ false = false_from_ne_true (is_utf8 t) (λ h. v (IsUtf8-from_is_utf8 t h)) in
    let past : Slot = record { offset = utf8_valid_len t; len = length t - utf8_valid_len t } in
    e ∙ ap (λ m. record { offset = m; len = length t - m }) q
    ∙ sym (ap (λ b. cond b (named_slot kind t (slots_of p)) past) none)

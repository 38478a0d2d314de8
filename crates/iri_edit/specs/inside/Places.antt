-- Where parts of an authority stand in a whole text, in bytes, and a host replaced there.
use Rattle.std.specs.Prelude.{◌≡◌, ℕ, ◌+◌, ◌<◌, ◌≤◌, ◌^◌, Bool, true, false, List, [], ◌∷◌, ◌++◌, length, slice_range, Option, Some, None}
use Rattle.std.specs.Prelude.{Result, Ok, Err}
use Rattle.std.specs.declared.alloc.AllocError.{AllocError}
use Rattle.std.specs.Str.{IsUtf8, IsCharBoundary}
use Rattle.iri_grammar.specs.Authority.{AuthorityParts, authority_parts, recompose_authority}
use Rattle.iri_grammar.specs.Classes.{Tests}
use Rattle.iri_grammar.specs.Cut.{before}
use Rattle.iri_grammar.specs.Host.{is_host}
use Rattle.iri_grammar.specs.Split.{split_of}
use Rattle.iri_owned.specs.OwnedText.{OwnedText}
use Rattle.iri_owned.specs.Spliced.{spliced}
use Rattle.iri_edit.specs.Edited.{edited}
use Rattle.iri_edit.specs.Host.{host_of_text, is_replaced, with_host}
use Rattle.iri_edit.specs.Password.{password_of, with_password, without_password}

-- the authority a stands in t from `start` on; what an edit changes stands in its place
pub record IsAuthorityAt (t a : List ℕ) (start : ℕ) : Type 0 where
  pub prefix : List ℕ
  pub back : List ℕ
  pub text : prefix ++ (a ++ back) ≡ t
  pub lead : List ℕ
  pub ends : lead ++ 47 ∷ [] ≡ prefix
  pub at : length prefix ≡ start
  pub stands : (split_of t).authority ≡ Some a
  pub utf8 : IsUtf8 t
  pub short : length t < 2 ^ 64
  pub edits : (f : AuthorityParts → AuthorityParts) → edited f t ≡ prefix ++ (recompose_authority (f (authority_parts a)) ++ back)

-- the colon before the password of t stands at `colon`, and the password ends at `end`
pub record IsPasswordAt (t : List ℕ) (colon end : ℕ) : Type 0 where
  pub prefix : List ℕ
  pub password : List ℕ
  pub back : List ℕ
  pub text : prefix ++ 58 ∷ (password ++ back) ≡ t
  pub at_colon : length prefix ≡ colon
  pub at_end : colon + 1 + length password ≡ end
  pub stands : password_of t ≡ Some password
  pub edits : (w : List ℕ) → with_password t w ≡ prefix ++ 58 ∷ (w ++ back)
  pub removes : without_password t ≡ prefix ++ back
  pub before_colon : IsCharBoundary t colon
  pub after_colon : IsCharBoundary t (colon + 1)
  pub after_all : IsCharBoundary t end

-- the host h of t stands from `start` on
pub record IsHostAt (s : Tests) (t h : List ℕ) (start : ℕ) : Type 0 where
  pub prefix : List ℕ
  pub back : List ℕ
  pub text : prefix ++ (h ++ back) ≡ t
  pub at : length prefix ≡ start
  pub valid : is_host s h ≡ true
  pub stands : host_of_text t ≡ Some h
  pub edits : (new : List ℕ) → with_host t new ≡ prefix ++ (new ++ back)
  pub low : IsCharBoundary t start
  pub high : IsCharBoundary t (start + length h)
  pub utf8 : IsUtf8 back

-- the number sign of t stands at `start`, or t ends there; `end` is the end of t
pub record IsFragmentAt (t : List ℕ) (start end : ℕ) : Type 0 where
  pub ordered : start ≤ end
  pub at_end : end ≡ length t
  pub low : IsCharBoundary t start
  pub high : IsCharBoundary t end
  pub replaces : (new : List ℕ) → spliced t start end new ≡ before 35 t ++ new

-- the host is replaced, and `start` is where the new one begins; or it isn't, and the text stays; or memory was wanted for a
-- text longer than the capacity, and the text stays. The capacity never becomes less
abbrev pub HostReplaced : Tests → Bool → OwnedText → OwnedText → List ℕ → Result (Option ℕ) AllocError → Type 0
HostReplaced s names_only old new host (Ok None) = (is_replaced s names_only host (host_of_text old.text) ≡ false) × (new ≡ old)
HostReplaced s names_only old new host (Ok (Some start)) =
    (is_replaced s names_only host (host_of_text old.text) ≡ true) × (new.text ≡ with_host old.text host)
    × (slice_range new.text start (start + length host) ≡ host) × IsCharBoundary new.text start
    × IsCharBoundary new.text (start + length host) × (old.capacity ≤ new.capacity)
HostReplaced s names_only old new host (Err e) = (is_replaced s names_only host (host_of_text old.text) ≡ true) × (new ≡ old)
    × (old.capacity < length (with_host old.text host))

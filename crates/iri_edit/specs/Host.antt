-- A whole text with another host (RFC 3986 section 3.2.2).
use Rattle.std.specs.Prelude.{◌≡◌, ℕ, ◌<◌, ◌≤◌, Bool, true, false, not, ◌&&◌, ◌||◌, List, length, Option, Some, None, Result, Ok, Err}
use Rattle.std.specs.Borrow.{Bor}
use Rattle.std.specs.declared.alloc.AllocError.{AllocError}
use Rattle.iri_grammar.specs.Authority.{AuthorityParts, authority_parts}
use Rattle.iri_grammar.specs.Classes.{Tests}
use Rattle.iri_grammar.specs.Host.{is_host}
use Rattle.iri_grammar.specs.Split.{split_of}
use Rattle.iri_types.specs.Components.{is_named}
use Rattle.iri_edit.specs.Edited.{edited}

-- the host of an authority that may stand
abbrev pub host_in : Option (List ℕ) → Option (List ℕ)
host_in None = None
host_in (Some a) = Some (authority_parts a).host

-- the host of a text, where it has an authority
abbrev pub host_of_text : List ℕ → Option (List ℕ)
host_of_text t = host_in (split_of t).authority

-- the parts of an authority, with h as its host
abbrev pub host_replaced : List ℕ → AuthorityParts → AuthorityParts
host_replaced h a = record { userinfo = a.userinfo; host = h; port = a.port }

-- the text with h in place of its host
abbrev pub with_host : List ℕ → List ℕ → List ℕ
with_host t h = edited (host_replaced h) t

-- whether a text's host is replaced: the text has one, the new one is a host, and, where names alone are replaced, the old one
-- is a registered name
abbrev pub is_replaced : Tests → Bool → List ℕ → Option (List ℕ) → Bool
is_replaced s names_only new None = false
is_replaced s names_only new (Some old) = is_host s new && (not names_only || is_named old)

-- the host is replaced; or it isn't, and the text stays; or memory was wanted for a text longer than the capacity, and the text
-- stays. The capacity never becomes less
abbrev pub HostChange : {T : Type 0} → Tests → Bool → (T → List ℕ) → (T → ℕ) → T → T → List ℕ → Result (Option (Bor (List ℕ))) AllocError
    → Type 0
HostChange s names_only text capacity old new host (Ok None) = (is_replaced s names_only host (host_of_text (text old)) ≡ false) × (new ≡ old)
HostChange s names_only text capacity old new host (Ok (Some slice)) =
    (is_replaced s names_only host (host_of_text (text old)) ≡ true) × (text new ≡ with_host (text old) host) × (slice.now ≡ host)
    × (capacity old ≤ capacity new)
HostChange s names_only text capacity old new host (Err e) = (is_replaced s names_only host (host_of_text (text old)) ≡ true) × (new ≡ old)
    × (capacity old < length (with_host (text old) host))

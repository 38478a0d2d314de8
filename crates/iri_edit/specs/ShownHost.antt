-- A whole text that is shown with another host (RFC 3986 section 3.2.2).
use Rattle.std.specs.Prelude.{◌≡◌, ℕ, Bool, true, false, List, ◌++◌, Option, Some, None}
use Rattle.iri_grammar.specs.Classes.{Tests}
use Rattle.iri_edit.specs.Host.{host_of_text, is_replaced, with_host}
use Rattle.iri_edit.specs.declared.shown_host.WithHost.{WithHost}

-- what is shown
abbrev pub shown : WithHost → List ℕ
shown w = w.prefix.now ++ (w.host.now ++ w.back.now)

-- the text is shown with the new host exactly where its host is replaced
abbrev pub HostShown : Tests → Bool → List ℕ → List ℕ → Option WithHost → Type 0
HostShown s names_only t new None = is_replaced s names_only new (host_of_text t) ≡ false
HostShown s names_only t new (Some w) = (is_replaced s names_only new (host_of_text t) ≡ true) × (shown w ≡ with_host t new)

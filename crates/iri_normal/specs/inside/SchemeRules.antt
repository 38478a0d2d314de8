-- What scheme rules leave as it is (RFC 3986 section 6.2.3).
use Rattle.std.specs.Prelude.{◌≡◌, ℕ, ◌-◌, Bool, false, not, ◌&&◌, ◌||◌, ◌==◌, List, Option, Some, None, length, get_or, nat_lt}
use Rattle.iri_grammar.specs.Characters.{colon}
use Rattle.iri_grammar.specs.Parts.{Parts, is_empty}

-- a colon stands so many bytes before the end
unfoldable pub colon_before_end : ℕ → List ℕ → Bool
colon_before_end count text = not (nat_lt (length text) count) && (get_or text (length text - count) 0 == colon)

-- two or three bytes after a colon end the authority, as many as a scheme's default port has
abbrev pub ends_in_port : Option (List ℕ) → Bool
ends_in_port None = false
ends_in_port (Some authority) = colon_before_end 3 authority || colon_before_end 4 authority

-- no default port ends the authority, and no empty path stands beside it
abbrev pub StaysByScheme : Parts → Type 0
StaysByScheme t = (ends_in_port t.authority ≡ false) × (is_empty t.path ≡ false)

-- The last colon of a host and its port.
use Rattle.std.specs.Prelude.{◌≡◌, ℕ, ◌+◌, ◌<◌, true, false, List, Some, None, length, take, drop, slice_index}
use Rattle.iri_grammar.specs.Components.{is_port}
use Rattle.iri_grammar.specs.Authority.{host_of, port_of}

-- the last colon stands at k
pub record LastColon (bs : List ℕ) (k : ℕ) : Type 0 where
  pub inside : k < length bs
  pub byte : slice_index bs k ≡ 58
  pub digits_host : is_port (drop (k + 1) bs) ≡ true → take k bs ≡ host_of bs
  pub digits_port : is_port (drop (k + 1) bs) ≡ true → Some (drop (k + 1) bs) ≡ port_of bs
  pub else_host : is_port (drop (k + 1) bs) ≡ false → bs ≡ host_of bs
  pub else_port : is_port (drop (k + 1) bs) ≡ false → None ≡ port_of bs

-- there is no colon
pub record NoColon (bs : List ℕ) : Type 0 where
  pub host : bs ≡ host_of bs
  pub port : None ≡ port_of bs

-- The table of ranks agrees with the classes at each of the 256 bytes, by computing.
use Rattle.iri_grammar.proofs.Common.{◌≡◌, ℕ, ◌<◌, Bool, true, get_or, refl, agree_below, agree_below_at, is_ascii_unreserved}
use Rattle.iri_grammar.proofs.Common.{is_ascii_reg_name, is_ascii_userinfo, is_ascii_pchar, is_ascii_path, is_ascii_query, is_ascii_any}
use Rattle.iri_grammar.proofs.Common.{is_sub_delim, is_gen_delim, ascii_test, rank_of, Class, Unreserved, RegName, Userinfo, Pchar, Path}
use Rattle.iri_grammar.proofs.Common.{Query, Fragment, Any}
use Rattle.std.specs.Prelude.{nat_le}
use Rattle.iri_grammar.specs.declared.class.TheConstants.{RANKS}

abbrev ranked : ℕ → ℕ → Bool
ranked rank b = nat_le (get_or RANKS b 0) rank

computed : (k : Class) → agree_below (ranked (rank_of k)) (ascii_test k) 256 ≡ true
unfolding is_ascii_unreserved is_ascii_reg_name is_ascii_userinfo is_ascii_pchar is_ascii_path is_ascii_query is_ascii_any is_sub_delim
    is_gen_delim
computed Unreserved = refl
computed RegName = refl
computed Userinfo = refl
computed Pchar = refl
computed Path = refl
computed Query = refl
computed Fragment = refl
computed Any = refl

pub from_table : (k : Class) (b : ℕ) → b < 256 → nat_le (get_or RANKS b 0) (rank_of k) ≡ ascii_test k b
from_table k b lt = agree_below_at (ranked (rank_of k)) (ascii_test k) 256 b (computed k) lt

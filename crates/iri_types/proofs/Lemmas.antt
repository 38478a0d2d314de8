-- Parts that stand.
use Rattle.std.proofs.Common.{◌≡◌, ℕ, Bool, true, List, Option, Some, None, sym, subst}
use Rattle.iri_grammar.specs.Classes.{Tests}
use Rattle.iri_grammar.specs.Components.{if_there, is_userinfo, is_query, is_fragment}
use Rattle.iri_grammar.specs.Host.{is_host}
use Rattle.iri_grammar.specs.Authority.{authority_parts, is_authority}
use Rattle.iri_grammar.proofs.splits.CutLaws.{both}
use Rattle.iri_grammar.specs.Fault.{query_fault, fragment_fault}
use Rattle.iri_grammar.proofs.faults.FaultLaws.{no_fault}
use Rattle.iri_grammar.specs.declared.error.ErrorKind.TheVariants.{InvalidQuery, InvalidFragment}
pub use Rattle.iri_grammar.proofs.splits.TextParts.{answers-of, no_text_fault, text_fault}

-- ---- parts
pub there : (f : List ℕ → Bool) (o : Option (List ℕ)) (x : List ℕ) → if_there f o ≡ true → o ≡ Some x → f x ≡ true
there f None x h e = cc
there f (Some y) x h e = subst (λ o. if_there f o ≡ true) e h

pub query-there : (s : Tests) (o : Option (List ℕ)) (x : List ℕ) → if_there (is_query s) o ≡ true → o ≡ Some x → query_fault s x ≡ None
query-there s o x h e = no_fault (is_query s x) InvalidQuery (there (is_query s) o x h e)

pub fragment-there : (s : Tests) (o : Option (List ℕ)) (x : List ℕ) → if_there (is_fragment s) o ≡ true → o ≡ Some x
    → fragment_fault s x ≡ None
fragment-there s o x h e = no_fault (is_fragment s x) InvalidFragment (there (is_fragment s) o x h e)

pub host-valid : (s : Tests) (x h : List ℕ) → is_authority s x ≡ true → h ≡ (authority_parts x).host → is_host s h ≡ true
unfolding is_authority
host-valid s x h k e = subst (λ z. is_host s z ≡ true) (sym e)
    (both (if_there (is_userinfo s) (authority_parts x).userinfo) (is_host s (authority_parts x).host) k).1

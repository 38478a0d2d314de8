use Rattle.iri_grammar.proofs.Common.{◌≡◌, ℕ, Bool, true, get_or, refl, arith, ◌==◌, agree_below, agree_below_at, eqb-true, is_scheme_char}
use Rattle.iri_grammar.specs.declared.splitter.TheConstants.{SCHEME_BYTES}
use Rattle.iri_grammar.specs.inside.Delimiters.{scheme_kind}
use Rattle.iri_grammar.proofs.splitter.scheme_kind.Goals as goal

abbrev told : ℕ → Bool
told b = get_or SCHEME_BYTES b 0 == scheme_kind b

-- the table agrees at each byte, by computing
computed : agree_below told (λ _. true) 256 ≡ true
unfolding is_scheme_char
computed = refl

pub returns : goal.returns
returns c = rw c.from.ensures
    (eqb-true (get_or SCHEME_BYTES c.args.b 0) (scheme_kind c.args.b) (agree_below_at told (λ _. true) 256 c.args.b computed (omega arith)))

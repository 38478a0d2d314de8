use Rattle.iri_grammar.specs.Classes.{pchar, path_char, query_char, fragment_char}
use Rattle.iri_grammar.specs.Components.{is_scheme, is_path, is_path_segment, is_query, is_fragment}
use Rattle.iri_grammar.proofs.authorities.AuthorityTexts.{text_over-utf8}
use Rattle.iri_grammar.proofs.splits.SplitUnique.{scheme-utf8}
use Rattle.iri_grammar.proofs.faults.FaultLaws.{component-law}
use Rattle.iri_grammar.specs.declared.error.ErrorKind.TheVariants.{InvalidScheme, InvalidPath, InvalidQuery, InvalidFragment}
use Rattle.iri_grammar.proofs.laws.no_fault_of_components.Goals as goal

pub returns : goal.returns
returns g c =
    let s = g.S.Spec.tests in
    record {
      scheme = λ bs. component-law is_scheme InvalidScheme bs (scheme-utf8 bs);
      path = λ bs. component-law (is_path s) InvalidPath bs (text_over-utf8 (path_char s) bs);
      path_segment = λ bs. component-law (is_path_segment s) InvalidPath bs (text_over-utf8 (pchar s) bs);
      query = λ bs. component-law (is_query s) InvalidQuery bs (text_over-utf8 (query_char s) bs);
      fragment = λ bs. component-law (is_fragment s) InvalidFragment bs (text_over-utf8 (fragment_char s) bs);
    }

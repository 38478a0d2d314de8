use Rattle.iri_grammar.proofs.Common.{◌&&◌, not, userinfo_char, reg_name_char, is_userinfo, is_port, is_ipv4, is_host, is_reg_name}
use Rattle.iri_grammar.proofs.splits.CutLaws.{both}
use Rattle.iri_grammar.proofs.authorities.AuthorityTexts.{text_over-utf8, host-utf8, port-utf8}
use Rattle.iri_grammar.proofs.faults.FaultLaws.{component-law, authority-law}
use Rattle.iri_grammar.specs.declared.error.ErrorKind.TheVariants.{InvalidUserInfo, InvalidHost, InvalidRegName, InvalidPort}
use Rattle.iri_grammar.proofs.laws.no_fault_of_authorities.Goals as goal

pub returns : goal.returns
returns g c =
    let s = g.S.Spec.tests in
    record {
      authority = authority-law s;
      userinfo = λ bs. component-law (is_userinfo s) InvalidUserInfo bs (text_over-utf8 (userinfo_char s) bs);
      host = λ bs. component-law (is_host s) InvalidHost bs (host-utf8 s bs);
      reg_name = λ bs. component-law (λ x. is_reg_name s x && not (is_ipv4 x)) InvalidRegName bs (λ h. text_over-utf8 (reg_name_char s) bs (both (is_reg_name s bs) (not (is_ipv4 bs)) h).0);
      port = λ bs. component-law is_port InvalidPort bs (port-utf8 bs);
    }

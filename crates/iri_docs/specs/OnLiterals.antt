-- What computes the answers to literals.
use Rattle.std.specs.Prelude.{⊤}
use Rattle.std.specs.Fmt.{digits}
use Rattle.std.specs.Str.{is_utf8, chars}
use lib.Utf8.{encode}
use Rattle.serde_json.proofs.OnLiterals.{serde_json_on_literals}
use Rattle.iri_grammar.specs.Authority.{authority_parts, recompose_authority}
use Rattle.iri_grammar.specs.Classes.{any_char, unreserved, is_ascii_any, is_ascii_unreserved, is_sub_delim, is_gen_delim}
use Rattle.iri_grammar.specs.Classes.{userinfo_char, reg_name_char, path_char, query_char, fragment_char}
use Rattle.iri_grammar.specs.Classes.{is_ascii_userinfo, is_ascii_reg_name, is_ascii_path, is_ascii_pchar, is_ascii_query}
use Rattle.iri_grammar.specs.Components.{is_letter, is_scheme_char}
use Rattle.iri_grammar.specs.Over.{over_from}
use Rattle.iri_grammar.specs.Parts.{recompose}
use Rattle.iri_grammar.specs.Split.{split_of, relative_split_of}
use Rattle.iri_grammar.specs.WholeFault.{fault_before_fragment, parts_fault}
use Rattle.iri_percent.specs.NormalHost.{normal_host, is_ascii_host, normal_authority, authority_without}
use Rattle.iri_percent.specs.SchemeRules.{default_port}
use Rattle.iri_percent.specs.Triplets.{normal}
use Rattle.iri_percent.specs.Units.{read_from, first_char}
use Rattle.iri_template.specs.Fault.{fault_from, varspec_fault, is_reserved_operator}
use Rattle.iri_template.specs.Names.{is_varname, is_name_char}
use Rattle.iri_template.specs.Reading.{pieces_from}
use Rattle.iri_normal.specs.Answers.{answer_in}
use Rattle.iri_normal.specs.DotRemoval.{dots}
use Rattle.iri_normal.specs.Dots.{is_dot_segment}
use Rattle.iri_normal.specs.NormalForm.{normal_path, normal_form, form, canonical}
use Rattle.iri_normal.specs.Target.{target}

-- what an example unfolds to compute documents, expansions and canonical texts
unfoldable pub on_literals : ⊤
unfolding serde_json_on_literals digits is_utf8 chars encode authority_parts recompose_authority any_char unreserved is_ascii_any
    is_ascii_unreserved is_sub_delim is_gen_delim userinfo_char reg_name_char path_char query_char fragment_char is_ascii_userinfo
    is_ascii_reg_name is_ascii_path is_ascii_pchar is_ascii_query is_letter is_scheme_char over_from recompose split_of relative_split_of
    fault_before_fragment parts_fault read_from normal_host is_ascii_host normal_authority authority_without default_port normal
    first_char fault_from varspec_fault is_reserved_operator is_varname is_name_char pieces_from answer_in dots is_dot_segment
    normal_path normal_form form canonical target
on_literals = tt

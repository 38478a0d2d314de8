use Rattle.iri_cli.proofs.Common.{◌≡◌, ◌∙◌, true, sym, subst, path_char}
use Rattle.iri_grammar.specs.Components.{is_path}
use Rattle.iri_normal.proofs.targets.Targets.{cut_over}
use Rattle.iri_cli.proofs.run.prepared.show_path.Goals as goal

pub show_guarded-requires : goal.show_guarded-requires
show_guarded-requires g c =
    let s = g.S.Spec.tests in
    subst (λ z. is_path s z ≡ true) (sym (c.of.ensures ∙ c.cut_last_segment.ensures.directory))
    (cut_over (path_char s) c.args.path.now c.requires).0

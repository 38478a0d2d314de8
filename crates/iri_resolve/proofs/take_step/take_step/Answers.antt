use Rattle.iri_resolve.proofs.Common.{sym, ◌∙◌, ap, subst, IfOk, step_in, Reaches, parts_of}
use Rattle.iri_resolve.proofs.ReachedLemmas.{letter-reached, host-reached, empty-reached, digit-placed, decode-placed}
use Rattle.iri_resolve.proofs.take_step.take_step.Goals as goal

pub returns-in-SchemeLetter : goal.returns-in-SchemeLetter
returns-in-SchemeLetter g c =
    let s = g.S.Spec.tests in
    let r = c.args.reached.now in
    subst (λ x. Reaches s (step_in s c.args.mode (parts_of r) x) c.small_letter.result (record r { scheme = c.small_letter.new.text })) (sym c.in-SchemeLetter.is)
    (letter-reached s c.args.mode c.small_letter.result r c.in-SchemeLetter.i c.small_letter.new.text c.requires c.small_letter.ensures)

pub returns-in-HostLetter : goal.returns-in-HostLetter
returns-in-HostLetter g c =
    let s = g.S.Spec.tests in
    let r = c.args.reached.now in
    subst (λ x. Reaches s (step_in s c.args.mode (parts_of r) x) c.small_letter_in_authority.result
    (record r { authority = c.small_letter_in_authority.new.authority })) (sym c.in-HostLetter.is)
    (host-reached s c.args.mode c.small_letter_in_authority.result r c.in-HostLetter.i c.small_letter_in_authority.new.authority c.small_letter_in_authority.ensures)

pub returns-in-EmptyPort : goal.returns-in-EmptyPort
returns-in-EmptyPort g c =
    let s = g.S.Spec.tests in
    let r = c.args.reached.now in
    subst (λ x. Reaches s (step_in s c.args.mode (parts_of r) x) c.without_empty_port.result
    (record r { authority = c.without_empty_port.new.authority })) (sym c.in-EmptyPort.is)
    (empty-reached s c.args.mode c.without_empty_port.result r c.without_empty_port.new.authority c.without_empty_port.ensures)

pub returns-in-HexDigit : goal.returns-in-HexDigit
returns-in-HexDigit g c =
    let s = g.S.Spec.tests in
    subst (λ o. IfOk c.triplet_step.result (λ b. Reaches s o b c.triplet_step.new.reached))
    (digit-placed s c.args.mode (parts_of c.args.reached.now) c.in-HexDigit.part c.in-HexDigit.i
    ∙ ap (step_in s c.args.mode (parts_of c.args.reached.now)) (sym c.in-HexDigit.is)) c.triplet_step.ensures

pub returns-in-Decode : goal.returns-in-Decode
returns-in-Decode g c =
    let s = g.S.Spec.tests in
    subst (λ o. IfOk c.triplet_step-in-Decode.result (λ b. Reaches s o b c.triplet_step-in-Decode.new.reached))
    (decode-placed s c.args.mode (parts_of c.args.reached.now) c.in-Decode.part c.in-Decode.i
    ∙ ap (step_in s c.args.mode (parts_of c.args.reached.now)) (sym c.in-Decode.is)) c.triplet_step-in-Decode.ensures

pub returns-in-Dots : goal.returns-in-Dots
unfolding step_in
returns-in-Dots g c =
    let s = g.S.Spec.tests in
    subst (λ x. IfOk c.dots_step.result (λ b. Reaches s (step_in s c.args.mode (parts_of c.args.reached.now) x) b c.dots_step.new.reached)) (sym c.in-Dots.is)
    c.dots_step.ensures

pub returns-in-SlashPath : goal.returns-in-SlashPath
returns-in-SlashPath g c =
    let s = g.S.Spec.tests in
    subst (λ x. IfOk c.slash_step.result (λ b. Reaches s (step_in s c.args.mode (parts_of c.args.reached.now) x) b c.slash_step.new.reached)) (sym c.in-SlashPath.is)
    c.slash_step.ensures

pub returns-in-DefaultPort : goal.returns-in-DefaultPort
returns-in-DefaultPort g c =
    let s = g.S.Spec.tests in
    subst (λ x. Reaches s (step_in s c.args.mode (parts_of c.args.reached.now) x) c.default_port_step.result c.default_port_step.new.reached)
    (sym c.in-DefaultPort.is) c.default_port_step.ensures

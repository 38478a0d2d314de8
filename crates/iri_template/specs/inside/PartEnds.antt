-- How the writing of a template's part ends, where values may change.
use Rattle.std.specs.Prelude.{◌≡◌, ℕ, ◌*◌, false, List, length, Option, Result, Ok, Err}
use Rattle.iri_grammar.specs.Classes.{Tests, any_char}
use Rattle.iri_percent.specs.Encoding.{encoded}
use Rattle.iri_text.specs.declared.shown.show.Stop.{Stop}
use Rattle.iri_template.specs.Portions.{varspec_portions}
use Rattle.iri_template.specs.Variables.{varspecs_left}
use Rattle.iri_template.specs.Tells.{Telling}
use Rattle.iri_template.specs.Writings.{EndsAs, CallsUpTo}
use Rattle.iri_template.specs.declared.error.Error.{Error}
use Rattle.iri_template.specs.declared.error.ErrorKind.TheVariants.{WriteFailed}
use Rattle.iri_template.specs.declared.part.Part.{Part}
use Rattle.iri_template.specs.declared.part.Part.TheVariants as part

-- a text went in, or the sink stopped within it, which is a fault at this place
abbrev pub LiteralsEnd : {W : Type 0} → (W → List ℕ → W → Type 0) → (W → List ℕ → W → Type 0) → ℕ → List ℕ → W → W → Result (Unit {0}) Error
    → Type 0
LiteralsEnd puts halts at text old new (Ok x) = puts old text new
LiteralsEnd puts halts at text old new (Err e) = (e ≡ record { kind = WriteFailed; location = at }) × halts old text new

-- what is answered of a text that was put, or within which the sink stopped
abbrev pub write_result : ℕ → Result (Unit {0}) Stop → Result (Unit {0}) Error
write_result at (Ok x) = Ok x
write_result at (Err e) = Err (record { kind = WriteFailed; location = at })

-- of a part; literals and triplets without an expression between them begin at this place
abbrev pub PartEnds : {W : Type 0} → Tests → (W → List ℕ → W → Type 0) → (W → List ℕ → W → Type 0) → ℕ → W → W
    → Result (Unit {0}) Error → Part → Telling → Type 0
PartEnds s puts halts at old new r (part.Literals l) tells = LiteralsEnd puts halts at (encoded (any_char s) l.now) old new r
PartEnds s puts halts at old new r (part.Triplet l) tells = LiteralsEnd puts halts at l.now old new r
PartEnds s puts halts at old new r (part.Expression o v) tells =
    EndsAs puts halts (varspec_portions s o tells false (varspecs_left v)) old new r

-- the calls of the context that were made where a part was refused at this place
abbrev pub PartCalls : Tests → ℕ → ℕ → Option Telling → Option Telling → Part → Telling → Type 0
PartCalls s at begin tells_old tells_new (part.Literals l) tells = (at ≡ begin) × (tells_new ≡ tells_old)
PartCalls s at begin tells_old tells_new (part.Triplet l) tells = (at ≡ begin) × (tells_new ≡ tells_old)
PartCalls s at begin tells_old tells_new (part.Expression o v) tells =
    CallsUpTo (varspec_portions s o tells false (varspecs_left v)) at 0 tells_old tells_new

-- how many calls of the context a part takes
abbrev pub calls_of : Part → ℕ
calls_of (part.Literals l) = 0
calls_of (part.Triplet l) = 0
calls_of (part.Expression o v) = 2 * length (varspecs_left v)

-- where literals and triplets begin after this part, which ends at `end`
abbrev pub begin_after : Part → ℕ → ℕ → ℕ
begin_after (part.Literals l) begin end = begin
begin_after (part.Triplet l) begin end = begin
begin_after (part.Expression o v) begin end = end

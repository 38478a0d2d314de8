-- The kind of a refusal, where the sink was a string.
use Rattle.iri_template.specs.declared.error.ErrorKind.{ErrorKind}
use Rattle.iri_template.specs.declared.error.ErrorKind.TheVariants.{WriteFailed, Memory}

abbrev pub in_memory : ErrorKind → ErrorKind
in_memory WriteFailed = Memory
in_memory kind = kind

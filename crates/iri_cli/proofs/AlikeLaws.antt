-- Each command says the same after a base line and after its prepared base.
use Rattle.iri_cli.proofs.Common.{◌≡◌, ◌∙◌, ℕ, ◌+◌, ◌≤◌, List, [], ◌∷◌, ◌++◌, None, Result, Ok, Err, refl, sym, ap, subst, map, length, Tests, IsSpec}
use Rattle.iri_cli.proofs.Common.{recompose, IsSome, IsAbsolute, Parts, split_of, bytes_fault, reference_fault, CanonMode, canonical_in, answer_in, answer_by}
use Rattle.iri_cli.proofs.Common.{good_answer, refusal, expansion_answer, template_answer, docs_answer, read_answer}
use Rattle.iri_cli.proofs.Common.{Values, command_of, commands_from, entries_after, normal_base, robots_rules, rules_of, answer_to, entry_lines}
use Rattle.std.proofs.Math.Path.{fun_ext}
use Rattle.iri_docs.specs.Documents.{line_document}
use Rattle.iri_docs.specs.Expanded.{expansion_within}
use Rattle.iri_docs.specs.Held.{Held}
use Rattle.iri_docs.specs.declared.doc_error.DocError.{DocError}
use Rattle.iri_docs.specs.declared.expand_error.DocExpandError.{DocExpandError}
use Rattle.iri_grammar.proofs.faults.FaultLaws.{none-is}
use Rattle.iri_grammar.proofs.splits.SplitUnique.{split_is}
use Rattle.std.specs.Prelude.{cond}
use Rattle.std.specs.Str.{is_utf8}
use Rattle.std.specs.Str.Lossy.{utf8_valid_len}
use Rattle.iri_link.specs.declared.error.LinkKind.TheVariants.{NotUtf8}
use Rattle.iri_link.specs.Fault.{field_fault}
use Rattle.iri_link.specs.Field.{LinkValue}
use Rattle.iri_link.specs.LaxReadings.{lax_links_in}
use Rattle.iri_link.specs.Readings.{links_in}
use Rattle.iri_link.specs.Resolved.{resolved_in}
use Rattle.iri_link.specs.Written.{written}
use Rattle.iri_normal.specs.NormalForm.{normal_form_in}
use Rattle.iri_normal.specs.Target.{target}
use Rattle.iri_normal.proofs.canonical_texts.CanonicalTexts.{canonical_in-text, own-target}
use Rattle.iri_percent.specs.Mapping.{mapped}
use Rattle.iri_register.specs.Commands.{entries_of_commands, Add, Remove}
use Rattle.iri_register.specs.Entries.{Entry, line_count, place}
use Rattle.iri_robots.specs.Records.{FileRecord}
use Rattle.iri_cli.specs.declared.run.words.LineCommand.{LineCommand}
use Rattle.iri_cli.specs.declared.run.words.LineCommand.TheVariants.{Canon, ToUri, Parts as TakesApart, Expand, Register, Links, LaxLinks, Docs, Robots, Pairs, PairsToUri}
use Rattle.iri_cli.specs.expand.Answers.{answer_to as expand_to}
use Rattle.iri_cli.specs.expand.Lines.{ExpandLine, changes, expands, bad as no_template, values_after, line_of as expand_line}
use Rattle.iri_cli.specs.inside.Opening.{IsPreparedOf, begun}
use Rattle.iri_cli.specs.inside.Puts.{IsWriterAt}
use Rattle.iri_cli.specs.links.Answers.{field_refusal, lax_answer, links_answer, unless_told}
use Rattle.iri_cli.specs.parts.Answers.{parts_answer, parts_line}
use Rattle.iri_cli.specs.register.Answers.{answer_to as register_to, added_answer, removed_answer, found_answer}
use Rattle.iri_cli.specs.register.Lines.{RegisterLine, adds, removes, finds, bad as no_change, line_of, unless_fault}
use Rattle.iri_cli.specs.register.Memory.{takes_memory}
use Rattle.iri_cli.specs.robots.Answers.{target_answer}
use Rattle.iri_cli.specs.robots.Lines.{RobotsLine, feeds, asks, bad, records_after, line_of as robots_line}
use Rattle.iri_cli.specs.run.Limits.{longest_line, answer_room}
use Rattle.iri_cli.specs.run.Prepared.{IsAlike}
use Rattle.iri_cli.specs.to_uri.Answers.{uri_answer}
use Rattle.iri_cli.specs.run.Refused.{unless_bad}
use Rattle.iri_cli.proofs.BytesLemmas.{base_absolute}
use Rattle.iri_cli.proofs.PreparedLaws.{prepared_absolute, prepared_taken, same_answer, same_canonical}

-- a base, which has no fragment, is the target of the empty reference
base_target : (p : Parts) → p.fragment ≡ None → target p (split_of []) ≡ p
unfolding target split_of
base_target p none = ap (λ f. record { scheme = p.scheme; authority = p.authority; path = p.path; query = p.query; fragment = f }) (sym none)

-- the normal form of a base is the canonical text of the empty reference, and of the base
empty_canonical : (s : Tests) (mode : CanonMode) (base : List ℕ) → IsSpec s → IsAbsolute s base → canonical_in s mode base [] ≡ normal_base s mode base
empty_canonical s mode base k b =
    let e = split_is s base b.0 k b.1 in
    let none = ap (λ (p : Parts). p.fragment) e ∙ none-is b.0.fragment b.3 in
    sym (canonical_in-text s mode base []) ∙ ap (λ p. recompose (normal_form_in s mode p)) (base_target (split_of base) none)

pub own_canonical : (s : Tests) (mode : CanonMode) (base : List ℕ) → IsSpec s → IsAbsolute s base → canonical_in s mode base base ≡ normal_base s mode base
own_canonical s mode base k b =
    let some : IsSome (split_of base).scheme = rw (split_is s base b.0 k b.1) b.2 in
    sym (canonical_in-text s mode base base) ∙ ap (λ p. recompose (normal_form_in s mode p)) (own-target (split_of base) (split_of base) some)

module _ (s : Tests) (line text : List ℕ) (k : IsSpec s) (p : IsPreparedOf s line text) where
  line_valid : IsAbsolute s line
  line_valid = base_absolute s k line p.taken

  text_valid : IsAbsolute s text
  text_valid = subst (IsAbsolute s) (sym p.text_is) (prepared_absolute s line k line_valid)

  pub still_taken : refusal s text ≡ None
  still_taken = ap (refusal s) p.text_is ∙ prepared_taken s line k p.taken

  module _ (mode : CanonMode) where
    answers_same : (r : List ℕ) → answer_in s mode text r ≡ answer_in s mode line r
    answers_same r = ap (λ (t : List ℕ). answer_in s mode t r) p.text_is ∙ same_answer s mode line r k p.taken

    targets_same : (r : List ℕ) → canonical_in s mode text r ≡ canonical_in s mode line r
    targets_same r = ap (λ (t : List ℕ). canonical_in s mode t r) p.text_is ∙ same_canonical s mode line r k line_valid

    -- ---- canonical texts, mapped
    uris_same : (l : List ℕ) → uri_answer s mode text l ≡ uri_answer s mode line l
    unfolding uri_answer
    uris_same l = ap (λ t. answer_by (bytes_fault (reference_fault s) l) (mapped t)) (targets_same l)

    -- ---- their components
    parts_same : (l : List ℕ) → parts_answer s mode text l ≡ parts_answer s mode line l
    unfolding parts_answer
    parts_same l = ap (λ t. parts_line (bytes_fault (reference_fault s) l) t (split_of t)) (targets_same l)

    -- ---- expansions
    expansions_same : (x : Result (List ℕ) DocExpandError) → expansion_answer s mode text x ≡ expansion_answer s mode line x
    expansions_same (Ok t) = answers_same t
    expansions_same (Err e) = refl

    templates_same : (values : Values) (template : List ℕ) → template_answer s mode text values template ≡ template_answer s mode line values template
    unfolding template_answer
    templates_same values template = expansions_same (expansion_within s values template)

    expands_same : (values : Values) (said : ExpandLine) → expand_to s mode text values said ≡ expand_to s mode line values said
    expands_same values (changes change) = refl
    expands_same values (expands template) = templates_same values template
    expands_same values no_template = refl

    reads_same : (r : Result Held DocError) → read_answer s mode text r ≡ read_answer s mode line r
    reads_same (Ok d) = templates_same d.value_of d.template
    reads_same (Err e) = refl

    documents_same : (l : List ℕ) → docs_answer s mode text l ≡ docs_answer s mode line l
    unfolding docs_answer
    documents_same l = reads_same (line_document l)

    -- ---- links
    resolved_same : resolved_in s mode text ≡ resolved_in s mode line
    resolved_same = fun_ext (λ (l : LinkValue). ap (λ t. record { target = t; params = l.params }) (targets_same l.target))

    links_same : (l : List ℕ) → links_answer s mode text l ≡ links_answer s mode line l
    unfolding links_answer
    links_same l = ap (λ f. unless_told (field_fault s l) (good_answer (written (map f (links_in l))))) resolved_same

    lax_same : (l : List ℕ) → lax_answer s mode text l ≡ lax_answer s mode line l
    unfolding lax_answer
    lax_same l =
        ap (λ f. cond (is_utf8 l) (good_answer (written (map f (lax_links_in s l)))) (field_refusal (record { kind = NotUtf8; place = utf8_valid_len l }))) resolved_same

    -- ---- entries
    command_same : (n : ℕ) (said : RegisterLine) → command_of s mode text n said ≡ command_of s mode line n said
    command_same n (adds r) = ap (λ t. unless_fault (bytes_fault (reference_fault s) r) (Add t n)) (targets_same r)
    command_same n (removes r) = ap (λ t. unless_fault (bytes_fault (reference_fault s) r) (Remove t)) (targets_same r)
    command_same n (finds r) = refl
    command_same n no_change = refl

    commands_same : (n : ℕ) (lines : List (List ℕ)) → commands_from s mode text n lines ≡ commands_from s mode line n lines
    commands_same n [] = refl
    commands_same n (l ∷ lines) =
        ap (λ c. c ++ commands_from s mode text (n + 1) lines) (command_same n (line_of l))
        ∙ ap (λ cs. command_of s mode line n (line_of l) ++ cs) (commands_same (n + 1) lines)

    entries_same : (between : List (List ℕ)) → entries_after s mode text between ≡ entries_after s mode line between
    unfolding entries_after
    entries_same between = ap entries_of_commands (commands_same 2 between)

    replies_same : (es : List Entry) (said : RegisterLine) → register_to s mode text es said ≡ register_to s mode line es said
    replies_same es (adds r) = ap (λ t. unless_bad (bytes_fault (reference_fault s) r) (added_answer (length es) (place es t))) (targets_same r)
    replies_same es (removes r) = ap (λ t. unless_bad (bytes_fault (reference_fault s) r) (removed_answer (line_count es t))) (targets_same r)
    replies_same es (finds r) = ap (λ t. unless_bad (bytes_fault (reference_fault s) r) (found_answer (place es t))) (targets_same r)
    replies_same es no_change = refl

    -- ---- sites
    bases_same : normal_base s mode text ≡ normal_base s mode line
    bases_same = sym (empty_canonical s mode text k text_valid) ∙ targets_same [] ∙ empty_canonical s mode line k line_valid

    verdicts_same : (token : List ℕ) (records : List FileRecord) (said : RobotsLine)
        → answer_to s mode token text records said ≡ answer_to s mode token line records said
    verdicts_same token records (feeds l) = refl
    verdicts_same token records (asks r) = ap (unless_bad (bytes_fault (reference_fault s) r))
        (ap (target_answer token (normal_base s mode text) records) (targets_same r)
        ∙ ap (λ base. target_answer token base records (canonical_in s mode line r)) bases_same)
    verdicts_same token records bad = refl

    -- ---- all commands
    pub robots_alike : (token : List ℕ) → IsAlike (robots_rules s mode token) text line
    robots_alike token = record {
      answer = λ between l. verdicts_same token (records_after between) (robots_line l);
      closing = λ between. refl;
      wants_memory = λ between l. refl;
    }

    pub alike : (command : LineCommand) → IsAlike (rules_of command s mode) text line
    alike Canon = record { answer = λ between. answers_same; closing = λ between. refl; wants_memory = λ between l. refl }
    alike ToUri = record { answer = λ between. uris_same; closing = λ between. refl; wants_memory = λ between l. refl }
    alike TakesApart = record { answer = λ between. parts_same; closing = λ between. refl; wants_memory = λ between l. refl }
    alike Expand = record {
      answer = λ between l. expands_same (values_after between) (expand_line l);
      closing = λ between. refl;
      wants_memory = λ between l. refl;
    }
    alike Register = record {
      answer = λ between l. ap (λ es. register_to s mode text es (line_of l)) (entries_same between)
          ∙ replies_same (entries_after s mode line between) (line_of l);
      closing = λ between. ap (entry_lines 1) (entries_same between);
      wants_memory = λ between l. ap (λ es. takes_memory s es (line_of l)) (entries_same between);
    }
    alike Links = record { answer = λ between. links_same; closing = λ between. refl; wants_memory = λ between l. refl }
    alike LaxLinks = record { answer = λ between. lax_same; closing = λ between. refl; wants_memory = λ between l. refl }
    alike Docs = record { answer = λ between. documents_same; closing = λ between. refl; wants_memory = λ between l. refl }
    alike (Robots token) = robots_alike token.now
    alike Pairs = record { answer = λ between l. refl; closing = λ between. refl; wants_memory = λ between l. refl }
    alike PairsToUri = record { answer = λ between l. refl; closing = λ between. refl; wants_memory = λ between l. refl }

    -- a command that writes to a buffer stands at the prepared base
    pub writer_at : (command : LineCommand) (output : ℕ) → length text ≤ longest_line → answer_room ≤ output
        → IsWriterAt (rules_of command s mode) s text output (begun (rules_of command s mode) line)
    writer_at command output short room =
        record { rules = refl; alike = alike command; taken = still_taken; short = short; room = room }

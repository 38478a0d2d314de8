-- The answers of `pairs`.
use Rattle.iri_cli.proofs.Common.{◌≡◌, ◌≢◌, ◌∙◌, ℕ, ◌+◌, Bool, false, List, [], ◌∷◌, ◌++◌, length, Option, Some, None, Result, Err, refl, sym, ap, subst}
use Rattle.iri_cli.proofs.Common.{arith, length-append, Tests, IsSpec, ErrorKind, absolute_fault, bytes_fault, before, CanonMode, refusal, answer_in, KeepsRoom, SinkState}
use Rattle.iri_cli.proofs.Common.{Answering, AnswersLine, PutsAnswer, is_ok, Rules, AnswerError, SinkFailed, LineState, Outside, outside, End, Ran}
use Rattle.iri_cli.proofs.Common.{begun, drop, lacks, longest_line, take, true, ◌≤◌}
use Rattle.std.proofs.lemmas.List.{take-append-drop}
use Rattle.iri_grammar.specs.Classes.{uri_tests}
use Rattle.iri_grammar.specs.Cut.{after, delimited}
use Rattle.iri_grammar.specs.ErrorTexts.{description}
use Rattle.iri_grammar.proofs.faults.Scans.{before-lacks}
use Rattle.iri_grammar.proofs.splits.CutLaws.{after-delimited, before-delimited, joined}
use Rattle.iri_template.proofs.Prefixes.{no_delimiter}
use Rattle.iri_normal.specs.Pairs.{answer_on, bad_line, base_answer, pairs_answer, tab, unless_page}
use Rattle.iri_docs.specs.OnLiterals.{on_literals}
use Rattle.iri_cli.specs.declared.pairs.link.LinkText.{LinkText}
use Rattle.iri_cli.specs.declared.pairs.link.LinkText.TheVariants.{Canonical, Mapped}
use Rattle.iri_cli.specs.pairs.OfCanon.{AnswersAreOfCanon, IsPair, IsPairAnswer, no_pair, bad_page, on_page}
use Rattle.iri_cli.specs.pairs.OfCanon.{AnswersAreOfCanonUris, IsPairUriAnswer, no_pair_uri, bad_page_uri, on_page_uri}
use Rattle.iri_cli.specs.inside.Answering.{AnswersLines}
use Rattle.iri_cli.specs.inside.Going.{Beginning, Goes, HasAnswer, IsOf, ahead}
use Rattle.iri_cli.specs.inside.Paged.{IsPage, WaitsBy, line_answer, link_answer, paged_rules}
use Rattle.iri_cli.specs.pairs.Rules.{no_page, pair_uri_answer, uri_on}
use Rattle.iri_cli.specs.to_uri.Answers.{uri_answer}
use Rattle.iri_cli.specs.run.Buffers.{IsNew}
use Rattle.iri_cli.specs.run.Limits.{answer_room, longest_input}
use Rattle.iri_cli.proofs.BytesLemmas.{canonical_answers, fault_refused, no_fault_taken, taken_no_fault, taken_of_uris}
use Rattle.iri_cli.proofs.CanonLemmas.{on_ok, puts_answer}
use Rattle.iri_cli.proofs.Answered.{start_lines}
use Rattle.iri_cli.proofs.BaseLine.{new_going}
use Rattle.iri_cli.proofs.GoingLemmas.{waits_fit}
use Rattle.iri_cli.proofs.PutLemmas.{room_text}
use Rattle.iri_cli.proofs.Reading.{read_none}
use Rattle.iri_cli.proofs.ToUriLemmas.{answers_are_canonical_uris}

-- ---- the base that stands before all lines
no_page_of_uris : absolute_fault uri_tests no_page ≡ None
unfolding on_literals
no_page_of_uris = refl

pub no_page_taken : (s : Tests) → IsSpec s → refusal s no_page ≡ None
no_page_taken s k = taken_of_uris s k no_page no_page_of_uris

-- ---- a line and its parts
cut_line : (line link : List ℕ) → after tab line ≡ Some link → line ≡ before tab line ++ tab ∷ link
cut_line line link is = sym (joined tab line) ∙ ap (λ (o : Option (List ℕ)). before tab line ++ delimited tab o) is

pub parts_short : (line page link : List ℕ) → page ≡ before tab line → after tab line ≡ Some link → length page + length link + 1 ≡ length line
parts_short line page link page_is link_is =
    omega (arith, ap length page_is, ap length (cut_line line link link_is), length-append (before tab line) (tab ∷ link))

-- a line by the cut behind its page
pub line_is : (line prefix rest page link : List ℕ) → prefix ≡ take (length page) line → rest ≡ drop (length page) line → rest ≡ tab ∷ link
    → prefix ≡ page → line ≡ page ++ tab ∷ link
line_is line prefix rest page link p r l is =
    sym (take-append-drop (length page) line) ∙ ap (λ t. t ++ drop (length page) line) (sym p ∙ is) ∙ ap (λ t. page ++ t) (sym r ∙ l)

-- More lines of a run were answered, if any.
pub record StaysOn (rules : Rules) (reader0 reader : LineState) (old now : Outside) (good0 good : Bool) : Type 0 where
  pub waits : (b : Beginning) → WaitsBy rules b reader0 old good0 → WaitsBy rules b reader now good
  pub less : ahead reader ≤ ahead reader0

module _ (s : Tests) (m : CanonMode) where
  -- ---- what is said of each line
  by_page : (line page link : List ℕ) → IsSpec s → IsPair line page link → (fault : Option ErrorKind) → bytes_fault (absolute_fault s) page ≡ fault
      → IsPairAnswer s m line (unless_page fault (answer_in s m page link))
  by_page line page link k pair None is =
      let taken = no_fault_taken s page is in
      on_page page link pair taken (canonical_answers s m k page link taken)
  by_page line page link k pair (Some kind) is = bad_page page link (description kind) pair (fault_refused s page kind is)

  by_link : (line : List ℕ) → IsSpec s → (l : Option (List ℕ)) → after tab line ≡ l → IsPairAnswer s m line (answer_on s m (before tab line) l)
  by_link line k None is = no_pair (no_delimiter tab line is)
  by_link line k (Some link) is =
      let page = before tab line in
      by_page line page link k (record { split = cut_line line link is; no_tab = before-lacks tab line }) (bytes_fault (absolute_fault s) page) refl

  pub answers_are_of_canon : IsSpec s → AnswersAreOfCanon s m
  unfolding pairs_answer
  answers_are_of_canon k = record {
    own = λ base between line. refl;
    of_canon = λ line. by_link line k (after tab line) refl;
    base_taken = no_page_taken s k;
  }

  -- with `to uri`
  by_uri_page : (line page link : List ℕ) → IsSpec s → IsPair line page link → (fault : Option ErrorKind) → bytes_fault (absolute_fault s) page ≡ fault
      → IsPairUriAnswer s m line (unless_page fault (uri_answer s m page link))
  by_uri_page line page link k pair None is =
      let taken = no_fault_taken s page is in
      on_page_uri page link pair taken (answers_are_canonical_uris s m k page link taken)
  by_uri_page line page link k pair (Some kind) is = bad_page_uri page link (description kind) pair (fault_refused s page kind is)

  by_uri_link : (line : List ℕ) → IsSpec s → (l : Option (List ℕ)) → after tab line ≡ l → IsPairUriAnswer s m line (uri_on s m (before tab line) l)
  by_uri_link line k None is = no_pair_uri (no_delimiter tab line is)
  by_uri_link line k (Some link) is =
      let page = before tab line in
      by_uri_page line page link k (record { split = cut_line line link is; no_tab = before-lacks tab line }) (bytes_fault (absolute_fault s) page) refl

  pub answers_are_of_canon_uris : IsSpec s → AnswersAreOfCanonUris s m
  unfolding pair_uri_answer
  answers_are_of_canon_uris k = record { own = λ base between line. refl; of_canon = λ line. by_uri_link line k (after tab line) refl }

module _ (s : Tests) where
  -- the answer to a page and a link
  abbrev page_answer : LinkText → List ℕ → Option (List ℕ) → List ℕ
  page_answer (Canonical mode) page link = answer_on s mode page link
  page_answer (Mapped mode) page link = uri_on s mode page link

  of_pair : (m : LinkText) (line page link : List ℕ) → page ≡ before tab line → after tab line ≡ Some link
      → page_answer m page (Some link) ≡ line_answer s m line
  unfolding pairs_answer pair_uri_answer
  of_pair (Canonical mode) line page link page_is link_is =
      ap (λ (p : List ℕ). answer_on s mode p (Some link)) page_is ∙ ap (answer_on s mode (before tab line)) (sym link_is)
  of_pair (Mapped mode) line page link page_is link_is =
      ap (λ (p : List ℕ). uri_on s mode p (Some link)) page_is ∙ ap (uri_on s mode (before tab line)) (sym link_is)

  of_none : (m : LinkText) (line : List ℕ) → after tab line ≡ None → bad_line ≡ line_answer s m line
  unfolding pairs_answer pair_uri_answer
  of_none (Canonical mode) line none = ap (answer_on s mode (before tab line)) (sym none)
  of_none (Mapped mode) line none = ap (uri_on s mode (before tab line)) (sym none)

  -- the answer by the first fault of the page
  on_fault : (m : LinkText) (page link : List ℕ) (fault : Option ErrorKind) → bytes_fault (absolute_fault s) page ≡ fault
      → unless_page fault (link_answer s m page link) ≡ page_answer m page (Some link)
  on_fault (Canonical mode) page link fault is = ap (λ (o : Option ErrorKind). unless_page o (answer_in s mode page link)) (sym is)
  on_fault (Mapped mode) page link fault is = ap (λ (o : Option ErrorKind). unless_page o (uri_answer s mode page link)) (sym is)

module _ (s : Tests) (m : LinkText) where
  -- the answer to a line without a tab
  pub answer_of_none : (line : List ℕ) → after tab line ≡ None → bad_line ≡ line_answer s m line
  answer_of_none = of_none s m

  -- ---- an answer that was put
  on_line : (is_next : Answering → Type 0) (at : Answering) (line : List ℕ) (ko kn : SinkState) (r : Result Bool AnswerError) (text : List ℕ)
      → at.rules ≡ paged_rules s m → text ≡ line_answer s m line → PutsAnswer is_ok ko kn false text r
      → KeepsRoom ko.room_left kn.room_left text (r ≢ Err SinkFailed) → is_next (record at { between = at.between ++ line ∷ [] })
      → AnswersLine is_next at line ko kn r
  on_line is_next at line ko kn r text rules text_is p room next =
      let whole = at.rules.answer at.base at.between line in
      let is : text ≡ whole = text_is ∙ ap (λ (x : Rules). x.answer at.base at.between line) (sym rules) in
      record {
        puts = puts_answer is_ok at.rules.is_good ko kn r false (at.rules.wants_memory at.base at.between line) whole
            (ap (λ (x : Rules). x.is_good whole) (sym rules)) (λ _ h. absurd (cc h)) (subst (λ t. PutsAnswer is_ok ko kn false t r) is p);
        next = on_ok r next;
        room = room_text is room;
      }

  -- the answer to a link on a page that is taken
  pub answer_on_page : (line page link : List ℕ) → IsPage s page → line ≡ page ++ tab ∷ link → link_answer s m page link ≡ line_answer s m line
  answer_on_page line page link p is =
      on_fault s m page link None (taken_no_fault s page p.taken)
      ∙ of_pair s m line page link (sym (ap (before tab) is ∙ before-delimited tab page (Some link) p.no_tab))
      (ap (after tab) is ∙ after-delimited tab page (Some link) p.no_tab)

  -- the same of a page that is held
  pub answer_on_held : (line read page held base link : List ℕ) → page ≡ before tab line → after tab line ≡ Some link → held ≡ page
      → bytes_fault (absolute_fault s) held ≡ None → base ≡ held → line ≡ read → link_answer s m base link ≡ line_answer s m read
  answer_on_held line read page held base link page_is link_is held_is none base_is read_is =
      ap (λ t. link_answer s m t link) base_is ∙ on_fault s m held link None none ∙ ap (λ t. page_answer s m t (Some link)) held_is
      ∙ of_pair s m line page link page_is link_is ∙ ap (line_answer s m) read_is

  -- and of one that is refused
  pub refused_page : (line read page held link : List ℕ) (kind : ErrorKind) → page ≡ before tab line → after tab line ≡ Some link → held ≡ page
      → bytes_fault (absolute_fault s) held ≡ Some kind → line ≡ read → base_answer kind ≡ line_answer s m read
  refused_page line read page held link kind page_is link_is held_is fault read_is =
      on_fault s m held link (Some kind) fault ∙ ap (λ t. page_answer s m t (Some link)) held_is
      ∙ of_pair s m line page link page_is link_is ∙ ap (line_answer s m) read_is

  -- a page that is held and has no fault
  pub held_page : (line page held base : List ℕ) → page ≡ before tab line → held ≡ page → bytes_fault (absolute_fault s) held ≡ None
      → base ≡ held → IsPage s base
  held_page line page held base page_is held_is none base_is = record {
    taken = ap (refusal s) base_is ∙ no_fault_taken s held none;
    no_tab = subst (λ t. lacks tab t ≡ true) (sym (base_is ∙ held_is ∙ page_is)) (before-lacks tab line);
  }

  -- ---- a run on its way
  module _ (b : Beginning) (reader : LineState) (now : Outside) (good : Bool) (w : WaitsBy (paged_rules s m) b reader now good) where
    pub line_short : length reader.line ≤ longest_line
    line_short = omega (arith, waits_fit b reader now good w.1, ap (λ (r : Rules). r.line_limit) w.0)

    pub has_answer : (kn : SinkState) (r : Result Bool AnswerError) (text : List ℕ) → text ≡ line_answer s m reader.line
        → PutsAnswer is_ok now.sink kn false text r → KeepsRoom now.sink.room_left kn.room_left text (r ≢ Err SinkFailed)
        → HasAnswer b reader (outside now.left now.source_faults kn) good r
    has_answer kn r text is p room = record {
      sink = now.sink;
      waits = w.1;
      put = λ at of. on_line (IsOf b) at reader.line now.sink kn r text (of ∙ w.0) is p room of;
    }

  -- a link and its page are short, as their line is
  pub link_fits : (line page link : List ℕ) → line ≡ page ++ tab ∷ link → length line ≤ longest_line
      → length page + length link + 4 ≤ answer_room
  link_fits line page link is short = omega (arith, ap length is, length-append page (tab ∷ link), short)

  -- the beginning of a run
  abbrev pub from_first : IsSpec s → LineState → Outside → Beginning
  from_first k reader around = record {
    start = begun (paged_rules s m) no_page;
    taken = no_page_taken s k;
    silent = λ base between. refl;
    reader = reader;
    around = around;
  }

  -- no line was answered yet
  pub first_goes : (k : IsSpec s) (reader : LineState) (around : Outside) (sink : SinkState) → IsNew longest_line longest_input reader
      → sink.written ≡ around.sink.written → sink.faults ≡ around.sink.faults
      → KeepsRoom around.sink.room_left sink.room_left [] (Unit {0})
      → Goes (IsOf (from_first k reader around)) (begun (paged_rules s m) no_page) reader reader around.left around.left
      around.source_faults around.source_faults around.sink sink true
  first_goes k reader around sink n kept same room =
      start_lines (IsOf (from_first k reader around)) (begun (paged_rules s m) no_page) reader around.left around.source_faults around.sink sink
      refl refl (new_going (paged_rules s m) reader n) kept same room

  -- the end of all
  pub ends_run : (reader : LineState) (around now : Outside) (end : End) → IsNew longest_line longest_input reader
      → AnswersLines (begun (paged_rules s m) no_page) reader around now end → Ran (paged_rules s m) around now end
  ends_run reader around now end n ends = ends around.left around.source_faults [] (λ more. refl)
      (read_none (paged_rules s m) around.left reader n.held n.taken n.ended) (omega arith)

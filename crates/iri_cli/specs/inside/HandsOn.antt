-- The flush after a run.
use Rattle.std.specs.Prelude.{◌≡◌, ◌≢◌, ◌⊎◌, ◌≤◌, ℕ}
use Rattle.iri_text.specs.Count.{Rose}

-- By the sink's counts of faults: the status stays; or the sink failed, which then is the status. It isn't asked where the words are no
-- command or it failed before.
abbrev pub HandsOn : (old new : ℕ) → (status result : ℕ) → Type 0
HandsOn old new status result =
    ((result ≡ status) × (new ≡ old))
    ⊎ ((status ≢ 2) × (status ≢ 5) × (result ≡ 5) × Rose old new × (old ≤ new))

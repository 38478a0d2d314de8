-- The periods of a text's prefixes, and where a text can stand next.
use Rattle.std.specs.Prelude.{◌≡◌, ◌⊎◌, ℕ, ◌+◌, ◌*◌, ◌<◌, ◌≤◌, List, length, slice_index}
use Rattle.iri_robots.specs.declared.periods.Periods.{Periods}

-- of the first n bytes each stands s bytes before too
pub record HasPeriod (t : List ℕ) (n s : ℕ) : Type 0 where
  pub same : (i : ℕ) → s + i < n → slice_index t (s + i) ≡ slice_index t i

-- the text has this period for so many bytes after the first of it, and no longer
pub record IsLongest (t : List ℕ) (s r : ℕ) : Type 0 where
  pub within : s + r ≤ length t
  pub period : HasPeriod t (s + r) s
  pub longest : (n : ℕ) → n ≤ length t → HasPeriod t n s → n ≤ s + r

-- the period of the k-th entry is that of the first bytes of the text, as many as its end says
pub record IsEntry (t : List ℕ) (known : Periods) (k : ℕ) : Type 0 where
  pub some : 0 < slice_index known.periods k
  pub below : slice_index known.periods k < known.settled
  pub period : HasPeriod t (slice_index known.ends k) (slice_index known.periods k)

-- some entry holds for the first n bytes, and its period is at most s
pub record HasEntry (known : Periods) (n s : ℕ) : Type 0 where
  pub place : ℕ
  pub within : place < known.count
  pub period : slice_index known.periods place ≤ s
  pub end : n ≤ slice_index known.ends place

-- Each entry is a period, they grow, and of the periods below `settled` that a prefix has three times, each is no less than
-- that of an entry for that prefix
pub record ArePeriods (t : List ℕ) (known : Periods) : Type 0 where
  pub few : known.count ≤ 32
  pub periods_room : length known.periods ≡ 32
  pub ends_room : length known.ends ≡ 32
  pub entries : (k : ℕ) → k < known.count → IsEntry t known k
  pub growing : (i k : ℕ) → i ≤ k → k < known.count → slice_index known.periods i ≤ slice_index known.periods k
  pub some_settled : 0 < known.settled
  pub settled : (n s : ℕ) → n ≤ length t → 0 < s → s < known.settled → 3 * s ≤ n → HasPeriod t n s → HasEntry known n s

-- A text of whose bytes the first n stand somewhere can stand so many bytes later at the earliest, and so many of its bytes
-- stand there
pub record IsShift (t : List ℕ) (n by kept : ℕ) : Type 0 where
  pub some : 0 < by
  pub within : by ≤ n + 1
  pub earliest : (s : ℕ) → 0 < s → s < by → HasPeriod t n s → ⊥
  pub known : kept ≡ 0 ⊎ (by + kept ≡ n) × HasPeriod t n by

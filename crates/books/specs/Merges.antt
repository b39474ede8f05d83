-- The state of a merge: the least loads so far in ascending order, and one candidate of each unit whose pointer has not passed them all.
use Rattle.std.specs.Prelude.{◌≡◌, ℕ, ◌+◌, ◌-◌, ◌*◌, ◌%◌, ◌<◌, ◌≤◌, ◌⊎◌, List, length, slice_index, slice_index_or}
use Rattle.books.specs.declared.rebuild.candidates.Candidate.{Candidate}
use Rattle.books.specs.Candidates.{sooner}
use Rattle.waiting.specs.Lists.{Least}

-- What a read past the list gives.
abbrev pub nobody : Candidate
nobody = record { load = 0; position = 0 }

-- What the unit u waits with: the load at its pointer, and its size.
abbrev pub load_of : List ℕ → List ℕ → List ℕ → ℕ → ℕ
load_of order points sizes u = slice_index order (slice_index points u) + slice_index sizes u

-- One candidate waits for each active unit, and no other.
pub record Waits (order points sizes : List ℕ) (Active : ℕ → Type 0) (wl : List Candidate) : Type 0 where
  pub known : (k : ℕ) → k < length wl → (slice_index_or wl k nobody).position < length sizes
  pub active : (k : ℕ) → k < length wl → Active (slice_index_or wl k nobody).position
  pub loads : (k : ℕ) → k < length wl → (slice_index_or wl k nobody).load ≡ load_of order points sizes (slice_index_or wl k nobody).position
  pub full : (u : ℕ) → u < length sizes → Active u → (k : ℕ) × (k < length wl) × ((slice_index_or wl k nobody).position ≡ u)
  pub alone : (j k : ℕ) → j < length wl → k < length wl → (slice_index_or wl j nobody).position ≡ (slice_index_or wl k nobody).position → j ≡ k

-- The pointer has not reached n.
abbrev pub Under : List ℕ → ℕ → ℕ → Type 0
Under points n u = slice_index points u < n

-- The pointer has not reached n, or stands at n and the unit is below i.
abbrev pub UnderOr : List ℕ → ℕ → ℕ → ℕ → Type 0
UnderOr points n i u = (slice_index points u < n) ⊎ ((slice_index points u ≡ n) × (u < i))

-- The loads so far: from 0, ascending, each below a bound, each but the first made from an earlier one and a unit.
pub record Loads (sizes order : List ℕ) (n : ℕ) : Type 0 where
  pub some : 1 ≤ n
  pub inside : n ≤ length order
  pub first : slice_index_or order 0 0 ≡ 0
  pub rises : (j k : ℕ) → j ≤ k → k < n → slice_index order j ≤ slice_index order k
  pub bound : (k : ℕ) → k < n → slice_index order k ≤ 65535 * k
  pub made : (k : ℕ) → 1 ≤ k → k < n → (j : ℕ) × (u : ℕ) × (j < k) × (u < length sizes) × (slice_index order k ≡ slice_index order j + slice_index sizes u)

-- The load has its remainder among the loads so far, at no greater load.
pub record Covered (m : ℕ) (order : List ℕ) (n load : ℕ) : Type 0 where
  pub place : ℕ
  pub inside : place < n
  pub leaves : slice_index_or order place 0 % m ≡ load % m
  pub within : slice_index_or order place 0 ≤ load

-- A byte of the strip is 1 just where its remainder is finished, and no remainder is finished twice.
pub record Marked (m : ℕ) (strip order : List ℕ) (n : ℕ) : Type 0 where
  pub taken : (r : ℕ) → r < m → slice_index strip r ≡ 1 → (k : ℕ) × (k < n) × (slice_index order k % m ≡ r)
  pub shows : (k : ℕ) → k < n → slice_index strip (slice_index order k % m) ≡ 1
  pub apart : (j k : ℕ) → j < n → k < n → slice_index order j % m ≡ slice_index order k % m → j ≡ k

-- Between two turns.
pub record State (sizes : List ℕ) (m : ℕ) (strip order points : List ℕ) (n : ℕ) (wl : List Candidate) : Type 0 where
  pub so_far : Loads sizes order n
  pub marks : Marked m strip order n
  pub upto : (u : ℕ) → u < length sizes → slice_index points u ≤ n
  pub done : (u j : ℕ) → u < length sizes → j < slice_index points u → Covered m order n (slice_index order j + slice_index sizes u)
  pub waits : Waits order points sizes (Under points n) wl
  pub later : (k : ℕ) → k < length wl → slice_index order (n - 1) ≤ (slice_index_or wl k nobody).load

-- A candidate x is taken out, and its unit's pointer is not moved yet.
pub record Turning (sizes : List ℕ) (m : ℕ) (strip order points : List ℕ) (n : ℕ) (x : Candidate) (wl : List Candidate) : Type 0 where
  pub old : List Candidate
  pub state : State sizes m strip order points n old
  pub out : Least sooner old wl x

-- The pointer is moved and the next candidate waits: x itself is not settled yet.
pub record Half (sizes : List ℕ) (m : ℕ) (strip order points : List ℕ) (n : ℕ) (x : Candidate) (wl : List Candidate) : Type 0 where
  pub so_far : Loads sizes order n
  pub marks : Marked m strip order n
  pub unit : x.position < length sizes
  pub from : ℕ
  pub moved : slice_index_or points x.position 0 ≡ from + 1
  pub before : from < n
  pub load : x.load ≡ slice_index order from + slice_index sizes x.position
  pub upto : (u : ℕ) → u < length sizes → slice_index points u ≤ n
  pub done : (u j : ℕ) → u < length sizes → j < slice_index points u → ((u ≡ x.position) × (j ≡ from)) ⊎ Covered m order n (slice_index order j + slice_index sizes u)
  pub waits : Waits order points sizes (Under points n) wl
  pub top : slice_index_or order (n - 1) 0 ≤ x.load
  pub later : (k : ℕ) → k < length wl → x.load ≤ (slice_index_or wl k nobody).load

-- At the end: the loads are closed under every unit.
pub record Ended (sizes : List ℕ) (m : ℕ) (order : List ℕ) (n : ℕ) : Type 0 where
  pub so_far : Loads sizes order n
  pub apart : (j k : ℕ) → j < n → k < n → slice_index order j % m ≡ slice_index order k % m → j ≡ k
  pub closed : (u j : ℕ) → u < length sizes → j < n → Covered m order n (slice_index order j + slice_index sizes u)

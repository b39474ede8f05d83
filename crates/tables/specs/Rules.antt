-- The four local rules by which a table shows that it is the true one of its row, each at one remainder.
use Rattle.std.specs.Prelude.{◌≡◌, ℕ, ◌+◌, ◌%◌, ◌<◌, ◌≤◌, List, ◌∷◌, length, Some, None, Option, ◌≢◌, slice_index}
use Rattle.tables.specs.Rows.{Table}
use Rattle.tables.specs.Tables.{Within}

-- The entry e at r is a present entry and one unit of size g more: that of the remainder from which g leads to r.
pub record Reached (m : ℕ) (entry : ℕ → Option ℕ) (r e g : ℕ) : Type 0 where
  pub from : ℕ
  pub least : ℕ
  pub below : from < m
  pub leads : (from + g) % m ≡ r
  pub present : entry from ≡ Some least
  pub adds : least + g ≡ e

-- The same for some unit other than the base.
pub record ReachedBySome (m : ℕ) (others : List ℕ) (entry : ℕ → Option ℕ) (r e : ℕ) : Type 0 where
  pub unit : ℕ
  pub among : unit < length others
  pub reached : Reached m entry r e (slice_index others unit)

-- Each unit other than the base leads from the entry e at r to a present entry that is at most the sum.
abbrev pub Closed : ℕ → List ℕ → (ℕ → Option ℕ) → ℕ → ℕ → Type 0
Closed m others entry r e =
    (j : ℕ) → j < length others → Within entry ((r + slice_index others j) % m) (e + slice_index others j)

-- The four rules hold at the remainder r.
pub record Rule (m : ℕ) (others : List ℕ) (entry : ℕ → Option ℕ) (r : ℕ) : Type 0 where
  pub start : r ≡ 0 → entry r ≡ Some 0
  pub leaves : (e : ℕ) → entry r ≡ Some e → e % m ≡ r
  pub closed : (e : ℕ) → entry r ≡ Some e → Closed m others entry r e
  pub reached : (e : ℕ) → entry r ≡ Some e → (r ≢ 0) → ReachedBySome m others entry r e

-- The four rules hold at every remainder.
abbrev pub Rules : ℕ → List ℕ → (ℕ → Option ℕ) → Type 0
Rules m others entry = (r : ℕ) → r < m → Rule m others entry r

-- The certificate: entries below the base keep the rules exactly where they are the true table of the row.
abbrev pub Certificate : Type 0
Certificate =
    (m : ℕ) (others : List ℕ) (entry : ℕ → Option ℕ)
    → 1 ≤ m
    → ((j : ℕ) → j < length others → 1 ≤ slice_index others j)
    → ((r : ℕ) → m ≤ r → entry r ≡ None)
    → (Rules m others entry → Table (m ∷ others) entry) × (Table (m ∷ others) entry → Rules m others entry)

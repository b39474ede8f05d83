-- One more unit in a table of least loads: what the walks round its rings do to the entries.
-- The base is m, the unit has size g, and d is their greatest common divisor; the ring of s has the remainders that leave s by d.
use Rattle.std.specs.Prelude.{◌≡◌, ℕ, ◌+◌, ◌-◌, ◌*◌, ◌%◌, ◌<◌, ◌≤◌, min, Some, None, Option, ◌≢◌}
use Rattle.tables.specs.Tables.{Within}
use Rattle.tables.specs.Tests.{Leaves}

-- The load e is a present entry and fewer than m units of size g more.
pub record Grown (m g : ℕ) (entry : ℕ → Option ℕ) (e : ℕ) : Type 0 where
  pub from : ℕ
  pub least : ℕ
  pub times : ℕ
  pub present : entry from ≡ Some least
  pub few : times < m
  pub adds : least + times * g ≡ e

-- d is the greatest common divisor of m and g: it divides both, and some multiple of g leaves by m what d leaves.
pub record Common (m g d : ℕ) : Type 0 where
  pub some : 1 ≤ d
  pub base : m % d ≡ 0
  pub unit : g % d ≡ 0
  pub times : ℕ
  pub reaches : (times * g) % m ≡ d % m

-- The lesser of a load and an entry: the load where the entry is absent.
abbrev pub lesser_load : ℕ → Option ℕ → ℕ
lesser_load n None = n
lesser_load n (Some e) = min n e

-- The lesser of two entries, of which an absent one is the greater.
abbrev pub lesser_entry : Option ℕ → Option ℕ → Option ℕ
lesser_entry None other = other
lesser_entry (Some n) other = Some (lesser_load n other)

-- The lowest present entry of the ring of s: none where all of them are absent.
abbrev pub Lowest : ℕ → ℕ → ℕ → (ℕ → Option ℕ) → Option ℕ → Type 0
Lowest m d s entry None = (r : ℕ) → r % d ≡ s → entry r ≡ None
Lowest m d s entry (Some n) =
    (entry (n % m) ≡ Some n) × (n % d ≡ s) × ((r e : ℕ) → r % d ≡ s → entry r ≡ Some e → n ≤ e)

-- The entries before and after a round over the ring of s: none rises, each is an old one and fewer than m units more, the unit leads
-- from each of the ring to one that is at most the sum, and those of the other rings stay.
pub record Round (m g d s : ℕ) (old new : ℕ → Option ℕ) : Type 0 where
  pub leaves : Leaves m new
  pub grown : (r e : ℕ) → new r ≡ Some e → Grown m g old e
  pub lower : (r e : ℕ) → old r ≡ Some e → Within new r e
  pub closed : (r e : ℕ) → r % d ≡ s → new r ≡ Some e → Within new ((r + g) % m) (e + g)
  pub stays : (r : ℕ) → (r % d ≢ s) → new r ≡ old r

-- The entries before and after one more unit: none rises, each is an old one and fewer than m units more, and the unit leads from
-- each to one that is at most the sum.
pub record Extended (m g : ℕ) (old new : ℕ → Option ℕ) : Type 0 where
  pub leaves : Leaves m new
  pub grown : (r e : ℕ) → new r ≡ Some e → Grown m g old e
  pub lower : (r e : ℕ) → old r ≡ Some e → Within new r e
  pub closed : (r e : ℕ) → new r ≡ Some e → Within new ((r + g) % m) (e + g)

-- The load e and m - 1 units of size g more are at most the greatest load that an entry can be.
abbrev pub RoomFor : ℕ → ℕ → ℕ → Type 0
RoomFor m g e = e + (m - 1) * g ≤ 4294967294

-- There is room for every present entry.
abbrev pub Room : ℕ → ℕ → (ℕ → Option ℕ) → Type 0
Room m g entry = (r e : ℕ) → entry r ≡ Some e → RoomFor m g e

-- There is room for every present entry of the ring of s.
abbrev pub RingRoom : ℕ → ℕ → ℕ → ℕ → (ℕ → Option ℕ) → Type 0
RingRoom m g d s entry = (r e : ℕ) → r % d ≡ s → entry r ≡ Some e → RoomFor m g e

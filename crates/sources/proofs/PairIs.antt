-- Every pair is the pair of its own base and its own other unit.
use Rattle.std.proofs.Common.{◌≡◌, ℕ, ◌*◌, ◌%◌, ◌<◌, ◌≤◌, None, refl, subst}
use Prim.Native.Nat.{◌∣◌}
use native.Mathlib.Nat.{dvd_of_mod-eq-zero, dvd-mod_iff, dvd-mul_right_of_dvd, dvd-one}
use Rattle.sources.specs.Divisors.{Common}
use Rattle.sources.specs.NewPairs.{Enters, Paired, pair_entry}
use Rattle.sources.specs.PairLaws.{entry_first, entry_below, entry_past}
use Rattle.sources.specs.Pairs.{Inverts}
use Rattle.sources.specs.declared.pair.stored.Pair.{Pair}
use Rattle.sources.proofs.PairRows.{entries_table}

-- whatever divides both units divides the 1 that they leave
inverts_coprime : (base other inverse : ℕ) → Inverts base other inverse → (d : ℕ) → Common base other d → d ≡ 1
inverts_coprime base other inverse inverts d c =
    let of_base : d ∣ base = dvd_of_mod-eq-zero d c.of_base in
    let taken : d ∣ other * inverse = dvd-mul_right_of_dvd d (dvd_of_mod-eq-zero d c.of_other) inverse in
    let left : d ∣ 1 % base = subst (λ (n : ℕ). d ∣ n) inverts ((dvd-mod_iff d of_base).1 taken) in
    dvd-one.0 ((dvd-mod_iff d of_base).0 left)

module _ (pair : Pair) where
  entries : (r : ℕ) → r < pair.base → Enters pair.base pair.other (pair_entry pair) r
  entries r low = record {
    load = (r * pair.inverse) % pair.base * pair.other;
    present = entry_below pair.base pair.other pair.inverse pair.inverts r low;
    first = entry_first pair.base pair.other pair.inverse pair.inverts r low;
  }

  past : (r : ℕ) → pair.base ≤ r → pair_entry pair r ≡ None
  past = entry_past pair.base pair.other pair.inverse pair.inverts

  pub pair_is : Paired pair.base pair.other pair
  pair_is = record {
    base_is = refl;
    other_is = refl;
    base_range = (pair.low, pair.high);
    other_range = (pair.some, pair.fits);
    apart = pair.apart;
    coprime = inverts_coprime pair.base pair.other pair.inverse pair.inverts;
    entries = entries;
    past = past;
    table = entries_table pair.base pair.other (pair_entry pair) entries past;
  }

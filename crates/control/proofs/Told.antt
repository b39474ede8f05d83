-- What is told of a refusal by make: want of room in bytes, and all else as it is.
use Rattle.std.proofs.Common.{◌≡◌, ℕ, ◌*◌, ◌/◌, ◌%◌, ◌<◌, ◌≤◌, min, List, length, Some, Ok, Err, Result, sym, refl, ap, subst, arith}
use Rattle.files.specs.Judged.{Rejects, TrueFile, malformed, untrue}
use Rattle.files.specs.Layout.{file_row}
use Rattle.files.specs.Making.{MakeFrom, accepted, refused}
use Rattle.tables.proofs.Present.{same_entry}
use Rattle.tables.specs.Made.{Made, Refuses, too_large, too_short, unmade}
use Rattle.tables.specs.Rows.{base_of}
use Rattle.tables.specs.declared.refusals.Refusal.{Refusal}
use Rattle.tables.specs.declared.refusals.Refusal.TheVariants.{NoRoom}
use Rattle.control.specs.Calls.{MakesBytes, WrittenOut, done}
use Rattle.control.specs.Calls as calls
use Rattle.control.specs.Packing.{InBytes, Packed, Short, room, same}
use Rattle.control.proofs.Places.{rejects_short, row_few}

-- a small place is below the limit of 32 bits, also where it is told in bytes
pub longer : (reason : Refusal) → Short 1073741824 reason → Short 4294967296 reason
longer reason short =
    record { number = short.number; place = short.place; numbered = short.numbered; placed = short.placed; some = short.some; few = short.few; below = omega (arith, short.below) }

pub room_low : (numbers : ℕ) → Short 1073741824 (NoRoom numbers) → numbers < 1073741824
room_low numbers short = omega (arith, short.below, same_entry (Some numbers) numbers short.place refl short.placed)

pub told_short : (reason told : Refusal) → Short 1073741824 reason → InBytes reason told → Short 4294967296 told
told_short reason told short (room numbers) =
    record { number = 8; place = 4 * numbers; numbered = refl; placed = refl; some = omega arith; few = omega arith; below = omega (arith, room_low numbers short) }
told_short reason told short (same _ _) = longer reason short

refuses_short : (row : List ℕ) (load places : ℕ) (reason : Refusal) → length row ≤ 16 → Refuses row load places reason → Short 1073741824 reason
refuses_short row load places reason units (too_large high) =
    record { number = 10; place = 1000000000; numbered = refl; placed = refl; some = omega arith; few = omega arith; below = omega arith }
refuses_short row load places reason units (too_short low less) =
    record { number = 8; place = length row; numbered = refl; placed = refl; some = omega arith; few = omega arith; below = omega (arith, units) }
refuses_short row load places reason units (unmade low fits none) =
    record { number = 6; place = load % base_of row; numbered = refl; placed = refl; some = omega arith; few = omega arith; below = omega (arith, low) }

rejects_told : (bytes : List ℕ) (reason told : Refusal) → Rejects bytes reason → InBytes reason told → told ≡ reason
rejects_told bytes reason told (malformed offset fault) (same _ _) = refl
rejects_told bytes reason told (untrue r formed first) (same _ _) = refl

-- an answer is not both made and refused, and a refusal has one reason
abbrev IsMade : Result ℕ Refusal → Type 0
IsMade (Ok units) = Prim.Unit
IsMade (Err reason) = ⊥

abbrev reason_or : Refusal → Result ℕ Refusal → Refusal
reason_or other (Ok units) = other
reason_or other (Err reason) = reason

module _ (bytes : List ℕ) (load : ℕ) (places after : List ℕ) where
  pub made_from : (units : ℕ) → MakeFrom bytes load places (Ok units) after → TrueFile bytes × Made (file_row bytes) load places units after
  made_from units (accepted true made) = (true, made)
  made_from units (refused false why e rejects kept) = absurd (subst IsMade e tt)

  pub refused_short : (reason : Refusal) → MakeFrom bytes load places (Err reason) after → Short 1073741824 reason
  refused_short reason (accepted true made) = refuses_short (file_row bytes) load (length places) reason (row_few bytes true) made.0
  refused_short reason (refused false why e rejects kept) = subst (Short 1073741824) (sym (ap (reason_or reason) e)) (rejects_short bytes why rejects)

  -- there is room for sixteen numbers at most, and for one in each four bytes
  more_room : (row before : List ℕ) (reason : Refusal) → length row ≤ 16 → length places ≡ min (length before / 4) 16 → Refuses row load (length places) reason → Refuses row load (length before / 4) reason
  more_room row before reason few sized (too_large high) = too_large high
  more_room row before reason few sized (too_short low less) = too_short low (omega (arith, sized, few, less))
  more_room row before reason few sized (unmade low fits none) = unmade low (omega (arith, fits, sized)) none

  pub make_refused : (before : List ℕ) (answer : ℕ) (reason told : Refusal) → MakeFrom bytes load places (Err reason) after → length places ≡ min (length before / 4) 16 → InBytes reason told → Packed told answer → MakesBytes bytes load before answer before
  make_refused before answer reason told (accepted true made) sized t packed =
      calls.refused true reason told (more_room (file_row bytes) before reason (row_few bytes true) sized made.0) t packed refl
  make_refused before answer reason told (refused false why e rejects kept) sized t packed =
      let is : why ≡ reason = sym (ap (reason_or reason) e) in
      let rejects_it : Rejects bytes reason = subst (Rejects bytes) is rejects in
      calls.rejected false reason rejects_it (subst (λ (r : Refusal). Packed r answer) (rejects_told bytes reason told rejects_it t) packed) refl

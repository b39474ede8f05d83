-- The number, the place and the sentence of each refusal. Want of memory has neither of the first two.
use Rattle.std.specs.Prelude.{ℕ, List, ◌++◌, Some, None, Option, codes, decimal}
use Rattle.tables.specs.declared.refusals.Refusal.{Refusal}
use Rattle.tables.specs.declared.refusals.Refusal.TheVariants.{OutOfRange, AlreadyAdmitted, RowFull, NotAdmitted, IsBase, Unmakeable, Endless, NoRoom, LoadTooLarge, Malformed, Untrue, CommonDivisor, BasesDiffer, ListFull, Unreadable, NoBook, NoMemory}

abbrev pub number_of : Refusal → Option ℕ
number_of (OutOfRange value) = Some 1
number_of (AlreadyAdmitted size) = Some 2
number_of RowFull = Some 3
number_of (NotAdmitted size) = Some 4
number_of (IsBase size) = Some 5
number_of (Unmakeable remainder) = Some 6
number_of (Endless remainder) = Some 7
number_of (NoRoom places) = Some 8
number_of LoadTooLarge = Some 10
number_of (Malformed offset) = Some 11
number_of (Untrue remainder) = Some 12
number_of (CommonDivisor divisor) = Some 13
number_of (BasesDiffer base) = Some 14
number_of (ListFull capacity) = Some 15
number_of (Unreadable column) = Some 16
number_of NoBook = Some 17
number_of NoMemory = None

abbrev pub place_of : Refusal → Option ℕ
place_of (OutOfRange value) = Some value
place_of (AlreadyAdmitted size) = Some size
place_of RowFull = Some 16
place_of (NotAdmitted size) = Some size
place_of (IsBase size) = Some size
place_of (Unmakeable remainder) = Some remainder
place_of (Endless remainder) = Some remainder
place_of (NoRoom places) = Some places
place_of LoadTooLarge = Some 1000000000
place_of (Malformed offset) = Some offset
place_of (Untrue remainder) = Some remainder
place_of (CommonDivisor divisor) = Some divisor
place_of (BasesDiffer base) = Some base
place_of (ListFull capacity) = Some capacity
place_of (Unreadable column) = Some column
place_of NoBook = Some 0
place_of NoMemory = None

-- the sentence that is printed of a refusal for a person
abbrev pub sentence_of : Refusal → List ℕ
sentence_of (OutOfRange value) = decimal value ++ codes " is out of range"
sentence_of (AlreadyAdmitted size) = decimal size ++ codes " is in the row already"
sentence_of RowFull = codes "sixteen units are in the row"
sentence_of (NotAdmitted size) = decimal size ++ codes " is not in the row"
sentence_of (IsBase size) = decimal size ++ codes " is the base"
sentence_of (Unmakeable remainder) = codes "the row does not make the load, which leaves " ++ decimal remainder
sentence_of (Endless remainder) = codes "no load that leaves " ++ decimal remainder ++ codes " is made"
sentence_of (NoRoom places) = decimal places ++ codes " places are needed or allowed"
sentence_of LoadTooLarge = codes "the load is above 1000000000"
sentence_of (Malformed offset) = codes "the file breaks at offset " ++ decimal offset
sentence_of (Untrue remainder) = codes "the table is not the true one at remainder " ++ decimal remainder
sentence_of (CommonDivisor divisor) = decimal divisor ++ codes " divides both sizes"
sentence_of (BasesDiffer base) = codes "the second base is another, " ++ decimal base
sentence_of (ListFull capacity) = codes "all " ++ decimal capacity ++ codes " places of the waiting list are in use"
sentence_of (Unreadable column) = codes "no readable line goes on at column " ++ decimal column
sentence_of NoBook = codes "no book has been opened"
sentence_of NoMemory = codes "out of memory"

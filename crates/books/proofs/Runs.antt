-- The law over every past: the row of a book is the one that its past tells, and what the past says was accepted is what the told rows decide.
use Rattle.std.proofs.Common.{◌≡◌, ℕ, cond, List, [], ◌∷◌, is_ok, Some, None, Ok, Err, MatchBool, Option, Result, sym, refl, ap, ◌∙◌, arith}
use Rattle.files.specs.Judged.{TrueFile}
use Rattle.files.specs.Layout.{file_row}
use Rattle.std.proofs.lemmas.Bool.{false≢true}
use Rattle.tables.specs.declared.refusals.Refusal.{Refusal}
use Rattle.books.specs.declared.book.Book.{Book}
use Rattle.books.specs.Books.{row_of}
use Rattle.books.specs.Calls.{OpensUnless, Restores, Turns, admit_refusal, open_refusal, withdraw_refusal}
use Rattle.books.specs.Pasts.{Event, Honest, Leads, accepts, admitted, opened, restored, told, withdrawn}
use Rattle.books.specs.Surveys.{AcceptsExactly}
use Rattle.books.specs.Units.{row_with, row_without}

-- a call leaves its row where it is accepted, and else the row that was
turned : (o : Option Refusal) (row : List ℕ) (before : Book) (r : Result (Unit {0}) Refusal) (now : Book) → Turns o row before r now → row_of now ≡ cond (is_ok r) row (row_of before)
turned None row before r now t = t.1 ∙ ap (λ (q : Result (Unit {0}) Refusal). cond (is_ok q) row (row_of before)) (sym t.0)
turned (Some reason) row before r now t =
    ap row_of t.1 ∙ ap (λ (q : Result (Unit {0}) Refusal). cond (is_ok q) row (row_of before)) (sym t.0)

answered : (o : Option Refusal) (row : List ℕ) (before : Book) (r : Result (Unit {0}) Refusal) (now : Book) → Turns o row before r now → is_ok r ≡ accepts o
answered None row before r now t = ap (λ (q : Result (Unit {0}) Refusal). is_ok q) t.0
answered (Some reason) row before r now t = ap (λ (q : Result (Unit {0}) Refusal). is_ok q) t.0

restored_row : (before : Book) (bytes : List ℕ) (r : Result (Unit {0}) Refusal) (now : Book) → Restores before bytes r now → row_of now ≡ cond (is_ok r) (file_row bytes) (row_of before)
restored_row before bytes (Ok done) now h = h.row
restored_row before bytes (Err reason) now h = ap row_of h.1

restored_fair : (before : Book) (bytes : List ℕ) (r : Result (Unit {0}) Refusal) (now : Book) → Restores before bytes r now → MatchBool (is_ok r) (TrueFile bytes) (TrueFile bytes → ⊥)
restored_fair before bytes (Ok done) now h = h.accepted
restored_fair before bytes (Err reason) now h = h.0.1

opened_row : (o : Option Refusal) (base : ℕ) (book : Book) → OpensUnless o base (Ok book) → (o ≡ None) × (row_of book ≡ base ∷ [])
opened_row None base book h = (refl, h.row)
opened_row (Some reason) base book h = absurd (let z : ◌≡◌ {A = ℕ} 0 1 = cc in omega arith)

pub run_law : (base : ℕ) (past : List Event) (book : Book) → Leads base past book → row_of book ≡ told base past
run_law base [] book (opened b h) = (opened_row (open_refusal base) base b h).1
run_law base (e ∷ past) book (admitted p before now size r l h) =
    turned (admit_refusal (row_of before) size) (row_with size (row_of before)) before r now h ∙ ap (λ (row : List ℕ). cond (is_ok r) (row_with size row) row) (run_law base past before l)
run_law base (e ∷ past) book (withdrawn p before now size room r l h) =
    turned (withdraw_refusal (row_of before) size room) (row_without size (row_of before)) before r now h ∙ ap (λ (row : List ℕ). cond (is_ok r) (row_without size row) row) (run_law base past before l)
run_law base (e ∷ past) book (restored p before now bytes r l h) =
    restored_row before bytes r now h ∙ ap (λ (row : List ℕ). cond (is_ok r) (file_row bytes) row) (run_law base past before l)

pub honest_law : (base : ℕ) (past : List Event) (book : Book) → Leads base past book → Honest base past
honest_law base [] book (opened b h) = (opened_row (open_refusal base) base b h).0
honest_law base (e ∷ past) book (admitted p before now size r l h) =
    (answered (admit_refusal (row_of before) size) _ before r now h ∙ ap (λ (row : List ℕ). accepts (admit_refusal row size)) (run_law base past before l), honest_law base past before l)
honest_law base (e ∷ past) book (withdrawn p before now size room r l h) =
    (answered (withdraw_refusal (row_of before) size room) _ before r now h ∙ ap (λ (row : List ℕ). accepts (withdraw_refusal row size room)) (run_law base past before l), honest_law base past before l)
honest_law base (e ∷ past) book (restored p before now bytes r l h) = (restored_fair before bytes r now h, honest_law base past before l)

pub restored_exactly : (before : Book) (bytes : List ℕ) (r : Result (Unit {0}) Refusal) (now : Book) → Restores before bytes r now → AcceptsExactly bytes r
restored_exactly before bytes (Ok done) now h = record { only = λ t. h.accepted; each = λ t. refl }
restored_exactly before bytes (Err reason) now h = record { only = λ t. absurd (false≢true t); each = λ t. absurd (h.0.1 t) }

use Rattle.std.proofs.Common.{sym, ◌∙◌, arith}
use Rattle.lines.proofs.Letters.{unread_empty, unread_other, reads_number, reads_alone, open_letter, admit_letter, withdraw_letter, make_letter, largest_letter, gaps_letter}
use Rattle.lines.proofs.line.read.Goals as goal

pub returns-in_default : goal.returns-in_default
returns-in_default c = unread_empty c.args.bytes.now (omega arith)

pub returns-in-B : goal.returns-in-B
returns-in-B c =
    let tail = c.after_letter-tail.ensures in
    reads_number c.args.bytes.now (omega arith) tail.bytes tail.column 66 (sym c.from.ensures ∙ c.in-B.is) open_letter _ _ c.last_number.ensures c.map.ensures.cases

pub returns-in-A : goal.returns-in-A
returns-in-A c =
    let tail = c.after_letter-tail.ensures in
    reads_number c.args.bytes.now (omega arith) tail.bytes tail.column 65 (sym c.from.ensures ∙ c.in-A.is) admit_letter _ _ c.last_number-in-A.ensures c.map-in-A.ensures.cases

pub returns-in-W : goal.returns-in-W
returns-in-W c =
    let tail = c.after_letter-tail.ensures in
    reads_number c.args.bytes.now (omega arith) tail.bytes tail.column 87 (sym c.from.ensures ∙ c.in-W.is) withdraw_letter _ _ c.last_number-in-W.ensures c.map-in-W.ensures.cases

pub returns-in-M : goal.returns-in-M
returns-in-M c =
    let tail = c.after_letter-tail.ensures in
    reads_number c.args.bytes.now (omega arith) tail.bytes tail.column 77 (sym c.from.ensures ∙ c.in-M.is) make_letter _ _ c.last_number-in-M.ensures c.map-in-M.ensures.cases

pub returns-in-L : goal.returns-in-L
returns-in-L c =
    let tail = c.after_letter-tail.ensures in
    rw c.and.ensures (reads_alone c.args.bytes.now (omega arith) tail.bytes tail.column 76 (sym c.from.ensures ∙ c.in-L.is) largest_letter _ c.end.ensures)

pub returns-in-G : goal.returns-in-G
returns-in-G c =
    let tail = c.after_letter-tail.ensures in
    rw c.and-in-G.ensures (reads_alone c.args.bytes.now (omega arith) tail.bytes tail.column 71 (sym c.from.ensures ∙ c.in-G.is) gaps_letter _ c.end-in-G.ensures)

pub returns-in_default-from : goal.returns-in_default-from
returns-in_default-from c = unread_other c.args.bytes.now (λ e. omega arith) (λ e. omega arith) (λ e. omega arith) (λ e. omega arith) (λ e. omega arith) (λ e. omega arith)

use Rattle.std.proofs.Common.{ℕ, length, string_bytes, sym, subst, rules}
use Rattle.std.proofs.lemmas.Iterator.Consumers.{YieldsList-from_enumerate, YieldsList-turn, YieldsList-end}
use Rattle.std.proofs.lemmas.List.{length_push}
use Rattle.sheets.specs.Sheets.{standing}
use Rattle.sheets.specs.Splitting.{lines_of}
use Rattle.sheets.proofs.Ends.{YieldsList-from_lines_of}
use Rattle.sheets.proofs.Lines.{Sofar, stands, sofar_more, sofar_all}
use Rattle.sheets.proofs.Printing.{printed_kept}
use Rattle.sheets.proofs.whole.answer_lines.Goals as goal

pub loop-index-preserved : goal.loop-index-preserved
loop-index-preserved c =
    let lines = lines_of c.args.input.now in
    let all = YieldsList-from_enumerate (YieldsList-from_lines_of _ c.args.input.now (cc) (cc) (λ x b q k. search rules)) (cc) in
    let turn = YieldsList-turn all c.loop-index.yielded _ c.loop-index.yielded_by _ _ (c.in-Some.index, c.in-Some.line) c.in-Some.is c.next.ensures.steps in
    let adds = c.in_ok-print_line.ensures in
    subst (λ (n : ℕ). Sofar lines n (standing c.answer-outcome.new.self) (string_bytes c.print_line.new.out)) (sym (length_push c.loop-index.yielded (c.in-Some.index, c.in-Some.line)))
    (sofar_more lines (length c.loop-index.yielded) c.in-Some.index c.in-Some.line.now (standing c.loop-index.sheet) (standing c.answer-outcome.new.self) c.answer-outcome.result (string_bytes c.loop-index.out) _
    c.loop-index.invariant (stands lines _ _ _ turn) (c.answer-outcome.ensures (printed_kept _ c.answer-outcome.result adds.bytes adds.printed)) adds)

pub returns : goal.returns
returns c =
    let lines = lines_of c.args.input.now in
    let all = YieldsList-from_enumerate (YieldsList-from_lines_of _ c.args.input.now (cc) (cc) (λ x b q k. search rules)) (cc) in
    let end = YieldsList-end all c.loop-index.yielded _ c.loop-index.yielded_by _ _ c.in-None.is c.next.ensures.steps in
    sofar_all lines (length c.loop-index.yielded) (standing c.loop-index.sheet) (string_bytes c.loop-index.out) c.loop-index.invariant end.1

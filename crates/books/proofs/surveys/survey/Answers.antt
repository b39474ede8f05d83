use Rattle.std.proofs.Common.{ℕ, List, subst}
use Rattle.books.specs.Pasts.{restored}
use Rattle.books.specs.Surveys.{RowAnswers}
use Rattle.books.proofs.Runs.{honest_law, restored_exactly, run_law}
use Rattle.books.proofs.surveys.survey.Goals as goal

pub returns : goal.returns
returns g c =
    let book = c.args.book.now in
    let turns = c.restore-restored.ensures.turns in
    record {
      told = λ base past leads.
          subst (λ (row : List ℕ). RowAnswers row c.args.load c.args.numbers.now c.make-made.result c.make-made.new.numbers c.largest-highest.result c.gaps-count.result)
          (run_law base past book leads)
          (record { make_answers = c.make-made.ensures; largest_answers = c.largest-highest.ensures; gaps_answers = c.gaps-count.ensures });
      honest = λ base past leads. honest_law base past book leads;
      shown = c.make-shown.ensures;
      source = record { largest_answers = c.largest-greatest.ensures; gaps_answers = c.gaps-missing.ensures };
      restored = (turns, restored_exactly book c.args.file.now c.restore-restored.result _ turns);
      onward = λ base past leads. restored past book _ c.args.file.now c.restore-restored.result leads turns;
    }

use Rattle.break_lists.proofs.ListLemmas.{first_line}
use Rattle.break_lists.proofs.list.next_line.Goals as goal

pub returns-clause-lines : goal.returns-clause-lines
returns-clause-lines c = (first_line c.args.text.now _ _ c.cut_at.ensures.before c.cut_at.ensures.behind).0

pub returns-clause-shorter : goal.returns-clause-shorter
returns-clause-shorter c = (first_line c.args.text.now _ _ c.cut_at.ensures.before c.cut_at.ensures.behind).1

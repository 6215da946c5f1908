use Rattle.std.proofs.Common.{◌++◌, sym, ap, subst, ◌∙◌}
use Rattle.std.proofs.lemmas.List.{append-nil}
use Rattle.break_lists.specs.Lists.{lines_left, number_behind, planned_from, refused_from, RefusesList}
use Rattle.break_lists.proofs.ListLemmas.{planned_more, refused_more, refused_here}
use Rattle.break_lists.proofs.list.read_breaks.Goals as goal

pub returns-in-Err-clause-refused : goal.returns-in-Err-clause-refused
returns-in-Err-clause-refused c =
    let same = ap lines_left c.in-Some.is ∙ c.next_line.ensures.lines in
    let h = c.in-Err.ensures.refused (refused_from (number_behind c.loop-left.number) (lines_left c.next_line.result.1)) in
    subst (λ r. RefusesList c.in-Err.fault r) c.loop-left.invariant.refused
    (refused_here c.loop-left.number c.next_line.result.0.now (lines_left c.next_line.result.1) (lines_left c.loop-left.left) c.in-Err.fault same h)

pub loop-left-preserved : goal.loop-left-preserved
loop-left-preserved c =
    let same = ap lines_left c.in-Some.is ∙ c.next_line.ensures.lines in
    let ls = lines_left c.next_line.result.1 in
    record {
      planned = ap (λ n. c.take_line.new.planned.items ++ planned_from n ls) c.saturating_add-number.ensures
          ∙ planned_more c.loop-left.number c.loop-left.planned.items c.take_line.new.planned.items c.next_line.result.0.now ls (lines_left c.loop-left.left) same c.in-Ok.ensures.planned
          ∙ c.loop-left.invariant.planned;
      refused = ap (λ n. refused_from n ls) c.saturating_add-number.ensures
          ∙ refused_more c.loop-left.number c.next_line.result.0.now ls (lines_left c.loop-left.left) same c.in-Ok.ensures.taken
          ∙ c.loop-left.invariant.refused;
    }

pub returns-clause-planned : goal.returns-clause-planned
unfolding planned_from
returns-clause-planned c =
    sym (append-nil c.loop-left.planned.items) ∙ ap (λ t. c.loop-left.planned.items ++ planned_from c.loop-left.number (lines_left t)) (sym c.in_default.is)
    ∙ c.loop-left.invariant.planned

pub returns-clause-taken : goal.returns-clause-taken
unfolding refused_from
returns-clause-taken c = sym c.loop-left.invariant.refused ∙ ap (λ t. refused_from c.loop-left.number (lines_left t)) c.in_default.is

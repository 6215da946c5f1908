use Rattle.std.proofs.Common.{◌≡◌, rules, refl, ap, [], ◌++◌, ◌∙◌, false, Some}
use Rattle.std.specs.Prelude.{IfSome}
use Rattle.std.specs.Io.KnownBytes.{append_known}
use Rattle.packet_lines.specs.Lines.{line_of, lines_of}
use Rattle.passages.proofs.PassageLemmas.{buffered_none, finished, stopped, is_done_ok}
use Rattle.passages.proofs.line_runs.run_to_digits.Goals as goal

pub returns : goal.returns
returns g c =
    let start = g.W.Write.contents c.args.output in
    let held : (c.new-writer.result.is_broken ≡ false) × IfSome start (λ bs. append_known (g.W.Write.contents c.new-writer.result.target.now.inner.inner) c.new-writer.result.target.now.buffer.items ≡ Some (bs ++ lines_of [])) =
    (c.new-writer.ensures.whole, rw (c.new-writer.ensures.target, c.new-target.ensures.inner, c.new-target.ensures.buffer, c.new.ensures.inner, c.requires.empty) (buffered_none start lines_of refl)) in
    let done = c.pass_watched-outcome.ensures.done start held in
    let named = c.pass_watched-outcome.ensures.leads.0 ∙ c.new-writer.ensures.same in
    let inner = c.into_parts-below.ensures.inner in
    let buffer = c.into_parts-below.ensures.buffer in
    let below : c.into_parts-below.result.0 ≡ c.pass_watched-outcome.new.out.target.now.inner = search (rules, inner, named) in
    let gathered : c.into_parts-below.result.1 ≡ c.pass_watched-outcome.new.out.target.now.buffer = search (rules, buffer, named) in
    let rest : c.as_slice.result.now ≡ c.pass_watched-outcome.new.out.target.now.buffer.items = c.as_slice.ensures.value ∙ ap (λ b. b.items) gathered in
    let kept = rw (below, rest) at c.finish_behind-outcome.ensures.kept in
    let emptied = rw (below, rest) at c.finish_behind-outcome.ensures.emptied in
    let halted = c.pass_watched-outcome.ensures.stopped start held in
    let sent = append_known (g.W.Write.contents c.pass_watched-outcome.new.out.target.now.inner.inner) c.pass_watched-outcome.new.out.target.now.buffer.items in
    record {
      done = finished _ _ start sent _ lines_of c.pass_watched-outcome.new.out.is_broken c.pass_watched-outcome.result.outcome _ done
          c.finish_behind-outcome.ensures.first c.finish_behind-outcome.ensures.done kept;
      stopped = stopped _ (g.S.Passage.stops_so c.args.passage c.args.asker.now c.pass_watched-outcome.new.asker) _ start sent _ lines_of line_of c.pass_watched-outcome.new.out.is_broken _ c.pass_watched-outcome.result.outcome _ halted
          c.finish_behind-outcome.ensures.well emptied;
      flushed = is_done_ok _ _ _ _ c.finish_behind-outcome.ensures.made c.finish_behind-outcome.ensures.first c.finish_behind-outcome.ensures.failed;
      unwatched = c.pass_watched-outcome.ensures.unwatched;
    }

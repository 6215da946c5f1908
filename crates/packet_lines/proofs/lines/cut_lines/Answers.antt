use Rattle.std.proofs.Common.{rules, ◌≡◌, ◌∙◌, [], ap, Err}
use Rattle.packet_lines.specs.CutLines.{CutsLines, StopsLines, LineBlamed, cut_fault_of}
use Rattle.packet_lines.specs.Texts.{left_in}
use Rattle.packet_lines.proofs.CutLemmas.{lines_none, cuts_lines, stops_lines, line_blamed}
use Rattle.packet_lines.proofs.lines.cut_lines.Goals as goal

pub returns-in-Ok-clause-ok : goal.returns-in-Ok-clause-ok
returns-in-Ok-clause-ok g c =
    let start = g.W.Target.contents c.new-writer.result.target.now in
    let cuts = c.in-Ok.ensures.ok start [] (c.new-writer.ensures.whole, lines_none start) in
    let done : CutsLines c.args.pid c.args.from c.args.length (g.S.Source.remaining c.args.input.now) (g.W.Target.contents c.args.output.now) (g.W.Target.contents c.cut.new.out.target.now) =
    rw (← c.new-reader.ensures.source, ← c.new-writer.ensures.target) (cuts_lines c.args.pid c.args.from c.args.length _ _ _ c.cut.new.out.is_broken (rw c.new-reader.ensures.begins at cuts)) in
    let named = c.in-Ok.ensures.devices.puts_on.0 ∙ c.new-writer.ensures.same in
    search (rules, done, named)

pub returns-in-Err-clause-err : goal.returns-in-Err-clause-err
returns-in-Err-clause-err g c =
    let start = g.W.Target.contents c.new-writer.result.target.now in
    let stops = c.in-Err.ensures.err start [] (c.new-writer.ensures.whole, lines_none start) in
    let done : StopsLines c.of_cut.result c.args.pid c.args.from c.args.length (g.S.Source.remaining c.args.input.now) (g.W.Target.contents c.args.output.now) (g.W.Target.contents c.cut.new.out.target.now) = (
      c.of_cut.ensures.named,
      rw (c.of_cut.ensures.fault, ← c.new-reader.ensures.source, ← c.new-writer.ensures.target)
          (stops_lines c.args.pid c.args.from c.args.length _ _ _ c.cut.new.out.is_broken c.in-Err.fault (rw c.new-reader.ensures.begins at stops)),
    ) in
    let named = c.in-Err.ensures.devices.puts_on.0 ∙ c.new-writer.ensures.same in
    search (rules, done, named)

pub returns-in-Err-clause-reading : goal.returns-in-Err-clause-reading
returns-in-Err-clause-reading g c =
    let done : LineBlamed (cut_fault_of c.of_cut.result) g.S.Source.remaining g.S.Source.counts c.args.input.now c.cut.new.network.source.now =
    rw (c.of_cut.ensures.fault, ← c.new-reader.ensures.source) (line_blamed (λ r. r.source.now) g.S.Source.remaining g.S.Source.counts (λ r s. s.source.ghost_name ≡ r.source.ghost_name) (λ r. left_in r.has_ended (g.S.Source.remaining r.source.now)) (λ r. r.given)
    c.new-reader.result c.cut.new.network c.in-Err.fault _ (rw c.new-reader.ensures.begins at c.in-Err.ensures.devices.read_so)
    (ap (λ b. left_in b (g.S.Source.remaining c.new-reader.result.source.now)) c.new-reader.ensures.begins) c.new-reader.ensures.given (λ e. c.in-Err.ensures.devices.turned (ap Err e))) in
    let named = c.in-Err.ensures.devices.reads ∙ c.new-reader.ensures.same in
    search (rules, done, named)

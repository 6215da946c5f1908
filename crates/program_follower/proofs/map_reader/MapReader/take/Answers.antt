use Rattle.std.proofs.Common.{Some, None}
use Rattle.psi_section.specs.SectionsLeft.{sections_left}
use Rattle.psi_section.proofs.AssemblerLemmas.{on-of}
use Rattle.program_follower.specs.Program.{since_pat, known_map}
use Rattle.program_follower.proofs.MapsLemmas.{gives_at, maps_on, maps_shown, maps_fault_on}
use Rattle.program_follower.proofs.map_reader.MapReader.take.Goals as goal

pub returns-in-Ok-clause-reads : goal.returns-in-Ok-clause-reads
returns-in-Ok-clause-reads c = λ past at h.
    let l = c.args.at in
    let r = c.args.self.now in
    let k = c.args.purpose.now in
    let p = c.args.packet.now in
    let since = since_pat k.program past in
    let g = c.feed.ensures l.pid since (on-of l.pid p c.requires) (c.pass_over.ensures.waits l.pid since h.todo (gives_at k r l p past at h)) in
    let j = c.in-Ok.ensures.ok (known_map k.program past) h.program in
    maps_on k r l p past at h c.feed.new.self g (sections_left c.sections-sections.result) c.sections-sections.ensures c.judge_sections.new.known c.judge_sections.new.faultless _ j.1

pub returns-in-Ok-clause-shows : goal.returns-in-Ok-clause-shows
returns-in-Ok-clause-shows c = λ past at h.
    let l = c.args.at in
    let r = c.args.self.now in
    let k = c.args.purpose.now in
    let p = c.args.packet.now in
    let since = since_pat k.program past in
    let g = c.feed.ensures l.pid since (on-of l.pid p c.requires) (c.pass_over.ensures.waits l.pid since h.todo (gives_at k r l p past at h)) in
    maps_shown k r l p past at h c.feed.new.self g (sections_left c.sections-sections.result) c.sections-sections.ensures c.judge_sections.new.known c.judge_sections.new.faultless _

pub returns-in-Ok-clause-ok : goal.returns-in-Ok-clause-ok
returns-in-Ok-clause-ok c = λ past at h.
    let l = c.args.at in
    let r = c.args.self.now in
    let k = c.args.purpose.now in
    let p = c.args.packet.now in
    let since = since_pat k.program past in
    let g = c.feed.ensures l.pid since (on-of l.pid p c.requires) (c.pass_over.ensures.waits l.pid since h.todo (gives_at k r l p past at h)) in
    let j = c.in-Ok.ensures.ok (known_map k.program past) h.program in
    maps_fault_on k r l p past at h c.feed.new.self g (sections_left c.sections-sections.result) c.sections-sections.ensures None j.0

pub returns-in-Err-clause-err : goal.returns-in-Err-clause-err
returns-in-Err-clause-err c = λ past at h.
    let l = c.args.at in
    let r = c.args.self.now in
    let k = c.args.purpose.now in
    let p = c.args.packet.now in
    let since = since_pat k.program past in
    let g = c.feed.ensures l.pid since (on-of l.pid p c.requires) (c.pass_over.ensures.waits l.pid since h.todo (gives_at k r l p past at h)) in
    maps_fault_on k r l p past at h c.feed.new.self g (sections_left c.sections-sections.result) c.sections-sections.ensures (Some c.in-Err.fault) (c.in-Err.ensures.err (known_map k.program past) h.program)

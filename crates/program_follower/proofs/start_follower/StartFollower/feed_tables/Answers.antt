use Rattle.std.proofs.Common.{◌∷◌, ◌≤◌, sym, ap, subst, ◌∙◌}
use Rattle.std.specs.Prelude.{slice_index_or}
use Rattle.program_follower.specs.Program.{program_of, behind_head, pids_of}
use Rattle.program_follower.specs.Faults.{as_network}
use Rattle.program_follower.specs.Standing.{lent_program}
use Rattle.program_follower.specs.Streaming.{StartsRead}
use Rattle.program_follower.specs.PidUses.{IsTablePid, HasPlacesElsewhere}
use Rattle.program_follower.proofs.FollowLemmas.{streams_next, goes_to}
use Rattle.program_follower.proofs.UseLemmas.{not_before}
use Rattle.program_follower.proofs.start_follower.StartFollower.feed_tables.Goals as goal

pub returns-in-Ok-follow_begins-clause-stands : goal.returns-in-Ok-follow_begins-clause-stands
returns-in-Ok-follow_begins-clause-stands c = λ k past h.
    let w = k.program in
    let p = c.args.packet.now in
    let tables = c.in-Ok.ensures.reads k past h.tables in
    let known = c.known-known.ensures k (p ∷ past) tables in
    let goes = goes_to w p past (lent_program c.known-known.result) known in
    record {
      tables = tables;
      streams = streams_next StartsRead w p past c.follow_begins.new.streams (lent_program c.known-known.result) known (c.in-Ok-follow_begins.ensures.reads (program_of w past) (behind_head w past) goes h.streams);
      uses = record {
        pat = c.follow_begins.ensures.kept 0 (c.add_table.ensures.kept 0 h.uses.pat);
        cue = c.follow_begins.ensures.kept _ (c.add_table.ensures.kept _ h.uses.cue);
        map = c.follow_begins.ensures.kept _ (subst (λ n. IsTablePid (slice_index_or c.add_table.new.self n 0)) (c.map_pid.ensures k (p ∷ past) tables) c.add_table.ensures.here);
        rest = λ pid within pat cue map. c.follow_begins.ensures.rest pid (subst (λ n. n ≤ 8) (sym (c.add_table.ensures.others pid (λ e. map (e ∙ c.map_pid.ensures k (p ∷ past) tables))))
            (h.uses.rest pid within pat cue (not_before w p past pid pat map)));
        places = subst (λ r. HasPlacesElsewhere c.follow_begins.new.uses (pids_of r)) known
            (c.follow_begins.ensures.places (program_of w past) (behind_head w past) goes h.streams (c.add_table.ensures.places (pids_of (program_of w past)) h.uses.places));
      };
    }

pub returns-in-Ok-follow_begins-clause-sound : goal.returns-in-Ok-follow_begins-clause-sound
returns-in-Ok-follow_begins-clause-sound c = λ k past h.
    let w = k.program in
    let p = c.args.packet.now in
    let goes = goes_to w p past (lent_program c.known-known.result) (c.known-known.ensures k (p ∷ past) (c.in-Ok.ensures.reads k past h.tables)) in
    c.in-Ok.ensures.ok k past h.tables ∙ ap as_network (c.in-Ok-follow_begins.ensures.sound (program_of w past) (behind_head w past) goes h.streams)

pub returns-in-Ok-follow_begins-clause-place : goal.returns-in-Ok-follow_begins-clause-place
returns-in-Ok-follow_begins-clause-place c = λ k past h.
    let w = k.program in
    let p = c.args.packet.now in
    let tables = c.in-Ok.ensures.reads k past h.tables in
    let goes = goes_to w p past (lent_program c.known-known.result) (c.known-known.ensures k (p ∷ past) tables) in
    c.start_place_of.ensures k p past (c.in-Ok.ensures.on k past h.tables) (c.in-Ok-follow_begins.ensures.is (program_of w past) (behind_head w past) goes h.streams)

pub returns-in-Err-follow_begins-clause-err : goal.returns-in-Err-follow_begins-clause-err
returns-in-Err-follow_begins-clause-err c = λ k past h.
    let w = k.program in
    let p = c.args.packet.now in
    let goes = goes_to w p past (lent_program c.known-known.result) (c.known-known.ensures k (p ∷ past) (c.in-Ok.ensures.reads k past h.tables)) in
    c.in-Ok.ensures.ok k past h.tables ∙ ap as_network (c.in-Err-follow_begins.ensures.err (program_of w past) (behind_head w past) goes h.streams) ∙ c.of_unit.ensures

use Rattle.std.proofs.Common.{◌∷◌, ap, ◌∙◌}
use Rattle.program_follower.specs.Program.{program_of, behind_head}
use Rattle.program_follower.specs.Faults.{as_network}
use Rattle.program_follower.specs.Standing.{lent_program}
use Rattle.program_follower.specs.Streaming.{StreamsRead}
use Rattle.program_follower.proofs.FollowLemmas.{streams_next, goes_to}
use Rattle.program_follower.proofs.follower.ProgramFollower.take.Goals as goal

pub returns-in-Ok-follow_streams-clause-stands : goal.returns-in-Ok-follow_streams-clause-stands
returns-in-Ok-follow_streams-clause-stands c = λ k past h.
    let w = k.program in
    let p = c.args.packet.now in
    let tables = c.in-Ok.ensures.reads k past h.tables in
    let known = c.known.ensures k (p ∷ past) tables in
    let goes = goes_to w p past (lent_program c.known.result) known in
    record {
      tables = tables;
      shows = c.in-Ok.ensures.shows k past h.tables;
      streams = streams_next StreamsRead w p past c.follow_streams.new.streams (lent_program c.known.result) known (c.in-Ok-follow_streams.ensures.reads (program_of w past) (behind_head w past) goes h.streams);
      whole = h.whole;
    }

pub returns-in-Ok-follow_streams-clause-sound : goal.returns-in-Ok-follow_streams-clause-sound
returns-in-Ok-follow_streams-clause-sound c = λ k past h.
    let w = k.program in
    let p = c.args.packet.now in
    let goes = goes_to w p past (lent_program c.known.result) (c.known.ensures k (p ∷ past) (c.in-Ok.ensures.reads k past h.tables)) in
    c.in-Ok.ensures.ok k past h.tables ∙ ap as_network (c.in-Ok-follow_streams.ensures.sound (program_of w past) (behind_head w past) goes h.streams)

pub returns-in-Ok-follow_streams-clause-place : goal.returns-in-Ok-follow_streams-clause-place
returns-in-Ok-follow_streams-clause-place c = λ k past h.
    let w = k.program in
    let p = c.args.packet.now in
    let tables = c.in-Ok.ensures.reads k past h.tables in
    let goes = goes_to w p past (lent_program c.known.result) (c.known.ensures k (p ∷ past) tables) in
    c.place_of.ensures k past (c.in-Ok.ensures.on k past h.tables) (c.in-Ok-follow_streams.ensures.is (program_of w past) (behind_head w past) goes h.streams)

pub returns-in-Err-follow_streams-clause-err : goal.returns-in-Err-follow_streams-clause-err
returns-in-Err-follow_streams-clause-err c = λ k past h.
    let w = k.program in
    let p = c.args.packet.now in
    let goes = goes_to w p past (lent_program c.known.result) (c.known.ensures k (p ∷ past) (c.in-Ok.ensures.reads k past h.tables)) in
    c.in-Ok.ensures.ok k past h.tables ∙ ap as_network (c.in-Err-follow_streams.ensures.err (program_of w past) (behind_head w past) goes h.streams) ∙ c.of_unit.ensures

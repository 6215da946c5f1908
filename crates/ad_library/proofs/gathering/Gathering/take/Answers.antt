use Rattle.std.proofs.Common.{◌∙◌, ◌<◌, refl, inl, inr, arith, None, ◌∷◌}
use Rattle.program_follower.specs.Program.{program_of, behind_head, pids_of}
use Rattle.ts_packet.specs.Duplicates.{is_gap}
use Rattle.program_follower.specs.Purposes.{reading_advertisement}
use Rattle.ad_library.proofs.TakeLemmas.{few, one_is, one_whole, one_kept, gap_of, is_clean, is_refused, lost_or, of_none, none_kept, held_more}
use Rattle.ad_library.proofs.StreamsLemmas.{gaps_none}
use Rattle.ad_library.proofs.gathering.Gathering.take.Goals as goal

pub returns-in-Err-clause-err : goal.returns-in-Err-clause-err
returns-in-Err-clause-err g c = λ past h.
    let self = c.args.self.now in
    let p = c.args.packet.now in
    let room : self.packets < 356962 = grind (arith, c.if-self-ge-MAX_PACKETS.false) in
    inr (is_refused p past (few self p past h room) c.of_follower.result (c.of_follower.ensures _ (c.in-Err.ensures.err reading_advertisement past h.follower)))

pub keep-requires-clause-whole : goal.keep-requires-clause-whole
keep-requires-clause-whole g c =
    let (past, h) = c.requires in
    let self = c.args.self.now in
    let p = c.args.packet.now in
    let at = c.in-Ok.ensures.place reading_advertisement past h.follower in
    let clean = c.in-Ok.ensures.sound reading_advertisement past h.follower in
    let one = one_is self p past h c.in-Ok.place c.in-Some.index c.in-Some.part at c.in-Some.ensures in
    (one_whole self p past h c.in-Some.index c.in-Some.part clean one).0

pub keep-requires-clause-near : goal.keep-requires-clause-near
keep-requires-clause-near g c =
    let (past, h) = c.requires in
    let self = c.args.self.now in
    let p = c.args.packet.now in
    let at = c.in-Ok.ensures.place reading_advertisement past h.follower in
    let clean = c.in-Ok.ensures.sound reading_advertisement past h.follower in
    let one = one_is self p past h c.in-Ok.place c.in-Some.index c.in-Some.part at c.in-Some.ensures in
    (one_whole self p past h c.in-Some.index c.in-Some.part clean one).1

pub returns-in-Ok-keep-clause-ok : goal.returns-in-Ok-keep-clause-ok
returns-in-Ok-keep-clause-ok g c = λ past h.
    let self = c.args.self.now in
    let p = c.args.packet.now in
    let room : self.packets < 356962 = grind (arith, c.if-self-ge-MAX_PACKETS.false) in
    let at = c.in-Ok.ensures.place reading_advertisement past h.follower in
    let clean = c.in-Ok.ensures.sound reading_advertisement past h.follower in
    let one = one_is self p past h c.in-Ok.place c.in-Some.index c.in-Some.part at c.in-Some.ensures in
    one_kept self p past h _ c.in-Some.index c.in-Some.part one
    (record { follower = c.in-Ok.ensures.stands reading_advertisement past h.follower; network = clean; packets = refl; room = room; held = c.keep.ensures.held self.packets h.held })
    (c.in-Ok-keep.ensures.ok one.one one.program.streams (behind_head None past) one.is)

pub returns-in-Ok-keep-clause-sound : goal.returns-in-Ok-keep-clause-sound
returns-in-Ok-keep-clause-sound g c = λ past h.
    let self = c.args.self.now in
    let p = c.args.packet.now in
    let room : self.packets < 356962 = grind (arith, c.if-self-ge-MAX_PACKETS.false) in
    let at = c.in-Ok.ensures.place reading_advertisement past h.follower in
    let clean = c.in-Ok.ensures.sound reading_advertisement past h.follower in
    let one = one_is self p past h c.in-Ok.place c.in-Some.index c.in-Some.part at c.in-Some.ensures in
    is_clean p past (few self p past h room) clean
    (gap_of self p past h c.in-Some.index c.in-Some.part one ∙ c.in-Ok-keep.ensures.whole one.one one.program.streams (behind_head None past) one.is)

pub returns-in-Err-keep-clause-err : goal.returns-in-Err-keep-clause-err
returns-in-Err-keep-clause-err g c = λ past h.
    let self = c.args.self.now in
    let p = c.args.packet.now in
    let room : self.packets < 356962 = grind (arith, c.if-self-ge-MAX_PACKETS.false) in
    let at = c.in-Ok.ensures.place reading_advertisement past h.follower in
    let clean = c.in-Ok.ensures.sound reading_advertisement past h.follower in
    let one = one_is self p past h c.in-Ok.place c.in-Some.index c.in-Some.part at c.in-Some.ensures in
    lost_or p past (few self p past h room) clean c.in-Err-keep.fault (is_gap one.one.1 p (behind_head None past))
    (gap_of self p past h c.in-Some.index c.in-Some.part one) (c.in-Err-keep.ensures.err one.one one.program.streams (behind_head None past) one.is)

pub returns-in-Ok-open-clause-ok : goal.returns-in-Ok-open-clause-ok
returns-in-Ok-open-clause-ok g c = λ past h.
    let self = c.args.self.now in
    let p = c.args.packet.now in
    let room : self.packets < 356962 = grind (arith, c.if-self-ge-MAX_PACKETS.false) in
    let at = c.in-Ok.ensures.place reading_advertisement past h.follower in
    let clean = c.in-Ok.ensures.sound reading_advertisement past h.follower in
    let stands = c.in-Ok.ensures.stands reading_advertisement past h.follower in
    none_kept self p past h _ (of_none c.in-Ok.place p past h.sound at c.in-None.ensures)
    (record { follower = stands; network = clean; packets = refl; room = room; held = held_more self.high self.packets h.held })
    refl c.in-Ok-open.ensures.same (λ e. c.in-Ok-open.ensures.opens e (p ∷ past) stands)

pub returns-in-Ok-open-clause-sound : goal.returns-in-Ok-open-clause-sound
returns-in-Ok-open-clause-sound g c = λ past h.
    let self = c.args.self.now in
    let p = c.args.packet.now in
    let room : self.packets < 356962 = grind (arith, c.if-self-ge-MAX_PACKETS.false) in
    let at = c.in-Ok.ensures.place reading_advertisement past h.follower in
    let clean = c.in-Ok.ensures.sound reading_advertisement past h.follower in
    is_clean p past (few self p past h room) clean (gaps_none p (behind_head None past) (pids_of (program_of None past)) (of_none c.in-Ok.place p past h.sound at c.in-None.ensures))

pub returns-in-Err-open-clause-err : goal.returns-in-Err-open-clause-err
returns-in-Err-open-clause-err g c = λ past h.
    let self = c.args.self.now in
    let p = c.args.packet.now in
    let room : self.packets < 356962 = grind (arith, c.if-self-ge-MAX_PACKETS.false) in
    let at = c.in-Ok.ensures.place reading_advertisement past h.follower in
    let clean = c.in-Ok.ensures.sound reading_advertisement past h.follower in
    inl (
      c.in-Err-open.ensures.err,
      is_clean p past (few self p past h room) clean (gaps_none p (behind_head None past) (pids_of (program_of None past)) (of_none c.in-Ok.place p past h.sound at c.in-None.ensures)),
    )

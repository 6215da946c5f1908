use Rattle.std.proofs.Common.{◌∷◌, ap, ◌∙◌}
use Rattle.break_timelines.specs.Video.{video_from}
use Rattle.break_timelines.specs.Timelines.{planning}
use Rattle.break_timelines.proofs.PictureLemmas.{begun_is}
use Rattle.break_timelines.proofs.reader.TimelineReader.begun_at.Goals as goal

pub returns : goal.returns
returns c = λ program past m timed.
    c.begun_of.ensures
    ∙ begun_is program c.args.packet.now past c.args.timed _ _ timed
    (c.video_of-video.ensures ∙ ap (video_from 0) (c.streams.ensures (planning program) (c.args.packet.now ∷ past) m.follower)) m.packets

-- What a chain on air puts, answers and counts.
use Rattle.std.specs.Prelude.{◌≡◌, ℕ, List, length, Option}
use Rattle.ts_packet.specs.Packets.{packets_of}
use Rattle.wire_fields.specs.Numbers.{AreBytes}
use Rattle.psi_tables.specs.declared.config.Config.{Config}
use Rattle.scte104_codec.specs.declared.reply.Reply.{Reply}
use Rattle.ad_library.specs.Advertisements.{Advertisement}
use Rattle.chain_engine.specs.Automation.{Take, bytes_of}
use Rattle.chain_engine.specs.Talks.{HasTalked}
use Rattle.chain_engine.specs.Runs.{reply_in, reports_sum}
use Rattle.chain_engine.specs.Airing.{packets_through, replies_by_all, total}
use Rattle.chain_engine.specs.Chained.{chained_to_end, CountsStretch, EachCounts}
use Rattle.chain_engine.specs.declared.hearing.SessionEnd.{SessionEnd}
use Rattle.chain_engine.specs.declared.report.Report.{Report}
use Rattle.on_air.specs.AirInjects.{ended_for, last_for}

-- THE THEOREM for any network: what a chain on air puts is the stretches' outputs one behind the other, each what its switch does by what the injector
-- sends on for its own packets and the messages before them, and behind each but the last the packets that have brought a section of the map which is
-- not whole; each message is answered by the stretch of the packet before which it is judged; and what the stretches counted is summed. `is_out` says
-- of packets that they stand behind what was there, `exchanged` of a session's end, takes and replies that they came.
pub record RanOnAir (c : Config) (filed : ℕ → Option Advertisement) (bs : List ℕ) (is_out : List (List ℕ) → Type 0)
    (exchanged : Option SessionEnd → List Take → List Reply → Type 0) (report : Report) : Type 0 where
  pub ending : Option SessionEnd
  pub ts : List Take
  pub rs : List Reply
  pub talked : HasTalked ending ts (length rs) (length (packets_of bs))
  pub bytes : AreBytes (bytes_of ts)
  pub exchanges : exchanged ending ts rs
  pub replies : rs ≡ replies_by_all (reply_in c) (length rs) ts (ended_for c bs) (last_for c bs)
  pub written : is_out (chained_to_end c filed (length rs) ts (ended_for c bs) (last_for c bs))
  pub last : Report
  pub told : List Report
  pub told_so : EachCounts c filed (length rs) ts (ended_for c bs) told
  pub last_so : CountsStretch last c filed (length rs) ts (packets_through (ended_for c bs)) (last_for c bs)
  pub counted : report ≡ total reports_sum last told

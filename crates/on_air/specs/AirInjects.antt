-- What an injector on air puts, answers and counts.
use Rattle.std.specs.Prelude.{◌≡◌, ℕ, List, length, Option}
use Rattle.ts_packet.specs.Packets.{packets_of}
use Rattle.wire_fields.specs.Numbers.{AreBytes}
use Rattle.psi_tables.specs.declared.config.Config.{Config}
use Rattle.scte104_codec.specs.declared.reply.Reply.{Reply}
use Rattle.program_follower.specs.Purposes.{writing_cues}
use Rattle.chain_engine.specs.Automation.{Take, bytes_of}
use Rattle.chain_engine.specs.Talks.{HasTalked}
use Rattle.chain_engine.specs.Runs.{reply_in, reports_sum}
use Rattle.chain_engine.specs.Airing.{Aired, Stretch, sent_by_all, replies_by_all, total}
use Rattle.chain_engine.specs.Injected.{reports_of_ended, report_of_last}
use Rattle.chain_engine.specs.declared.hearing.SessionEnd.{SessionEnd}
use Rattle.chain_engine.specs.declared.report.Report.{Report}
use Rattle.on_air.specs.AirRuns.{newest}
use Rattle.on_air.specs.AirOutputs.{aired, ended_in, stretches_in}

-- the stretches of these bytes that ended, for who writes cues, and the last one
abbrev pub ended_for : Config → List ℕ → List Stretch
ended_for c bs = ended_in (writing_cues c) (stretches_in (writing_cues c) bs)

abbrev pub last_for : Config → List ℕ → List Aired
last_for c bs = aired (newest (stretches_in (writing_cues c) bs))

-- THE THEOREM for any network: what an injector on air puts is the stretches' outputs one behind the other, each by its own packets and the messages
-- before them, and behind each but the last the packets that have brought a section of the map which is not whole; each message is answered by the
-- stretch of the packet before which it is judged; and what the stretches counted is summed. `is_out` says of packets that they stand behind what
-- was there, `exchanged` of a session's end, takes and replies that they came.
pub record InjectedOnAir (c : Config) (bs : List ℕ) (is_out : List (List ℕ) → Type 0)
    (exchanged : Option SessionEnd → List Take → List Reply → Type 0) (report : Report) : Type 0 where
  pub ending : Option SessionEnd
  pub ts : List Take
  pub rs : List Reply
  pub talked : HasTalked ending ts (length rs) (length (packets_of bs))
  pub bytes : AreBytes (bytes_of ts)
  pub exchanges : exchanged ending ts rs
  pub replies : rs ≡ replies_by_all (reply_in c) (length rs) ts (ended_for c bs) (last_for c bs)
  pub written : is_out (sent_by_all c (length rs) ts (ended_for c bs) (last_for c bs))
  pub counted : report ≡ total reports_sum (report_of_last c (length rs) ts (ended_for c bs) (last_for c bs))
      (reports_of_ended c (length rs) ts (ended_for c bs))

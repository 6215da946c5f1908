-- A packet before which no cue can be due, and one on whose PID nothing of the program is.
use Rattle.std.proofs.Common.{◌≡◌, ℕ, List, [], ◌∷◌, ◌++◌, false, refl, sym, ap, subst, ◌∙◌}
use Rattle.std.specs.Prelude.{None, Some, map, option_map, filter, is_some, true}
use Rattle.pes_time.specs.Line.{ring_of}
use Rattle.ts_packet.specs.Fields.{pid_of}
use Rattle.ts_packet.specs.Runs.{onto}
use Rattle.event_table.specs.Standing.{stands}
use Rattle.event_table.specs.Tables.{StandsFor}
use Rattle.unit_stream.specs.Clocks.{Rises}
use Rattle.psi_tables.specs.declared.config.Config.{Config}
use Rattle.program_follower.specs.Program.{listed}
use Rattle.program_follower.specs.Purposes.{writing_cues}
use Rattle.program_follower.specs.Faults.{network_fault}
use Rattle.program_follower.specs.declared.start_follower.StartFollower.{StartFollower}
use Rattle.program_follower.specs.Following.{high_of, IsElsewhere, IsUnfollowed, StartsStandFor}
use Rattle.program_follower.specs.declared.starts.StreamPart.{StreamPart}
use Rattle.program_follower.proofs.UnfollowedLemmas.{unfollowed-elsewhere, stands-past, clean-past, high-past}
use Rattle.program_laws.specs.Writing.{packets_out}
use Rattle.outgoing_packets.specs.declared.outgoing.Outgoing.{Outgoing}
use Rattle.scte35_codec.specs.Spelling.{cue_bytes}
use Rattle.outgoing_packets.proofs.NumberLemmas.{number-others}
use Rattle.outgoing_packets.proofs.GoOnLemmas.{go-on-past, go-on-later}
use Rattle.injector.specs.declared.injector.Injector.{Injector}
use Rattle.injector.specs.Turns.{greatest_in, events}
use Rattle.injector.specs.Noting.{IsBefore, NotesStandFor}
use Rattle.injector.specs.Steps.{Step, Packet, packets_in, turns_in, has_news, cued, cue_packets, body_at, sent_at}
use Rattle.injector.specs.Injecting.{IsStill, JudgesBy, RestsAt, CuesGoOn, InjectorStandsFor, GoesOnAlone}
use Rattle.injector.proofs.FeedLemmas.{rises-at, turns-high, body-off}
use Rattle.injector.proofs.RestLemmas.{idle-between, idle-cues, idle-told, no-cue-between}
use Rattle.injector.proofs.BoundLemmas.{stays-still}
use Rattle.injector.proofs.SenderLemmas.{standing-stays, restate-notes}
use Rattle.injector.proofs.GoOnLemmas.{body-by}

-- ---- no cue is due

-- none goes out before a packet with which the greatest time stays
pub no-cues : (c : Config) (p : List ℕ) (past : List Step) → has_news c.index (turns_in c.program past) ≡ false
    → high_of (Some c.program) (p ∷ packets_in past) ≡ high_of (Some c.program) (packets_in past) → cue_packets c p past (cued c past) ≡ []
no-cues c p past quiet same = ap (packets_out c.cue_pid (cued c past)) (no-cue-between c p past quiet same)

pub sent-alone : (c : Config) (p : List ℕ) (past : List Step) → has_news c.index (turns_in c.program past) ≡ false
    → high_of (Some c.program) (p ∷ packets_in past) ≡ high_of (Some c.program) (packets_in past) → sent_at c p past ≡ body_at c p (packets_in past) (cued c past)
sent-alone c p past quiet same = ap (λ l. l ++ body_at c p (packets_in past) (onto (cued c past) l)) (no-cues c p past quiet same)

pub alone : (i : Injector) (c : Config) (p : List ℕ) (past : List Step) (s : IsStill i c p past) → sent_at c p past ≡ body_at c p (packets_in past) s.followed.out.passed
alone i c p past s =
    sent-alone c p past (sym s.followed.news ∙ s.quiet) s.high ∙ sym (body-by c p past s.followed.out.passed (cued c past) s.followed.out.go_on)

-- what it judges by, what it keeps beside the events, and until when no cue is due
pub record IsQuietBehind (i : Injector) (c : Config) (p : List ℕ) (past : List Step) : Type 0 where
  pub judges : JudgesBy i c (Packet p ∷ past)
  pub notes : NotesStandFor i.requests c.index (turns_in c.program (Packet p ∷ past))
  pub rest : RestsAt i.rest c.index (turns_in c.program (Packet p ∷ past))

pub quiet-behind : (i : Injector) (c : Config) (p : List ℕ) (past : List Step) → JudgesBy i c past → NotesStandFor i.requests c.index (turns_in c.program past)
    → i.has_news ≡ has_news c.index (turns_in c.program past) → (i.has_news ≡ false → RestsAt i.rest c.index (turns_in c.program past)) → i.has_news ≡ false
    → network_fault (writing_cues c) p (packets_in past) ≡ None → high_of (Some c.program) (p ∷ packets_in past) ≡ high_of (Some c.program) (packets_in past)
    → IsQuietBehind i c p past
quiet-behind i cfg p past judges notes-are news-is rest-is quiet sound stays =
    let turns = turns_in cfg.program past in
    let latest = high_of (Some cfg.program) (p ∷ packets_in past) in
    let same : greatest_in turns ≡ latest = turns-high cfg.program past ∙ sym stays in
    let rises : Rises (greatest_in turns) latest = subst (λ h. Rises h latest) (sym (turns-high cfg.program past)) (rises-at cfg p (packets_in past) sound) in
    let news = sym news-is ∙ quiet in
    let before : IsBefore false i.requests (option_map ring_of latest) cfg.index turns latest
    = record { stands = judges.requests; notes = notes-are; rises = rises; time = refl; idle = λ none. idle-between cfg past latest news same } in
    let n = judges.counted in
    record {
      judges = record {
        requests = record { index_is = judges.requests.index_is; table = subst (λ l. StandsFor i.requests.table l (filter (stands l) (events cfg.index turns))) same judges.requests.table };
        counted = record { messages = n.messages; accepted = n.accepted; refused = n.refused };
      };
      notes = restate-notes i.requests latest _ _ (sym (standing-stays cfg.index turns latest same)) (idle-told i.requests (option_map ring_of latest) cfg.index turns latest before);
      rest = (stays-still i.rest cfg.index turns latest rises notes-are.kept (idle-between cfg past (greatest_in turns) news refl) (rest-is quiet) same).rests;
    }

-- ---- it is on no PID of tables or cues, behind the PAT, and the greatest time stays

-- a packet that is of no table and no cue, without a fault, and with which the greatest time stays
pub record IsPlain (c : Config) (p : List ℕ) (net : List (List ℕ)) : Type 0 where
  pub listed : is_some (listed (Some c.program) net) ≡ true
  pub elsewhere : IsElsewhere (writing_cues c) p net
  pub sound : network_fault (writing_cues c) p net ≡ None
  pub high : high_of (Some c.program) (p ∷ net) ≡ high_of (Some c.program) net

module _ (c : Config) (p : List ℕ) (past : List Step) (known : is_some (listed (Some c.program) (packets_in past)) ≡ true)
    (elsewhere : IsElsewhere (writing_cues c) p (packets_in past)) (sent : sent_at c p past ≡ p ∷ []) where
  -- the counters go on behind a packet that goes out alone
  pub out-past : (o : Outgoing) → CuesGoOn o c.cue_pid (listed (Some c.program) (packets_in past)) (cued c past)
      → CuesGoOn o c.cue_pid (listed (Some c.program) (p ∷ packets_in past)) (cued c (Packet p ∷ past))
  out-past o h =
      let net = packets_in past in
      let out : cued c (Packet p ∷ past) ≡ p ∷ cued c past = ap (onto (cued c past)) sent in
      let l = listed (Some c.program) net in
      record {
        passed = h.passed;
        put = h.put;
        cues = h.cues ∙ sym (ap (λ qs. Rattle.program_laws.specs.Writing.number_on c.cue_pid qs) out ∙ number-others c.cue_pid (p ∷ []) (cued c past) (elsewhere.cue, tt));
        go_on = subst (λ qs. Rattle.outgoing_packets.specs.Numbers.GoOnAs (listed (Some c.program) (p ∷ net)) h.passed qs) (sym out)
            (go-on-later (Some c.program) p net h.passed (p ∷ cued c past) (go-on-past l p h.passed (cued c past) known elsewhere.map h.go_on));
      }

module _ (i : Injector) (f : StartFollower) (c : Config) (p : List ℕ) (past : List Step) (h : InjectorStandsFor i c past)
    (quiet : has_news c.index (turns_in c.program past) ≡ false) (u : IsPlain c p (packets_in past)) where
  -- THE PACKET goes out alone
  pub plain-sent : sent_at c p past ≡ p ∷ []
  plain-sent = sent-alone c p past quiet u.high ∙ body-off c p (packets_in past) (cued c past) u.elsewhere.map

  -- and the injector whose follower stands for the network with it stands for the history with it
  pub plain-past : StartsStandFor f (writing_cues c) (p ∷ packets_in past) → InjectorStandsFor (record i { follower = f }) c (Packet p ∷ past)
  plain-past follows =
      let n = quiet-behind i c p past h.judges h.notes h.news h.rest (h.news ∙ quiet) u.sound u.high in
      record {
        judges = record { requests = n.judges.requests; counted = n.judges.counted };
        cue_pid = h.cue_pid;
        notes = n.notes;
        news = h.news ∙ quiet;
        rest = λ still. n.rest;
        follower = follows;
        out = out-past c p past u.listed u.elsewhere plain-sent i.out h.out;
        whole = h.whole;
      }

-- ---- it is of a switched stream

module _ (c : Config) (x : StreamPart) (p : List ℕ) (past : List Step) (g : GoesOnAlone c x p past) where
  -- THE PACKET goes out alone
  pub goes-on-sent : sent_at c p past ≡ p ∷ []
  goes-on-sent =
      ap (λ l. l ++ body_at c p (packets_in past) (onto (cued c past) l))
      (ap (λ cues. packets_out c.cue_pid (cued c past) (map cue_bytes cues)) (idle-cues c.index (high_of (Some c.program) (p ∷ packets_in past)) (turns_in c.program past) g.idle))
      ∙ body-off c p (packets_in past) (cued c past) g.goes_on.elsewhere.map

module _ (i : Injector) (c : Config) (x : StreamPart) (p : List ℕ) (past : List Step) (h : InjectorStandsFor i c past) (g : GoesOnAlone c x p past)
    (high : high_of (Some c.program) (p ∷ packets_in past) ≡ high_of (Some c.program) (packets_in past)) where
  -- the injector behind it
  pub goes-on-past : (f : StartFollower) → StartsStandFor f (writing_cues c) (p ∷ packets_in past) → InjectorStandsFor (record i { follower = f }) c (Packet p ∷ past)
  goes-on-past f follows =
      plain-past i f c p past h g.quiet (record { listed = g.goes_on.listed; elsewhere = g.goes_on.elsewhere; sound = g.goes_on.sound; high = high }) follows

-- ---- nothing of the program is on its PID

module _ (i : Injector) (c : Config) (p : List ℕ) (past : List Step) (h : InjectorStandsFor i c past) (quiet : has_news c.index (turns_in c.program past) ≡ false)
    (u : IsUnfollowed (Some c.program) (Some c.cue_pid) (pid_of p) (packets_in past)) where
  unfollowed-plain : IsPlain c p (packets_in past)
  unfollowed-plain = record {
    listed = u.listed;
    elsewhere = unfollowed-elsewhere (writing_cues c) p (packets_in past) u;
    sound = clean-past (writing_cues c) p (packets_in past) u i.follower h.follower;
    high = high-past (writing_cues c) p (packets_in past) u;
  }

  -- THE PACKET goes out alone
  pub unfollowed-sent : sent_at c p past ≡ p ∷ []
  unfollowed-sent = plain-sent i i.follower c p past h quiet unfollowed-plain

  -- and the injector stands for the history with it as it is
  pub injector-past : InjectorStandsFor i c (Packet p ∷ past)
  injector-past = plain-past i i.follower c p past h quiet unfollowed-plain (stands-past (writing_cues c) p (packets_in past) u i.follower h.follower)

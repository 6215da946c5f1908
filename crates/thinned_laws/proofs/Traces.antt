-- Of cues that are lost or doubled nothing is left in what a switch puts out.
use Rattle.std.proofs.Common.{◌≡◌, ◌↔◌, ℕ, List, [], ◌∷◌, ◌++◌, Bool, true, false, refl, sym, ap, ◌∙◌, subst, Option, None, Some, append_assoc, map, if◌then◌else◌}
use Rattle.std.specs.List.{AllByRecursion}
use Rattle.std.proofs.lemmas.Bool.{true≢false}
use Rattle.ts_packet.specs.Fields.{on, is_among}
use Rattle.ts_packet.specs.Numbering.{one_past}
use Rattle.ts_packet.specs.Runs.{onto}
use Rattle.ts_packet.proofs.Cases.{by_test}
use Rattle.ts_packet.proofs.RunLemmas.{onto-append}
use Rattle.ts_packet.proofs.FieldLemmas.{payload_on-on}
use Rattle.unit_stream.specs.Times.{high}
use Rattle.psi_section.specs.Packetising.{packets_in_turn}
use Rattle.psi_section.proofs.ReadBackLemmas.{IsPayloadOn, turn_carry}
use Rattle.psi_tables.specs.declared.config.Config.{Config}
use Rattle.psi_tables.specs.ProgramMap.{ProgramMap}
use Rattle.ad_library.specs.Advertisements.{Advertisement}
use Rattle.program_follower.specs.declared.purpose.Listed.{Listed}
use Rattle.program_follower.specs.Program.{listed, Table, tables, known_map, program_of, behind_head, pids_of}
use Rattle.program_follower.proofs.StepLemmas.{listed_stays}
use Rattle.program_laws.specs.Writing.{Along, number_on, section_out, packets_out, body}
use Rattle.program_laws.specs.Behind.{SameUnits}
use Rattle.program_laws.specs.Cued.{On, cueing, CuedReads}
use Rattle.program_laws.proofs.CuedLemmas.{cued_stream_reads}
use Rattle.program_laws.proofs.PacketLemmas.{one_past-below}
use Rattle.program_laws.proofs.WritingLemmas.{listed_below}
use Rattle.event_table.specs.Standing.{Standing}
use Rattle.armed_events.specs.Arming.{armed}
use Rattle.injector.specs.Turns.{events}
use Rattle.injector.specs.Steps.{Step, Message, Packet, packets_in, turns_in}
use Rattle.cue_laws.specs.Events.{Turn as LineTurn, before}
use Rattle.cue_laws.specs.Laws.{KeepsEnoughOf}
use Rattle.cue_laws.proofs.Enough.{nothing_lost_is_enough}
use Rattle.cued_laws.proofs.CuedLemmas.{cued_is_faultless}
use Rattle.path_laws.specs.Path.{asked_line}
use Rattle.injector.specs.Laws.{own_fronts}
use Rattle.path_laws.specs.Packets.{IsRunOf, stream, BringsCues}
use Rattle.path_laws.proofs.Packets.{run-message, run-packet, run-history, map-pid}
use Rattle.path_laws.proofs.Proofs.{requests_are_a_run}
use Rattle.path_laws.proofs.Whole.{cue_path_in_packets, cue_path_in_packets_at_the_end, cued_stream_brings}
use Rattle.path_laws.proofs.Thinned.{thinned_brings, given_keeps_enough}
use Rattle.splice_plans.specs.Switching.{Setting, switched_at, high_at, events_at}
use Rattle.splice_plans.specs.Adverts.{setting_of}
use Rattle.switch_laws.specs.Standing.{IsSwitchable}
use Rattle.switch_laws.proofs.FaultlessLemmas.{faultless_is_sound}
use Rattle.known_laws.proofs.HeadLemmas.{none-switched, same-switched}
use Rattle.ts_packet.specs.Membership.{In}
use Rattle.thinned_laws.specs.Beside.{Beside, Shared, Here, There, one_run, other_run, DifferOn, CuesAreApart, AgreeReached, AgreeAlong}
use Rattle.thinned_laws.specs.Laws.{SplicedAlike, LeftIsFaultless, LostCuesLeaveNoTrace, ThinnedCuesLeaveNoTrace}
use Rattle.thinned_laws.proofs.Flags.{OffAlone}
use Rattle.thinned_laws.proofs.Tables.{off-alone, not-switched}
use Rattle.thinned_laws.proofs.Reports.{same_events_same_network}
use Rattle.program_follower.specs.Purposes.{writing_cues}
use Rattle.program_follower.specs.Following.{high_of}

-- ---- rows

abbrev shared_onto : List Beside → List (List ℕ) → List Beside
shared_onto rows [] = rows
shared_onto rows (q ∷ qs) = shared_onto (Shared q ∷ rows) qs

abbrev here_onto : List Beside → List (List ℕ) → List Beside
here_onto rows [] = rows
here_onto rows (q ∷ qs) = here_onto (Here q ∷ rows) qs

abbrev there_onto : List Beside → List (List ℕ) → List Beside
there_onto rows [] = rows
there_onto rows (q ∷ qs) = there_onto (There q ∷ rows) qs

one-shared : (rows : List Beside) (qs : List (List ℕ)) → one_run (shared_onto rows qs) ≡ onto (one_run rows) qs
one-shared rows [] = refl
one-shared rows (q ∷ qs) = one-shared (Shared q ∷ rows) qs

other-shared : (rows : List Beside) (qs : List (List ℕ)) → other_run (shared_onto rows qs) ≡ onto (other_run rows) qs
other-shared rows [] = refl
other-shared rows (q ∷ qs) = other-shared (Shared q ∷ rows) qs

one-here : (rows : List Beside) (qs : List (List ℕ)) → one_run (here_onto rows qs) ≡ onto (one_run rows) qs
one-here rows [] = refl
one-here rows (q ∷ qs) = one-here (Here q ∷ rows) qs

other-here : (rows : List Beside) (qs : List (List ℕ)) → other_run (here_onto rows qs) ≡ other_run rows
other-here rows [] = refl
other-here rows (q ∷ qs) = other-here (Here q ∷ rows) qs

one-there : (rows : List Beside) (qs : List (List ℕ)) → one_run (there_onto rows qs) ≡ one_run rows
one-there rows [] = refl
one-there rows (q ∷ qs) = one-there (There q ∷ rows) qs

other-there : (rows : List Beside) (qs : List (List ℕ)) → other_run (there_onto rows qs) ≡ onto (other_run rows) qs
other-there rows [] = refl
other-there rows (q ∷ qs) = other-there (There q ∷ rows) qs

differ-shared : (cue : ℕ) (rows : List Beside) (qs : List (List ℕ)) → DifferOn cue rows → DifferOn cue (shared_onto rows qs)
differ-shared cue rows [] d = d
differ-shared cue rows (q ∷ qs) d = differ-shared cue (Shared q ∷ rows) qs d

differ-here : (cue : ℕ) (rows : List Beside) (qs : List (List ℕ)) → AllByRecursion (On cue) qs → DifferOn cue rows → DifferOn cue (here_onto rows qs)
differ-here cue rows [] o d = d
differ-here cue rows (q ∷ qs) o d = differ-here cue (Here q ∷ rows) qs o.1 (o.0, d)

differ-there : (cue : ℕ) (rows : List Beside) (qs : List (List ℕ)) → AllByRecursion (On cue) qs → DifferOn cue rows → DifferOn cue (there_onto rows qs)
differ-there cue rows [] o d = d
differ-there cue rows (q ∷ qs) o d = differ-there cue (There q ∷ rows) qs o.1 (o.0, d)

along-here : (k : Setting) (rows : List Beside) (qs : List (List ℕ)) → AgreeAlong k rows → AgreeAlong k (here_onto rows qs)
along-here k rows [] g = g
along-here k rows (q ∷ qs) g = along-here k (Here q ∷ rows) qs g

along-there : (k : Setting) (rows : List Beside) (qs : List (List ℕ)) → AgreeAlong k rows → AgreeAlong k (there_onto rows qs)
along-there k rows [] g = g
along-there k rows (q ∷ qs) g = along-there k (There q ∷ rows) qs g

-- a PID that is not switched was not before
among-before : (k : Setting) (pid : ℕ) (q : List ℕ) (past : List (List ℕ)) → is_among pid (switched_at k (q ∷ past)) ≡ false → is_among pid (switched_at k past) ≡ false
among-before k pid q past n = by (known_map (Some k.program) past) refl
  where
    by : (o : Option ProgramMap) → known_map (Some k.program) past ≡ o → is_among pid (switched_at k past) ≡ false
    by None is = ap (is_among pid) (none-switched k past is)
    by (Some m) is = ap (is_among pid) (sym (same-switched k q past m is)) ∙ n

among-onto : (k : Setting) (pid : ℕ) (rows : List Beside) (qs : List (List ℕ)) → is_among pid (switched_at k (one_run (shared_onto rows qs))) ≡ false → is_among pid (switched_at k (one_run rows)) ≡ false
among-onto k pid rows [] n = n
among-onto k pid rows (q ∷ qs) n = among-before k pid q (one_run rows) (among-onto k pid (Shared q ∷ rows) qs n)

-- packets of a PID that is not switched ask for nothing
quiet-along : (k : Setting) (pid : ℕ) (rows : List Beside) (qs : List (List ℕ)) → AllByRecursion (On pid) qs → is_among pid (switched_at k (one_run (shared_onto rows qs))) ≡ false → AgreeAlong k rows
    → AgreeAlong k (shared_onto rows qs)
quiet-along k pid rows [] o n g = g
quiet-along k pid rows (q ∷ qs) o n g =
    let off = not-switched pid q o.0 (switched_at k (one_run rows)) (among-onto k pid rows (q ∷ qs) n) in
    quiet-along k pid (Shared q ∷ rows) qs o.1 n ((λ s. absurd (true≢false (sym s ∙ off))), g)

number-same : (pid : ℕ) (rows : List Beside) → OffAlone pid rows → number_on pid (one_run rows) ≡ number_on pid (other_run rows)
number-same pid [] o = refl
number-same pid (Shared p ∷ rows) o = by_test (on pid p) (λ y. simp y refl) (λ n. simp n (number-same pid rows o))
number-same pid (Here q ∷ rows) o = let n = o.0 in simp n (number-same pid rows o.1)
number-same pid (There q ∷ rows) o = let n = o.0 in simp n (number-same pid rows o.1)

-- ---- one stream

abbrev Fronts : Type 0
Fronts = List ℕ → List (List ℕ) → List (List ℕ)

brings-on : (c : Config) (copies : List LineTurn → ℕ) (fronts : Fronts) (past : List Step) → BringsCues c copies fronts past → Along (λ p back. AllByRecursion (On c.cue_pid) (fronts p back)) (packets_in past)
brings-on c copies fronts [] b = tt
brings-on c copies fronts (Message m ∷ past) b = brings-on c copies fronts past b
brings-on c copies fronts (Packet p ∷ past) b = (b.0, brings-on c copies fronts past b.2)

pub left_is_faultless : LeftIsFaultless
left_is_faultless c copies fronts past r b = cued_is_faultless (Some c.program) c.cue_pid fronts (packets_in past) r.not_pat r.cue_pid r.faultless r.bytes (brings-on c copies fronts past b)

high-units : (pids all : List ℕ) (past other : List (List ℕ)) → AllByRecursion (SameUnits all past other) pids → pids ≡ all → high all past ≡ high all other
high-units [] all past other u is = subst (λ (l : List ℕ). high l past ≡ high l other) is (none past ∙ sym (none other))
  where
    none : (ps : List (List ℕ)) → high [] ps ≡ None
    none [] = refl
    none (p ∷ ps) = none ps
high-units (pid ∷ pids) all past other u is = u.0.high

module _ (c : Config) (copies : List LineTurn → ℕ) (fronts : Fronts) (past : List Step) (r : IsRunOf c past) (b : BringsCues c copies fronts past) where
  reads : CuedReads (Some c.program) c.cue_pid (stream c fronts past) (packets_in past) (pids_of (program_of (Some c.program) (packets_in past)))
  reads = cued_stream_reads (writing_cues c) c.cue_pid fronts (packets_in past) refl refl r.not_pat r.cue_pid r.faultless r.bytes (brings-on c copies fronts past b)

  stream-high : high_of (Some c.program) (stream c fronts past) ≡ high_of (Some c.program) (packets_in past)
  stream-high =
      ap (λ o. high (pids_of o) (behind_head (Some c.program) (stream c fronts past))) reads.program
      ∙ high-units (pids_of (program_of (Some c.program) (packets_in past))) (pids_of (program_of (Some c.program) (packets_in past))) (behind_head (Some c.program) (stream c fronts past)) (behind_head (Some c.program) (packets_in past)) reads.units refl

  module _ (filed : ℕ → Option Advertisement) where
    sound : IsSwitchable (setting_of c filed) (stream c fronts past)
    sound = faultless_is_sound (setting_of c filed) (stream c fronts past) (left_is_faultless c copies fronts past r b)

    stream-apart : CuesAreApart (setting_of c filed) (stream c fronts past)
    stream-apart = record {
      pat = r.not_pat;
      pmt = λ l is same. map-pid c (packets_in past) l r.faultless (sym reads.same_pat ∙ is) (sym same);
      streams = sound.apart.cue;
    }

-- what a stream has armed behind each packet of the network, where the start is reached
abbrev ArmsAt : Config → Fronts → List ℕ → List Step → Type 0
ArmsAt c fronts p past = (e : Standing) → e.cancelled ≡ false → before (high_of (Some c.program) (p ∷ packets_in past)) e.start ≡ false →
    In e (armed c.cue_pid (high_of (Some c.program)) (stream c fronts (Packet p ∷ past))) ↔ In e (events c.index (turns_in c.program (Packet p ∷ past)))

abbrev ArmsAlong : Config → Fronts → List Step → Type 0
ArmsAlong c fronts [] = Unit {0}
ArmsAlong c fronts (Message m ∷ past) = ArmsAlong c fronts past
ArmsAlong c fronts (Packet p ∷ past) = ArmsAt c fronts p past × ArmsAlong c fronts past

module _ (c : Config) (copies : List LineTurn → ℕ) (fronts : Fronts) (last : List ℕ) (whole : List Step) (r : IsRunOf c whole) (k : KeepsEnoughOf copies (asked_line c.index (turns_in c.program whole))) where
  arms-before : (later past : List Step) → whole ≡ Packet last ∷ (later ++ past) → BringsCues c copies fronts past → ArmsAlong c fronts past
  arms-before later [] is b = tt
  arms-before later (Message m ∷ past) is b = arms-before (later ++ Message m ∷ []) past (is ∙ ap (λ l. Packet last ∷ l) (sym (append_assoc later (Message m ∷ []) past))) b
  arms-before later (Packet p ∷ past) is b = (
    cue_path_in_packets c copies fronts p last past later (subst (IsRunOf c) is r) b (subst (λ l. KeepsEnoughOf copies (asked_line c.index (turns_in c.program l))) is k),
    arms-before (later ++ Packet p ∷ []) past (is ∙ ap (λ l. Packet last ∷ l) (sym (append_assoc later (Packet p ∷ []) past))) b.2,
  )

arms-whole : (c : Config) (copies : List LineTurn → ℕ) (fronts : Fronts) (p : List ℕ) (past : List Step) → IsRunOf c (Packet p ∷ past) → BringsCues c copies fronts (Packet p ∷ past)
    → KeepsEnoughOf copies (asked_line c.index (turns_in c.program (Packet p ∷ past))) → ArmsAlong c fronts (Packet p ∷ past)
arms-whole c copies fronts p past r b k = (
  λ e un reached. cue_path_in_packets_at_the_end c copies fronts p past r b k e un,
  arms-before c copies fronts p (Packet p ∷ past) r k [] past refl b.2,
)

both-ways : {A B C : Type 0} → A ↔ C → B ↔ C → A ↔ B
both-ways f g = (λ a. g.1 (f.0 a), λ b. f.1 (g.0 b))

-- ---- two streams of one network

module _ (c : Config) (filed : ℕ → Option Advertisement) (copies others : List LineTurn → ℕ) (f g : Fronts) where
  abbrev k : Setting
  k = setting_of c filed

  -- what stands in the place of a packet
  abbrev place_in : List ℕ → List Step → List (List ℕ)
  place_in p past = body (cueing c.cue_pid f) (listed (Some c.program) (packets_in past)) p (packets_in past) (tables (Some c.program) p (packets_in past)) (stream c f past)

  abbrev twins : List Step → List Beside
  twins [] = []
  twins (Message m ∷ past) = twins past
  twins (Packet p ∷ past) = shared_onto (there_onto (here_onto (twins past) (f p (packets_in past))) (g p (packets_in past))) (place_in p past)

  differ-twins : (past : List Step) → BringsCues c copies f past → BringsCues c others g past → DifferOn c.cue_pid (twins past)
  differ-twins [] b d = tt
  differ-twins (Message m ∷ past) b d = differ-twins past b d
  differ-twins (Packet p ∷ past) b d =
      differ-shared c.cue_pid (there_onto (here_onto (twins past) (f p (packets_in past))) (g p (packets_in past))) (place_in p past)
      (differ-there c.cue_pid (here_onto (twins past) (f p (packets_in past))) (g p (packets_in past)) d.0
      (differ-here c.cue_pid (twins past) (f p (packets_in past)) b.0 (differ-twins past b.2 d.2)))

  one-twins : (past : List Step) → one_run (twins past) ≡ stream c f past
  one-twins [] = refl
  one-twins (Message m ∷ past) = one-twins past
  one-twins (Packet p ∷ past) =
      let rows = here_onto (twins past) (f p (packets_in past)) in
      one-shared (there_onto rows (g p (packets_in past))) (place_in p past)
      ∙ ap (λ out. onto out (place_in p past)) (one-there rows (g p (packets_in past)) ∙ one-here (twins past) (f p (packets_in past)) ∙ ap (λ out. onto out (f p (packets_in past))) (one-twins past))
      ∙ sym (onto-append (stream c f past) (f p (packets_in past)) (place_in p past))

  place-same : (p : List ℕ) (past : List Step) (o : Option Listed) (ts : List Table) (out other : List (List ℕ)) → ((l : Listed) → o ≡ Some l → number_on l.pid out ≡ number_on l.pid other)
      → body (cueing c.cue_pid f) o p (packets_in past) ts out ≡ body (cueing c.cue_pid g) o p (packets_in past) ts other
  place-same p past None ts out other n = refl
  place-same p past (Some l) ts out other n =
      ap (λ m. if on l.pid p then packets_in_turn l.pid (one_past m) (map (section_out (cueing c.cue_pid f).change) ts) else p ∷ []) (n l refl)

  other-twins : (past : List Step) → IsRunOf c past → BringsCues c copies f past → BringsCues c others g past → other_run (twins past) ≡ stream c g past
  other-twins [] r b d = refl
  other-twins (Message m ∷ past) r b d = other-twins past (run-message c m past r) b d
  other-twins (Packet p ∷ past) r b d =
      let rows = here_onto (twins past) (f p (packets_in past)) in
      let run = run-packet c p past r in
      let before = other-twins past run b.2 d.2 in
      other-shared (there_onto rows (g p (packets_in past))) (place_in p past)
      ∙ ap (λ out. onto out (place_in p past)) (other-there rows (g p (packets_in past)) ∙ ap (λ out. onto out (g p (packets_in past))) (other-here (twins past) (f p (packets_in past)) ∙ before))
      ∙ ap (onto (onto (stream c g past) (g p (packets_in past))))
      (place-same p past (listed (Some c.program) (packets_in past)) (tables (Some c.program) p (packets_in past)) (stream c f past) (stream c g past)
      (λ l is. ap (number_on l.pid) (sym (one-twins past))
      ∙ number-same l.pid (twins past) (off-alone c.cue_pid l.pid (λ same. map-pid c (packets_in past) l run.faultless is (sym same)) (twins past) (differ-twins past b.2 d.2))
      ∙ ap (number_on l.pid) before))
      ∙ sym (onto-append (stream c g past) (g p (packets_in past)) (body (cueing c.cue_pid g) (listed (Some c.program) (packets_in past)) p (packets_in past) (tables (Some c.program) p (packets_in past)) (stream c g past)))

  -- ---- their events

  abbrev AgreeHere : List Beside → Type 0
  AgreeHere rows = AgreeReached (high_at (setting_of c filed) (one_run rows)) (events_at (setting_of c filed) (one_run rows)) (events_at (setting_of c filed) (other_run rows))

  agree-here : (p : List ℕ) (past : List Step) → IsRunOf c (Packet p ∷ past) → BringsCues c copies f (Packet p ∷ past) → BringsCues c others g (Packet p ∷ past) → ArmsAt c f p past → ArmsAt c g p past → AgreeHere (twins (Packet p ∷ past))
  agree-here p past r b d arms arm e un reached =
      let one = one-twins (Packet p ∷ past) in
      let other = other-twins (Packet p ∷ past) r b d in
      let top : before (high_of (Some c.program) (p ∷ packets_in past)) e.start ≡ false =
      sym (ap (λ (l : List (List ℕ)). before (high_of (Some c.program) l) e.start) one ∙ ap (λ h. before h e.start) (stream-high c copies f (Packet p ∷ past) r b)) ∙ reached in
      let same = both-ways (arms e un top) (arm e un top) in (
        λ i. subst (λ (l : List (List ℕ)). In e (events_at (setting_of c filed) l)) (sym other) (same.0 (subst (λ (l : List (List ℕ)). In e (events_at (setting_of c filed) l)) one i)),
        λ i. subst (λ (l : List (List ℕ)). In e (events_at (setting_of c filed) l)) (sym one) (same.1 (subst (λ (l : List (List ℕ)). In e (events_at (setting_of c filed) l)) other i)),
      )

  -- at what stands in the place of a packet
  place-along : (p : List ℕ) (past : List Step) (rows : List Beside) (o : Option Listed) (ts : List Table) (out : List (List ℕ)) → listed (Some c.program) (packets_in past) ≡ o
      → ((l : Listed) → o ≡ Some l → AllByRecursion (IsPayloadOn l.pid) (packets_out l.pid out (map (section_out (cueing c.cue_pid f).change) ts)))
      → AgreeHere (shared_onto rows (body (cueing c.cue_pid f) o p (packets_in past) ts out))
      → ((l : Listed) → o ≡ Some l → is_among l.pid (switched_at (setting_of c filed) (one_run (shared_onto rows (body (cueing c.cue_pid f) o p (packets_in past) ts out)))) ≡ false)
      → AgreeAlong (setting_of c filed) rows → AgreeAlong (setting_of c filed) (shared_onto rows (body (cueing c.cue_pid f) o p (packets_in past) ts out))
  place-along p past rows None ts out is carry here apart along = ((λ s. here), along)
  place-along p past rows (Some l) ts out is carry here apart along =
      which (on l.pid p) (packets_out l.pid out (map (section_out (cueing c.cue_pid f).change) ts)) (carry l refl) here (apart l refl)
    where
      all-on : (qs : List (List ℕ)) → AllByRecursion (IsPayloadOn l.pid) qs → AllByRecursion (On l.pid) qs
      all-on [] h = tt
      all-on (q ∷ qs) h = (payload_on-on l.pid q h.0, all-on qs h.1)

      which : (is_map : Bool) (qs : List (List ℕ)) → AllByRecursion (IsPayloadOn l.pid) qs → AgreeHere (shared_onto rows (if is_map then qs else p ∷ []))
          → is_among l.pid (switched_at (setting_of c filed) (one_run (shared_onto rows (if is_map then qs else p ∷ [])))) ≡ false
          → AgreeAlong (setting_of c filed) (shared_onto rows (if is_map then qs else p ∷ []))
      which true qs h here n = quiet-along (setting_of c filed) l.pid rows qs (all-on qs h) n along
      which false qs h here n = ((λ s. here), along)

  agree-twins : (past : List Step) → IsRunOf c past → BringsCues c copies f past → BringsCues c others g past → ArmsAlong c f past → ArmsAlong c g past → AgreeAlong (setting_of c filed) (twins past)
  agree-twins [] r b d arms arm = tt
  agree-twins (Message m ∷ past) r b d arms arm = agree-twins past (run-message c m past r) b d arms arm
  agree-twins (Packet p ∷ past) r b d arms arm =
      let rows = here_onto (twins past) (f p (packets_in past)) in
      let ts = tables (Some c.program) p (packets_in past) in
      place-along p past (there_onto rows (g p (packets_in past))) (listed (Some c.program) (packets_in past)) ts (stream c f past) refl
      (λ l is. turn_carry l.pid (one_past (number_on l.pid (stream c f past))) (map (section_out (cueing c.cue_pid f).change) ts) (listed_below (Some c.program) (packets_in past) l is) (one_past-below (number_on l.pid (stream c f past))))
      (agree-here p past r b d arms.0 arm.0)
      (λ l is. ap (λ (out : List (List ℕ)). is_among l.pid (switched_at (setting_of c filed) out)) (one-twins (Packet p ∷ past))
      ∙ (sound c copies f (Packet p ∷ past) r b filed).apart.pmt l ((reads c copies f (Packet p ∷ past) r b).same_pat ∙ listed_stays (Some c.program) p (packets_in past) l is))
      (along-there (setting_of c filed) rows (g p (packets_in past))
      (along-here (setting_of c filed) (twins past) (f p (packets_in past)) (agree-twins past (run-packet c p past r) b.2 d.2 arms.1 arm.1)))

  -- ---- so they are the same

  pub two-left : (p : List ℕ) (past : List Step) → IsRunOf c (Packet p ∷ past) → BringsCues c copies f (Packet p ∷ past) → BringsCues c others g (Packet p ∷ past)
      → KeepsEnoughOf copies (asked_line c.index (turns_in c.program (Packet p ∷ past))) → KeepsEnoughOf others (asked_line c.index (turns_in c.program (Packet p ∷ past)))
      → SplicedAlike (setting_of c filed) (stream c f (Packet p ∷ past)) (stream c g (Packet p ∷ past))
  two-left p past r b d e h =
      let whole = Packet p ∷ past in
      let one = one-twins whole in
      let other = other-twins whole r b d in
      subst (λ (l : List (List ℕ)). SplicedAlike (setting_of c filed) l (stream c g (Packet p ∷ past))) one
      (subst (λ (l : List (List ℕ)). SplicedAlike (setting_of c filed) (one_run (twins (Packet p ∷ past))) l) other
      (same_events_same_network (setting_of c filed) (twins (Packet p ∷ past))
      (subst (CuesAreApart (setting_of c filed)) (sym one) (stream-apart c copies f (Packet p ∷ past) r b filed))
      (differ-twins (Packet p ∷ past) b d)
      (agree-twins (Packet p ∷ past) r b d (arms-whole c copies f p past r b e) (arms-whole c others g p past r d h))
      (λ x un. let same = both-ways (cue_path_in_packets_at_the_end c copies f p past r b e x un) (cue_path_in_packets_at_the_end c others g p past r d h x un) in (
        λ i. subst (λ (l : List (List ℕ)). In x (events_at (setting_of c filed) l)) (sym other) (same.0 (subst (λ (l : List (List ℕ)). In x (events_at (setting_of c filed) l)) one i)),
        λ i. subst (λ (l : List (List ℕ)). In x (events_at (setting_of c filed) l)) (sym one) (same.1 (subst (λ (l : List (List ℕ)). In x (events_at (setting_of c filed) l)) other i)),
      ))))

pub lost_cues_leave_no_trace : LostCuesLeaveNoTrace
lost_cues_leave_no_trace c filed copies fronts p past r b k =
    let whole = Packet p ∷ past in
    let own = cued_stream_brings c (Packet p ∷ past) r in
    let run = requests_are_a_run c.index (turns_in c.program (Packet p ∷ past)) (run-history c (Packet p ∷ past) r) in
    let all = nothing_lost_is_enough (high_of (Some c.program) (p ∷ packets_in past)) (asked_line c.index (turns_in c.program past)) run in
    subst (λ (l : List (List ℕ)). SplicedAlike (setting_of c filed) (stream c fronts (Packet p ∷ past)) l) own.0
    (two-left c filed copies (λ t. 1) fronts (own_fronts c (Packet p ∷ past)) p past r b own.1 k all)

pub thinned_cues_leave_no_trace : ThinnedCuesLeaveNoTrace
thinned_cues_leave_no_trace c filed copies fronts p past r t k =
    let whole = Packet p ∷ past in
    let g = thinned_brings c copies fronts whole r t in
    lost_cues_leave_no_trace c filed g.0 fronts p past r g.2 (given_keeps_enough c copies g.0 whole r g.3 k)

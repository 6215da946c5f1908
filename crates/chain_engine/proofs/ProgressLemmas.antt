-- What a run answers comes from its network's bytes, unless a device stopped it.
use Rattle.std.specs.Prelude.{IfSome, Err}
use Rattle.std.proofs.Common.{◌≡◌, ℕ, List, [], ◌∷◌, Bool, true, false, ◌⊎◌, inl, inr, Option, None, Some, refl, sym, subst}
use Rattle.ts_packet.specs.Sources.{SourceCounts}
use Rattle.ts_packet.specs.Transfers.{WentWell, LastMovedNone}
use Rattle.ts_packet.specs.Runs.{Seen}
use Rattle.packet_runs.specs.Stops as stops
use Rattle.ts_packet.specs.FirstFault.{OfInput, SaysBy, first_fault, before_fault}
use Rattle.ts_packet.specs.declared.tally.Tally.{Tally}
use Rattle.ts_packet.specs.declared.reader.ReadFault.TheVariants as read_faults
use Rattle.ts_packet.specs.declared.sink.PutFault.{PutFault}
use Rattle.ts_packet.proofs.CountLemmas.{well-refl, by_end}
use Rattle.psi_tables.specs.declared.config.Config.{Config}
use Rattle.psi_tables.specs.declared.network.FeedFault.TheVariants.{Network, Sink, Failed}
use Rattle.program_follower.specs.Purposes.{reading_cues, writing_cues}
use Rattle.splice_plans.specs.declared.report.SwitchReport.{SwitchReport}
use Rattle.scte104_codec.specs.declared.reply.Reply.{Reply}
use Rattle.ad_library.specs.Advertisements.{Advertisement}
use Rattle.chain_engine.specs.Automation.{Take}
use Rattle.chain_engine.specs.Stops.{first_run_fault, run_cause}
use Rattle.chain_engine.specs.Progress.{DevicesWentWell, IsFirstIn, Progresses}
use Rattle.chain_engine.specs.Runs.{InjectsAll, InjectLeaves, OutputBlamed}
use Rattle.chain_engine.specs.Splices.{SplicesAll, SpliceLeaves, NetworkBlamedToEnd}
use Rattle.chain_engine.specs.ChainRuns.{RunsAll, ChainLeaves}
use Rattle.chain_engine.specs.declared.hearing.SessionEnd.{SessionEnd}
use Rattle.chain_engine.specs.declared.report.Report.{Report}
use Rattle.chain_engine.specs.declared.faults.RunFault.{RunFault}
use Rattle.chain_engine.specs.declared.faults.RunFault.TheVariants.{Read, Feed, SharedPid}

-- ---- what was read

to_end : (before ended : Bool) (a b : Tally) → SourceCounts false before ended a b → WentWell a b ⊎ LastMovedNone a b
to_end false ended a b h = inr h
to_end true ended a b h = inl (subst (λ w. WentWell a w) (sym h) (well-refl a))

-- ---- the fault, by a test that finds what stops a run at a packet

abbrev pub StopsSo : (Seen → Option RunFault) → RunFault → Option (List ℕ) → (List ℕ → List (List ℕ) → List (List ℕ) → Type 0) → Type 0
StopsSo test fault input leaves = stops.StopsBy Read test run_cause fault input leaves

some_bytes : (test : Seen → Option RunFault) (fault : RunFault) (input : Option (List ℕ)) (leaves : List ℕ → List (List ℕ) → List (List ℕ) → Type 0) → StopsSo test fault input leaves
    → (bs : List ℕ) × stops.Stopped Read test run_cause fault bs leaves
some_bytes test fault None leaves h = h
some_bytes test fault (Some bs) leaves h = (bs, h)

first_in : (test : Seen → Option RunFault) (fault : RunFault) (input : Option (List ℕ)) (leaves : List ℕ → List (List ℕ) → List (List ℕ) → Type 0) → run_cause fault ≡ OfInput → StopsSo test fault input leaves
    → IsFirstIn (first_fault Read test) input (Some fault)
first_in test fault None leaves e h = e
first_in test fault (Some bs) leaves e h = sym (subst (λ c. SaysBy c ((first_fault Read test bs ≡ Some fault) × (before_fault Read test bs ≡ h.passed))) e h.says).0

none_in : (first : List ℕ → Option RunFault) (input : Option (List ℕ)) → IfSome input (λ bs. first bs ≡ None) → IsFirstIn first input None
none_in first None h = tt
none_in first (Some bs) h = sym h

pub end_progresses : (test : Seen → Option RunFault) (input : Option (List ℕ)) (before ended : Bool) (read read' written written' : Tally) → IfSome input (λ bs. first_fault Read test bs ≡ None) → SourceCounts false before ended read read' → WentWell written written'
    → DevicesWentWell read read' written written' × IsFirstIn (first_fault Read test) input None
end_progresses test input before ended read read' written written' none r w = ((to_end before ended read read' r, w), none_in (first_fault Read test) input none)

module _ (test : Seen → Option RunFault) (input : Option (List ℕ)) (ran_out : Type 0) (before ended : Bool) (read read' written written' : Tally) (full : Bool) (fails : List (List ℕ) → List ℕ → PutFault → Type 0) (unsent : List (List ℕ) → PutFault → Type 0) where
  -- whatever the run would have answered where it had gone through
  abbrev pub Says : RunFault → Type 0
  Says fault = Progresses {R = Unit {0}} (first_fault Read test) input ran_out read read' written written' full fails unsent (Err fault)

  pub stop_progresses : (leaves : RunFault → List ℕ → List (List ℕ) → List (List ℕ) → Type 0)
      → ((fault : PutFault) (bs : List ℕ) (passed rest : List (List ℕ)) → leaves (Feed (Sink fault)) bs passed rest
      → ((ps : List (List ℕ)) × (p : List ℕ) × fails ps p fault) ⊎ ((ps : List (List ℕ)) × unsent ps fault))
      → (fault : RunFault) → StopsSo test fault input (leaves fault) → NetworkBlamedToEnd fault before ended read read' → OutputBlamed fault written written' full → (fault ≡ Read read_faults.Turns → ran_out) → Says fault
  stop_progresses leaves failed (Read read_faults.Truncated) s r w t = inl ((r, w), first_in test (Read read_faults.Truncated) input (leaves (Read read_faults.Truncated)) refl s)
  stop_progresses leaves failed (Read read_faults.SyncLost) s r w t = inl ((r, w), first_in test (Read read_faults.SyncLost) input (leaves (Read read_faults.SyncLost)) refl s)
  stop_progresses leaves failed (Read read_faults.BadAdaptation) s r w t = inl ((r, w), first_in test (Read read_faults.BadAdaptation) input (leaves (Read read_faults.BadAdaptation)) refl s)
  stop_progresses leaves failed (Read read_faults.Io) s r w t = inr r
  stop_progresses leaves failed (Read read_faults.Turns) s r w t = inr (t refl)
  stop_progresses leaves failed (Read read_faults.Failed) s r w t = absurd r
  stop_progresses leaves failed (Feed (Network f)) s r w t = inl ((by_end ended read read' r, w), first_in test (Feed (Network f)) input (leaves (Feed (Network f))) refl s)
  stop_progresses leaves failed (Feed (Sink f)) s r w t =
      let (bs, h) = some_bytes test (Feed (Sink f)) input (leaves (Feed (Sink f))) s in
      inr (w, failed f bs h.passed h.rest h.left)
  stop_progresses leaves failed (Feed Failed) s r w t =
      let (bs, h) = some_bytes test (Feed Failed) input (leaves (Feed Failed)) s in
      absurd h.says
  stop_progresses leaves failed SharedPid s r w t = inl ((by_end ended read read' r, w), first_in test SharedPid input (leaves SharedPid) refl s)

-- ---- how the sink failed

module _ (c : Config) (is_out : List (List ℕ) → Type 0) (fails : List (List ℕ) → List ℕ → PutFault → Type 0) (unsent : List (List ℕ) → PutFault → Type 0) (fault : PutFault) (bs : List ℕ)
    (passed : List (List ℕ)) where
  abbrev pub SinkFails : Type 0
  SinkFails = ((ps : List (List ℕ)) × (p : List ℕ) × fails ps p fault) ⊎ ((ps : List (List ℕ)) × unsent ps fault)

  pub inject_fails : (exchanged : Option SessionEnd → List Take → List Reply → Type 0) (rest : List (List ℕ)) → InjectLeaves c (Feed (Sink fault)) is_out fails unsent exchanged bs passed rest → SinkFails
  inject_fails exchanged rest (inl h) = let (p, more, e, front) = h.out in inl (_, _, front.fault)
  inject_fails exchanged rest (inr h) = inr (_, h.out)

  pub splice_fails : (filed : ℕ → Option Advertisement) (rest : List (List ℕ)) → SpliceLeaves c filed (Feed (Sink fault)) is_out fails unsent bs passed rest → SinkFails
  splice_fails filed rest (inr h) = inr (_, h)
  splice_fails filed [] (inl h) = inl (_, _, h.1.fault)
  splice_fails filed (p ∷ more) (inl h) = inl (_, _, h.fault)

  pub chain_fails : (filed : ℕ → Option Advertisement) (exchanged : Option SessionEnd → List Take → List Reply → Type 0) (rest : List (List ℕ)) → ChainLeaves c filed (Feed (Sink fault)) is_out fails unsent exchanged bs passed rest → SinkFails
  chain_fails filed exchanged rest (inr h) = inr (_, h.out)
  chain_fails filed exchanged [] (inl h) = inl (_, _, h.out.1.fault)
  chain_fails filed exchanged (p ∷ more) (inl h) = inl (_, _, h.out.fault)

-- ---- the network had no fault

pub inject_sound : (c : Config) (input : Option (List ℕ)) (is_out : List (List ℕ) → Type 0) (exchanged : Option SessionEnd → List Take → List Reply → Type 0) (report : Report) → InjectsAll c input is_out exchanged report
    → IfSome input (λ bs. first_run_fault (writing_cues c) bs ≡ None)
inject_sound c None is_out exchanged report h = tt
inject_sound c (Some bs) is_out exchanged report h = h.sound

pub splice_sound : (c : Config) (filed : ℕ → Option Advertisement) (input : Option (List ℕ)) (is_out : List (List ℕ) → Type 0) (report : SwitchReport) → SplicesAll c filed input is_out report
    → IfSome input (λ bs. first_run_fault (reading_cues c) bs ≡ None)
splice_sound c filed None is_out report h = tt
splice_sound c filed (Some bs) is_out report h = h.sound

pub chain_sound : (c : Config) (filed : ℕ → Option Advertisement) (input : Option (List ℕ)) (is_out : List (List ℕ) → Type 0) (exchanged : Option SessionEnd → List Take → List Reply → Type 0) (report : Report)
    → RunsAll c filed input is_out exchanged report → IfSome input (λ bs. first_run_fault (writing_cues c) bs ≡ None)
chain_sound c filed None is_out exchanged report h = tt
chain_sound c filed (Some bs) is_out exchanged report h = h.sound

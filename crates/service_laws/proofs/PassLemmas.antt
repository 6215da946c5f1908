-- What a chain sends for a packet: nothing for the cues before it, and for one of no PID of its service the packet itself.
use Rattle.std.proofs.Common.{◌≡◌, ℕ, List, [], ◌∷◌, ◌++◌, true, false, refl, sym, ap, ◌∙◌, Option, None, Some, append_assoc, arith}
use Rattle.std.specs.Prelude.{option_map}
use Rattle.std.specs.List.{AllByRecursion}
use Rattle.std.proofs.lemmas.Bool.{or_parts}
use Rattle.ts_packet.specs.Fields.{on, on_one}
use Rattle.ts_packet.specs.Runs.{onto}
use Rattle.ts_packet.proofs.RunLemmas.{onto-append}
use Rattle.psi_tables.specs.declared.config.Config.{Config}
use Rattle.program_follower.specs.declared.purpose.Listed.{Listed}
use Rattle.program_follower.specs.Program.{Table, listed, program_in, program_of, pids_of, known_pids}
use Rattle.program_follower.specs.Following.{on_map}
use Rattle.program_follower.specs.Faults.{network_fault, first_fault}
use Rattle.program_follower.specs.Purposes.{reading_cues, writing_cues}
use Rattle.program_follower.proofs.OptionLemmas.{none_both}
use Rattle.program_laws.specs.Writing.{body}
use Rattle.program_laws.specs.Cued.{On, cueing, CuedReads}
use Rattle.program_laws.proofs.FaultLemmas.{no_cue_packets}
use Rattle.program_laws.proofs.WritingLemmas.{off_other}
use Rattle.injector.specs.Steps.{Step, packets_in, cue_packets, body_at, cued}
use Rattle.injector.proofs.CuedLemmas.{cues-on, cued-reads-again}
use Rattle.cued_laws.proofs.CuedLemmas.{injected_is_faultless}
use Rattle.cued_laws.proofs.PacketLemmas.{pid_parts, cue_of_none, cue_sound, Quiet, quiet}
use Rattle.ad_library.specs.Advertisements.{Advertisement}
use Rattle.splice_plans.specs.Adverts.{setting_of}
use Rattle.splice_plans.specs.Switching.{Setting, switched_at, switched_past, switched_at_packet}
use Rattle.splice_switch.proofs.OutLemmas.{other-out, cue-out}
use Rattle.chain_engine.specs.Passing.{IsSoundNetwork, switched_over, chain_at}
use Rattle.service_laws.specs.Laws.{OthersPacketsPass}
use Rattle.service_laws.proofs.PidLemmas.{known-on}

-- ---- packets in turn

-- for packets in two parts a switch sends what it sends for each part, one behind the other
pub over-append : (k : Setting) (past xs ys : List (List ℕ)) → switched_over k past (xs ++ ys) ≡ switched_over k past xs ++ switched_over k (onto past xs) ys
over-append k past [] ys = refl
over-append k past (x ∷ xs) ys =
    ap (λ l. switched_at_packet k x past ++ l) (over-append k (x ∷ past) xs ys)
    ∙ sym (append_assoc (switched_at_packet k x past) (switched_over k (x ∷ past) xs) (switched_over k (onto (x ∷ past) xs) ys))

-- what is out behind them is what was out, and what it sends for them
pub out-onto : (k : Setting) (past qs : List (List ℕ)) → switched_past k (onto past qs) ≡ onto (switched_past k past) (switched_over k past qs)
out-onto k past [] = refl
out-onto k past (q ∷ qs) = out-onto k (q ∷ past) qs ∙ sym (onto-append (switched_past k past) (switched_at_packet k q past) (switched_over k (q ∷ past) qs))

-- ---- the cues before a packet

-- the PID of the cues is not that of the PAT
pub not-pat : (c : Config) → c.cue_pid ≡ 0 → ⊥
not-pat c e = let above = c.above_reserved in absurd (omega (arith, e, above))

-- a packet that is not on the PID of the map, if there is one
off-map : (o : Option Listed) (q : List ℕ) → ((l : Listed) → o ≡ Some l → on l.pid q ≡ false) → on_map o q ≡ false
off-map None q h = refl
off-map (Some l) q h = h l refl

module _ (c : Config) (filed : ℕ → Option Advertisement) where
  -- a switch makes nothing of a packet on the PID of its cues
  cue-gone : (q : List ℕ) (past : List (List ℕ)) → first_fault (reading_cues c) past ≡ None → on c.cue_pid q ≡ true → switched_at_packet (setting_of c filed) q past ≡ []
  cue-gone q past ok y =
      cue-out (setting_of c filed) q past
      (off-map (listed (Some c.program) past) q (λ l known. off_other c.cue_pid l.pid q (pid_parts (Some c.program) c.cue_pid (not-pat c) past l ok known).1 y))
      y (cue_of_none (Some c.program) c.cue_pid (not-pat c) past ok q y)

  -- nor of several
  pub cues-gone : (qs past : List (List ℕ)) → first_fault (reading_cues c) past ≡ None → AllByRecursion (On c.cue_pid) qs → switched_over (setting_of c filed) past qs ≡ []
  cues-gone [] past ok all = refl
  cues-gone (q ∷ qs) past ok all =
      ap (λ l. l ++ switched_over (setting_of c filed) (q ∷ past) qs) (cue-gone q past ok all.0)
      ∙ cues-gone qs (q ∷ past) (cue_sound (Some c.program) c.cue_pid (not-pat c) past ok q all.0) all.1

-- ---- the cued stream

-- it is without a fault for those who read its cues, and has the network's PAT and program
module _ (c : Config) (steps : List Step) (s : IsSoundNetwork c (packets_in steps)) where
  -- those who read its cues find no fault in it
  pub cued-sound : first_fault (reading_cues c) (cued c steps) ≡ None
  cued-sound = injected_is_faultless c steps s.sound s.bytes

  -- it has the network's PAT, program and units
  pub cued-read : CuedReads (Some c.program) c.cue_pid (cued c steps) (packets_in steps) (pids_of (program_of (Some c.program) (packets_in steps)))
  cued-read = cued-reads-again c steps s.sound s.bytes

-- a front of a network without a fault has none
pub sound-first : (c : Config) (p : List ℕ) (past : List (List ℕ)) → IsSoundNetwork c (p ∷ past) → IsSoundNetwork c past
sound-first c p past s = record { bytes = s.bytes.1; sound = (none_both (first_fault (writing_cues c) past) (network_fault (writing_cues c) p past) s.sound).0 }

-- ---- one packet of a network

-- a packet that is not on the PID of the map goes through an injector as it is
pub body-off : (cue : ℕ) (o : Option Listed) (p : List ℕ) (past : List (List ℕ)) (ts : List Table) (out : List (List ℕ)) → on_map o p ≡ false → body (cueing cue (λ q qs. [])) o p past ts out ≡ p ∷ []
body-off cue None p past ts out h = refl
body-off cue (Some l) p past ts out h = simp h refl

module _ (c : Config) (filed : ℕ → Option Advertisement) (p : List ℕ) (steps : List Step) (s : IsSoundNetwork c (p ∷ packets_in steps)) where
  -- what a switch has been given before the packet itself: the cued stream, and the cues before the packet
  abbrev cues : List (List ℕ)
  cues = cue_packets c p steps (cued c steps)

  -- and that with the cues behind it
  abbrev behind_cues : List (List ℕ)
  behind_cues = onto (cued c steps) (cue_packets c p steps (cued c steps))

  -- the network before the packet has no fault
  before : IsSoundNetwork c (packets_in steps)
  before = sound-first c p (packets_in steps) s

  -- the cues leave the PAT and the program as they were
  still : Quiet (Some c.program) c.cue_pid (not-pat c) (cued c steps) (onto (cued c steps) (cue_packets c p steps (cued c steps))) []
  still = quiet (Some c.program) c.cue_pid (not-pat c) [] (λ q y. refl) (cue_packets c p steps (cued c steps)) (cued c steps) (cued-sound c steps before) (cues-on c p steps (cued c steps))

  -- behind the cues too it has the network's PAT and program
  pub same-listed : listed (Some c.program) (onto (cued c steps) (cue_packets c p steps (cued c steps))) ≡ listed (Some c.program) (packets_in steps)
  same-listed = still.listed ∙ (cued-read c steps before).same_pat

  -- and the network's program
  pub same-program : program_of (Some c.program) (onto (cued c steps) (cue_packets c p steps (cued c steps))) ≡ program_of (Some c.program) (packets_in steps)
  same-program = ap (option_map program_in) still.known ∙ (cued-read c steps before).program

  -- the packet is no cue
  pub no-cue : on c.cue_pid p ≡ false
  no-cue = (no_cue_packets (writing_cues c) c.cue_pid (p ∷ packets_in steps) refl refl s.sound).0

  -- for the cues nothing goes out
  pub chain-is : chain_at c filed p steps
      ≡ switched_over (setting_of c filed) (onto (cued c steps) (cue_packets c p steps (cued c steps))) (body_at c p (packets_in steps) (onto (cued c steps) (cue_packets c p steps (cued c steps))))
  chain-is =
      let k = setting_of c filed in
      let sent = body_at c p (packets_in steps) behind_cues in
      over-append k (cued c steps) cues sent
      ∙ ap (λ l. l ++ switched_over k behind_cues sent) (cues-gone c filed cues (cued c steps) (cued-sound c steps before) (cues-on c p steps (cued c steps)))

  -- for a packet of no PID of the service it goes out itself
  pub passes : on_one (known_pids (Some c.program) (packets_in steps)) p ≡ false → chain_at c filed p steps ≡ p ∷ []
  passes off =
      let k = setting_of c filed in
      let net = packets_in steps in
      let r = or_parts (on_map (listed (Some c.program) net) p) (on_one (pids_of (program_of (Some c.program) net)) p) (sym (known-on c.program net p) ∙ off) in
      let map : on_map (listed (Some c.program) behind_cues) p ≡ false = ap (λ o. on_map o p) same-listed ∙ r.0 in
      let other : on_one (switched_at k behind_cues) p ≡ false = ap (λ o. on_one (pids_of o) p) same-program ∙ r.1 in
      chain-is
      ∙ ap (switched_over k behind_cues) (body-off c.cue_pid (listed (Some c.program) net) p net _ behind_cues r.0)
      ∙ ap (λ l. l ++ []) (other-out k p behind_cues map no-cue other)

-- for a packet of no PID of a service its chain sends exactly that packet
pub others_packets_pass : OthersPacketsPass
others_packets_pass c filed p steps s off = passes c filed p steps s off

-- A network without a fault for several services has none for each of them, and none of its packets makes two of them share a PID.
use Rattle.std.proofs.Common.{◌≡◌, ℕ, Bool, true, false, if◌then◌else◌, List, [], ◌∷◌, reverse, Option, None, Some, refl, ap, ◌∙◌}
use Rattle.std.specs.Prelude.{option_map}
use Rattle.std.specs.List.{AllByRecursion}
use Rattle.ts_packet.specs.Packets.{packets_of, last_part, packet_fault}
use Rattle.ts_packet.specs.Runs.{Seen, seen_after, onto}
use Rattle.ts_packet.specs.FirstFault.{or_then, first_of, named, fault_of, fault_behind, first_fault}
use Rattle.psi_tables.specs.declared.config.Config.{Config}
use Rattle.program_follower.specs.Faults.{network_fault}
use Rattle.program_follower.specs.FirstFault.{network_test}
use Rattle.program_follower.specs.Purposes.{writing_cues}
use Rattle.program_follower.proofs.OptionLemmas.{none_both}
use Rattle.program_laws.proofs.FirstFaultLemmas.{or_none, no_test}
use Rattle.program_laws.proofs.FaultLemmas.{Each-map}
use Rattle.cued_laws.specs.Laws.{ArePacketsOfBytes}
use Rattle.chain_engine.specs.Passing.{IsSoundNetwork}
use Rattle.chain_engine.specs.Stops.{as_run_fault, first_run_fault}
use Rattle.chain_engine.specs.declared.faults.RunFault.{RunFault}
use Rattle.chain_engine.specs.declared.faults.RunFault.TheVariants.{Read, SharedPid}
use Rattle.service_laws.specs.Services.{ServiceTerms, configs_of}
use Rattle.service_laws.specs.Faults.{services_fault, services_test, share_a_pid, first_services_fault}
use Rattle.chain_laws.proofs.HeadlineLemmas.{faultless}
use Rattle.chain_services.proofs.BeginLemmas.{none_share}
use Rattle.chain_services.specs.Isolation.{AreApart}

-- ---- by one test and another

module _ (f g : Seen → Option RunFault) (so : (s : Seen) → f s ≡ None → g s ≡ None) where
  none_of : (ss : List Seen) → first_of (fault_of Read f) ss ≡ None → first_of (fault_of Read g) ss ≡ None
  none_of [] h = refl
  none_of (s ∷ ss) h =
      let r = or_none (fault_of Read f s) (first_of (fault_of Read f) ss) h in
      let q = or_none (named Read (packet_fault s.packet)) (f s) r.0 in
      let here : fault_of Read g s ≡ None = ap (λ o. or_then o (g s)) q.0 ∙ so s q.1 in
      ap (λ o. or_then o (first_of (fault_of Read g) ss)) here ∙ none_of ss r.1

  -- where the first finds no fault, and says so of what the second finds, neither does the second
  none_by_other : (bs : List ℕ) → first_fault Read f bs ≡ None → first_fault Read g bs ≡ None
  none_by_other bs h =
      let r = or_none (first_of (fault_of Read f) (seen_after [] (packets_of bs))) (fault_behind Read (last_part bs)) h in
      ap (λ o. or_then o (fault_behind Read (last_part bs))) (none_of (seen_after [] (packets_of bs)) r.0) ∙ r.1

-- ---- each service

module _ (f : Seen → Option RunFault) (bs : List ℕ) (h : first_fault Read f bs ≡ None) where
  each_sound : (ts : List ServiceTerms) → ((s : Seen) → f s ≡ None → services_fault (configs_of ts) s.packet s.past ≡ None)
      → AllByRecursion (λ (t : ServiceTerms). first_run_fault (writing_cues t.config) bs ≡ None) ts
  each_sound [] so = tt
  each_sound (t ∷ ts) so =
      let parts = λ (s : Seen) (e : f s ≡ None). none_both (network_fault (writing_cues t.config) s.packet s.past) (services_fault (configs_of ts) s.packet s.past) (so s e) in (
        none_by_other f (network_test as_run_fault (writing_cues t.config)) (λ s e. ap (option_map as_run_fault) (parts s e).0) bs h,
        each_sound ts (λ s e. (parts s e).1),
      )

-- ---- no two share a PID

not_shared : (b : Bool) → (if b then Some SharedPid else None) ≡ None → b ≡ false
not_shared true e = absurd (cc)
not_shared false e = refl

module _ (cs : List Config) where
  -- what the test says where it finds nothing
  parts_of_test : (s : Seen) → services_test cs s ≡ None → (services_fault cs s.packet s.past ≡ None) × (share_a_pid cs (s.packet ∷ s.past) ≡ false)
  parts_of_test s e =
      let r = none_both (option_map as_run_fault (services_fault cs s.packet s.past)) (if share_a_pid cs (s.packet ∷ s.past) then Some SharedPid else None) e in
      (no_test as_run_fault (services_fault cs s.packet s.past) r.0, not_shared (share_a_pid cs (s.packet ∷ s.past)) r.1)

  apart_by : (past ps : List (List ℕ)) → first_of (fault_of Read (services_test cs)) (seen_after past ps) ≡ None → share_a_pid cs past ≡ false → share_a_pid cs (onto past ps) ≡ false
  apart_by past [] h k = k
  apart_by past (p ∷ ps) h k =
      let s : Seen = record { packet = p; past = past } in
      let r = or_none (fault_of Read (services_test cs) s) (first_of (fault_of Read (services_test cs)) (seen_after (p ∷ past) ps)) h in
      let q = or_none (named Read (packet_fault p)) (services_test cs s) r.0 in
      apart_by (p ∷ past) ps r.1 (parts_of_test s q.1).1

-- ---- all of it

pub are_apart : (ts : List ServiceTerms) (bs : List ℕ) → first_services_fault (configs_of ts) bs ≡ None → AreApart ts bs
are_apart ts bs h =
    let cs = configs_of ts in
    record {
      first = h;
      each = each_sound (services_test cs) bs h ts (λ s e. (parts_of_test cs s e).0);
      pids = apart_by cs [] (packets_of bs) (or_none (first_of (fault_of Read (services_test cs)) (seen_after [] (packets_of bs))) (fault_behind Read (last_part bs)) h).0 (none_share cs);
    }

-- so the network is sound for each of them
pub all_sound : (ts : List ServiceTerms) (bs : List ℕ) → AreApart ts bs → ArePacketsOfBytes (reverse (packets_of bs)) → AllByRecursion (λ (t : ServiceTerms). IsSoundNetwork t.config (reverse (packets_of bs))) ts
all_sound ts bs a bytes =
    Each-map (λ (t : ServiceTerms). first_run_fault (writing_cues t.config) bs ≡ None) (λ (t : ServiceTerms). IsSoundNetwork t.config (reverse (packets_of bs)))
    (λ t none. record { bytes = bytes; sound = faultless t.config bs none }) ts a.each

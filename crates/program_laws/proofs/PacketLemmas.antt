-- The packets of sections: each has payload and the PID, and the next counter is not the last one's.
use Rattle.std.proofs.Common.{◌≡◌, ℕ, ◌+◌, ◌%◌, ◌<◌, List, [], ◌∷◌, false, not, ◌&&◌, Option, Some, None, refl, ap, ◌∙◌, arith}
use Rattle.std.specs.List.{AllByRecursion}
use Rattle.ts_packet.specs.declared.follower.Last.{Last}
use Rattle.ts_packet.specs.Fields.{number, alike}
use Rattle.ts_packet.specs.Duplicates.{repeats, last_of, repeats_last}
use Rattle.ts_packet.specs.Numbering.{one_past}
use Rattle.ts_packet.proofs.FieldLemmas.{number-below, payload_on-on, off_payload}
use Rattle.psi_section.proofs.ReadBackLemmas.{IsPayloadOn, first_number, different}
use Rattle.ts_packet.proofs.HistoryLemmas.{walk_is_last}
use Rattle.psi_section.specs.Packetising.{first_packet}
use Rattle.program_laws.specs.Writing.{number_on, Off}
use Rattle.ts_packet.specs.Runs.{onto}

-- ---- the last counter

-- the last payload packet that is read is the last packet that is out
abbrev pub Meets : ℕ → List (List ℕ) → Option Last → Type 0
Meets pid out None = Unit {0}
Meets pid out (Some l) = number_on pid out ≡ Some (number l.packet)

pub one_past-below : (o : Option ℕ) → one_past o < 16
one_past-below None = omega arith
one_past-below (Some n) = omega arith

no_step : (a : ℕ) → a < 16 → a ≡ (a + 1) % 16 → ⊥
no_step a h e = omega arith

fresh_by : (pid : ℕ) (out : List (List ℕ)) (s : List ℕ) (last : Option Last) → pid < 8192 → Meets pid out last → repeats_last (first_packet pid (one_past (number_on pid out)) s) last ≡ false
fresh_by pid out s None pb h = refl
fresh_by pid out s (Some l) pb h =
    let n = one_past (number_on pid out) in
    let k : number (first_packet pid n s) ≡ n = first_number pid n s pb (one_past-below (number_on pid out)) in
    let m : n ≡ (number l.packet + 1) % 16 = ap one_past h in
    let d : alike l.packet (first_packet pid n s) ≡ false = different l.packet (first_packet pid n s) (λ e. no_step (number l.packet) (number-below l.packet) (e ∙ k ∙ m)) in
    ap (λ x. x && not l.is_repeat) d

pub fresh : (pid : ℕ) (out since : List (List ℕ)) → pid < 8192 → Meets pid out (last_of pid since) → (s : List ℕ) → repeats pid (first_packet pid (one_past (number_on pid out)) s) since ≡ false
fresh pid out since pb h s = walk_is_last pid (first_packet pid (one_past (number_on pid out)) s) since ∙ fresh_by pid out s (last_of pid since) pb h

moved : (pid : ℕ) (q : List ℕ) (out : List (List ℕ)) (last : Option Last) → number_on pid (q ∷ out) ≡ number_on pid out → Meets pid out last → Meets pid (q ∷ out) last
moved pid q out None f m = tt
moved pid q out (Some l) f m = f ∙ m

meets_off : (pid : ℕ) (q : List ℕ) (out since : List (List ℕ)) → Off pid q → Meets pid out (last_of pid since) → Meets pid (q ∷ out) (last_of pid (q ∷ since))
meets_off pid q out since h m =
    let n = off_payload pid q h in
    let e : last_of pid (q ∷ since) ≡ last_of pid since = simp n in
    let f : number_on pid (q ∷ out) ≡ number_on pid out = simp h in
    rw e (moved pid q out (last_of pid since) f m)

meets_on : (pid : ℕ) (q : List ℕ) (out since : List (List ℕ)) → IsPayloadOn pid q → Meets pid (q ∷ out) (last_of pid (q ∷ since))
meets_on pid q out since h =
    let k = payload_on-on pid q h in
    let e : last_of pid (q ∷ since) ≡ Some (record { packet = q; is_repeat = repeats pid q since }) = simp h in
    rw e (let f : number_on pid (q ∷ out) ≡ Some (number q) = simp k in f)

pub meets_others : (pid : ℕ) (qs out since : List (List ℕ)) → AllByRecursion (Off pid) qs → Meets pid out (last_of pid since) → Meets pid (onto out qs) (last_of pid (onto since qs))
meets_others pid [] out since h m = m
meets_others pid (q ∷ qs) out since h m = meets_others pid qs (q ∷ out) (q ∷ since) h.1 (meets_off pid q out since h.0 m)

pub meets_own : (pid : ℕ) (qs out since : List (List ℕ)) → AllByRecursion (IsPayloadOn pid) qs → Meets pid out (last_of pid since) → Meets pid (onto out qs) (last_of pid (onto since qs))
meets_own pid [] out since h m = m
meets_own pid (q ∷ qs) out since h m = meets_own pid qs (q ∷ out) (q ∷ since) h.1 (meets_on pid q out since h.0)

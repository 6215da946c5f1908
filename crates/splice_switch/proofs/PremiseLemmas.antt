-- What a packet of a network without fault is to the switch.
use Rattle.std.proofs.Common.{◌≡◌, ℕ, suc, ◌≤◌, ◌<◌, ◌==◌, List, [], ◌∷◌, length, true, false, ◌||◌, if◌then◌else◌, refl, sym, ap, subst, ◌∙◌, arith, add-one}
use Rattle.std.specs.Prelude.{Option, None, Some, option_map, is_some, slice_get, nat_lt}
use Rattle.std.specs.Option.{option_or}
use Rattle.std.proofs.lemmas.Bool.{true≢false, or_from, or_parts}
use Rattle.std.proofs.lemmas.Bool.Decides.{nat_tests}
use Rattle.std.proofs.lemmas.List.{length-map}
use Rattle.ts_packet.specs.Fields.{on, on_one, is_among}
use Rattle.ts_packet.proofs.Cases.{by_test, test-same, test-turned}
use Rattle.unit_stream.specs.declared.clock.Begun.{Begun}
use Rattle.unit_stream.specs.Times.{begins, begins_one, high, stamp}
use Rattle.unit_stream.specs.Clocks.{Tells}
use Rattle.unit_stream.specs.Faults.{unit_fault}
use Rattle.psi_tables.specs.declared.config.Config.{Config}
use Rattle.psi_tables.specs.declared.stream.Stream.{Stream as ListedStream}
use Rattle.psi_tables.specs.ProgramMap.{ProgramMap, streams_of}
use Rattle.psi_tables.specs.Streams.{switched_of}
use Rattle.program_follower.specs.declared.purpose.Purpose.{Purpose}
use Rattle.program_follower.specs.declared.purpose.Listed.{Listed}
use Rattle.program_follower.specs.declared.starts.StartPacket.{StartPacket}
use Rattle.program_follower.specs.declared.starts.StartPacket.TheVariants.{Start, NoStart}
use Rattle.program_follower.specs.declared.start_follower.StartPlace.TheVariants as places
use Rattle.program_follower.specs.Purposes.{reading_cues, cues_read_on}
use Rattle.program_follower.specs.Program.{listed, all_tables, known_map, behind_head, Program, program_in, program_of, pids_of}
use Rattle.program_follower.specs.Faults.{network_fault, first_fault, cue_fault, pats_fault_at, maps_fault_at, unit_fault_at, is_pid, pmt_pid_fault, if_bad}
use Rattle.psi_tables.specs.declared.network.NetworkFault.TheVariants.{CuePidUsed, BadPids}
use Rattle.program_follower.specs.Following.{IsStartPlace, on_map, streams_of_program}
use Rattle.program_follower.specs.Streaming.{first_on, next_place}
use Rattle.program_follower.proofs.OptionLemmas.{none_both}
use Rattle.program_follower.proofs.StreamLemmas.{first_is_on, first_within, first_of, none_of, one_of, begins_is, begins_needs, some_is}
use Rattle.pes_time.specs.Line.{ring_of}
use Rattle.program_laws.proofs.HeadLemmas.{known_stays}
use Rattle.program_laws.proofs.FaultLemmas.{all_sound, pid_good, not_if_bad}
use Rattle.ad_library.specs.Advertisements.{Advertisement}
use Rattle.splice_plans.specs.Switching.{Setting, switched_at, streams_at, high_at}
use Rattle.splice_plans.specs.Adverts.{setting_of}
use Rattle.splice_plans.proofs.AdvertLemmas.{libraries_are_steady}
use Rattle.splice_plans.specs.Known.{AreSeparate, behind_at}
use Rattle.switch_laws.proofs.FaultlessLemmas.{faultless_is_sound, first-sound, unlisted}
use Rattle.known_laws.specs.Laws.{AreFaultless}
use Rattle.splice_playing.specs.Relations.{IsCueOf, BeginsIn, IsPacketOf, EndsWith}
use Rattle.splice_playing.proofs.PacketLemmas.{behind-by, streams-stay}
use Rattle.ts_packet.proofs.FieldLemmas.{pid_is}
use Rattle.program_follower.proofs.FollowLemmas.{no_unit_fault}

-- ---- the streams of a network without fault

not-below : (n : ℕ) → nat_lt 8 n ≡ false → n ≤ 8
not-below n h = grind (arith, nat_tests, h)

module _ (k : Setting) (past : List (List ℕ)) (h : first_fault (cues_read_on (Some k.program) k.cue_pid) past ≡ None) where
  few-by : (o : Option ProgramMap) → known_map (Some k.program) past ≡ o → length (switched_at k past) ≤ 8
  few-by None known = let n : length (switched_at k past) ≡ 0 = ap (λ o. length (pids_of (option_map program_in o))) known in omega (arith, n)
  few-by (Some m) known =
      let l = unlisted k past h (listed (Some k.program) past) refl m known in
      let s = first-sound (cues_read_on (Some k.program) k.cue_pid) l.0.pid m (all_tables (Some k.program) past)
      (all_sound (cues_read_on (Some k.program) k.cue_pid) past l.0 h l.1) known in
      let few : length (switched_of (streams_of m)) ≤ 8 = not-below (length (switched_of (streams_of m))) s.few in
      let n : length (switched_at k past) ≡ length (switched_of (streams_of m))
      = ap (λ o. length (pids_of (option_map program_in o))) known ∙ length-map (switched_of (streams_of m)) (λ (s : ListedStream). s.pid) in
      omega (arith, n, few)

  pub separate : AreSeparate (switched_at k past)
  separate = record { few = few-by (known_map (Some k.program) past) refl; alone = λ pid a. (faultless_is_sound k past h).once pid a }

-- one packet more
pub clean-more : (c : Purpose) (p : List ℕ) (past : List (List ℕ)) → first_fault c past ≡ None → network_fault c p past ≡ None → first_fault c (p ∷ past) ≡ None
clean-more c p past h k = ap (λ o. option_or o (network_fault c p past)) h ∙ k

pub sound-unit : (c : Config) (filed : ℕ → Option Advertisement) (p : List ℕ) (past : List (List ℕ)) → network_fault (reading_cues c) p past ≡ None
    → unit_fault (switched_at (setting_of c filed) past) p (behind_at (setting_of c filed) past) ≡ None
sound-unit c filed p past h =
    let a = none_both (cue_fault (reading_cues c) p) _ h in
    let b = none_both (pats_fault_at (reading_cues c) p past) _ a.1 in
    let d = none_both (maps_fault_at (reading_cues c) p past) (unit_fault_at (reading_cues c) p past) b.1 in
    no_unit_fault (unit_fault (pids_of (program_of (Some c.program) past)) p (behind_at (setting_of c filed) past)) d.1

-- no packet behind the head has a fault
faultless : (c : Config) (filed : ℕ → Option Advertisement) (past : List (List ℕ)) → first_fault (reading_cues c) past ≡ None
    → AreFaultless (switched_at (setting_of c filed) past) (behind_at (setting_of c filed) past)
faultless c filed [] h = tt
faultless c filed (p ∷ past) h =
    let r = none_both (first_fault (reading_cues c) past) (network_fault (reading_cues c) p past) h in
    faultless-by c filed p past r.1 (known_map (Some c.program) past) refl (faultless c filed past r.0)
  where
    faultless-by : (c : Config) (filed : ℕ → Option Advertisement) (p : List ℕ) (past : List (List ℕ)) → network_fault (reading_cues c) p past ≡ None
        → (o : Option ProgramMap) → known_map (Some c.program) past ≡ o → AreFaultless (switched_at (setting_of c filed) past) (behind_at (setting_of c filed) past)
        → AreFaultless (switched_at (setting_of c filed) (p ∷ past)) (behind_at (setting_of c filed) (p ∷ past))
    faultless-by c filed p past sound None known before =
        subst (AreFaultless (switched_at (setting_of c filed) (p ∷ past))) (sym (ap (λ o. if is_some o then p ∷ behind_head (Some c.program) past else []) known)) tt
    faultless-by c filed p past sound (Some m) known before =
        let behind : behind_at (setting_of c filed) (p ∷ past) ≡ p ∷ behind_at (setting_of c filed) past = ap (λ o. if is_some o then p ∷ behind_head (Some c.program) past else []) known in
        let same : switched_at (setting_of c filed) (p ∷ past) ≡ switched_at (setting_of c filed) past
        = ap (λ o. pids_of (option_map program_in o)) (known_stays (Some c.program) p past m known ∙ sym known) in
        subst (λ sw. AreFaultless sw (behind_at (setting_of c filed) (p ∷ past))) (sym same)
        (subst (AreFaultless (switched_at (setting_of c filed) past)) (sym behind) (sound-unit c filed p past sound, before))

-- the network ends
pub ends-with : (c : Config) (filed : ℕ → Option Advertisement) (past : List (List ℕ)) (streams : List ListedStream) → first_fault (reading_cues c) past ≡ None
    → streams ≡ streams_at (setting_of c filed) past → EndsWith (setting_of c filed) filed streams past
ends-with c filed past streams good is =
    record { faultless = faultless c filed past good; separate = separate (setting_of c filed) past good; listed_is = is; adverts_are = refl; packed_is = refl }

-- ---- PIDs

apart-pid : (a b : ℕ) (p : List ℕ) → (a == b) ≡ false → on a p ≡ true → on b p ≡ false
apart-pid a b p n h = by_test (on b p)
    (λ y. absurd (let same : a ≡ b = sym (pid_is a p h) ∙ pid_is b p y in true≢false (sym (test-same b) ∙ ap (λ x. x == b) (sym same) ∙ n)))
    (λ z. z)

-- a packet of another PID than theirs
pub not-among : (x : ℕ) (p : List ℕ) (pids : List ℕ) → on x p ≡ true → is_among x pids ≡ false → on_one pids p ≡ false
not-among x p [] h a = refl
not-among x p (pid ∷ pids) h a =
    let r = or_parts (pid == x) (is_among x pids) a in
    or_from (on pid p) (on_one pids p) (apart-pid x pid p (test-turned pid x r.0) h) (not-among x p pids h r.1)

switched-one : (pids : List ℕ) (p : List ℕ) → on_one pids p ≡ one_of (λ pid. on pid p) pids
switched-one [] p = refl
switched-one (pid ∷ pids) p = ap (λ b. on pid p || b) (switched-one pids p)

pub none-first : (pids : List ℕ) (p : List ℕ) → first_on pids p ≡ None → on_one pids p ≡ false
none-first pids p h = switched-one pids p ∙ none_of (λ pid. on pid p) p (λ pid o. o) pids h

pub one-first : (pids : List ℕ) (p : List ℕ) (i pid : ℕ) → first_on pids p ≡ Some (i, pid) → on_one pids p ≡ true
one-first pids p i pid h = switched-one pids p ∙ first_of (λ pid. on pid p) p (λ pid o. o) pids (i, pid) h ∙ first_is_on pids p (i, pid) h

moved-there : (q : ℕ) (qs : List ℕ) (p : List ℕ) (x : ℕ × ℕ) (o : Option (ℕ × ℕ)) → first_on qs p ≡ o → option_map next_place o ≡ Some x
    → ((y : ℕ × ℕ) → first_on qs p ≡ Some y → slice_get qs y.0 ≡ Some y.1) → slice_get (q ∷ qs) x.0 ≡ Some x.1
moved-there q qs p x None e k later = absurd (let none : None ≡ Some x = k in cc)
moved-there q qs p x (Some y) e k later =
    let r = some_is (next_place y) x k in
    let next : suc y.0 ≡ x.0 = sym (add-one y.0) ∙ ap (λ (z : ℕ × ℕ). z.0) r in
    subst (λ n. slice_get (q ∷ qs) n ≡ Some x.1) next (later y e ∙ ap (λ (z : ℕ × ℕ). let o : Option ℕ = Some z.1 in o) r)

pub first-there : (pids : List ℕ) (p : List ℕ) (x : ℕ × ℕ) → first_on pids p ≡ Some x → slice_get pids x.0 ≡ Some x.1
first-there [] p x h = absurd (let none : None ≡ Some x = h in cc)
first-there (q ∷ qs) p x h = by_test (on q p)
    (λ y. let z : ℕ × ℕ = (0, q) in
    let e : Some z ≡ Some x = simp y at h in
    let r = some_is z x e in
    subst (λ n. slice_get (q ∷ qs) n ≡ Some x.1) (ap (λ (z : ℕ × ℕ). z.0) r) (ap (λ (z : ℕ × ℕ). let o : Option ℕ = Some z.1 in o) r))
    (λ n. moved-there q qs p x (first_on qs p) refl (simp n at h) (λ y e. first-there qs p y e))

-- ---- places

pub no-table : (o : Option Listed) (p : List ℕ) → on_map o p ≡ false → (l : Listed) → o ≡ Some l → on l.pid p ≡ false
no-table o p h l e = ap (λ o. on_map o p) (sym e) ∙ h

-- the PID of the cues is not that of the map
cue-not-map : (cue : ℕ) (c : Purpose) (o : Option Listed) (p : List ℕ) → c.cue_pid ≡ Some cue → pmt_pid_fault c o ≡ None → on cue p ≡ true → on_map o p ≡ false
cue-not-map cue c None p is good h = refl
cue-not-map cue c (Some l) p is good h =
    let r = none_both (if_bad ((l.pid == 0) || (l.pid == 8191)) BadPids) (if_bad (is_pid c.cue_pid l.pid) CuePidUsed) good in
    let n : (l.pid == cue) ≡ false = ap (λ o. is_pid o l.pid) (sym is) ∙ not_if_bad (is_pid c.cue_pid l.pid) CuePidUsed r.1 in
    apart-pid cue l.pid p (test-turned l.pid cue n) h

cue-off-map : (c : Config) (p : List ℕ) (past : List (List ℕ)) → first_fault (reading_cues c) past ≡ None → on c.cue_pid p ≡ true → on_map (listed (Some c.program) past) p ≡ false
cue-off-map c p past good h = cue-not-map c.cue_pid (reading_cues c) (listed (Some c.program) past) p refl (pid_good (reading_cues c) past good) h

-- nor the other way round
pub map-off-cue : (c : Config) (p : List ℕ) (past : List (List ℕ)) → first_fault (reading_cues c) past ≡ None → on_map (listed (Some c.program) past) p ≡ true → on c.cue_pid p ≡ false
map-off-cue c p past good h = by_test (on c.cue_pid p) (λ y. absurd (true≢false (sym h ∙ cue-off-map c p past good y))) (λ n. n)

pub cue-switched : (c : Config) (filed : ℕ → Option Advertisement) (p : List ℕ) (past : List (List ℕ)) → first_fault (reading_cues c) past ≡ None → on c.cue_pid p ≡ true
    → on_one (switched_at (setting_of c filed) past) p ≡ false
cue-switched c filed p past good h = not-among c.cue_pid p (switched_at (setting_of c filed) past) h (faultless_is_sound (setting_of c filed) past good).apart.cue

-- a packet of cues
pub cue-of : (c : Config) (filed : ℕ → Option Advertisement) (p : List ℕ) (past : List (List ℕ)) → first_fault (reading_cues c) past ≡ None → on c.cue_pid p ≡ true → IsCueOf (setting_of c filed) p past
cue-of c filed p past good h = record {
  cue = h;
  other = cue-switched c filed p past good h;
  separate = separate (setting_of c filed) past good;
  steady = libraries_are_steady filed (streams_at (setting_of c filed) past);
}

pub map-switched : (c : Config) (filed : ℕ → Option Advertisement) (p : List ℕ) (past : List (List ℕ)) (l : Listed) → first_fault (reading_cues c) past ≡ None → listed (Some c.program) past ≡ Some l
    → on l.pid p ≡ true → on_one (switched_at (setting_of c filed) past) p ≡ false
map-switched c filed p past l good e h = not-among l.pid p (switched_at (setting_of c filed) past) h ((faultless_is_sound (setting_of c filed) past good).apart.pmt l e)

-- ---- a packet of a stream

begins-one-is : (pids : List ℕ) (p : List ℕ) (past : List (List ℕ)) (i pid : ℕ) → first_on pids p ≡ Some (i, pid) → begins_one pids p past ≡ begins pid p past
begins-one-is pids p past i pid h = begins_is p past pids ∙ first_of (λ q. begins q p past) p (begins_needs p past) pids (i, pid) h

module _ (c : Config) (filed : ℕ → Option Advertisement) (p : List ℕ) (past : List (List ℕ)) (good : first_fault (reading_cues c) past ≡ None) (i : ℕ) where
  abbrev k : Setting
  k = setting_of c filed

  -- what the follower says of it, where it begins no unit
  pub quiet-one : IsStartPlace (places.Stream i NoStart) (reading_cues c) p past → begins_one (switched_at k past) p (behind_at k past) ≡ false
  quiet-one h = begins-one-is (switched_at k past) p (behind_at k past) i h.2.0 h.2.1.0 ∙ h.2.1.1

  pub packet-start : (begun : Option Begun) → IsStartPlace (places.Stream i (Start begun)) (reading_cues c) p past → IsPacketOf k i true p past
  packet-start begun h = record {
    pid = h.2.0;
    of = first-there (switched_at k past) p (i, h.2.0) h.2.1.0;
    separate = separate k past good;
    on_pid = first_is_on (switched_at k past) p (i, h.2.0) h.2.1.0;
    start = sym h.2.1.1.0;
    cue = h.0;
  }

  pub packet-quiet : IsStartPlace (places.Stream i NoStart) (reading_cues c) p past → IsPacketOf k i false p past
  packet-quiet h = record {
    pid = h.2.0;
    of = first-there (switched_at k past) p (i, h.2.0) h.2.1.0;
    separate = separate k past good;
    on_pid = first_is_on (switched_at k past) p (i, h.2.0) h.2.1.0;
    start = sym h.2.1.1;
    cue = h.0;
  }

-- the stamp of a unit that begins
pub stamp-told : (begun : Option Begun) (high : Option Rattle.std.specs.Prelude.ℤ) (s : Option ℕ) → Tells begun high s → s ≡ option_map (λ (b : Begun). b.pts) begun
stamp-told None high s h = h
stamp-told (Some b) high s h = h.0

as-many : (o : Option Program) → length (pids_of o) ≡ length (streams_of_program o)
as-many None = refl
as-many (Some r) = length-map r.streams (λ (s : ListedStream). s.pid)

module _ (c : Config) (filed : ℕ → Option Advertisement) (p : List ℕ) (past : List (List ℕ)) (i : ℕ) (x : StartPacket) (h : IsStartPlace (places.Stream i x) (reading_cues c) p past) where
  pub own-stream : on_one (switched_at (setting_of c filed) past) p ≡ true
  own-stream = one-first (switched_at (setting_of c filed) past) p i h.2.0 h.2.1.0

  listed-now : streams_at (setting_of c filed) (p ∷ past) ≡ streams_at (setting_of c filed) past
  listed-now = streams-stay (setting_of c filed) p past (behind-by (setting_of c filed) past i h.2.0 (first-there (switched_at (setting_of c filed) past) p (i, h.2.0) h.2.1.0))

  pub within-streams : (streams : List ListedStream) → streams ≡ streams_at (setting_of c filed) (p ∷ past) → i < length streams
  within-streams streams is =
      let w : i < length (switched_at (setting_of c filed) past) = first_within (switched_at (setting_of c filed) past) p (i, h.2.0) h.2.1.0 in
      let n = as-many (program_of (Some c.program) past) in
      let e : length streams ≡ length (streams_at (setting_of c filed) past) = ap length (is ∙ listed-now) in
      omega (arith, w, n, e)

-- a unit begins
pub begins-in : (c : Config) (filed : ℕ → Option Advertisement) (p : List ℕ) (past : List (List ℕ)) (i : ℕ) (begun : Option Begun) (time now : Option ℕ) (streams : List ListedStream)
    → first_fault (reading_cues c) past ≡ None → network_fault (reading_cues c) p past ≡ None → IsStartPlace (places.Stream i (Start begun)) (reading_cues c) p past
    → time ≡ option_map (λ (b : Begun). b.pts) begun → now ≡ option_map ring_of (high_at (setting_of c filed) (p ∷ past)) → streams ≡ streams_at (setting_of c filed) (p ∷ past)
    → BeginsIn (setting_of c filed) filed streams i time now p past
begins-in c filed p past i begun time now streams good sound h time-is now-is streams-is = record {
  pid = h.2.0;
  of = first-there (switched_at (setting_of c filed) past) p (i, h.2.0) h.2.1.0;
  begins_it = h.2.1.1.0;
  stamp_is = stamp-told begun (high (switched_at (setting_of c filed) past) (behind_at (setting_of c filed) past)) (stamp p) h.2.1.1.1 ∙ sym time-is;
  high_is = now-is;
  sound = sound-unit c filed p past sound;
  cue = h.0;
  separate = separate (setting_of c filed) past good;
  listed_is = streams-is ∙ listed-now c filed p past i (Start begun) h;
  adverts_are = refl;
  packed_is = refl;
}

-- a packet that passes as it is: one marked in error, or of no PID that the switch touches
pub record Passes (c : Config) (filed : ℕ → Option Advertisement) (p : List ℕ) (past : List (List ℕ)) : Type 0 where
  pub cue : on c.cue_pid p ≡ false
  pub map : on_map (listed (Some c.program) past) p ≡ false
  pub other : on_one (switched_at (setting_of c filed) past) p ≡ false

pub passes : (c : Config) (filed : ℕ → Option Advertisement) (p : List ℕ) (past : List (List ℕ)) → IsStartPlace places.Other (reading_cues c) p past → Passes c filed p past
passes c filed p past h = record { cue = h.0; map = h.1; other = none-first (switched_at (setting_of c filed) past) p h.2 }

-- the map's PID, where the packet is on it
pub record OnMap (o : Option Listed) (p : List ℕ) : Type 0 where
  pub listed_as : Listed
  pub is : o ≡ Some listed_as
  pub here : on listed_as.pid p ≡ true

pub on-map : (o : Option Listed) (p : List ℕ) → on_map o p ≡ true → OnMap o p
on-map None p h = absurd (true≢false (sym h))
on-map (Some l) p h = record { listed_as = l; is = refl; here = h }

-- A packet of a PID on which nothing of a service is: it is judged, no stretch begins with it, and it changes nothing of the service.
use Rattle.std.proofs.Common.{◌≡◌, ℕ, List, [], ◌∷◌, ◌++◌, length, Bool, true, false, not, ◌==◌, ◌&&◌, Option, None, Some, refl, sym, ap, subst, ◌∙◌, arith}
use Rattle.std.specs.Prelude.{if◌then◌else◌, option_map, option_to_list, slice_index_or}
use Rattle.std.proofs.lemmas.Bool.{or_parts, or_from, eqb-true, eqb-false}
use Rattle.ts_packet.specs.Fields.{pid_of, on, on_one, is_among}
use Rattle.wire_fields.specs.Numbers.{AreBytes}
use Rattle.program_follower.specs.declared.purpose.Purpose.{Purpose}
use Rattle.program_follower.specs.declared.purpose.Listed.{Listed}
use Rattle.program_follower.specs.Program.{listed, program_of, pids_of, known_pids}
use Rattle.program_follower.specs.Purposes.{writing_cues}
use Rattle.program_follower.specs.Faults.{network_fault, on_cue}
use Rattle.program_follower.specs.Following.{IsUnfollowed, StartsStandFor}
use Rattle.program_follower.proofs.ElsewhereLemmas.{off_other, listed_same, program_same}
use Rattle.program_follower.proofs.PidLemmas.{known_pids_same}
use Rattle.program_follower.proofs.UnfollowedLemmas.{unfollowed-elsewhere, unfollowed-off, clean-past, unfollowed-later, unfollowed-alike}
use Rattle.psi_tables.specs.declared.config.Config.{Config}
use Rattle.psi_tables.specs.declared.network.NetworkFault.{NetworkFault}
use Rattle.injector.specs.Steps.{Packet as PacketStep, packets_in}
use Rattle.injector.specs.Injecting.{InjectorStandsFor}
use Rattle.injector.proofs.PassedLemmas.{injector-past}
use Rattle.chain_engine.specs.Airing.{judged}
use Rattle.chain_engine.proofs.ChainedLemmas.{passes-on-air}
use Rattle.service_laws.specs.Services.{ServiceTerms}
use Rattle.on_air.specs.Stretches.{Entry, Judged, as_read, read_by, is_of, is_stream, stream_at, verdict_at, verdict_beside}
use Rattle.on_air.specs.Marking.{nothing, Keeps, KeepsOf, Becomes, BecomesOf}
use Rattle.on_air.specs.AirRuns.{newest, has_no}
use Rattle.on_air.specs.declared.marks.Marks.{Marks}
use Rattle.on_air.specs.declared.marks.StreamMarks.{StreamMarks}
use Rattle.on_air.specs.declared.marks.Verdict.TheVariants as verdicts
use Rattle.services_on_air.specs.Airing.{Airing, next_of, before_last, known_before, learns}
use Rattle.services_on_air.specs.Standing.{AirStandsFor, IsSettled, IsPassed}
use Rattle.services_on_air.specs.Histories.{Gone, HasGone, gone_on, begins_anew, aired_as}
use Rattle.services_on_air.specs.Outputs.{earlier_of}
use Rattle.services_on_air.specs.Owners.{IsBeside, IsBesideAhead, MayStay, IsLeftOut}
use Rattle.services_on_air.specs.declared.service.Passed.{Passed}
use Rattle.services_on_air.specs.declared.service.AirService.{AirService}
use Rattle.services_on_air.proofs.ServiceLemmas.{GoesOn, goes-on, goes-settled, stands-behind, is-itself, before-is, leaves-is, learns-is}
use Rattle.services_on_air.proofs.GoneLemmas.{not-anew, passed-so}
use Rattle.services_on_air.proofs.HistoryLemmas.{NextSo, next-so}
use Rattle.services_on_air.proofs.KeptLemmas.{kept-off}

-- ---- it says nothing of any stream

keeps-off : (s : StreamMarks) (c : Purpose) (k : ℕ) (e : Entry) (past : List Entry) → is_of c k e past ≡ false → KeepsOf s c k past → KeepsOf s c k (e ∷ past)
keeps-off s c k e past off h = record {
  damaged = simp off h.damaged;
  jumped = simp off h.jumped;
  repeats = λ q. simp off (h.repeats q);
}

is-judged : (m : Marks) (c : Purpose) (p : List ℕ) (past : List Entry) → Keeps m c past → stream_at c p past ≡ None → network_fault c p (as_read past) ≡ None → Becomes verdicts.Judged m c p past
is-judged m c p past h off sound =
    let e : Entry = record { packet = p; judgement = Judged } in
    let more : Keeps m c (e ∷ past) = record {
      streams = λ n. keeps-off (slice_index_or m.streams n nothing) c n e past (ap (is_stream n) off) (h.streams n);
      none = h.none;
    } in
    subst (λ o. BecomesOf verdicts.Judged (verdict_at c o p past) (λ j. Keeps m c (record { packet = p; judgement = j } ∷ past))) (sym off)
    (subst (λ f. BecomesOf verdicts.Judged (verdict_beside (c.writes_cues && on_cue c.cue_pid p) f) (λ j. Keeps m c (record { packet = p; judgement = j } ∷ past))) (sym sound) (refl, more))

-- ---- it is settled

module _ (s : AirService) (p : List ℕ) (a : Airing) (h : AirStandsFor s a) (b : IsBeside (pid_of p) a) where
  goes-by : GoesOn s.marks (writing_cues a.config) p a.stretches true
  goes-by =
      let c = writing_cues a.config in
      let read = as_read (newest a.stretches) in
      let off = ap (option_map (λ (x : ℕ × ℕ). x.0)) (unfollowed-off c p read b.unfollowed) in
      let follower = subst (StartsStandFor s.service.injector.follower c) h.followed.packets h.followed.injector.follower in
      let sound = clean-past c p read b.unfollowed s.service.injector.follower follower in
      goes-on verdicts.Judged s.marks c p a.stretches true b.begun (is-judged s.marks c p (newest a.stretches) h.marks off sound) refl never where
        never : (fault : NetworkFault) → verdicts.Judged ≡ verdicts.BeginsAnew fault → ⊥
        never fault is = absurd (cc)

  -- no stretch begins with it
  pub stays-same : begins_anew p a ≡ false
  stays-same = not-anew p a s true b.alone goes-by

  -- and the service stands for it as it is
  pub stays-settled : s.is_unjudged ≡ false → IsSettled s p (next_of p a)
  stays-settled judged = goes-settled s s p a true h (h.is_empty ∙ b.begun) (h.shares ∙ b.alone) refl refl refl refl judged goes-by

-- where none begins, what is beside a service is so ahead
pub beside-ahead : (p : List ℕ) (a : Airing) (pid : ℕ) → begins_anew p a ≡ false → IsBeside pid a → IsBesideAhead pid (next_of p a)
beside-ahead p a pid same b = by (next-so a.shares a.config p a.stretches) where
  by : NextSo a.stretches (next_of p a).stretches → IsBesideAhead pid (next_of p a)
  by n =
      let ss = a.stretches in
      let no : n.anew ≡ false = sym n.is ∙ same in
      let parts : (next_of p a).stretches ≡ (n.e ∷ newest ss) ∷ earlier_of ss = n.parts ∙ ap (λ d. if d then (n.e ∷ []) ∷ ss else (n.e ∷ newest ss) ∷ earlier_of ss) no in
      record {
        begun = ap has_no parts;
        alone = refl;
        unfollowed = subst (λ w. IsUnfollowed (Some a.config.program) (Some a.config.cue_pid) pid (as_read (before_last (newest w)))) (sym parts) b.unfollowed;
      }

pub left-out : (s : AirService) (p : List ℕ) (a : Airing) → AirStandsFor s a → MayStay s (pid_of p) a → IsLeftOut s (pid_of p) (next_of p a)
left-out s p a h m = record {
  judged = m.1;
  quiet = h.quiet;
  beside = beside-ahead p a (pid_of p) (stays-same s p a h m.0) m.0;
}

-- ---- it passes

-- a packet of a PID that is none of these is on none of them
none-one : (pids : List ℕ) (p : List ℕ) → is_among (pid_of p) pids ≡ false → on_one pids p ≡ false
none-one [] p h = refl
none-one (x ∷ pids) p h =
    let r = or_parts (x == pid_of p) (is_among (pid_of p) pids) h in
    or_from (on x p) (on_one pids p) (off_other x p (λ y. eqb-false x (pid_of p) r.0 (sym y))) (none-one pids p r.1)

-- and no PID more is known with it
knows-same : (c : Config) (p : List ℕ) (past : List (List ℕ)) → IsUnfollowed (Some c.program) (Some c.cue_pid) (pid_of p) past
    → known_pids (Some c.program) (p ∷ past) ≡ known_pids (Some c.program) past
knows-same c p past u =
    let e = unfollowed-elsewhere (writing_cues c) p past u in
    ap (λ o. option_to_list (option_map (λ (l : Listed). l.pid) o) ++ pids_of (program_of (Some c.program) (p ∷ past))) (listed_same (writing_cues c) p past e)
    ∙ ap (λ r. option_to_list (option_map (λ (l : Listed). l.pid) (listed (Some c.program) past)) ++ pids_of r) (program_same (writing_cues c) p past e)

same-count : (n m : ℕ) → n ≡ m → not (n == m) ≡ false
same-count n m e = ap not (ap (λ k. k == m) e ∙ by m) where
  by : (k : ℕ) → (k == k) ≡ true
  by k = grind arith

module _ (s : AirService) (p : List ℕ) (a : Airing) (h : IsSettled s p a) (l : IsLeftOut s (pid_of p) a) where
  -- the steps since its stretch began
  off-steps : IsUnfollowed (Some a.config.program) (Some a.config.cue_pid) (pid_of p) (packets_in h.followed.steps)
  off-steps = subst (IsUnfollowed (Some a.config.program) (Some a.config.cue_pid) (pid_of p)) (sym (before-is s p a h)) l.beside.unfollowed

  pub stays-behind : AirStandsFor s a
  stays-behind =
      let i = h.followed.injector in
      stands-behind s s p p a h (is-itself s p a h l.judged) refl refl refl refl refl (injector-past s.service.injector a.config p h.followed.steps i (sym i.news ∙ l.quiet) off-steps)

  pub stays-passed : (passed : Passed) → passed.is_own ≡ false → passed.is_unjudged ≡ false → passed.learns ≡ false → IsPassed passed p a
  stays-passed passed own unjudged more =
      let w = Some a.config.program in
      let before = packets_in h.followed.steps in
      let same = ap length (knows-same a.config p before off-steps ∙ ap (known_pids w) (before-is s p a h)) in
      let k = length (known_before a) in
      let n = length (known_pids w (p ∷ before)) in
      let now = ap (λ r. p ∷ r) h.followed.packets ∙ ap (λ q. q ∷ as_read h.past) (is-itself s p a h l.judged) ∙ sym (ap (λ ss. as_read (newest ss)) h.parts) in
      record {
        own = own ∙ sym (none-one (known_before a) p l.beside.unfollowed.known);
        unjudged = unjudged ∙ sym l.judged ∙ leaves-is s p a h;
        learns = more ∙ sym (same-count n k same) ∙ learns-is a k n (PacketStep p ∷ h.followed.steps) refl refl now;
      }

  -- so it has gone on
  pub stays-gone : (t : ServiceTerms) (g : Gone) → AreBytes p → HasGone s t g → HasGone s t (gone_on t (aired_as p s.is_unjudged) g)
  stays-gone t g bytes k =
      let j = s.service.injector in
      let steps = h.followed.steps in
      let is : a.config ≡ t.config = sym h.config ∙ k.airs.config in
      let here = subst (λ (d : Config). InjectorStandsFor j d steps) is h.followed.injector in
      let own = k.airs.injector in
      let w = Some t.config.program in
      let u = subst (λ (d : Config). IsUnfollowed (Some d.program) (Some d.cue_pid) (pid_of p) (packets_in steps)) is off-steps in
      let v = unfollowed-alike w (Some t.config.cue_pid) (pid_of p) (packets_in g.own) (packets_in steps) (sym own.follower.tables.pats.listed_is ∙ here.follower.tables.pats.listed_is)
      (sym own.follower.tables.maps.program ∙ here.follower.tables.maps.program) u in
      let by = passes-on-air s.service t.config t.filed p g.own g.fed k.airs bytes (sym own.news ∙ l.quiet) v in
      let off = none-one (known_pids w (packets_in g.own)) p v.known in
      let now = passed-so s t g (judged p) (λ qs. qs ≡ p ∷ []) by (kept-off s.tail (writing_cues t.config) p (packets_in g.own) off k.tail) k.counted k.lost in
      subst (λ b. HasGone s t (gone_on t (aired_as p b) g)) (sym l.judged) now.0

-- ---- behind any packet

not-false : (b : Bool) → not b ≡ false → b ≡ true
not-false true e = refl
not-false false e = absurd (cc)

-- as long as no PID more is known, what was beside it is so
later-by : (wanted cue_pid : Option ℕ) (pid : ℕ) (w : List Entry) → not (length (known_pids wanted (as_read w)) == length (known_pids wanted (as_read (before_last w)))) ≡ false
    → IsUnfollowed wanted cue_pid pid (as_read (before_last w)) → IsUnfollowed wanted cue_pid pid (as_read w)
later-by wanted cue_pid pid [] still u = u
later-by wanted cue_pid pid (e ∷ past) still u =
    let q = read_by e.judgement e.packet in
    let n = length (known_pids wanted (q ∷ as_read past)) in
    let k = length (known_pids wanted (as_read past)) in
    unfollowed-later wanted cue_pid pid q (as_read past) (known_pids_same wanted q (as_read past) (eqb-true n k (not-false (n == k) still))) u

pub beside-behind : (a : Airing) (pid : ℕ) → learns a ≡ false → IsBesideAhead pid a → IsBeside pid a
beside-behind a pid still b = record {
  begun = b.begun;
  alone = b.alone;
  unfollowed = later-by (Some a.config.program) (Some a.config.cue_pid) pid (newest a.stretches) still b.unfollowed;
}

-- A packet that goes out beside the switch, which reads it as one that is marked in error: where it is on the PID of a switched stream, and where not.
use Rattle.std.proofs.Common.{◌≡◌, ℕ, ◌+◌, ◌/◌, ◌%◌, List, [], ◌∷◌, slice_index, true, false, if◌then◌else◌, refl, sym, ap, subst, ◌∙◌, arith}
use Rattle.std.specs.Prelude.{Option, None, Some, option_map, slice_get}
use Rattle.std.proofs.lemmas.Bool.{true≢false}
use Rattle.std.proofs.lemmas.Option.{none-some, same_Some}
use mathlib.Core.Path.{fun_ext}
use Rattle.ts_packet.specs.Fields.{on, on_one, in_error, pid_of, marked, renumbered}
use Rattle.ts_packet.specs.Numbering.{moved}
use Rattle.ts_packet.proofs.FieldLemmas.{error-off, pid_is}
use Rattle.psi_tables.specs.declared.config.Config.{Config}
use Rattle.psi_tables.specs.ProgramMap.{ProgramMap}
use Rattle.program_follower.specs.declared.purpose.Listed.{Listed}
use Rattle.program_follower.specs.Purposes.{reading_cues}
use Rattle.program_follower.specs.Program.{listed, known_map, program_in, pids_of}
use Rattle.program_follower.specs.Faults.{first_fault}
use Rattle.program_follower.specs.Following.{on_map}
use Rattle.program_follower.specs.Streaming.{first_on, place_in}
use Rattle.program_follower.proofs.StreamLemmas.{first_is_on}
use Rattle.ad_library.specs.Advertisements.{Advertisement}
use Rattle.splice_plans.specs.Adverts.{setting_of}
use Rattle.splice_plans.specs.Counters.{PidSteps}
use Rattle.splice_plans.specs.Switching.{Setting, switched_at, streams_at}
use Rattle.splice_plans.specs.Stepping.{Journey, steps_kept, counted_next, puts_next, journey_next, journey_past, journey_kept, puts_beside, journey_beside}
use Rattle.splice_plans.proofs.AdvertLemmas.{libraries_are_steady}
use Rattle.known_laws.proofs.HeadLemmas.{same-switched}
use Rattle.known_laws.proofs.OtherLemmas.{next-same}
use Rattle.switch_laws.proofs.StandingLemmas.{error-none}
use Rattle.splice_playing.specs.Relations.{IsOnStream}
use Rattle.splice_switch.proofs.PremiseLemmas.{separate, first-there, one-first, none-first}
use Rattle.splice_switch.proofs.OutLemmas.{other-next}

-- ---- the packet as it is read

pub marked-error : (p : List ℕ) → in_error (marked p) ≡ true
unfolding marked in_error
marked-error p = let one : (slice_index p 1 % 128 + 128) / 128 % 2 ≡ 1 = omega arith in rw one refl

pub marked-off : (pid : ℕ) (p : List ℕ) → on pid (marked p) ≡ false
marked-off pid p = error-off pid (marked p) (marked-error p)

pub marked-none : (pids : List ℕ) (p : List ℕ) → on_one pids (marked p) ≡ false
marked-none pids p = error-none pids (marked p) (marked-error p)

marked-map : (o : Option Listed) (p : List ℕ) → on_map o (marked p) ≡ false
marked-map None p = refl
marked-map (Some l) p = marked-off l.pid p

module _ (c : Config) (filed : ℕ → Option Advertisement) (p : List ℕ) (x : Journey) where
  abbrev k : Setting
  k = setting_of c filed

  abbrev pids : List ℕ
  pids = switched_at k x.read

  -- it goes through as it is read
  pub marked-next : puts_next k x (marked p) ≡ marked p ∷ []
  marked-next = other-next k x (marked p) (marked-map (listed (Some c.program) x.read) p) (marked-off c.cue_pid p) (marked-none pids p)

  -- ---- on no switched stream

  module _ (none : None ≡ place_in pids p) where
    none-on : on_one pids p ≡ false
    none-on = by (first_on pids p) refl none
      where
        by : (o : Option (ℕ × ℕ)) → first_on pids p ≡ o → None ≡ option_map (λ (y : ℕ × ℕ). y.0) o → on_one pids p ≡ false
        by None e h = none-first pids p e
        by (Some y) e h = absurd (none-some y.0 h)

    pub through-is : journey_next k x (marked p) ≡ journey_beside k x p
    through-is = sym (ap (λ b. if b then record { read = marked p ∷ x.read; counted = steps_kept p x.counted; put = x.put } else journey_next k x (marked p)) none-on)

    pub through-puts : puts_beside k x p ≡ p
    through-puts = ap (λ b. if b then renumbered (moved (x.counted (pid_of p))) p else p) none-on

  -- ---- on the stream of this number

  module _ (n : ℕ) (some : Some n ≡ place_in pids p) where
    -- its PID
    found : (pid : ℕ) × (first_on pids p ≡ Some (n, pid))
    found = by (first_on pids p) refl some
      where
        by : (o : Option (ℕ × ℕ)) → first_on pids p ≡ o → Some n ≡ option_map (λ (y : ℕ × ℕ). y.0) o → (pid : ℕ) × (first_on pids p ≡ Some (n, pid))
        by None e h = absurd (none-some n (sym h))
        by (Some y) e h = (y.1, e ∙ ap (λ m. let o : Option (ℕ × ℕ) = Some (m, y.1) in o) (sym (same_Some n y.0 h)))

    abbrev pid : ℕ
    pid = found.0

    own : on_one pids p ≡ true
    own = one-first pids p n pid found.1

    there : slice_get pids n ≡ Some pid
    there = first-there pids p (n, pid) found.1

    here : on pid p ≡ true
    here = first_is_on pids p (n, pid) found.1

    module _ (good : first_fault (reading_cues c) x.read ≡ None) where
      stays-by : (o : Option ProgramMap) → known_map (Some c.program) x.read ≡ o → (switched_at k (marked p ∷ x.read) ≡ pids) × ((steps : PidSteps) → counted_next k steps (marked p) x.read ≡ steps)
      stays-by None e = absurd (true≢false (sym own ∙ ap (λ o. on_one (pids_of (option_map program_in o)) p) e))
      stays-by (Some m) e = (
        same-switched k (marked p) x.read m e,
        λ steps. fun_ext (λ q. next-same k (marked p) x.read (marked-none pids p) (libraries_are_steady filed (streams_at k x.read)) (separate k x.read good).few m e steps q (marked-off q p)),
      )

      stays : (switched_at k (marked p ∷ x.read) ≡ pids) × ((steps : PidSteps) → counted_next k steps (marked p) x.read ≡ steps)
      stays = stays-by (known_map (Some c.program) x.read) refl

      pub on-stream : first_fault (reading_cues c) (marked p ∷ x.read) ≡ None → IsOnStream k n p (marked p ∷ x.read)
      on-stream later = record {
        pid = pid;
        of = subst (λ sw. slice_get sw n ≡ Some pid) (sym stays.0) there;
        separate = separate k (marked p ∷ x.read) later;
        on_pid = here;
      }

      pub kept-is : journey_kept (journey_past k x (marked p)) p ≡ journey_beside k x p
      kept-is =
          ap (λ (s : PidSteps). let y : Journey = record { read = marked p ∷ x.read; counted = steps_kept p s; put = x.put } in y) (stays.1 x.counted)
          ∙ sym (ap (λ b. if b then record { read = marked p ∷ x.read; counted = steps_kept p x.counted; put = x.put } else journey_next k x (marked p)) own)

      -- whatever tells that it is on that stream
      pub kept-puts : (i : IsOnStream k n p (marked p ∷ x.read)) → renumbered (moved ((journey_past k x (marked p)).counted i.pid)) p ≡ puts_beside k x p
      kept-puts i =
          ap (λ (s : PidSteps). renumbered (moved (s i.pid)) p) (stays.1 x.counted)
          ∙ ap (λ q. renumbered (moved (x.counted q)) p) (sym (pid_is i.pid p i.on_pid))
          ∙ sym (ap (λ b. if b then renumbered (moved (x.counted (pid_of p))) p else p) own)

-- What is kept of the packets of a stretch, newest first, and what becomes of the next one.
use Rattle.std.specs.Prelude.{◌≡◌, ℕ, List, [], ◌∷◌, Bool, true, false, ◌||◌, ◌&&◌, nat_lt, None, Some, slice_index_or}
use Rattle.ts_packet.specs.Fields.{alike}
use Rattle.program_follower.specs.declared.purpose.Purpose.{Purpose}
use Rattle.program_follower.specs.Faults.{on_cue}
use Rattle.on_air.specs.Stretches.{Entry, Judgement, Judged, Passed, Damaged, Jumped, Verdict as Verdict', Is, BeginsNew, verdict, stream_at, start_at, in_damaged, jumped_last, last_payload, repeats_jumped}
use Rattle.on_air.specs.declared.marks.Verdict.{Verdict}
use Rattle.on_air.specs.declared.marks.Verdict.TheVariants as verdicts
use Rattle.on_air.specs.declared.marks.Standing.{Standing}
use Rattle.on_air.specs.declared.marks.Standing.TheVariants as standings
use Rattle.on_air.specs.declared.marks.StreamMarks.{StreamMarks}
use Rattle.on_air.specs.declared.marks.Marks.{Marks}

abbrev pub keeps_any : StreamMarks → Bool
keeps_any s = (s.is_damaged || s.has_jumped) || s.is_jump

-- of the switched stream of this number
pub record KeepsOf (s : StreamMarks) (c : Purpose) (n : ℕ) (past : List Entry) : Type 0 where
  pub damaged : s.is_damaged ≡ in_damaged c n past
  pub jumped : s.has_jumped ≡ jumped_last c n past
  pub repeats : (p : List ℕ) → (s.is_jump && alike s.jump p) ≡ repeats_jumped p (last_payload c n past)

abbrev pub nothing : StreamMarks
nothing = record { is_damaged = false; has_jumped = false; is_jump = false; jump = [] }

-- of each
pub record Keeps (m : Marks) (c : Purpose) (past : List Entry) : Type 0 where
  pub streams : (n : ℕ) → KeepsOf (slice_index_or m.streams n nothing) c n past
  pub none : m.has_any ≡ false → (n : ℕ) → keeps_any (slice_index_or m.streams n nothing) ≡ false

-- So a verdict is answered, and what is kept behind the packet is said by its judgement: where a stretch is to begin with it, as if it were left
-- unjudged.
abbrev pub BecomesOf : Verdict → Verdict' → (Judgement → Type 0) → Type 0
BecomesOf answer (Is Judged) keeps = (answer ≡ verdicts.Judged) × keeps Judged
BecomesOf answer (Is Passed) keeps = (answer ≡ verdicts.Unjudged) × keeps Passed
BecomesOf answer (Is Damaged) keeps = (answer ≡ verdicts.Unjudged) × keeps Damaged
BecomesOf answer (Is Jumped) keeps = (answer ≡ verdicts.Unjudged) × keeps Jumped
BecomesOf answer (BeginsNew fault) keeps = (answer ≡ verdicts.BeginsAnew fault) × keeps Passed

abbrev pub Becomes : Verdict → Marks → Purpose → List ℕ → List Entry → Type 0
Becomes answer m c p past = BecomesOf answer (verdict c p past) (λ j. Keeps m c (record { packet = p; judgement = j } ∷ past))

abbrev pub is_judged_by : Verdict → Bool
is_judged_by verdicts.Judged = true
is_judged_by verdicts.Unjudged = false
is_judged_by (verdicts.BeginsAnew fault) = false

-- THE PLACE of the next packet among those of its program: of a switched stream, with the unit that it would begin there; on the PID of the
-- cues that are written; or beside
abbrev pub StandsSo : Standing → Purpose → List ℕ → List Entry → Type 0
StandsSo (standings.Streamed stream start) c p past = (stream_at c p past ≡ Some stream) × (start ≡ start_at c p past)
StandsSo standings.Cued c p past = (stream_at c p past ≡ None) × ((c.writes_cues && on_cue c.cue_pid p) ≡ true)
StandsSo standings.Beside c p past = (stream_at c p past ≡ None) × ((c.writes_cues && on_cue c.cue_pid p) ≡ false)

-- a program has at most eight switched streams
abbrev pub is_in_place : Standing → Bool
is_in_place (standings.Streamed stream start) = nat_lt stream 8
is_in_place standings.Cued = true
is_in_place standings.Beside = true

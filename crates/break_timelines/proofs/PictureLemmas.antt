-- The unit and the picture that begin with a packet, by what the packet is to the follower.
use Rattle.std.proofs.Common.{◌≡◌, ℕ, ◌==◌, ◌||◌, Bool, true, false, cond, List, [], ◌∷◌, ◌++◌, length, refl, ap, sym, ◌∙◌}
use Rattle.std.specs.Prelude.{Option, None, Some}
use Rattle.unit_stream.specs.Times.{begins, stamp}
use Rattle.unit_stream.specs.declared.clock.Begun.{Begun}
use Rattle.pes_time.specs.Line.{place as line_place}
use Rattle.program_follower.specs.declared.starts.StartPacket.TheVariants.{Start, NoStart}
use Rattle.program_follower.specs.declared.start_follower.StartPlace.TheVariants as places
use Rattle.program_follower.specs.Program.{listed, Program, program_of, behind_head, pids_of}
use Rattle.program_follower.specs.Streaming.{first_on}
use Rattle.program_follower.specs.Following.{on_map, high_of, streams_of_program, IsStartPlace}
use Rattle.program_follower.proofs.FollowLemmas.{program_stays}
use Rattle.break_timelines.specs.declared.video.Video.{Video}
use Rattle.break_timelines.specs.declared.reader.Timed.{Timed}
use Rattle.break_timelines.specs.Line.{tick_of}
use Rattle.break_timelines.specs.Video.{video_from}
use Rattle.break_timelines.specs.Timelines.{planning, timed_with, timed_of, timed_at, has_place, begun_of, begun_at}

module _ (program : ℕ) (p : List ℕ) (past : List (List ℕ)) where
  -- off the map
  off : (x : Option (ℕ × ℕ)) → on_map (listed (Some program) past) p ≡ false → first_on (pids_of (program_of (Some program) past)) p ≡ x
      → timed_at program p past ≡ timed_of x p (behind_head (Some program) past) (high_of (Some program) past)
  off x map is = let t = map in let u = is in simp (t, u) refl

  pub of_map : on_map (listed (Some program) past) p ≡ true → None ≡ timed_at program p past
  of_map map = let t = map in simp t refl

  pub of_other : IsStartPlace places.Other (planning program) p past → None ≡ timed_at program p past
  of_other h = sym (off None h.1 h.2)

  pub of_cue : IsStartPlace places.Cue (planning program) p past → None ≡ timed_at program p past
  of_cue h = absurd (let no : false ≡ true = h.1 in cc)

  on_stream : (x : ℕ × ℕ) (b : Bool) (s : Option ℕ) → begins x.1 p (behind_head (Some program) past) ≡ b → stamp p ≡ s
      → cond b (timed_with x.0 (high_of (Some program) past) s) None ≡ timed_of (Some x) p (behind_head (Some program) past) (high_of (Some program) past)
  on_stream x b s is at = let t = is in let u = at in simp (t, u) refl

  pub of_no_start : (i : ℕ) → IsStartPlace (places.Stream i NoStart) (planning program) p past → None ≡ timed_at program p past
  of_no_start i h =
      let (pid, both) = h.2 in
      on_stream (i, pid) false (stamp p) both.1 refl ∙ sym (off (Some (i, pid)) h.1 both.0)

  pub of_untimed : (i : ℕ) → IsStartPlace (places.Stream i (Start None)) (planning program) p past → None ≡ timed_at program p past
  of_untimed i h =
      let (pid, both) = h.2 in
      on_stream (i, pid) true None both.1.0 both.1.1 ∙ sym (off (Some (i, pid)) h.1 both.0)

  pub of_start : (i : ℕ) (begun : Begun) (time : ℕ) → IsStartPlace (places.Stream i (Start (Some begun))) (planning program) p past
      → time ≡ tick_of (line_place (high_of (Some program) past) begun.pts) → Some (record { index = i; time = time }) ≡ timed_at program p past
  of_start i begun time h is =
      let (pid, both) = h.2 in
      ap (λ t. Some (record { index = i; time = t })) is
      ∙ on_stream (i, pid) true (Some begun.pts) both.1.0 both.1.1.0 ∙ sym (off (Some (i, pid)) h.1 both.0)

-- ---- the video

same_by : (program : ℕ) (p : List ℕ) (past : List (List ℕ)) (x : Option (ℕ × ℕ)) (y : Timed) (r : Option Program) → program_of (Some program) past ≡ r
    → first_on (pids_of r) p ≡ x → Some y ≡ timed_of x p (behind_head (Some program) past) (high_of (Some program) past)
    → program_of (Some program) (p ∷ past) ≡ r
same_by program p past None y None is on some = absurd (let no : Some y ≡ None = some in cc)
same_by program p past (Some x) y None is on some = absurd (let no : None ≡ Some x = on in cc)
same_by program p past x y (Some r) is on some = program_stays (Some program) p past r is

-- where a unit begins the program is known, and so is the video
pub same_video : (program : ℕ) (p : List ℕ) (past : List (List ℕ)) (y : Timed) → Some y ≡ timed_at program p past
    → video_from 0 (streams_of_program (program_of (Some program) (p ∷ past))) ≡ video_from 0 (streams_of_program (program_of (Some program) past))
same_video program p past y some = ap (λ r. video_from 0 (streams_of_program r)) (by (on_map (listed (Some program) past) p) some)
  where
    by : (b : Bool) → Some y ≡ cond b None (timed_of (first_on (pids_of (program_of (Some program) past)) p) p (behind_head (Some program) past) (high_of (Some program) past))
        → program_of (Some program) (p ∷ past) ≡ program_of (Some program) past
    by true e = absurd (let no : Some y ≡ None = e in cc)
    by false e = same_by program p past (first_on (pids_of (program_of (Some program) past)) p) y (program_of (Some program) past) refl refl e

none_begun : (v : Option Video) (p : List ℕ) (before : ℕ) → begun_of v None p before ≡ None
none_begun None p before = refl
none_begun (Some v) p before = refl

-- the picture, by the video that is known behind the packet
pub begun_is : (program : ℕ) (p : List ℕ) (past : List (List ℕ)) (x : Option Timed) (v : Option Video) (before : ℕ) → x ≡ timed_at program p past
    → v ≡ video_from 0 (streams_of_program (program_of (Some program) (p ∷ past))) → before ≡ length past → begun_of v x p before ≡ begun_at program p past
begun_is program p past None v before timed is count =
    none_begun v p before ∙ sym (none_begun (video_from 0 (streams_of_program (program_of (Some program) past))) p (length past))
    ∙ ap (λ t. begun_of (video_from 0 (streams_of_program (program_of (Some program) past))) t p (length past)) timed
begun_is program p past (Some x) v before timed is count =
    ap (λ w. begun_of w (Some x) p before) (is ∙ same_video program p past x timed)
    ∙ ap (λ n. begun_of (video_from 0 (streams_of_program (program_of (Some program) past))) (Some x) p n) count
    ∙ ap (λ t. begun_of (video_from 0 (streams_of_program (program_of (Some program) past))) t p (length past)) timed

-- ---- the streams that have begun

or_swap : (a b c : Bool) → a || (b || c) ≡ b || (a || c)
or_swap true true c = refl
or_swap true false c = refl
or_swap false b c = refl

pub has_more : (place i : ℕ) (xs : List ℕ) → has_place place (xs ++ i ∷ []) ≡ (i == place) || has_place place xs
has_more place i [] = refl
has_more place i (x ∷ xs) = ap (λ b. (x == place) || b) (has_more place i xs) ∙ or_swap (x == place) (i == place) (has_place place xs)
